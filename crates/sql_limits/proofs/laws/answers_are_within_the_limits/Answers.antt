use Rattle.sql_limits.proofs.Lawful as laws
use Rattle.sql_limits.proofs.laws.answers_are_within_the_limits.Goals as goal

pub returns-clause-expression : goal.returns-clause-expression
returns-clause-expression c = laws.expression_answers

pub returns-clause-statement : goal.returns-clause-statement
returns-clause-statement c = laws.statement_answers
