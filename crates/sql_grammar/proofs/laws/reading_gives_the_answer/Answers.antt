use Rattle.sql_grammar.proofs.ExpressionLaws as expressions
use Rattle.sql_grammar.proofs.StatementLaws as statements
use Rattle.sql_grammar.proofs.laws.reading_gives_the_answer.Goals as goal

pub returns-clause-expression : goal.returns-clause-expression
returns-clause-expression c = expressions.read_as_answered

pub returns-clause-statement : goal.returns-clause-statement
returns-clause-statement c = statements.read_as_answered
