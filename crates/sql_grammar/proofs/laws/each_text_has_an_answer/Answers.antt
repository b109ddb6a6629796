use Rattle.sql_grammar.proofs.ExpressionLaws as expressions
use Rattle.sql_grammar.proofs.StatementLaws as statements
use Rattle.sql_grammar.proofs.laws.each_text_has_an_answer.Goals as goal

pub returns-clause-expression : goal.returns-clause-expression
returns-clause-expression c = expressions.an_answer

pub returns-clause-statement : goal.returns-clause-statement
returns-clause-statement c = statements.an_answer
