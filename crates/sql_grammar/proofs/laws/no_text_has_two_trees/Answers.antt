use Rattle.sql_grammar.proofs.ExpressionLaws as expressions
use Rattle.sql_grammar.proofs.StatementLaws as statements
use Rattle.sql_grammar.proofs.laws.no_text_has_two_trees.Goals as goal

pub returns-clause-expression : goal.returns-clause-expression
returns-clause-expression c = expressions.one_expression

pub returns-clause-statement : goal.returns-clause-statement
returns-clause-statement c = statements.one_statement
