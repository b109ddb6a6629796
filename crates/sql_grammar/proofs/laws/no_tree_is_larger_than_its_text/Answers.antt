use Rattle.sql_grammar.proofs.SizeLaws as sizes
use Rattle.sql_grammar.proofs.laws.no_tree_is_larger_than_its_text.Goals as goal

pub returns-clause-expression : goal.returns-clause-expression
returns-clause-expression c = sizes.expression_within

pub returns-clause-statement : goal.returns-clause-statement
returns-clause-statement c = sizes.statement_within
