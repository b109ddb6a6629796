use Rattle.sql_limits.proofs.Nests as nests
use Rattle.sql_limits.proofs.OneWay as one_way
use Rattle.sql_limits.proofs.Outermost as outermost
use Rattle.sql_limits.proofs.laws.derived_tokens_are_nested.Goals as goal

pub returns-clause-expression : goal.returns-clause-expression
returns-clause-expression c = nests.expression_nested

pub returns-clause-statement : goal.returns-clause-statement
returns-clause-statement c = outermost.statement_parts

pub returns-clause-one_way : goal.returns-clause-one_way
returns-clause-one_way c = one_way.one_way
