use Rattle.sql_limits.proofs.QueryParts as query_parts
use Rattle.sql_limits.proofs.laws.a_query_has_the_parts_of_its_tree.Goals as goal

pub returns : goal.returns
returns c = query_parts.query_parts
