use Rattle.std.proofs.Common.{arith}
use Rattle.parse_query.proofs.Tables.{query_is}
use Rattle.parse_query.proofs.queries.Queries.query.Goals as goal

pub returns-in-Err : goal.returns-in-Err
returns-in-Err g c = grind (arith, query_is)

pub returns-in-Err-parts : goal.returns-in-Err-parts
returns-in-Err-parts g c = grind (arith, query_is)

pub returns-in-Err-ordering_behind : goal.returns-in-Err-ordering_behind
returns-in-Err-ordering_behind g c = grind (arith, query_is)

pub returns : goal.returns
returns g c = grind (arith, query_is)
