use Rattle.std.proofs.Common.{arith}
use Rattle.parse_query.proofs.Tables.{as_query_is}
use Rattle.parse_query.proofs.queries.Queries.as_query.Goals as goal

pub returns-in_err-expect : goal.returns-in_err-expect
returns-in_err-expect g c = grind (arith, as_query_is)

pub returns : goal.returns
returns g c = grind (arith, as_query_is)
