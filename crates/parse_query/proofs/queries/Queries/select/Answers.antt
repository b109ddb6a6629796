use Rattle.std.proofs.Common.{arith}
use Rattle.parse_query.proofs.Selecting.{select_is}
use Rattle.parse_query.proofs.queries.Queries.select.Goals as goal

pub returns-in_err-expect : goal.returns-in_err-expect
returns-in_err-expect g c = grind (arith, select_is)

pub returns : goal.returns
returns g c = grind (arith, select_is)
