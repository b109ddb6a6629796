use Rattle.std.proofs.Common.{arith}
use Rattle.parse_query.proofs.Selecting.{values_steps}
use Rattle.parse_query.proofs.queries.Queries.values.Goals as goal

pub returns-in_err-expect : goal.returns-in_err-expect
returns-in_err-expect g c = grind (arith, values_steps)

pub returns : goal.returns
returns g c = grind (arith, values_steps)
