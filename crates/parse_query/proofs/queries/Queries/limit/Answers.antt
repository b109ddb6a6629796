use Rattle.std.proofs.Common.{arith}
use Rattle.parse_query.proofs.OrderingSteps.{limits}
use Rattle.parse_query.proofs.queries.Queries.limit.Goals as goal

pub returns-then-not-sees : goal.returns-then-not-sees
returns-then-not-sees g c = grind (arith, limits)

pub returns-in_err-expect : goal.returns-in_err-expect
returns-in_err-expect g c = grind (arith, limits)

pub returns-in-Err : goal.returns-in-Err
returns-in-Err g c = grind (arith, limits)

pub returns-in-Ok : goal.returns-in-Ok
returns-in-Ok g c = grind (arith, limits)
