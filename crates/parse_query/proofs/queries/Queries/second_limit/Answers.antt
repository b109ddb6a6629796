use Rattle.std.proofs.Common.{arith}
use Rattle.parse_query.proofs.OrderingSteps.{second_limits}
use Rattle.parse_query.proofs.queries.Queries.second_limit.Goals as goal

pub returns-then-not-sees_any : goal.returns-then-not-sees_any
returns-then-not-sees_any g c = grind (arith, second_limits)

pub returns-in_err-word : goal.returns-in_err-word
returns-in_err-word g c = grind (arith, second_limits)

pub returns-in-Err : goal.returns-in-Err
returns-in-Err g c = grind (arith, second_limits)

pub returns-in-Ok : goal.returns-in-Ok
returns-in-Ok g c = grind (arith, second_limits)
