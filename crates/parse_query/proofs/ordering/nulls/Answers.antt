use Rattle.std.proofs.Common.{arith}
use Rattle.parse_query.proofs.OrderingSteps.{nulls_steps}
use Rattle.parse_query.proofs.ordering.nulls.Goals as goal

pub returns-then-not-sees : goal.returns-then-not-sees
returns-then-not-sees c = grind (arith, nulls_steps)

pub returns-in_err-expect : goal.returns-in_err-expect
returns-in_err-expect c = grind (arith, nulls_steps)

pub returns-in_err-first_or_last : goal.returns-in_err-first_or_last
returns-in_err-first_or_last c = grind (arith, nulls_steps)

pub returns : goal.returns
returns c = grind (arith, nulls_steps)
