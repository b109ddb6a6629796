use Rattle.std.proofs.Common.{arith}
use Rattle.parse_query.proofs.OrderingSteps.{first_or_lasts}
use Rattle.parse_query.proofs.ordering.first_or_last.Goals as goal

pub returns-in_err-expect : goal.returns-in_err-expect
returns-in_err-expect c = grind (arith, first_or_lasts)

pub returns-then-sees : goal.returns-then-sees
returns-then-sees c = grind (arith, first_or_lasts)

pub returns-in_err-expect-2 : goal.returns-in_err-expect-2
returns-in_err-expect-2 c = grind (arith, first_or_lasts)

pub returns : goal.returns
returns c = grind (arith, first_or_lasts)
