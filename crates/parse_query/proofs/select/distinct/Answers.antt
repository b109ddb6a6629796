use Rattle.std.proofs.Common.{arith}
use Rattle.parse_query.proofs.Selecting.{distincts}
use Rattle.parse_query.proofs.select.distinct.Goals as goal

pub returns-in_err-expect : goal.returns-in_err-expect
returns-in_err-expect c = grind (arith, distincts)

pub returns-then-sees : goal.returns-then-sees
returns-then-sees c = grind (arith, distincts)

pub returns-in_err-expect-2 : goal.returns-in_err-expect-2
returns-in_err-expect-2 c = grind (arith, distincts)

pub returns-then-sees-2 : goal.returns-then-sees-2
returns-then-sees-2 c = grind (arith, distincts)

pub returns : goal.returns
returns c = grind (arith, distincts)
