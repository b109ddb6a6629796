use Rattle.std.proofs.Common.{arith}
use Rattle.parse_stmt.proofs.Words.{objects}
use Rattle.parse_stmt.proofs.removals.object_word.Goals as goal

pub returns-in_err-expect : goal.returns-in_err-expect
returns-in_err-expect c = grind (arith, objects)

pub returns-then-sees : goal.returns-then-sees
returns-then-sees c = grind (arith, objects)

pub returns-in_err-expect-2 : goal.returns-in_err-expect-2
returns-in_err-expect-2 c = grind (arith, objects)

pub returns-then-sees-2 : goal.returns-then-sees-2
returns-then-sees-2 c = grind (arith, objects)

pub returns-in_err-expect-3 : goal.returns-in_err-expect-3
returns-in_err-expect-3 c = grind (arith, objects)

pub returns-then-sees-3 : goal.returns-then-sees-3
returns-then-sees-3 c = grind (arith, objects)

pub returns-in_err-expect-4 : goal.returns-in_err-expect-4
returns-in_err-expect-4 c = grind (arith, objects)

pub returns : goal.returns
returns c = grind (arith, objects)
