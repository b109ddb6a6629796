use Rattle.std.proofs.Common.{arith}
use Rattle.parse_stmt.proofs.Words.{existences}
use Rattle.parse_stmt.proofs.removals.if_exists.Goals as goal

pub returns-then-not-sees : goal.returns-then-not-sees
returns-then-not-sees c = grind (arith, existences)

pub returns-in_err-expect : goal.returns-in_err-expect
returns-in_err-expect c = grind (arith, existences)

pub returns-in_err-expect-2 : goal.returns-in_err-expect-2
returns-in_err-expect-2 c = grind (arith, existences)

pub returns : goal.returns
returns c = grind (arith, existences)
