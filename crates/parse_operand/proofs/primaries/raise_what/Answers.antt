use Rattle.std.proofs.Common.{arith}
use Rattle.parse_operand.proofs.Straight.{raise_whats}
use Rattle.parse_operand.proofs.primaries.raise_what.Goals as goal

pub returns-in_err-expect : goal.returns-in_err-expect
returns-in_err-expect c = grind (arith, raise_whats)

pub returns-then-sees : goal.returns-then-sees
returns-then-sees c = grind (arith, raise_whats)

pub returns-in_err-expect-2 : goal.returns-in_err-expect-2
returns-in_err-expect-2 c = grind (arith, raise_whats)

pub returns-in_err-expect-3 : goal.returns-in_err-expect-3
returns-in_err-expect-3 c = grind (arith, raise_whats)

pub returns-in_err-why : goal.returns-in_err-why
returns-in_err-why c = grind (arith, raise_whats)

pub returns : goal.returns
returns c = grind (arith, raise_whats)
