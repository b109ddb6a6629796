use Rattle.std.proofs.Common.{arith}
use Rattle.parse_stmt.proofs.Words.{values}
use Rattle.parse_stmt.proofs.pragmas.pragma_value.Goals as goal

pub returns-in_err-expect : goal.returns-in_err-expect
returns-in_err-expect c = grind (arith, values)

pub returns-then-sees : goal.returns-then-sees
returns-then-sees c = grind (arith, values)

pub returns : goal.returns
returns c = grind (arith, values)
