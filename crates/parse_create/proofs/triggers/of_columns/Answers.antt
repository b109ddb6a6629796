use Rattle.std.proofs.Common.{arith}
use Rattle.parse_create.proofs.Triggered.{columns}
use Rattle.parse_create.proofs.triggers.of_columns.Goals as goal

pub returns-then-not-sees : goal.returns-then-not-sees
returns-then-not-sees c = grind (arith, columns)

pub returns-in_err-expect : goal.returns-in_err-expect
returns-in_err-expect c = grind (arith, columns)

pub returns : goal.returns
returns c = grind (arith, columns)
