use Rattle.std.proofs.Common.{arith}
use Rattle.parse_create.proofs.Triggered.{rows}
use Rattle.parse_create.proofs.triggers.for_each_row.Goals as goal

pub returns-then-not-sees : goal.returns-then-not-sees
returns-then-not-sees c = grind (arith, rows)

pub returns-in_err-expect : goal.returns-in_err-expect
returns-in_err-expect c = grind (arith, rows)

pub returns-in_err-expect-2 : goal.returns-in_err-expect-2
returns-in_err-expect-2 c = grind (arith, rows)

pub returns-in_err-expect-3 : goal.returns-in_err-expect-3
returns-in_err-expect-3 c = grind (arith, rows)

pub returns : goal.returns
returns c = grind (arith, rows)
