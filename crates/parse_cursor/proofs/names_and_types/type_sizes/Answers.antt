use Rattle.std.proofs.Common.{arith}
use Rattle.parse_cursor.proofs.Types.{type_sizes_steps}
use Rattle.parse_cursor.proofs.names_and_types.type_sizes.Goals as goal

pub returns-then-not-sees : goal.returns-then-not-sees
returns-then-not-sees c = grind (arith, type_sizes_steps)

pub returns-in_err-open : goal.returns-in_err-open
returns-in_err-open c = grind (arith, type_sizes_steps)

pub returns-in_err-sizes : goal.returns-in_err-sizes
returns-in_err-sizes c = grind (arith, type_sizes_steps)

pub returns-in_err-expect : goal.returns-in_err-expect
returns-in_err-expect c = grind (arith, type_sizes_steps)

pub returns : goal.returns
returns c = grind (arith, type_sizes_steps)
