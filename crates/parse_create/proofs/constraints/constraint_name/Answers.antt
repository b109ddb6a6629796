use Rattle.std.proofs.Common.{arith}
use Rattle.parse_create.proofs.Constrained.{constraint_names}
use Rattle.parse_create.proofs.constraints.constraint_name.Goals as goal

pub returns-in_err-expect : goal.returns-in_err-expect
returns-in_err-expect c = grind (arith, constraint_names)

pub returns-in_err-name : goal.returns-in_err-name
returns-in_err-name c = grind (arith, constraint_names)

pub returns-in_ok-name : goal.returns-in_ok-name
returns-in_ok-name c = grind (arith, constraint_names)

pub returns-else-sees : goal.returns-else-sees
returns-else-sees c = grind (arith, constraint_names)
