use Rattle.std.proofs.Common.{arith}
use Rattle.parse_create.proofs.Pieces.{given_arguments}
use Rattle.parse_create.proofs.modules.some_arguments.Goals as goal

pub returns-then-sees : goal.returns-then-sees
returns-then-sees c = grind (arith, given_arguments)

pub returns-else-sees : goal.returns-else-sees
returns-else-sees c = grind (arith, given_arguments)
