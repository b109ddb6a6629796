use Rattle.std.proofs.Common.{arith}
use Rattle.parse_create.proofs.Indexed.{directions}
use Rattle.parse_create.proofs.indexes.direction.Goals as goal

pub returns-in_err-expect : goal.returns-in_err-expect
returns-in_err-expect c = grind (arith, directions)

pub returns-then-sees : goal.returns-then-sees
returns-then-sees c = grind (arith, directions)

pub returns-in_err-expect-2 : goal.returns-in_err-expect-2
returns-in_err-expect-2 c = grind (arith, directions)

pub returns-in_ok-expect-2 : goal.returns-in_ok-expect-2
returns-in_ok-expect-2 c = grind (arith, directions)

pub returns-else-sees-2 : goal.returns-else-sees-2
returns-else-sees-2 c = grind (arith, directions)
