use Rattle.std.proofs.Common.{arith}
use Rattle.parse_operand.proofs.Lists.{arms_steps}
use Rattle.parse_operand.proofs.operands.Operands.arms.Goals as goal

pub returns : goal.returns
returns g c = grind (arith, arms_steps)
