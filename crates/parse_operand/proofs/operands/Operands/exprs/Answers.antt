use Rattle.std.proofs.Common.{arith}
use Rattle.parse_operand.proofs.Lists.{exprs_steps}
use Rattle.parse_operand.proofs.operands.Operands.exprs.Goals as goal

pub returns : goal.returns
returns g c = grind (arith, exprs_steps)
