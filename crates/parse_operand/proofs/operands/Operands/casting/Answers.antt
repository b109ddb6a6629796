use Rattle.std.proofs.Common.{arith}
use Rattle.parse_operand.proofs.Straight.{casting_is}
use Rattle.parse_operand.proofs.operands.Operands.casting.Goals as goal

pub returns-in_err-expect : goal.returns-in_err-expect
returns-in_err-expect g c = grind (arith, casting_is)

pub returns-in_err-operand : goal.returns-in_err-operand
returns-in_err-operand g c = grind (arith, casting_is)

pub returns : goal.returns
returns g c = grind (arith, casting_is)
