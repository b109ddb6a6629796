use Rattle.std.proofs.Common.{arith}
use Rattle.parse_operand.proofs.Inside.{arm_is}
use Rattle.parse_operand.proofs.cases.OperandsElementArm.read.Goals as goal

pub returns-in_err-condition : goal.returns-in_err-condition
returns-in_err-condition g c = grind (arith, arm_is)

pub returns-in_err-value : goal.returns-in_err-value
returns-in_err-value g c = grind (arith, arm_is)

pub returns : goal.returns
returns g c = grind (arith, arm_is)
