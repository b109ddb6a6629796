use Rattle.std.proofs.Common.{arith}
use Rattle.parse_operand.proofs.Straight.{parameter_is}
use Rattle.parse_operand.proofs.primaries.parameter.Goals as goal

pub returns-in_err-token : goal.returns-in_err-token
returns-in_err-token c = grind (arith, parameter_is)

pub returns : goal.returns
returns c = grind (arith, parameter_is)
