use Rattle.std.proofs.Common.{arith}
use Rattle.parse_operand.proofs.Straight.{call_is}
use Rattle.parse_operand.proofs.operands.Operands.call.Goals as goal

pub returns-in_err-how : goal.returns-in_err-how
returns-in_err-how g c = grind (arith, call_is)

pub returns-in_err-filter : goal.returns-in_err-filter
returns-in_err-filter g c = grind (arith, call_is)

pub returns : goal.returns
returns g c = grind (arith, call_is)
