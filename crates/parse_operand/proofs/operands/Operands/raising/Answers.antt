use Rattle.std.proofs.Common.{arith}
use Rattle.parse_operand.proofs.Wrapped.{raising_steps}
use Rattle.parse_operand.proofs.operands.Operands.raising.Goals as goal

pub returns-in_err-expect : goal.returns-in_err-expect
returns-in_err-expect g c = grind (arith, raising_steps)

pub returns-in_err-open : goal.returns-in_err-open
returns-in_err-open g c = grind (arith, raising_steps)

pub returns-in_err-found : goal.returns-in_err-found
returns-in_err-found g c = grind (arith, raising_steps)

pub returns : goal.returns
returns g c = grind (arith, raising_steps)
