use Rattle.std.proofs.Common.{arith}
use Rattle.parse_operand.proofs.Straight.{named_is}
use Rattle.parse_operand.proofs.operands.Operands.named.Goals as goal

pub returns-in_err-word : goal.returns-in_err-word
returns-in_err-word g c = grind (arith, named_is)

pub returns : goal.returns
returns g c = grind (arith, named_is)
