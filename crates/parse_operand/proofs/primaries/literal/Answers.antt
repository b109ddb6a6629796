use Rattle.std.proofs.Common.{arith}
use Rattle.parse_operand.proofs.Straight.{literal_is}
use Rattle.parse_operand.proofs.primaries.literal.Goals as goal

pub returns-in_err-token : goal.returns-in_err-token
returns-in_err-token c = grind (arith, literal_is)

pub returns : goal.returns
returns c = grind (arith, literal_is)
