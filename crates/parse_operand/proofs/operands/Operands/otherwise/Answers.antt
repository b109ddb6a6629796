use Rattle.std.proofs.Common.{arith}
use Rattle.parse_operand.proofs.Inside.{otherwise_steps}
use Rattle.parse_operand.proofs.operands.Operands.otherwise.Goals as goal

pub returns-in_err-behind : goal.returns-in_err-behind
returns-in_err-behind g c = grind (arith, otherwise_steps)

pub returns-in_ok-behind : goal.returns-in_ok-behind
returns-in_ok-behind g c = grind (arith, otherwise_steps)

pub returns-else-sees : goal.returns-else-sees
returns-else-sees g c = grind (arith, otherwise_steps)

pub behind-requires : goal.behind-requires
behind-requires g c = record { exprs = c.requires.exprs; «open» = c.requires.«open» }
