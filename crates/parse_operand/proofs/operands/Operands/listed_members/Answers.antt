use Rattle.std.proofs.Common.{arith}
use Rattle.parse_operand.proofs.Inside.{listed_steps}
use Rattle.parse_operand.proofs.operands.Operands.listed_members.Goals as goal

pub returns-then-sees_expr : goal.returns-then-sees_expr
returns-then-sees_expr g c = grind (arith, listed_steps)

pub returns-else-sees_expr : goal.returns-else-sees_expr
returns-else-sees_expr g c = grind (arith, listed_steps)

pub exprs-requires : goal.exprs-requires
exprs-requires g c = record { exprs = c.requires.exprs; «open» = c.requires.«open» }
