use Rattle.std.proofs.Common.{arith}
use Rattle.parse_operand.proofs.Straight.{behind_is}
use Rattle.parse_operand.proofs.operands.Operands.behind.Goals as goal

pub returns-in_err-expect : goal.returns-in_err-expect
returns-in_err-expect g c = grind (arith, behind_is)

pub returns : goal.returns
returns g c = grind (arith, behind_is)

pub inner-requires : goal.inner-requires
inner-requires g c = record { exprs = c.requires.exprs; «open» = c.requires.«open» }
