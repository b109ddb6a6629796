use Rattle.std.proofs.Common.{arith}
use Rattle.parse_operand.proofs.Bracketed.{choosing_is}
use Rattle.parse_operand.proofs.operands.Operands.choosing.Goals as goal

pub returns-in_err-open : goal.returns-in_err-open
returns-in_err-open g c = grind (arith, choosing_is)

pub returns-in_err-found : goal.returns-in_err-found
returns-in_err-found g c = grind (arith, choosing_is)

pub returns : goal.returns
returns g c = grind (arith, choosing_is)

pub case-requires : goal.case-requires
case-requires g c = record { exprs = c.requires.exprs; «open» = c.in_ok-open.ensures.«open» }
