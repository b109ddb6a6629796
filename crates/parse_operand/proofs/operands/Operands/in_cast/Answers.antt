use Rattle.std.proofs.Common.{arith}
use Rattle.parse_operand.proofs.Bracketed.{in_cast_is}
use Rattle.parse_operand.proofs.operands.Operands.in_cast.Goals as goal

pub returns-in_err-open : goal.returns-in_err-open
returns-in_err-open g c = grind (arith, in_cast_is)

pub returns-in_err-parts : goal.returns-in_err-parts
returns-in_err-parts g c = grind (arith, in_cast_is)

pub returns : goal.returns
returns g c = grind (arith, in_cast_is)

pub inside_cast-requires : goal.inside_cast-requires
inside_cast-requires g c = record { exprs = c.requires.exprs; «open» = c.in_ok-open.ensures.«open» }
