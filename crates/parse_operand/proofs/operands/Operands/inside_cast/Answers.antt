use Rattle.std.proofs.Common.{arith}
use Rattle.parse_operand.specs.Parts.{inside_cast}
use Rattle.parse_operand.proofs.operands.Operands.inside_cast.Goals as goal

pub returns-in_err-operand : goal.returns-in_err-operand
unfolding inside_cast
returns-in_err-operand g c = grind arith

pub returns-in_err-expect : goal.returns-in_err-expect
unfolding inside_cast
returns-in_err-expect g c = grind arith

pub returns-in_err-to : goal.returns-in_err-to
unfolding inside_cast
returns-in_err-to g c = grind arith

pub returns : goal.returns
unfolding inside_cast
returns g c = grind arith

pub inner-requires : goal.inner-requires
inner-requires g c = record { exprs = c.requires.exprs; «open» = c.requires.«open» }
