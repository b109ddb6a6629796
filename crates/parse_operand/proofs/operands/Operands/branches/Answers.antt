use Rattle.std.proofs.Common.{arith}
use Rattle.parse_operand.proofs.Inside.{branches_are}
use Rattle.parse_operand.proofs.operands.Operands.branches.Goals as goal

pub returns-in_err-arms : goal.returns-in_err-arms
returns-in_err-arms g c = grind (arith, branches_are)

pub returns-in_err-other : goal.returns-in_err-other
returns-in_err-other g c = grind (arith, branches_are)

pub returns : goal.returns
returns g c = grind (arith, branches_are)

pub arms-requires : goal.arms-requires
arms-requires g c = record { exprs = c.requires.exprs; «open» = c.requires.«open» }

pub otherwise-requires : goal.otherwise-requires
otherwise-requires g c = record { exprs = c.requires.exprs; «open» = c.requires.«open» }
