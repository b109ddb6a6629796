use Rattle.std.proofs.Common.{arith}
use Rattle.parse_operand.proofs.Inside.{case_steps}
use Rattle.parse_operand.proofs.operands.Operands.case.Goals as goal

pub returns-then-sees : goal.returns-then-sees
returns-then-sees g c = grind (arith, case_steps)

pub returns-in_err-operand : goal.returns-in_err-operand
returns-in_err-operand g c = grind (arith, case_steps)

pub returns : goal.returns
returns g c = grind (arith, case_steps)

pub branches-requires : goal.branches-requires
branches-requires g c = record { exprs = c.requires.exprs; «open» = c.requires.«open» }

pub inner-requires : goal.inner-requires
inner-requires g c = record { exprs = c.requires.exprs; «open» = c.requires.«open» }

pub branches-requires-2 : goal.branches-requires-2
branches-requires-2 g c = record { exprs = c.requires.exprs; «open» = c.requires.«open» }
