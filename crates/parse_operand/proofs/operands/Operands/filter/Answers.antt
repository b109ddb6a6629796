use Rattle.std.proofs.Common.{arith}
use Rattle.parse_operand.proofs.Wrapped.{filters}
use Rattle.parse_operand.proofs.operands.Operands.filter.Goals as goal

pub returns-in_err-expect : goal.returns-in_err-expect
returns-in_err-expect g c = grind (arith, filters)

pub returns-in_err-open : goal.returns-in_err-open
returns-in_err-open g c = grind (arith, filters)

pub returns-in_err-found : goal.returns-in_err-found
returns-in_err-found g c = grind (arith, filters)

pub returns-in_err-condition : goal.returns-in_err-condition
returns-in_err-condition g c = grind (arith, filters)

pub returns-else-sees : goal.returns-else-sees
returns-else-sees g c = grind (arith, filters)

pub behind-requires : goal.behind-requires
behind-requires g c = record { exprs = c.requires.exprs; «open» = c.in_ok-open.ensures.«open» }
