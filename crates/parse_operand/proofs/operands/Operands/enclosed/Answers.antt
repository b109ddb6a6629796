use Rattle.std.proofs.Common.{arith}
use Rattle.parse_operand.proofs.Bracketed.{enclosed_is}
use Rattle.parse_operand.proofs.operands.Operands.enclosed.Goals as goal

pub returns-in_err-open : goal.returns-in_err-open
returns-in_err-open g c = grind (arith, enclosed_is)

pub returns-in_err-found : goal.returns-in_err-found
returns-in_err-found g c = grind (arith, enclosed_is)

pub returns : goal.returns
returns g c = grind (arith, enclosed_is)

pub inside_parentheses-requires : goal.inside_parentheses-requires
inside_parentheses-requires g c = record { exprs = c.requires.exprs; queries = c.requires.queries; «open» = c.in_ok-open.ensures.«open» }
