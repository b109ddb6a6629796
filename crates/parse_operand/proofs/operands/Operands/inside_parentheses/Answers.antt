use Rattle.std.proofs.Common.{arith}
use Rattle.parse_operand.proofs.Inside.{parentheses_steps}
use Rattle.parse_operand.proofs.operands.Operands.inside_parentheses.Goals as goal

pub returns-in_err-query : goal.returns-in_err-query
returns-in_err-query g c = grind (arith, parentheses_steps)

pub returns-then-sees_query : goal.returns-then-sees_query
returns-then-sees_query g c = grind (arith, parentheses_steps)

pub returns : goal.returns
returns g c = grind (arith, parentheses_steps)

pub inner_query-requires : goal.inner_query-requires
inner_query-requires g c = record { queries = c.requires.queries; «open» = c.requires.«open» }

pub inner-requires : goal.inner-requires
inner-requires g c = record { exprs = c.requires.exprs; «open» = c.requires.«open» }
