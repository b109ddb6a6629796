use Rattle.std.proofs.Common.{arith}
use Rattle.parse_operand.proofs.Wrapped.{existing_steps}
use Rattle.parse_operand.proofs.operands.Operands.existing.Goals as goal

pub returns-in_err-expect : goal.returns-in_err-expect
returns-in_err-expect g c = grind (arith, existing_steps)

pub returns-in_err-open : goal.returns-in_err-open
returns-in_err-open g c = grind (arith, existing_steps)

pub returns-in_err-found : goal.returns-in_err-found
returns-in_err-found g c = grind (arith, existing_steps)

pub returns-in_err-query : goal.returns-in_err-query
returns-in_err-query g c = grind (arith, existing_steps)

pub returns : goal.returns
returns g c = grind (arith, existing_steps)

pub inner_query-requires : goal.inner_query-requires
inner_query-requires g c = record { queries = c.requires.queries; «open» = c.in_ok-open.ensures.«open» }
