use Rattle.std.proofs.Common.{arith}
use Rattle.parse_query.proofs.OrderingSteps.{behind_values, orderings_behind}
use Rattle.parse_query.proofs.queries.Queries.ordering_behind.Goals as goal

pub returns-then-is_select : goal.returns-then-is_select
returns-then-is_select g c = grind (arith, orderings_behind)

pub returns : goal.returns
returns g c = rw c.new.ensures (behind_values _ _ _ _ c.if-is_select.false)
