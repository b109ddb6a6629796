use Rattle.std.proofs.Common.{◌≡◌, drop, map}
use Rattle.sql_bound.specs.HostFacts.{facts_of}
use Rattle.sql_bound.specs.Orders.{orders_by_aggregate}
use Rattle.sql_bound.specs.Trees.{of_term}
use Rattle.bind_callee.specs.Told.{told}
use Rattle.bind_result.proofs.grouping.any_orders.Given as goal

abbrev pub invariant-loop-term : goal.invariant-loop-term
invariant-loop-term l = orders_by_aggregate (told l.text (facts_of l.facts)) (map of_term (drop l.term-index l.order)) ≡ orders_by_aggregate (told l.text (facts_of l.facts)) (map of_term l.order)
