use Rattle.std.proofs.Common.{take}
use Rattle.plan_join.proofs.ordering.loops_over.Given as goal
use Rattle.plan_join.specs.Orders.{items_at}
use Rattle.plan_join.specs.Ready.{assigned_in}
use Rattle.plan_tree.specs.Assigned.{AreLoopsFor}

abbrev pub invariant-loop-index : goal.invariant-loop-index
invariant-loop-index g l = AreLoopsFor l.params (take l.index (items_at l.order)) (take l.index (assigned_in l.alone l.conjuncts (items_at l.order))) l.loops
