use Rattle.std.proofs.Common.{◌≤◌, drop, take}
use Rattle.std.specs.List.{AllByRecursion}
use Rattle.plan_join.proofs.placing.behind_others.Given as goal
use Rattle.plan_join.specs.Orders.{IsInner}

abbrev pub invariant-loop-index : goal.invariant-loop-index
invariant-loop-index l = record { within : l.slot ≤ l.index; others : AllByRecursion IsInner (drop l.slot (take l.index l.order)) }
