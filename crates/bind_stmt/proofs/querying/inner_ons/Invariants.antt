use Rattle.std.proofs.Common.{◌≡◌, map, take}
use Rattle.bound_ignored.specs.Erased.{erased, marks_of}
use Rattle.bind_stmt.specs.Steps.{inner_ons}
use Rattle.bind_stmt.proofs.querying.inner_ons.Given as goal

abbrev pub invariant-loop-item : goal.invariant-loop-item
invariant-loop-item l = l.all ≡ map (erased (marks_of l.marks)) (inner_ons (take l.item-index l.items))
