use Rattle.std.proofs.Common.{◌≡◌, map, take}
use Rattle.bound_ignored.specs.Erased.{erased, marks_of}
use Rattle.bound_ignored.proofs.erasing.erased_all.Given as goal

abbrev pub invariant-loop-e : goal.invariant-loop-e
invariant-loop-e l = l.made ≡ map (erased (marks_of l.items)) (take l.e-index l.es)
