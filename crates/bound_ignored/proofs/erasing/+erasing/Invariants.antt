use Rattle.std.proofs.Common.{◌≡◌, map, take}
use Rattle.bound_tree.specs.Seen.{seen, seen_arm, seen_match}
use Rattle.bound_ignored.specs.Erased.{erased, erased_arm, erased_match, marks_of}
use Rattle.bound_ignored.proofs.erasing.+erasing.Given as goal

abbrev pub invariant-erased_trees-loop-e : goal.invariant-erased_trees-loop-e
invariant-erased_trees-loop-e l = l.made ≡ map (erased (marks_of l.items)) (map seen (take l.e-index l.es))

abbrev pub invariant-erased_arms-loop-arm : goal.invariant-erased_arms-loop-arm
invariant-erased_arms-loop-arm l = l.made ≡ map (erased_arm (marks_of l.items)) (map seen_arm (take l.arm-index l.arms))

abbrev pub invariant-erased_matches-loop-arm : goal.invariant-erased_matches-loop-arm
invariant-erased_matches-loop-arm l = l.made ≡ map (erased_match (marks_of l.items)) (map seen_match (take l.arm-index l.arms))
