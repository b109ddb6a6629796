use Rattle.std.proofs.Common.{◌≡◌, ◌++◌, map, reverse, length}
use Rattle.bound_tree.specs.Seen.{seen_match}
use Rattle.bound_tree.proofs.lists.match_trees.Given as goal

abbrev pub invariant-loop-arm : goal.invariant-loop-arm
invariant-loop-arm l = map seen_match l.trees ++ reverse l.rest ≡ l.fn.arms

abbrev pub decreases-loop-arm : goal.decreases-loop-arm
decreases-loop-arm l = length l.rest
