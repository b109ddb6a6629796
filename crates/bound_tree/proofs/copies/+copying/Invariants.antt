use Rattle.std.proofs.Common.{◌≡◌, take}
use Rattle.bound_tree.proofs.copies.+copying.Given as goal

abbrev pub invariant-copied_all-loop-e : goal.invariant-copied_all-loop-e
invariant-copied_all-loop-e l = l.copies ≡ take l.e-index l.es

abbrev pub invariant-copied_arms-loop-arm : goal.invariant-copied_arms-loop-arm
invariant-copied_arms-loop-arm l = l.copies ≡ take l.arm-index l.arms

abbrev pub invariant-copied_matches-loop-arm : goal.invariant-copied_matches-loop-arm
invariant-copied_matches-loop-arm l = l.copies ≡ take l.arm-index l.arms
