use Rattle.std.proofs.Common.{◌≡◌, drop, map}
use Rattle.bound_tree.specs.Exprs.{arms, exprs, matches}
use Rattle.bound_tree.specs.Seen.{seen, seen_arm, seen_match}
use Rattle.plan_tree.specs.Ignoring.{all_ignore, arms_ignore, matches_ignore}
use Rattle.plan_tree.proofs.reading.+reading.Given as goal

abbrev pub invariant-all_ignore-loop-tree : goal.invariant-all_ignore-loop-tree
invariant-all_ignore-loop-tree l = all_ignore l.item (exprs (map seen l.trees)) ≡ all_ignore l.item (exprs (map seen (drop l.tree-index l.trees)))

abbrev pub invariant-arms_ignore-loop-arm : goal.invariant-arms_ignore-loop-arm
invariant-arms_ignore-loop-arm l = arms_ignore l.item (arms (map seen_arm l.those)) ≡ arms_ignore l.item (arms (map seen_arm (drop l.arm-index l.those)))

abbrev pub invariant-matches_ignore-loop-arm : goal.invariant-matches_ignore-loop-arm
invariant-matches_ignore-loop-arm l = matches_ignore l.item (matches (map seen_match l.those)) ≡ matches_ignore l.item (matches (map seen_match (drop l.arm-index l.those)))
