use Rattle.std.proofs.Common.{◌≡◌, drop, map}
use Rattle.bound_tree.specs.Exprs.{arms, exprs, matches}
use Rattle.bound_tree.specs.Same.{same_arms, same_list, same_matches}
use Rattle.bound_tree.specs.Seen.{seen, seen_arm, seen_match}
use Rattle.bound_tree.proofs.same.+comparing.Given as goal

abbrev pub invariant-same_trees-loop-x : goal.invariant-same_trees-loop-x
invariant-same_trees-loop-x l = same_list (exprs (map seen l.a)) (exprs (map seen l.b)) ≡ same_list (exprs (map seen (drop l.x-index l.a))) (exprs (map seen l.others))

abbrev pub invariant-same_arms-loop-x : goal.invariant-same_arms-loop-x
invariant-same_arms-loop-x l = same_arms (arms (map seen_arm l.a)) (arms (map seen_arm l.b)) ≡ same_arms (arms (map seen_arm (drop l.x-index l.a))) (arms (map seen_arm l.others))

abbrev pub invariant-same_matches-loop-x : goal.invariant-same_matches-loop-x
invariant-same_matches-loop-x l = same_matches (matches (map seen_match l.a)) (matches (map seen_match l.b)) ≡ same_matches (matches (map seen_match (drop l.x-index l.a))) (matches (map seen_match l.others))
