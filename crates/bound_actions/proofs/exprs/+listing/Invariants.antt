use Rattle.std.proofs.Common.{◌≡◌, ◌++◌, drop, map}
use Rattle.bound_tree.specs.Exprs.{arms, exprs, matches}
use Rattle.bound_tree.specs.Seen.{seen, seen_arm, seen_match}
use Rattle.bound_actions.specs.Expressions.{lists_in, pieces_in, pieces_in_arms, pieces_in_matches}
use Rattle.bound_actions.proofs.exprs.+listing.Given as goal

abbrev pub invariant-put_trees-loop-e : goal.invariant-put_trees-loop-e
invariant-put_trees-loop-e l = l.fn.out ++ pieces_in l.units l.spot (exprs (map seen l.es)) ≡ l.out ++ pieces_in l.units l.spot (exprs (map seen (drop l.e-index l.es)))

abbrev pub invariant-put_arms-loop-arm : goal.invariant-put_arms-loop-arm
invariant-put_arms-loop-arm l = l.fn.out ++ pieces_in_arms l.units l.spot (arms (map seen_arm l.those)) ≡ l.out ++ pieces_in_arms l.units l.spot (arms (map seen_arm (drop l.arm-index l.those)))

abbrev pub invariant-put_matches-loop-arm : goal.invariant-put_matches-loop-arm
invariant-put_matches-loop-arm l = l.fn.out ++ pieces_in_matches l.units l.spot (matches (map seen_match l.those)) ≡ l.out ++ pieces_in_matches l.units l.spot (matches (map seen_match (drop l.arm-index l.those)))

abbrev pub invariant-lists_of-loop-e : goal.invariant-lists_of-loop-e
invariant-lists_of-loop-e l = lists_in l.units l.spot (exprs (map seen l.es)) ≡ l.lists ++ lists_in l.units l.spot (exprs (map seen (drop l.e-index l.es)))
