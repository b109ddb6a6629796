use Rattle.std.proofs.Common.{◌≡◌, drop, map}
use Rattle.bound_tree.specs.Exprs.{arms, exprs, matches}
use Rattle.bound_tree.specs.Seen.{seen, seen_arm, seen_match}
use Rattle.sql_bound.specs.Groups.{bare_in_arms, bare_in_list, bare_in_matches}
use Rattle.bind_column.proofs.groups.+grouping.Given as goal

abbrev pub invariant-bare_in_list-loop-tree : goal.invariant-bare_in_list-loop-tree
invariant-bare_in_list-loop-tree l = bare_in_list l.keys l.own (exprs (map seen l.trees)) ≡ bare_in_list l.keys l.own (exprs (map seen (drop l.tree-index l.trees)))

abbrev pub invariant-bare_in_arms-loop-arm : goal.invariant-bare_in_arms-loop-arm
invariant-bare_in_arms-loop-arm l = bare_in_arms l.keys l.own (arms (map seen_arm l.those)) ≡ bare_in_arms l.keys l.own (arms (map seen_arm (drop l.arm-index l.those)))

abbrev pub invariant-bare_in_matches-loop-arm : goal.invariant-bare_in_matches-loop-arm
invariant-bare_in_matches-loop-arm l = bare_in_matches l.keys l.own (matches (map seen_match l.those)) ≡ bare_in_matches l.keys l.own (matches (map seen_match (drop l.arm-index l.those)))
