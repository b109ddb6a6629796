use Rattle.std.proofs.Common.{rules, arith}
use Rattle.bound_tree.proofs.SameLists.{more_arms, more_matches, more_trees}
use Rattle.bound_tree.proofs.same.+comparing.Goals as goal

pub same_trees-returns-in-len1-up-others : goal.same_trees-returns-in-len1-up-others
same_trees-returns-in-len1-up-others t c = more_trees c.loop-x.x-index c.args.a.now c.loop-x.others.now _ (omega arith) (omega arith) c.loop-x.invariant

pub same_arms-returns-in-len1-up-others : goal.same_arms-returns-in-len1-up-others
same_arms-returns-in-len1-up-others t c = more_arms c.loop-x.x-index c.args.a.now c.loop-x.others.now _ (omega arith) (omega arith) c.loop-x.invariant

pub same_matches-returns-in-len1-up-others : goal.same_matches-returns-in-len1-up-others
same_matches-returns-in-len1-up-others t c = more_matches c.loop-x.x-index c.args.a.now c.loop-x.others.now _ (omega arith) (omega arith) c.loop-x.invariant
