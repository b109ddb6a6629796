use Rattle.std.proofs.Common.{◌≡◌, ◌++◌, map, reverse, length}
use Rattle.bound_tree.specs.Seen.{seen}
use Rattle.bound_tree.proofs.lists.expr_trees.Given as goal

abbrev pub invariant-loop-expr : goal.invariant-loop-expr
invariant-loop-expr l = map seen l.trees ++ reverse l.rest ≡ l.fn.exprs

abbrev pub decreases-loop-expr : goal.decreases-loop-expr
decreases-loop-expr l = length l.rest
