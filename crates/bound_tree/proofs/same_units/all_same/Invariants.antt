use Rattle.std.proofs.Common.{◌≡◌, drop}
use Rattle.bound_tree.specs.Same.{all_same}
use Rattle.bound_tree.proofs.same_units.all_same.Given as goal

abbrev pub invariant-loop-x : goal.invariant-loop-x
invariant-loop-x g l = all_same g.T.Same.same l.a l.b ≡ all_same g.T.Same.same (drop l.x-index l.a) l.others
