use Rattle.std.proofs.Common.{◌≡◌, take}
use Rattle.bound_tree.proofs.copies.copied_exprs.Given as goal

abbrev pub invariant-loop-e : goal.invariant-loop-e
invariant-loop-e l = l.copies ≡ take l.e-index l.es
