use Rattle.std.proofs.Common.{◌≡◌, ◌++◌, drop}
use Rattle.plan_join.proofs.testing.tested.Given as goal
use Rattle.plan_tree.specs.Visits.{tested}

abbrev pub invariant-loop-place : goal.invariant-loop-place
invariant-loop-place l = l.all ++ tested (drop l.place l.consumed) (drop l.place l.conjuncts) ≡ tested l.consumed l.conjuncts
