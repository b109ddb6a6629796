use Rattle.std.proofs.Common.{take}
use Rattle.plan_best.specs.Drafts.{BestOf}
use Rattle.plan_best.proofs.choosing.best_search.Given as goal

abbrev pub invariant-loop-place : goal.invariant-loop-place
invariant-loop-place g l = BestOf l.params l.indexes l.conjuncts (take l.place l.conjuncts) l.best
