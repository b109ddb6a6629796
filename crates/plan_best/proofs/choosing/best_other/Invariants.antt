use Rattle.plan_best.specs.Drafts.{MayBest}
use Rattle.plan_best.proofs.choosing.best_other.Given as goal

abbrev pub invariant-loop-terms : goal.invariant-loop-terms
invariant-loop-terms g l = MayBest l.params l.item l.indexes l.conjuncts l.best
