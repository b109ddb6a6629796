use Rattle.std.proofs.Common.{take}
use Rattle.std.specs.List.{list_any}
use Rattle.plan_best.specs.Comparing.{is_begun}
use Rattle.plan_best.specs.Drafts.{BestUnless}
use Rattle.plan_best.proofs.choosing.begun_on_any.Given as goal

abbrev pub invariant-loop-terms : goal.invariant-loop-terms
invariant-loop-terms g l = BestUnless l.params l.indexes l.conjuncts (list_any (is_begun l.comparison) (take l.terms-index l.indexes)) l.fn.best l.best
