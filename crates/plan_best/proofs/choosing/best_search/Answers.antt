use Rattle.plan_best.proofs.Choices.{best_next}
use Rattle.plan_best.proofs.choosing.best_search.Goals as goal

pub loop-place-preserved : goal.loop-place-preserved
loop-place-preserved g c =
    best_next c.args.params.now c.args.indexes.now c.args.conjuncts.now c.loop-place.place c.loop-place-test.true c.loop-place.best c.in_ok-best.best c.loop-place.invariant c.in_ok-best.ensures
