use Rattle.bound_tree.specs.declared.units.BoundCompound.{BoundCompound}
use Rattle.bound_actions.specs.Queries.{own_part}
use Rattle.bound_actions.proofs.ListLaws.{flat_passed}
use Rattle.bound_actions.proofs.queries.put_others.Goals as goal

pub loop-other-preserved : goal.loop-other-preserved
loop-other-preserved c =
    flat_passed (λ (x : BoundCompound). own_part c.args.units.now c.args.within.now x.part) c.args.others.now c.loop-other.other-index c.other-item.result c.args.out.now c.loop-other.out c.put_own_part.new.out c.loop-other-test.true c.other-item.is c.loop-other.invariant c.in_ok-put_own_part.ensures
