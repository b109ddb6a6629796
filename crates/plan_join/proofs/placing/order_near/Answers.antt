use Rattle.std.proofs.Common.{[], false, sym, subst}
use Rattle.plan_join.specs.Orders.{IsOrderOf}
use Rattle.plan_join.proofs.Insertion.{no_items}
use Rattle.plan_join.proofs.placing.order_near.Goals as goal

pub loop-place-init : goal.loop-place-init
loop-place-init c = subst (λ those. IsOrderOf [] those false) (sym c.new.ensures.items) no_items
