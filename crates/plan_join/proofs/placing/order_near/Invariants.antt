use Rattle.std.proofs.Common.{take}
use Rattle.plan_join.proofs.placing.order_near.Given as goal
use Rattle.plan_join.specs.Orders.{IsOrderOf}

abbrev pub invariant-loop-place : goal.invariant-loop-place
invariant-loop-place l = IsOrderOf (take l.place l.from) l.order.items.items l.order.moved
