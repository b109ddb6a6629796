use Rattle.std.proofs.Common.{refl}
use Rattle.plan_join.proofs.Loops.{planned}
use Rattle.plan_join.proofs.ordering.order_as.Goals as goal
use Rattle.plan_tree.specs.declared.access.JoinPlan.{JoinPlan}

pub returns : goal.returns
returns g c =
    let order = c.in_ok-order.order in
    let p : JoinPlan = record { checks = c.in_ok-checks.checks; loops = c.in_ok-loops.loops; sort = order.moved } in
    record { fits = planned c.args.params.now c.args.conjuncts.now c.args.from.now order.items.items c.as_slice-items.result.now _ p c.in_ok-order.ensures c.as_slice-items.ensures.value refl c.in_ok-checks.ensures c.in_ok-loops.ensures }
