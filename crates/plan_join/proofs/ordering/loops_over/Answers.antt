use Rattle.std.proofs.Common.{◌+◌, ◌-◌, drop, length, take}
use Rattle.std.proofs.lemmas.List.{take_rest}
use Rattle.plan_join.proofs.Loops.{all_loops, next_loop}
use Rattle.plan_join.proofs.ordering.loops_over.Goals as goal

pub loop-index-preserved : goal.loop-index-preserved
loop-index-preserved g c =
    let i = c.loop-index.index in
    let order = c.args.order.now in
    next_loop c.args.params.now c.args.alone c.args.conjuncts.now order i c.loop-index.loops c.push.new.self c.index-order-index.result (take (length order - i) (drop i order)) (take (length order - (i + 1)) (drop (i + 1) order)) c.in_ok-assigned.assigned c.in_ok-more.more c.loop-index.invariant c.loop-index-test.true c.index-order-index.is (take_rest order i) (take_rest order (i + 1)) c.in_ok-assigned.ensures c.in_ok-more.ensures c.in_ok-push.ensures.ok

pub returns : goal.returns
returns g c =
    all_loops c.args.params.now c.args.alone c.args.conjuncts.now c.args.order.now c.loop-index.index c.loop-index.loops c.loop-index-test.false c.loop-index.invariant
