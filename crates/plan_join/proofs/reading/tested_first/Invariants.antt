use Rattle.std.proofs.Common.{◌≡◌, filter, take}
use Rattle.plan_join.proofs.reading.tested_first.Given as goal
use Rattle.plan_join.specs.Orders.{items_at}
use Rattle.plan_join.specs.Ready.{is_ready}

abbrev pub invariant-loop-conjunct : goal.invariant-loop-conjunct
invariant-loop-conjunct l = l.those ≡ filter (is_ready l.alone (items_at l.order)) (take l.conjunct-index l.conjuncts)
