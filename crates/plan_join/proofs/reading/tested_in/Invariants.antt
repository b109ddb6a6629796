use Rattle.std.proofs.Common.{◌≡◌, take}
use Rattle.plan_join.proofs.reading.tested_in.Given as goal
use Rattle.plan_join.specs.Orders.{items_at}
use Rattle.plan_join.specs.Ready.{tested_in}

abbrev pub invariant-loop-conjunct : goal.invariant-loop-conjunct
invariant-loop-conjunct l = l.those ≡ tested_in l.alone (items_at l.here) (items_at l.left) (take l.conjunct-index l.conjuncts)
