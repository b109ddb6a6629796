use Rattle.std.proofs.Common.{◌≡◌, drop}
use Rattle.plan_join.proofs.reading.reads_none.Given as goal
use Rattle.plan_join.specs.Orders.{items_at}
use Rattle.plan_join.specs.Ready.{reads_none}

abbrev pub invariant-loop-next : goal.invariant-loop-next
invariant-loop-next l = reads_none (items_at l.items) l.conjunct ≡ reads_none (items_at (drop l.next-index l.items)) l.conjunct
