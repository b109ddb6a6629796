use Rattle.eng_record.proofs.ReadingLoops.{types_go_on}
use Rattle.eng_record.proofs.reading.types_of.Goals as goal

pub loop-rest-preserved : goal.loop-rest-preserved
loop-rest-preserved c =
    rw c.in_ok-push.ensures.items (types_go_on c.loop-rest.kinds.items c.loop-rest.rest.now c.in_ok-kind.kind c.in_ok-kind.after.now _ c.in_ok-kind.ensures.exact c.loop-rest.invariant)
