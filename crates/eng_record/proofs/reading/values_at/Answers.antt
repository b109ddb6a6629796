use Rattle.std.proofs.Common.{refl}
use Rattle.std.proofs.lemmas.Result.{err_from_is_err_and}
use Rattle.eng_record.proofs.ReadingLoops.{bodies_go_on, bodies_end, bodies_done}
use Rattle.eng_record.proofs.reading.values_at.Goals as goal

pub returns-in_err-value : goal.returns-in_err-value
returns-in_err-value c =
    let p = err_from_is_err_and c.from_residual-in_err-value.result c.from_residual-in_err-value.ensures.1 in
    rw (p.1, p.2) (bodies_end c.in_err-value.field-0.0 c.loop-kind.values.items c.args.kinds.now c.loop-kind.kind-index _ c.loop-kind.rest.now _ c.loop-kind-test.true refl c.in_err-value.ensures c.loop-kind.invariant)

pub loop-kind-preserved : goal.loop-kind-preserved
loop-kind-preserved c =
    rw c.in_ok-push.ensures.items (bodies_go_on c.loop-kind.values.items c.args.kinds.now c.loop-kind.kind-index _ c.loop-kind.rest.now c.in_ok-value.value c.in_ok-value.after.now _ c.loop-kind-test.true refl c.in_ok-value.ensures c.loop-kind.invariant)

pub returns : goal.returns
returns c =
    rw c.new.ensures (bodies_done c.loop-kind.values.items c.args.kinds.now c.loop-kind.kind-index c.loop-kind.rest.now _ c.loop-kind-test.false c.loop-kind.invariant)
