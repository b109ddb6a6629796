use Rattle.std.proofs.lemmas.Result.{err_from_is_err_and}
use Rattle.engine.proofs.Explanations.{stopped_at}
use Rattle.engine.proofs.explaining.hand_over.Goals as goal

pub returns-in_err-hand_over_line-clause-lines : goal.returns-in_err-hand_over_line-clause-lines
returns-in_err-hand_over_line-clause-lines g c =
    let why = err_from_is_err_and c.from_residual.result c.from_residual.ensures.1 in
    let line = c.in_err-hand_over_line.ensures.line in
    let taken = g.R.RowSink.taken in
    let faults = g.R.RowSink.fault_count in
    rw (why.1, why.2) (stopped_at c.args.lines.now c.loop-line.line-index (taken c.args.rows.now) (taken c.loop-line.rows) (taken c.hand_over_line.new.rows) (faults c.args.rows.now) (faults c.loop-line.rows) (faults c.hand_over_line.new.rows) c.in_err-hand_over_line.field-0.0 c.loop-line.invariant.faults c.loop-line.invariant.taken line.0 line.1)
