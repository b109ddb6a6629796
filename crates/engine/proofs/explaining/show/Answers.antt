use Rattle.host_traits.specs.Faults.{Rose}
use Rattle.engine.proofs.Explanations.{given_lines, handed_over, unshown}
use Rattle.engine.proofs.explaining.show.Goals as goal

pub returns-in-Ok-clause-carried : goal.returns-in-Ok-clause-carried
returns-in-Ok-clause-carried g c state o budget steps =
    handed_over c.args.how state o budget steps (g.R.RowSink.taken c.args.rows.now) (g.R.RowSink.taken c.hand_over.new.rows) (Rose (g.R.RowSink.fault_count c.args.rows.now) (g.R.RowSink.fault_count c.hand_over.new.rows)) c.as_slice.result.now c.hand_over.result c.hand_over.ensures.lines

pub returns-in-Err-clause-carried : goal.returns-in-Err-clause-carried
returns-in-Err-clause-carried g c state o budget steps =
    unshown c.args.how state o budget steps (g.R.RowSink.taken c.args.rows.now) (Rose (g.R.RowSink.fault_count c.args.rows.now) (g.R.RowSink.fault_count c.args.rows.now)) c.in-Err.cause c.in-Err.ensures.memory

pub returns-in-Ok-clause-plan : goal.returns-in-Ok-clause-plan
returns-in-Ok-clause-plan g c =
    given_lines c.args.how c.args.ready.now (g.R.RowSink.taken c.args.rows.now) (g.R.RowSink.taken c.hand_over.new.rows) (Rose (g.R.RowSink.fault_count c.args.rows.now) (g.R.RowSink.fault_count c.hand_over.new.rows)) c.as_slice.result.now c.hand_over.result (rw c.as_slice.ensures c.in-Ok.ensures.shows) c.hand_over.ensures.lines
