use Rattle.std.proofs.Common.{◌-◌}
use Rattle.host_traits.specs.Faults.{Rose}
use Rattle.vm_code.specs.Machine.{setting}
use Rattle.vm_core.specs.Paused.{state_of}
use Rattle.engine.proofs.Takings.{adds_none}
use Rattle.engine.proofs.Stretches.{gives_none, handed}
use Rattle.engine.proofs.running.next.Goals as goal

pub returns-in-Mem-clause-next : goal.returns-in-Mem-clause-next
returns-in-Mem-clause-next g c told ask =
    (gives_none (setting g.M.Meanings.hosts ask c.args.machine.now.params c.args.machine.now.prog) c.args.machine.now c.args.tables.now.world, adds_none (g.R.RowSink.taken c.args.rows.now))

pub returns-in-Row-clause-next : goal.returns-in-Row-clause-next
returns-in-Row-clause-next g c told ask =
    rw c.take_back.ensures (handed (setting g.M.Meanings.hosts ask c.args.machine.now.params c.args.machine.now.prog) (c.step.new.budget.ran - c.args.budget.now.ran) c.step.new.budget.ran c.args.budget.now.whole c.args.machine.now c.args.tables.now.world (state_of c.step.new.self c.step.new.tables.world) c.in-Row.row (g.R.RowSink.taken c.args.rows.now) (g.R.RowSink.taken c.hand_over-taken.new.rows) (Rose (g.R.RowSink.fault_count c.args.rows.now) (g.R.RowSink.fault_count c.hand_over-taken.new.rows)) c.hand_over-taken.result (c.in-Row.ensures.event told ask) c.hand_over-taken.ensures.row)

pub returns-in-Interrupted-clause-next : goal.returns-in-Interrupted-clause-next
returns-in-Interrupted-clause-next g c told ask =
    let stops = c.in-Interrupted.ensures.event told ask in
    ((stops.0, c.in-Interrupted.ensures.interrupted, stops.1), adds_none (g.R.RowSink.taken c.args.rows.now))
