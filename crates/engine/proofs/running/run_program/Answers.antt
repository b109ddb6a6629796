use Rattle.std.proofs.Common.{◌≡◌, ◌-◌, Ok, Err, subst, sym, ◌∙◌, ap, rules, to_z, of_z, w64}
use Rattle.host_traits.specs.Faults.{Rose}
use Rattle.vm_code.specs.Honesty.{ProgramIsTold}
use Rattle.vm_code.specs.Machine.{Setting, State, setting, start}
use Rattle.vm_core.specs.Events.{NoneInVain}
use Rattle.vm_tables.specs.Marked.{Marked}
use Rattle.vm_core.specs.Paused.{Paused, at_start, state_of}
use Rattle.engine.specs.Stretches.{DriveIs}
use Rattle.engine.proofs.Stretches.{of_program, stopped, finished}
use Rattle.engine.proofs.running.run_program.Goals as goal

pub returns-in-Ok-drive-clause-runs : goal.returns-in-Ok-drive-clause-runs
returns-in-Ok-drive-clause-runs g c told ask most e x ends =
    let h = c.in-Ok-drive.ensures in
    let same : to_z w64 (of_z w64 c.args.last_rowid) ≡ c.args.last_rowid = search rules in
    let made = c.in-Ok.ensures ∙ ap (at_start c.args.program c.args.params.now) same in
    let hosts = g.M.Meanings.hosts in
    let p = c.args.program in
    let here = subst (λ (y : Paused). ProgramIsTold hosts y.prog) (sym made) told in
    let w0 = c.args.tables.now.world in
    let w1 = c.mark.new.self.world in
    let marked : w1 ≡ w0 = ap (λ (t : Marked). t.world) c.in-Ok-mark.ensures.ok in
    let n = c.drive.new.steps - c.args.steps.now in
    let q = c.drive.new.machine in
    let v = c.drive.new.tables.world in
    let old = g.R.RowSink.taken c.args.rows.now in
    let new = g.R.RowSink.taken c.drive.new.rows in
    let rose = Rose (g.R.RowSink.fault_count c.args.rows.now) (g.R.RowSink.fault_count c.drive.new.rows) in
    let needed = of_program hosts ask c.in-Ok.machine p c.args.params.now c.args.last_rowid w1 w0 (λ (m : Setting) (s : State). NoneInVain m n s) made marked (h.needed here ask) in
    let run = of_program hosts ask c.in-Ok.machine p c.args.params.now c.args.last_rowid w1 w0 (λ (m : Setting) (s : State). DriveIs m n s (state_of q v) c.args.budget rose old new (Ok c.in-Ok-drive.given)) made marked (h.run here ask) in
    let sums = c.completion.ensures in
    finished (setting hosts ask c.args.params.now p) most n c.args.budget (start p w0 c.args.last_rowid) e x ends needed q v c.forget.new.self.world old new rose c.completion.result c.in-Ok-drive.given c.forget.ensures.world run sums.given sums.changed sums.last_rowid

pub returns-clause-runs : goal.returns-clause-runs
returns-clause-runs g c told ask most e x ends =
    let h = c.in-Err-drive.ensures in
    let same : to_z w64 (of_z w64 c.args.last_rowid) ≡ c.args.last_rowid = search rules in
    let made = c.in-Ok.ensures ∙ ap (at_start c.args.program c.args.params.now) same in
    let hosts = g.M.Meanings.hosts in
    let p = c.args.program in
    let here = subst (λ (y : Paused). ProgramIsTold hosts y.prog) (sym made) told in
    let w0 = c.args.tables.now.world in
    let w1 = c.mark.new.self.world in
    let marked : w1 ≡ w0 = ap (λ (t : Marked). t.world) c.in-Ok-mark.ensures.ok in
    let n = c.drive.new.steps - c.args.steps.now in
    let q = c.drive.new.machine in
    let v = c.drive.new.tables.world in
    let old = g.R.RowSink.taken c.args.rows.now in
    let new = g.R.RowSink.taken c.drive.new.rows in
    let rose = Rose (g.R.RowSink.fault_count c.args.rows.now) (g.R.RowSink.fault_count c.drive.new.rows) in
    let why = c.in-Err-drive.stop in
    let needed = of_program hosts ask c.in-Ok.machine p c.args.params.now c.args.last_rowid w1 w0 (λ (m : Setting) (s : State). NoneInVain m n s) made marked (h.needed here ask) in
    let run = of_program hosts ask c.in-Ok.machine p c.args.params.now c.args.last_rowid w1 w0 (λ (m : Setting) (s : State). DriveIs m n s (state_of q v) c.args.budget rose old new (Err why)) made marked (h.run here ask) in
    stopped (setting hosts ask c.args.params.now p) most n c.args.budget (start p w0 c.args.last_rowid) e x ends needed q v c.undo.new.self.world old new rose why run
