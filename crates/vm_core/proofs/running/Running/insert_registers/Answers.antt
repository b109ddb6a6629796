use Rattle.std.proofs.Common.{[], ap}
use Rattle.eng_value.specs.StoredRows.{StoredRow}
use Rattle.vm_code.specs.Machine.{cursor_at, inserted, row_in, wrote}
use Rattle.vm_core.specs.Paused.{state_at}
use Rattle.vm_core.proofs.Steps.{acts_as}
use Rattle.vm_core.proofs.running.Running.insert_registers.Goals as goal

pub returns-clause-leads : goal.returns-clause-leads
returns-clause-leads c e =
    let old = c.args.self.now in
    let w = c.args.tables.now.world in
    let s = state_at old w [] in
    let row : StoredRow = c.in_ok-row.row in
    acts_as c.insert.result e old w c.insert.new.self c.insert.new.tables.world (λ x. wrote x (inserted (cursor_at x.scene.cursors c.args.cursor) x.shared.written row)) (λ x. wrote x (inserted (cursor_at x.scene.cursors c.args.cursor) x.shared.written (row_in x.regs c.args.rowid c.args.first c.args.count)))
    (ap (λ (r : StoredRow). wrote s (inserted (cursor_at old.scene.cursors c.args.cursor) s.shared.written r)) c.in_ok-row.ensures)
    (c.insert.ensures.leads e)
