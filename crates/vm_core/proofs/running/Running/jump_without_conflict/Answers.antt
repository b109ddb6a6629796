use Rattle.std.proofs.Common.{◌≡◌, [], Some, None, ap, sym, subst, ◌∙◌}
use Rattle.eng_index.specs.Keys.{row_in_way}
use Rattle.eng_value.specs.StoredRows.{StoredRow}
use Rattle.vm_code.specs.Machine.{conflicted, conflicted_to, cursor_at, jump, row_in, rows_of}
use Rattle.vm_tables.specs.Marked.{Marked}
use Rattle.vm_core.specs.Cursors.{table_of}
use Rattle.vm_core.specs.Events.{ActsOver}
use Rattle.vm_core.specs.Paused.{Progress, state_at}
use Rattle.vm_core.proofs.SearchLaws.{conflicted_at, conflicted_none}
use Rattle.vm_core.proofs.Steps.{acts_as}
use Rattle.vm_core.proofs.running.Running.jump_without_conflict.Goals as goal

pub returns-in-None-clause-leads : goal.returns-in-None-clause-leads
returns-in-None-clause-leads c e =
    let old = c.args.self.now in
    let w = c.args.tables.now.world in
    let s = state_at old w [] in
    let row : StoredRow = row_in old.regs c.args.rowid c.args.first c.args.count in
    let is : None ≡ table_of (cursor_at old.scene.cursors c.args.cursor) =
    c.in-None.ensures ∙ ap (λ cs. table_of (cursor_at cs c.args.cursor)) (c.deref.ensures.value ∙ ap (λ (p : Progress). p.scene.cursors) c.self.view_is) in
    acts_as c.go_to.result e old w c.go_to.new.self w (λ x. jump x c.args.target) (λ x. conflicted (cursor_at x.scene.cursors c.args.cursor) x c.args.cursor c.args.target c.args.keys.now (row_in x.regs c.args.rowid c.args.first c.args.count))
    (sym (conflicted_none s c.args.cursor c.args.target (cursor_at old.scene.cursors c.args.cursor) is c.args.keys.now row))
    (c.go_to.ensures e w)

pub returns-in_ok-standing-in-Some-clause-leads : goal.returns-in_ok-standing-in-Some-clause-leads
returns-in_ok-standing-in-Some-clause-leads c e =
    let old = c.args.self.now in
    let w = c.args.tables.now.world in
    let s = state_at old w [] in
    let table = c.in-Some.table in
    let keys = c.args.keys.now in
    let row : StoredRow = c.in_ok-row-in-Some.row in
    let wanted : StoredRow = row_in old.regs c.args.rowid c.args.first c.args.count in
    let way = row_in_way keys (rows_of w table) row in
    let is : Some table ≡ table_of (cursor_at old.scene.cursors c.args.cursor) =
    c.in-Some.ensures ∙ ap (λ cs. table_of (cursor_at cs c.args.cursor)) (c.deref.ensures.value ∙ ap (λ (p : Progress). p.scene.cursors) c.self.view_is) in
    let same : row ≡ wanted = c.in_ok-row-in-Some.ensures in
    let world = ap (λ (t : Marked). t.world) c.in_ok-standing-in-Some.ensures.same in
    let leads =
    acts_as c.come_to_conflict.result e old w c.come_to_conflict.new.self w (λ x. conflicted_to x c.args.cursor c.args.target table way) (λ x. conflicted (cursor_at x.scene.cursors c.args.cursor) x c.args.cursor c.args.target keys (row_in x.regs c.args.rowid c.args.first c.args.count))
    (ap (λ (r : StoredRow). conflicted_to s c.args.cursor c.args.target table (row_in_way keys (rows_of w table) r)) same ∙ sym (conflicted_at s c.args.cursor c.args.target (cursor_at old.scene.cursors c.args.cursor) table is keys wanted))
    (c.come_to_conflict.ensures way (sym c.in_ok-standing-in-Some.ensures.found) e w) in
    subst (λ v. ActsOver c.come_to_conflict.result e old w c.come_to_conflict.new.self v (λ x. conflicted (cursor_at x.scene.cursors c.args.cursor) x c.args.cursor c.args.target keys (row_in x.regs c.args.rowid c.args.first c.args.count))) (sym world) leads
