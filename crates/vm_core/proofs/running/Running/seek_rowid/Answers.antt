use Rattle.std.proofs.Common.{◌≡◌, ◌+◌, [], ap, sym, ◌∙◌}
use Rattle.vm_code.specs.Machine.{On, cursor_at, read, skip, some_rowid, with_cursor}
use Rattle.vm_core.specs.Cursors.{on_sought}
use Rattle.vm_core.specs.Paused.{Progress, state_at}
use Rattle.vm_core.proofs.SeekLaws.{integer_held, sought_moves}
use Rattle.vm_core.proofs.running.Running.seek_rowid.Goals as goal

pub returns : goal.returns
returns c = λ e.
    let old = c.args.self.now in
    let w = c.args.tables.now.world in
    let s = state_at old w [] in
    let cursor = c.args.cursor in
    let is : c.integer_at-rowid.result ≡ some_rowid old.regs c.args.rowid = c.integer_at-rowid.ensures ∙ integer_held (read c.self.inside.registers c.args.rowid) ∙ ap (λ (p : Progress). some_rowid p.regs c.args.rowid) c.self.view_is in
    sought_moves s cursor (some_rowid old.regs c.args.rowid)
    ∙ ap (λ n. skip (with_cursor s cursor (on_sought w (cursor_at old.scene.cursors cursor) n))) (sym is)
    ∙ ap (λ (p : Progress). On (state_at (record p { pc = p.pc + 1 }) w [])) (sym c.seek.ensures)
    ∙ ap (λ (p : Progress). On (state_at p w [])) (sym c.go_on.ensures)
