use Rattle.std.proofs.Common.{◌≡◌, [], Some, ap, sym, ◌∙◌}
use Rattle.vm_code.specs.Machine.{cursor_at, inserted, with_row, wrote}
use Rattle.vm_core.specs.Cursors.{table_of}
use Rattle.vm_core.specs.Paused.{Progress, state_at}
use Rattle.vm_core.proofs.Puts.{inserted_at}
use Rattle.vm_core.proofs.Steps.{acts_as}
use Rattle.vm_core.proofs.running.Running.insert.Goals as goal

pub returns-in-Some-clause-leads : goal.returns-in-Some-clause-leads
returns-in-Some-clause-leads c e =
    let old = c.args.self.now in
    let w = c.args.tables.now.world in
    let s = state_at old w [] in
    let is : Some c.in-Some.table ≡ table_of (cursor_at old.scene.cursors c.args.number) =
    c.in-Some.ensures ∙ ap (λ cs. table_of (cursor_at cs c.args.number)) (c.deref.ensures.value ∙ ap (λ (p : Progress). p.scene.cursors) c.self.view_is) in
    acts_as c.put_row.result e old w c.put_row.new.self c.put_row.new.tables.world (λ x. wrote x (with_row x.shared.written c.in-Some.table c.args.row.now)) (λ x. wrote x (inserted (cursor_at x.scene.cursors c.args.number) x.shared.written c.args.row.now))
    (ap (wrote s) (sym (inserted_at (cursor_at old.scene.cursors c.args.number) c.in-Some.table is s.shared.written c.args.row.now)))
    (c.put_row.ensures.leads e)
