use Rattle.std.proofs.Common.{◌≡◌, [], ap, ◌∙◌, rules, subst, w64, to_z, of_z}
use Rattle.eng_value.specs.Causes.{only}
use Rattle.eng_value.specs.StoredRows.{next_rowid}
use Rattle.eng_value.specs.declared.cause.Cause.TheVariants.{Full}
use Rattle.vm_code.specs.Machine.{cursor_at, cursor_rows, drawn, given_up, world_of}
use Rattle.vm_core.specs.Events.{ActsOver}
use Rattle.vm_core.specs.Paused.{state_at}
use Rattle.vm_core.proofs.Steps.{acts_as}
use Rattle.vm_core.proofs.execute.new_rowid.Goals as goal

pub returns-in-Some : goal.returns-in-Some
returns-in-Some c =
    let w = c.args.tables.now.world in
    let n : to_z w64 (of_z w64 c.in-Some.rowid) ≡ c.in-Some.rowid = search rules in
    let leads = c.put_integer.ensures c.args.event.now w in
    subst (λ o. ActsOver c.put_integer.result c.args.event.now c.args.running.now w c.put_integer.new.self w (λ s. drawn s c.args.to c.args.table.now o)) c.in-Some.ensures (rw n at leads)

pub returns-in_ok-clone-in-None : goal.returns-in_ok-clone-in-None
returns-in_ok-clone-in-None c =
    let old = c.args.running.now in
    let w = c.args.tables.now.world in
    let s = state_at old w [] in
    let name : c.in_ok-clone-in-None.field-0 ≡ c.args.table.now = search rules in
    acts_as c.give_up.result c.give_up.new.event old w c.give_up.new.self w (λ x. given_up x.stack x.shared c.one.result) (λ x. drawn x c.args.to c.args.table.now (next_rowid (cursor_rows (world_of x.shared) (cursor_at x.scene.cursors c.args.cursor))))
    (ap (given_up s.stack s.shared) (c.one.ensures ∙ ap (λ t. only (Full t)) name) ∙ ap (drawn s c.args.to c.args.table.now) c.in-None.ensures)
    (c.give_up.ensures w)
