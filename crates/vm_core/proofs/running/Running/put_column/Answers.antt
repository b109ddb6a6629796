use Rattle.std.proofs.Common.{◌≡◌, ◌+◌, [], rules, ap, sym, subst, ◌∙◌, w64, to_z, of_z}
use Rattle.eng_value.specs.Environments.{column_of}
use Rattle.eng_value.specs.declared.out.Out.TheVariants.{Good}
use Rattle.eng_value.specs.declared.value.Value.TheVariants.{Integer, Text}
use Rattle.vm_code.specs.Machine.{On, current, cursor_at, put}
use Rattle.vm_core.specs.Events.{ActsOver}
use Rattle.vm_core.specs.Paused.{Progress, state_at}
use Rattle.vm_core.proofs.running.Running.put_column.Goals as goal

pub returns-in-Integer : goal.returns-in-Integer
returns-in-Integer c e =
    let old = c.args.self.now in
    let w = c.args.tables.now.world in
    let n : to_z w64 (of_z w64 c.in-Integer.n) ≡ c.in-Integer.n = search rules in
    let leads = c.put_integer.ensures e w in
    let cursors = c.deref.ensures.value ∙ ap (λ (p : Progress). p.scene.cursors) c.self.view_is in
    let column : column_of (current w (cursor_at old.scene.cursors c.args.cursor)) c.args.place ≡ Good (Integer c.in-Integer.n) = ap (λ l. column_of (current w (cursor_at l c.args.cursor)) c.args.place) (sym cursors) ∙ c.in-Integer.ensures in
    subst (λ v. ActsOver c.put_integer.result e old w c.put_integer.new.self w (λ s. put s c.args.to v)) (sym column) (rw n at leads)

pub returns-in_ok-write_str-in-Text : goal.returns-in_ok-write_str-in-Text
returns-in_ok-write_str-in-Text c e =
    let now = c.self.inside in
    let w = c.args.tables.now.world in
    let whole : Progress = record {
      unit = now.unit;
      pc = now.pc;
      regs = now.registers;
      inputs = record { args = now.args; running = [] };
      scene = record { cursors = now.cursors.items; slots = [] };
      store = record { lists = now.sorters; groups = []; rows = [] };
      stack = now.frames;
      changes = now.changes;
      last_rowid = now.last_rowid;
    } in
    let column : column_of (current w (cursor_at now.cursors.items c.args.cursor)) c.args.place ≡ Good (Text c.in-Text.text.now) = ap (λ l. column_of (current w (cursor_at l c.args.cursor)) c.args.place) (sym c.deref.ensures.value) ∙ c.in-Text.ensures in
    ap (λ (p : Progress). put (state_at p w []) c.args.to (column_of (current w (cursor_at p.scene.cursors c.args.cursor)) c.args.place)) (sym c.self.view_is)
    ∙ ap (put (state_at whole w []) c.args.to) column
    ∙ ap (λ regs. On (state_at (record whole { pc = whole.pc + 1; regs = regs }) w [])) (sym c.in_ok-write_str-in-Text.ensures)
