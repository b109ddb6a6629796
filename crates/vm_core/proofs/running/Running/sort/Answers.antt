use Rattle.std.proofs.Common.{[], ap, ◌∙◌}
use Rattle.eng_value.specs.Arrangements.{arranged}
use Rattle.vm_code.specs.Machine.{comes_before, last_list, other_lists, sorted_to, with_lists}
use Rattle.vm_core.specs.Paused.{Progress, state_at}
use Rattle.vm_core.proofs.Steps.{acts_behind}
use Rattle.vm_core.proofs.running.Running.sort.Goals as goal

pub returns : goal.returns
returns c = λ e w.
    let now = c.self.inside in
    let terms = c.args.terms.now in
    let cursor = c.args.cursor in
    let target = c.args.target in
    let rows = c.in_ok-rows.rows in
    let whole : Progress = record {
      unit = now.unit;
      pc = now.pc;
      regs = now.registers;
      inputs = record { args = now.args; running = [] };
      scene = record { cursors = now.cursors.items; slots = [] };
      store = record { lists = now.sorters; groups = []; rows = [] };
      stack = now.frames;
      changes = now.changes;
      last_rowid = now.last_rowid;
    } in
    let part : Progress = record whole { store = record { lists = c.sort_last.new.self; groups = []; rows = [] } } in
    acts_behind c.stand_before.result e part c.args.self.now w c.stand_before.new.self w (λ s. sorted_to s cursor target rows) (λ s. sorted_to (with_lists s (other_lists s.store.lists)) cursor target (arranged (comes_before terms) (last_list s.store.lists)))
    (ap (sorted_to (state_at part w []) cursor target) c.in_ok-rows.ensures.rows ∙ ap (λ l. sorted_to (with_lists (state_at whole w []) l) cursor target (arranged (comes_before terms) (last_list now.sorters))) c.in_ok-rows.ensures.left ∙ ap (λ (p : Progress). sorted_to (with_lists (state_at p w []) (other_lists p.store.lists)) cursor target (arranged (comes_before terms) (last_list p.store.lists))) c.self.view_is)
    (c.stand_before.ensures e w)
