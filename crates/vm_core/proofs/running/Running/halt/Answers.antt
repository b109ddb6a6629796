use Rattle.std.proofs.Common.{[], ap, ◌∙◌}
use Rattle.vm_code.specs.Machine.{given_up, leads_to, leaving_of, read}
use Rattle.vm_core.specs.Paused.{Progress, state_at}
use Rattle.vm_core.proofs.Steps.{acts_behind}
use Rattle.vm_core.proofs.running.Running.halt.Goals as goal

pub returns : goal.returns
returns c w =
    let now = c.self.inside in
    let whole : Progress = record {
      unit = now.unit;
      pc = now.pc;
      regs = now.registers;
      inputs = record { args = now.args; running = [] };
      scene = record { cursors = now.cursors.items; slots = [] };
      store = record { lists = now.sorters; groups = []; rows = [] };
      stack = now.frames;
      changes = now.changes;
      last_rowid = now.last_rowid;
    } in
    let part : Progress = record whole { regs = c.take.new.self } in
    acts_behind c.give_up.result c.give_up.new.event part c.args.self.now w c.give_up.new.self w (λ x. given_up x.stack x.shared c.in-Bad.causes) (λ x. leads_to (leaving_of (read x.regs c.args.register)) x.stack x.shared)
    (ap (λ o. leads_to (leaving_of o) whole.stack (state_at whole w []).shared) c.in-Bad.ensures.out ∙ ap (λ (p : Progress). leads_to (leaving_of (read p.regs c.args.register)) p.stack (state_at p w []).shared) c.self.view_is)
    (c.give_up.ensures w)
