use Rattle.std.proofs.Common.{◌≡◌, ◌+◌, ◌-◌, [], ap, ◌∙◌, arith}
use Rattle.eng_value.specs.HostMeanings.{nobody}
use Rattle.vm_code.specs.Machine.{On, setting}
use Rattle.vm_core.specs.declared.event.Budget.{Budget}
use Rattle.vm_core.specs.Paused.{state_at, state_of}
use Rattle.vm_core.proofs.Steps.{after_count, event_pauses, event_stops, names_pauses, names_stops, none_in_vain, same_step, seen_as, needed_as}
use Rattle.vm_core.proofs.machine.Machine.step.Goals as goal

pub loop-budget-preserved : goal.loop-budget-preserved
loop-budget-preserved g c =
    let i = c.loop-budget.invariant in
    let s = state_at c.loop-budget.self-inside.running c.loop-budget.tables.world [] in
    let ran : c.count.new.budget.ran ≡ c.loop-budget.budget.ran + 1 = ap (λ (b : Budget). b.ran) c.count.ensures.budget in
    let whole : c.count.new.budget.whole ≡ c.loop-budget.budget.whole = ap (λ (b : Budget). b.whole) c.count.ensures.budget in
    let count : c.count.new.budget.ran - c.args.budget.now.ran ≡ c.loop-budget.budget.ran - c.args.budget.now.ran + 1 = omega arith in
    record {
      from = omega arith;
      within = omega arith;
      whole = whole ∙ i.whole;
      counted = omega arith;
      program = i.program;
      params = i.params;
      is = λ ask. after_count (setting g.M.Meanings.hosts ask c.self.inside.params c.self.inside.program) _ _ _ s (On (state_at c.instruction.new.running c.instruction.new.tables.world [])) count (i.is ask) (same_step g.M.Meanings.hosts c.requires.told ask c.self.inside.params c.loop-budget.self-inside.params i.params c.self.inside.program c.program.result.now (c.program.ensures.same ∙ i.program) s ∙ c.in-Going.ensures.leads ask);
      needed = λ ask k e. none_in_vain (setting g.M.Meanings.hosts ask c.self.inside.params c.self.inside.program) _ _ _ _ count (i.is ask) k e;
      marks = c.in-Going.ensures.marks ∙ i.marks;
    }

pub returns-in-Pausing-clause-event : goal.returns-in-Pausing-clause-event
returns-in-Pausing-clause-event g c honest ask =
    let i = c.loop-budget.invariant in
    event_pauses (setting g.M.Meanings.hosts ask c.args.self.now.params c.args.self.now.prog) _ (state_of c.args.self.now c.args.tables.now.world []) _ _ _ _ (c.in-Pausing.ensures.leads ask) (seen_as g.M.Meanings.hosts ask c.self.inside.program c.self.inside.params c.self.inside.running c.args.self.now c.self.view_is _ c.args.tables.now.world _ (i.is ask))

pub returns-in-Pausing-clause-needed : goal.returns-in-Pausing-clause-needed
returns-in-Pausing-clause-needed g c honest ask =
    needed_as g.M.Meanings.hosts ask c.self.inside.program c.self.inside.params c.self.inside.running c.args.self.now c.self.view_is _ c.args.tables.now.world (c.loop-budget.invariant.needed ask)

pub returns-in-Pausing-clause-interrupted : goal.returns-in-Pausing-clause-interrupted
returns-in-Pausing-clause-interrupted g c = names_pauses _ _ _ _ (c.in-Pausing.ensures.leads nobody)

pub returns-in-Stopping-clause-event : goal.returns-in-Stopping-clause-event
returns-in-Stopping-clause-event g c honest ask =
    let i = c.loop-budget.invariant in
    let s = state_at c.loop-budget.self-inside.running c.loop-budget.tables.world [] in
    let ran : c.count-in-Stopping.new.budget.ran ≡ c.loop-budget.budget.ran + 1 = ap (λ (b : Budget). b.ran) c.count-in-Stopping.ensures.budget in
    let count : c.count-in-Stopping.new.budget.ran - c.args.budget.now.ran ≡ c.loop-budget.budget.ran - c.args.budget.now.ran + 1 = omega arith in
    let same = same_step g.M.Meanings.hosts c.requires.told ask c.self.inside.params c.loop-budget.self-inside.params i.params c.self.inside.program c.program.result.now (c.program.ensures.same ∙ i.program) s in
    event_stops (setting g.M.Meanings.hosts ask c.args.self.now.params c.args.self.now.prog) (c.count-in-Stopping.new.budget.ran - c.args.budget.now.ran) (state_of c.args.self.now c.args.tables.now.world []) _ _ _ _ (c.in-Stopping.ensures.leads ask) (seen_as g.M.Meanings.hosts ask c.self.inside.program c.self.inside.params c.self.inside.running c.args.self.now c.self.view_is _ c.args.tables.now.world _ (after_count (setting g.M.Meanings.hosts ask c.self.inside.params c.self.inside.program) _ _ _ s _ count (i.is ask) same))

pub returns-in-Stopping-clause-interrupted : goal.returns-in-Stopping-clause-interrupted
returns-in-Stopping-clause-interrupted g c = names_stops _ _ _ _ (c.in-Stopping.ensures.leads nobody)

pub returns-in-Stopping-clause-needed : goal.returns-in-Stopping-clause-needed
returns-in-Stopping-clause-needed g c honest ask =
    let i = c.loop-budget.invariant in
    let s = state_at c.loop-budget.self-inside.running c.loop-budget.tables.world [] in
    let ran : c.count-in-Stopping.new.budget.ran ≡ c.loop-budget.budget.ran + 1 = ap (λ (b : Budget). b.ran) c.count-in-Stopping.ensures.budget in
    let count : c.count-in-Stopping.new.budget.ran - c.args.budget.now.ran ≡ c.loop-budget.budget.ran - c.args.budget.now.ran + 1 = omega arith in
    needed_as g.M.Meanings.hosts ask c.self.inside.program c.self.inside.params c.self.inside.running c.args.self.now c.self.view_is _ c.args.tables.now.world (none_in_vain (setting g.M.Meanings.hosts ask c.self.inside.params c.self.inside.program) _ _ _ s count (i.is ask))

pub returns-clause-needed : goal.returns-clause-needed
returns-clause-needed g c honest ask =
    needed_as g.M.Meanings.hosts ask c.self.inside.program c.self.inside.params c.self.inside.running c.args.self.now c.self.view_is _ c.args.tables.now.world (c.loop-budget.invariant.needed ask)
