use Rattle.std.proofs.Common.{◌-◌, ◌≡◌, ◌+◌, ◌≤◌, []}
use Rattle.eng_value.specs.HostMeanings.{Oracle}
use Rattle.vm_code.specs.Machine.{On, after, setting}
use Rattle.vm_core.specs.Events.{NoneInVain}
use Rattle.vm_core.specs.Paused.{state_at}
use Rattle.vm_core.proofs.machine.Machine.step.Given as goal

abbrev pub invariant-loop-budget : goal.invariant-loop-budget
invariant-loop-budget g l = record {
  from : l.initial.budget.ran ≤ l.budget.ran;
  within : l.budget.ran ≤ l.budget.whole;
  whole : l.budget.whole ≡ l.initial.budget.whole;
  counted : l.steps ≡ l.initial.steps + (l.budget.ran - l.initial.budget.ran);
  program : l.self-inside.program ≡ l.initial.self-inside.program;
  params : l.self-inside.params ≡ l.initial.self-inside.params;
  is : (ask : Oracle) → after (setting g.M.Meanings.hosts ask l.initial.self-inside.params l.initial.self-inside.program) (l.budget.ran - l.initial.budget.ran) (state_at l.initial.self-inside.running l.initial.tables.world []) ≡ On (state_at l.self-inside.running l.tables.world []);
  needed : (ask : Oracle) → NoneInVain (setting g.M.Meanings.hosts ask l.initial.self-inside.params l.initial.self-inside.program) (l.budget.ran - l.initial.budget.ran) (state_at l.initial.self-inside.running l.initial.tables.world []);
  marks : l.tables.marks ≡ l.initial.tables.marks;
}

abbrev pub decreases-loop-budget : goal.decreases-loop-budget
decreases-loop-budget g l = l.budget.whole - l.budget.ran
