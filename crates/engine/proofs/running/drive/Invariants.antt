use Rattle.std.proofs.Common.{◌≡◌, ◌≤◌, ◌+◌, ◌-◌}
use Rattle.eng_value.specs.HostMeanings.{Oracle}
use Rattle.vm_code.specs.Honesty.{ProgramIsTold}
use Rattle.vm_core.specs.Meant.{meant}
use Rattle.engine.proofs.Stretches.{Along}
use Rattle.engine.proofs.running.drive.Given as goal

abbrev pub invariant-loop-given : goal.invariant-loop-given
invariant-loop-given g l = record {
  within : l.budget.ran ≤ l.budget.whole;
  whole : l.budget.whole ≡ l.initial.budget.whole;
  counted : l.steps ≡ l.initial.steps + l.budget.ran;
  program : l.machine.prog ≡ l.initial.machine.prog;
  params : l.machine.params ≡ l.initial.machine.params;
  marks : l.tables.marks ≡ l.initial.tables.marks;
  faults : g.R.RowSink.fault_count l.initial.rows ≤ g.R.RowSink.fault_count l.rows;
  few : l.given ≤ l.budget.ran;
  told : meant (λ b. (goal.Authorizer-dyn g (b.vtable, b.value)).verdicts b.value) l.hosts ≡ g.M.Meanings.hosts;
  along : ProgramIsTold g.M.Meanings.hosts l.initial.machine.prog → (ask : Oracle) → Along g.M.Meanings.hosts ask l.initial.machine l.machine l.initial.tables.world l.tables.world (g.R.RowSink.taken l.initial.rows) (g.R.RowSink.taken l.rows) l.budget.ran l.given;
}

abbrev pub decreases-loop-given : goal.decreases-loop-given
decreases-loop-given g l = l.budget.whole - l.budget.ran
