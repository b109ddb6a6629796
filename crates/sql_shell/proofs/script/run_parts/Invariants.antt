use Rattle.std.proofs.Common.{◌≡◌, ◌≤◌, length}
use Rattle.std.specs.Str.{IsUtf8}
use Rattle.sql_shell.proofs.Running.{SoFar}
use Rattle.vm_core.specs.Meant.{meant}
use Rattle.sql_shell.proofs.script.run_parts.Given as goal

abbrev pub invariant-loop-rest : goal.invariant-loop-rest
invariant-loop-rest g l = record {
  so_far : SoFar g.M.Meanings.hosts l.options l.pending_runs l.text l.rest l.is_fresh l.connection.state (g.K.Sink.written l.fn.out) (g.K.Sink.written l.out) l.fn.steps l.steps l.failed;
  utf8 : IsUtf8 l.rest;
  later : g.K.Sink.fault_count l.fn.out ≤ g.K.Sink.fault_count l.out;
  budget : l.connection.budget ≡ l.options.budget;
  ticks : l.fn.steps ≤ l.steps;
  told : meant (λ b. (goal.Authorizer-dyn g (b.vtable, b.value)).verdicts b.value) l.hosts ≡ g.M.Meanings.hosts;
}

abbrev pub decreases-loop-rest : goal.decreases-loop-rest
decreases-loop-rest g l = length l.rest
