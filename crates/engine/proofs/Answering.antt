-- What a program's run says, by causes.
use Rattle.std.proofs.Common.{ℕ, Option, Ok, Err, sym, subst}
use Rattle.eng_value.specs.declared.cause.Cause.{Cause}
use Rattle.eng_value.specs.declared.cause.Cause.TheVariants as cause
use Rattle.vm_code.specs.Machine.{World, Shared, Ending}
use Rattle.engine.specs.declared.running.Completed.{Completed}
use Rattle.engine.specs.declared.running.Stop.{Stop}
use Rattle.engine.specs.declared.running.Stop.TheVariants as stop
use Rattle.engine.specs.Executing.{Refuses, no_memory, used_up, sink_failed, failed, NamesStop, AnswersAs, ExecutesAs}
use Rattle.engine.specs.Running.{CompletesAs, RunsAs}
use Rattle.engine.specs.Taking.{Rows}

module _ (e : Ending) (x : Shared) (most budget ran : ℕ) (w : World) (t0 t : Option Rows) (rose : Type 0) where
  -- a run to the end
  pub executes-Ok : (c : Completed) → RunsAs e x most budget ran w t0 t rose (Ok c) → ExecutesAs e x most budget ran w t0 t rose (Ok c)
  executes-Ok c r = record { answer = r.answer; front = r.front; within = r.within }

  stopped : (s : Stop) (k : Cause) → NamesStop s k → CompletesAs e x most budget ran w t0 t rose (Err s) → AnswersAs e x most budget ran w t0 t rose (Err k)
  stopped (stop.Bad causes) k names (is, took) = failed k causes is names took
  stopped (stop.Interrupted n) k names (a, b, c) =
      subst (Refuses e x most budget ran t0 t rose) (sym names) (subst (λ m. Refuses e x most budget ran t0 t rose (cause.Interrupted m)) (sym a) (used_up (rw (← a) b) (rw (← a) c)))
  stopped stop.SinkFault k names r = subst (Refuses e x most budget ran t0 t rose) (sym names) (sink_failed r)
  stopped stop.Mem k names none = subst (Refuses e x most budget ran t0 t rose) (sym names) no_memory

  -- a run that stopped
  pub executes-Err : (s : Stop) (k : Cause) → NamesStop s k → RunsAs e x most budget ran w t0 t rose (Err s) → ExecutesAs e x most budget ran w t0 t rose (Err k)
  executes-Err s k names r = record { answer = stopped s k names r.answer; front = r.front; within = r.within }
