-- What a run of a program comes to, in the words of the machine over lists.
use Rattle.std.specs.Prelude.{◌≡◌, ◌<◌, ◌≤◌, ⊤, ℕ, length, Ok, Err}
use Rattle.std.specs.declared.option.Option.{Option}
use Rattle.std.specs.declared.result.Result.{Result}
use Rattle.vm_code.specs.Machine.{World, Shared, Ending, Finished, Failed, world_of}
use Rattle.engine.specs.declared.running.Completed.{Completed}
use Rattle.engine.specs.declared.running.Stop.{Stop}
use Rattle.engine.specs.declared.running.Stop.TheVariants as stop
use Rattle.engine.specs.Taking.{Rows, Adds, AddsFront}

-- what a run says, where the machine over lists ends so with this shared, with these tables then and from this sink to that; `rose` says that the sink's count of faults rose
abbrev pub CompletesAs : Ending → Shared → ℕ → ℕ → ℕ → World → Option Rows → Option Rows → Type 0 → Result Completed Stop → Type 0
CompletesAs e x most whole ran w t0 t rose (Ok c) =
    (e ≡ Finished) × (w ≡ world_of x) × Adds t0 t x.given × (c.given ≡ length x.given) × (c.changed ≡ x.written.changes) × (c.last_rowid ≡ x.written.last_rowid)
CompletesAs e x most whole ran w t0 t rose (Err (stop.Bad causes)) = (e ≡ Failed causes) × Adds t0 t x.given
CompletesAs e x most whole ran w t0 t rose (Err (stop.Interrupted n)) = (n ≡ whole) × (ran ≡ n) × (n < most)
CompletesAs e x most whole ran w t0 t rose (Err stop.SinkFault) = rose
CompletesAs e x most whole ran w t0 t rose (Err stop.Mem) = ⊤

-- the same, with a front of the rows taken and no more instructions run than the machine over lists needs
pub record RunsAs (e : Ending) (x : Shared) (most whole ran : ℕ) (w : World) (t0 t : Option Rows) (rose : Type 0) (result : Result Completed Stop) : Type 0 where
  pub answer : CompletesAs e x most whole ran w t0 t rose result
  pub front : AddsFront t0 t x.given
  pub within : ran ≤ most
