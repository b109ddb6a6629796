-- What the run of a statement's program comes to, by causes.
use Rattle.std.specs.Prelude.{◌≡◌, ◌<◌, ◌≤◌, ℕ, true, length, Option, Result, Ok, Err}
use Rattle.eng_value.specs.Causes.{CauseSet, has_cause}
use Rattle.eng_value.specs.declared.cause.Cause.{Cause}
use Rattle.eng_value.specs.declared.cause.Cause.TheVariants as cause
use Rattle.vm_code.specs.Machine.{World, Shared, Ending, Finished, Failed, world_of}
use Rattle.engine.specs.declared.running.Completed.{Completed}
use Rattle.engine.specs.declared.running.Stop.{Stop}
use Rattle.engine.specs.declared.running.Stop.TheVariants as stop
use Rattle.engine.specs.Taking.{Rows, Adds, AddsFront}

-- Why a program did not run to its end, where the machine over lists ends so with this shared.
pub data Refuses (e : Ending) (x : Shared) (most budget ran : ℕ) (t0 t : Option Rows) (rose : Type 0) : Cause → Type 0 where
  no_memory : Refuses e x most budget ran t0 t rose cause.Mem
  used_up : ran ≡ budget → budget < most → Refuses e x most budget ran t0 t rose (cause.Interrupted budget)
  sink_failed : rose → Refuses e x most budget ran t0 t rose cause.SinkFault
  -- the run ends with causes, of which this is one
  failed : (why : Cause) (causes : CauseSet) → e ≡ Failed causes → has_cause causes why ≡ true → Adds t0 t x.given → Refuses e x most budget ran t0 t rose why

-- the cause of a stop, and one of several
abbrev pub NamesStop : Stop → Cause → Type 0
NamesStop (stop.Bad causes) k = has_cause causes k ≡ true
NamesStop (stop.Interrupted n) k = k ≡ cause.Interrupted n
NamesStop stop.SinkFault k = k ≡ cause.SinkFault
NamesStop stop.Mem k = k ≡ cause.Mem

-- what a program's run says, where the machine over lists ends so with this shared, with these tables then and from this sink to that
abbrev pub AnswersAs : Ending → Shared → ℕ → ℕ → ℕ → World → Option Rows → Option Rows → Type 0 → Result Completed Cause → Type 0
AnswersAs e x most budget ran w t0 t rose (Ok c) =
    (e ≡ Finished) × (w ≡ world_of x) × Adds t0 t x.given × (c.given ≡ length x.given) × (c.changed ≡ x.written.changes) × (c.last_rowid ≡ x.written.last_rowid)
AnswersAs e x most budget ran w t0 t rose (Err k) = Refuses e x most budget ran t0 t rose k

-- the same, with a front of the rows taken and no more instructions run than the machine over lists needs
pub record ExecutesAs (e : Ending) (x : Shared) (most budget ran : ℕ) (w : World) (t0 t : Option Rows) (rose : Type 0) (result : Result Completed Cause) : Type 0 where
  pub answer : AnswersAs e x most budget ran w t0 t rose result
  pub front : AddsFront t0 t x.given
  pub within : ran ≤ most
