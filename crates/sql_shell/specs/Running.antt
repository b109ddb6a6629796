-- What a run of a script's parts came to, from one to the next.
use Rattle.std.specs.Prelude.{◌≡◌, ◌≤◌, ◌+◌, Bool, ℕ, List}
use Rattle.std.specs.List.{list_any}
use Rattle.std.specs.Io.KnownBytes.{Appends}
use Rattle.std.specs.declared.option.Option.{Option}
use Rattle.eng_value.specs.HostMeanings.{HostMeanings}
use Rattle.eng_value.specs.declared.value.Value.{Value}
use Rattle.sql_meaning.specs.declared.script.Failure.{Failure}
use Rattle.sql_meaning.specs.declared.script.Options.{Options}
use Rattle.sql_meaning.specs.Due.{CutShort}
use Rattle.sql_meaning.specs.Parts.{Part, Statement}
use Rattle.sql_meaning.specs.Runs.{last_state}
use Rattle.sql_meaning.specs.Script.{Came, Come, PartComes, ends, instructions, is_failed, lines_of}
use Rattle.sql_meaning.specs.World.{State}

-- a statement came to these rows, this failure, so many instructions and this state
abbrev pub CameTo : HostMeanings → ℕ → State → List ℕ → List (List Value) → Option Failure → ℕ → State → Type 0
CameTo hosts budget state text rows failure ran next =
    PartComes hosts budget state (Statement text) (record { failure = failure; given = rows; ran = ran; next = next })

-- parts ran from `state` to `next` and came to something: what was written, how many instructions were run, whether one has an error
-- line, and whether the script ended at one
pub record Ran (hosts : HostMeanings) (options : Options) (state next : State) (parts : List Part) (old new : Option (List ℕ)) (before after : ℕ) (failed ended : Bool) : Type 0 where
  pub came : List Came
  pub outcomes : Come hosts options state parts came
  pub state_is : next ≡ last_state state came
  pub lines : Appends old new (lines_of came)
  pub failures : failed ≡ list_any is_failed came
  pub endings : ended ≡ list_any (ends options) came
  pub ran : after ≡ before + instructions came

-- a run of parts that may have ended early: it can go on to this, of whose lines a front was written
pub record RanPartly (hosts : HostMeanings) (options : Options) (state : State) (parts : List Part) (old new : Option (List ℕ)) (before after : ℕ) : Type 0 where
  pub came : List Came
  pub outcomes : Come hosts options state parts came
  pub front : CutShort old new (lines_of came)
  pub ran : after ≤ before + instructions came
