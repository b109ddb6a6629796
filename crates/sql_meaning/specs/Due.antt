-- What was read, and what was written of what is due.
use Rattle.std.specs.Prelude.{◌≡◌, ◌≤◌, ℕ, ◌+◌, List, ◌++◌, length, Some, None}
use Rattle.std.specs.declared.option.Option.{Option}
use Rattle.std.specs.Io.KnownBytes.{Appends, IsAtEnd}
use Rattle.eng_value.specs.HostMeanings.{HostMeanings}
use Rattle.eng_value.specs.declared.limits.TheConstants.{MAX_SCRIPT_BYTES}
use Rattle.sql_meaning.specs.declared.script.Ending.{Ending}
use Rattle.sql_meaning.specs.declared.script.Ending.TheVariants.{End, ReadFault, TooLong}
use Rattle.sql_meaning.specs.declared.script.Options.{Options}
use Rattle.sql_meaning.specs.Script.{Came, AreOutcomes, instructions, lines_of, status_by}

-- a source that tells had these bytes in front of what it has left
abbrev pub IsRead : Option (List ℕ) → Option (List ℕ) → List ℕ → Type 0
IsRead None left bytes = ⊥
IsRead (Some xs) None bytes = ⊥
IsRead (Some xs) (Some ys) bytes = xs ≡ bytes ++ ys

-- P holds of all bytes that the source told
abbrev pub ForTold : Option (List ℕ) → Option (List ℕ) → (List ℕ → Type 0) → Type 0
ForTold old new P = (bytes : List ℕ) → IsRead old new bytes → P bytes

-- what was written since, and then the rest, is all that is due
abbrev pub Along : Option (List ℕ) → Option (List ℕ) → List ℕ → List ℕ → Type 0
Along old new rest all = (part : List ℕ) × Appends old new part × (part ++ rest ≡ all)

-- a front of what is due was written
abbrev pub CutShort : Option (List ℕ) → Option (List ℕ) → List ℕ → Type 0
CutShort old new all = (rest : List ℕ) × Along old new rest all

-- the bytes may have this ending, with `left` behind them: the end only where nothing is left, and a byte past the limit exactly where it was read
abbrev pub MayEnd : List ℕ → Option (List ℕ) → Ending → Type 0
MayEnd bytes left End = IsAtEnd left × (length bytes ≤ MAX_SCRIPT_BYTES)
MayEnd bytes left ReadFault = length bytes ≤ MAX_SCRIPT_BYTES
MayEnd bytes left TooLong = length bytes ≡ MAX_SCRIPT_BYTES + 1

-- the parts of these bytes came to some outcomes; their lines were written, their instructions were run, and the status is theirs
pub record IsScript (hosts : HostMeanings) (options : Options) (bytes : List ℕ) (ending : Ending) (old new : Option (List ℕ)) (before after : ℕ) (status : ℕ) : Type 0 where
  pub came : List Came
  pub outcomes : AreOutcomes hosts options bytes ending came
  pub lines : Appends old new (lines_of came)
  pub ran : after ≡ before + instructions came
  pub result : status ≡ status_by options ending came

-- a front of the lines of outcomes to which the parts of these bytes can come was written, and no more instructions were run than theirs
pub record IsFrontOfScript (hosts : HostMeanings) (options : Options) (bytes : List ℕ) (left old new : Option (List ℕ)) (before after : ℕ) : Type 0 where
  pub ending : Ending
  pub may_end : MayEnd bytes left ending
  pub came : List Came
  pub outcomes : AreOutcomes hosts options bytes ending came
  pub front : CutShort old new (lines_of came)
  pub ran : after ≤ before + instructions came
