-- A stretch of a run: what the machine over lists gives from one state to another, and what of that a sink takes.
use Rattle.std.specs.Prelude.{◌≡◌, ℕ, [], ◌∷◌, Bool, true, false, length, Ok, Err}
use Rattle.std.specs.declared.option.Option.{Option}
use Rattle.std.specs.declared.result.Result.{Result}
use Rattle.vm_code.specs.Machine.{Row, Setting, State, On, End, Finished, Failed, after}
use Rattle.engine.specs.declared.running.Stop.{Stop}
use Rattle.engine.specs.declared.running.Stop.TheVariants as stop
use Rattle.engine.specs.Taking.{Rows, Adds}

-- from this state on the machine over lists comes to where it has given these rows
pub record Gives (m : Setting) (s : State) (rows : Rows) : Type 0 where
  pub steps : ℕ
  pub state : State
  pub is : after m steps s ≡ On state
  pub given : state.shared.given ≡ rows

-- where the machine over lists is when a run stops, after `n` instructions from the state `s` and `ran` of the whole budget; `t` is
-- the state then, by the rows that were given, `rows` were taken, and `rose` says that the sink's count of faults rose
abbrev pub StopsAt : Setting → ℕ → State → (Rows → State) → ℕ → ℕ → Type 0 → Rows → Stop → Type 0
StopsAt m n s t whole ran rose rows (stop.Bad causes) = after m n s ≡ End (Failed causes) (t rows).shared
StopsAt m n s t whole ran rose rows (stop.Interrupted k) = (after m n s ≡ On (t rows)) × (k ≡ whole) × (ran ≡ whole)
StopsAt m n s t whole ran rose rows stop.SinkFault = Gives m s rows × rose
StopsAt m n s t whole ran rose rows stop.Mem = Gives m s rows

-- to the next row, which the sink takes, or to the end
abbrev pub NextIs : Setting → ℕ → State → (Rows → State) → ℕ → ℕ → Type 0 → Option Rows → Option Rows → Result Bool Stop → Type 0
NextIs m n s t whole ran rose old new (Ok true) = (row : Row) × (after m n s ≡ On (t (row ∷ []))) × Adds old new (row ∷ [])
NextIs m n s t whole ran rose old new (Ok false) = (after m n s ≡ End Finished (t []).shared) × Adds old new []
NextIs m n s t whole ran rose old new (Err why) = StopsAt m n s t whole ran rose [] why × Adds old new []

-- a row was handed to a sink, and taken or not
abbrev pub TakesOne : Option Rows → Option Rows → Type 0 → Row → Result Bool Stop → Type 0
TakesOne old new rose row (Ok taken) = (taken ≡ true) × Adds old new (row ∷ [])
TakesOne old new rose row (Err (stop.Bad causes)) = ⊥
TakesOne old new rose row (Err (stop.Interrupted k)) = ⊥
TakesOne old new rose row (Err stop.SinkFault) = rose × Adds old new []
TakesOne old new rose row (Err stop.Mem) = Adds old new []

-- to the end, with the number of rows that the sink took
abbrev pub DriveIs : Setting → ℕ → State → (Rows → State) → ℕ → Type 0 → Option Rows → Option Rows → Result ℕ Stop → Type 0
DriveIs m n s t whole rose old new (Ok given) =
    (rows : Rows) × (after m n s ≡ End Finished (t rows).shared) × Adds old new rows × (given ≡ length rows)
DriveIs m n s t whole rose old new (Err why) = (rows : Rows) × StopsAt m n s t whole n rose rows why × Adds old new rows
