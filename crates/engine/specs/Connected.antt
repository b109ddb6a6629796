-- What a statement's run says, in the words of what the statement means.
use Rattle.std.specs.Prelude.{◌≡◌, ◌≤◌, ℕ, Option, None, Result, Ok, Err}
use Rattle.eng_value.specs.declared.cause.Cause.{Cause}
use Rattle.sql_meaning.specs.Statement.{Outcome}
use Rattle.sql_meaning.specs.World.{State}
use Rattle.engine.specs.declared.answers.Done.{Done}
use Rattle.engine.specs.Causes.{GivesCounted, GivesFront, IsCause}
use Rattle.engine.specs.Taking.{Rows}

-- where `o` is what the statement means over the state `old`, and `now` the state then
abbrev pub Carries : Outcome → State → State → ℕ → ℕ → ℕ → Option Rows → Option Rows → Type 0 → Result Done Cause → Type 0
Carries o old now budget bound ran t0 t rose (Ok d) =
    (o.refusal ≡ None) × (now ≡ o.next) × GivesCounted o t0 t d.given × (d.changed ≡ o.changed)
Carries o old now budget bound ran t0 t rose (Err why) = IsCause o old now budget bound ran t0 t rose why

-- the same, with a front of the rows taken, and no more instructions run than the bound
pub record CarriesOut (o : Outcome) (old now : State) (budget bound ran : ℕ) (t0 t : Option Rows) (rose : Type 0) (result : Result Done Cause) : Type 0 where
  pub answer : Carries o old now budget bound ran t0 t rose result
  pub front : GivesFront o t0 t
  pub within : ran ≤ bound
