-- What a connection holds, what a statement's run says where all hosts that it names tell, and why a statement is refused.
use Rattle.std.specs.Prelude.{◌≡◌, ◌<◌, ℕ, List, length, Option, Some}
use Rattle.eng_value.specs.HostMeanings.{HostMeanings}
use Rattle.eng_value.specs.declared.cause.Cause.{Cause}
use Rattle.eng_value.specs.declared.cause.Cause.TheVariants as cause
use Rattle.eng_value.specs.declared.value.Value.{Value}
use Rattle.sql_meaning.specs.Named.{TextIsTold}
use Rattle.sql_meaning.specs.Permits.{WhereAsked}
use Rattle.sql_meaning.specs.Statement.{IsNamed, MayGive, Outcome, outcome_where, text_outcome}
use Rattle.sql_meaning.specs.Work.{bound_where, instruction_bound}
use Rattle.sql_meaning.specs.World.{State, context}
use Rattle.engine.specs.Taking.{Rows, Adds, AddsFront}

-- the state of the definitions, and how many instructions a statement may run
pub record Held : Type 0 where
  pub state : State
  pub budget : ℕ

-- so it is of what the text means and of the most instructions that it runs, where each host that it names tells what it means
abbrev pub WhereTold : HostMeanings → State → List Value → List ℕ → (Outcome → ℕ → Type 0) → Type 0
WhereTold hosts state params text P =
    TextIsTold (context hosts state params) text → P (text_outcome (context hosts state params) text) (instruction_bound (context hosts state params) text)

-- so it is of what the text means and of the most instructions that it runs, by what the authorizer said
abbrev pub WhereSaid : HostMeanings → State → List Value → List ℕ → (Outcome → ℕ → Type 0) → Type 0
WhereSaid hosts state params text P =
    WhereAsked hosts.authorizer (λ asked. P (outcome_where asked (context hosts state params) text) (bound_where asked (context hosts state params) text))

-- ---- the rows of a statement

-- all of them were taken
abbrev pub GivesAll : Outcome → Option Rows → Option Rows → Type 0
GivesAll o t0 t = (rows : Rows) × MayGive o rows × Adds t0 t rows

-- all of them, and they are so many
abbrev pub GivesCounted : Outcome → Option Rows → Option Rows → ℕ → Type 0
GivesCounted o t0 t count = (rows : Rows) × MayGive o rows × Adds t0 t rows × (count ≡ length rows)

-- a front of them
abbrev pub GivesFront : Outcome → Option Rows → Option Rows → Type 0
GivesFront o t0 t = (rows : Rows) × MayGive o rows × AddsFront t0 t rows

-- ---- causes

-- Why a statement is refused, where `o` is what it means over the state `old`, and `now` the state then, `bound` the most instructions that it needs, `ran` how many were run, `t0` and `t` what the sink tells before and after it, and `rose` says that the sink's count of faults rose.
pub data IsCause (o : Outcome) (old now : State) (budget bound ran : ℕ) (t0 t : Option Rows) (rose : Type 0) : Cause → Type 0 where
  -- want of memory is free
  no_memory : now ≡ old → IsCause o old now budget bound ran t0 t rose cause.Mem
  -- the budget was used up, and it is less than the statement needs
  used_up : now ≡ old → ran ≡ budget → budget < bound → IsCause o old now budget bound ran t0 t rose (cause.Interrupted budget)
  sink_failed : now ≡ old → rose → IsCause o old now budget bound ran t0 t rose cause.SinkFault
  -- one of the causes that the statement means, and all rows in front of it were taken
  meant : (why : Cause) → now ≡ o.next → IsNamed o.refusal (Some why) → GivesAll o t0 t → IsCause o old now budget bound ran t0 t rose why
