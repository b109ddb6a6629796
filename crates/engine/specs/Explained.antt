-- What EXPLAIN shows of a statement: the listing of a program that does what it means, or the lines of a plan. Their names are free.
use Rattle.std.specs.Prelude.{◌≡◌, ◌⊎◌, ◌∷◌, ⊤, ℕ, false, true, List, [], length, Option, Some, None, is_some, Result, Ok, Err}
use Rattle.bind_stmt.specs.Binds.{IsQueryAs, IsRefusal}
use Rattle.eng_value.specs.Causes.{CauseSet, has_cause}
use Rattle.eng_value.specs.HostMeanings.{HostMeanings, nobody}
use Rattle.eng_value.specs.declared.cause.Cause.{Cause}
use Rattle.eng_value.specs.declared.cause.Cause.TheVariants as cause
use Rattle.eng_value.specs.declared.value.Value.{Value}
use Rattle.gen_query.specs.Queries.{conjuncts_of}
use Rattle.plan_lines.specs.Lines.{lines_of}
use Rattle.plan_lines.specs.declared.labels.ItemLabel.{ItemLabel}
use Rattle.plan_tree.specs.Plans.{PlanFits}
use Rattle.plan_tree.specs.declared.access.JoinPlan.{JoinPlan}
use Rattle.sql_meaning.specs.Permits.{Asking}
use Rattle.sql_meaning.specs.Runnables.{Runnable, Explains, Queries, Shows}
use Rattle.sql_meaning.specs.Statement.{IsNamed, Outcome, outcome_of, text_bound}
use Rattle.sql_meaning.specs.World.{State, context}
use Rattle.sql_meaning.specs.declared.bound.BoundSelect.{BoundSelect}
use Rattle.sql_tree.specs.declared.statement.Explain.{Explain}
use Rattle.sql_tree.specs.declared.statement.Explain.TheVariants.{Instructions, QueryPlan}
use Rattle.table_labels.specs.declared.TableLabel.{TableLabel}
use Rattle.vm_code.specs.Accepted.{IsAccepted}
use Rattle.vm_code.specs.Machine.{Ending, Ends, Failed, Finished, PerformsWith, Shared, setting, start, world_of}
use Rattle.vm_code.specs.declared.program.Program.{Program}
use Rattle.vm_listing.specs.Listing.{listing_of}
use Rattle.engine.specs.declared.answers.Done.{Done}
use Rattle.engine.specs.declared.answers.Refusal.{Refusal}
use Rattle.engine.specs.declared.preparing.Ready.{Ready}
use Rattle.engine.specs.declared.preparing.Ready.TheVariants as ready
use Rattle.engine.specs.Outcomes.{run_in, steps_in}
use Rattle.engine.specs.Prepared.{NamesWhatIsThere, behind}
use Rattle.engine.specs.Taking.{Adds, AddsFront, Rows}

-- ---- of a text

abbrev pub IsPlain : Runnable → Type 0
IsPlain (Explains how x) = ⊥
IsPlain x = ⊤

-- a run that ends well leaves and tells what the outcome does
pub record LeavesAs (o : Outcome) (x : Shared) : Type 0 where
  pub allowed : o.refusal ≡ None
  pub tables : world_of x ≡ o.next.world.tables
  pub told : x.written.told ≡ o.told
  pub changed : x.written.changes ≡ o.changed
  pub last_rowid : x.written.last_rowid ≡ o.next.last_rowid

-- The run of a program over the tables of a state, with each parameter NULL, comes to this outcome: it gives its rows, and fails where it is refused, by its causes.
pub record ComesTo (hosts : HostMeanings) (state : State) (o : Outcome) (p : Program) : Type 0 where
  pub most : ℕ
  pub ending : Ending
  pub shared : Shared
  pub ends : Ends (setting hosts nobody [] p) most (start p state.world.tables state.last_rowid) ending shared
  pub given : shared.given ≡ o.given
  pub fails : (causes : CauseSet) → ending ≡ Failed causes → is_some o.refusal ≡ true
  pub causes : (causes : CauseSet) → ending ≡ Failed causes → (why : Cause) → has_cause causes why ≡ true → IsNamed o.refusal (Some why)
  pub done : ending ≡ Finished → LeavesAs o shared

-- the listing of a program that keeps the rules and comes to what the statement means
pub record ListsProgram (hosts : HostMeanings) (state : State) (x : Runnable) (lines : Rows) : Type 0 where
  pub program : Program
  pub accepted : IsAccepted program
  pub comes : ComesTo hosts state (outcome_of (context hosts state []) x) program
  pub labels : List TableLabel
  pub lists : lines ≡ listing_of program labels

-- the lines of this plan
abbrev pub AreLinesOf : JoinPlan → Rows → Type 0
AreLinesOf plan lines = (labels : List ItemLabel) × (lines ≡ lines_of plan labels)

-- a plan without loops
abbrev pub no_loops : JoinPlan
no_loops = record { checks = []; loops = []; sort = false }

-- of a query that was bound, the lines of a plan that fits it
abbrev pub PlansBound : BoundSelect → Rows → Type 0
PlansBound b lines = (plan : JoinPlan) × PlanFits [] b.from (conjuncts_of b) plan × AreLinesOf plan lines

-- a query has the lines of a plan that fits it, rows of values that of a plan without loops, and no other statement has any
abbrev pub ListsPlan : Runnable → Rows → Type 0
ListsPlan (Queries q) lines = (b : BoundSelect) × IsQueryAs q b × PlansBound b lines
ListsPlan (Shows rows) lines = AreLinesOf no_loops lines
ListsPlan x lines = lines ≡ []

abbrev pub IsShownAs : Explain → HostMeanings → State → Runnable → Rows → Type 0
IsShownAs Instructions hosts state x lines = ListsProgram hosts state x lines
IsShownAs QueryPlan hosts state x lines = ListsPlan x lines

-- What is shown is the statement that the text means, or that behind its EXPLAIN; or why the text means none; and memory may be wanting.
abbrev pub Explaining : Explain → Asking → HostMeanings → State → List ℕ → Result Rows Cause → Type 0
Explaining wanted asked hosts state text (Ok lines) =
    (how : Option Explain) × (x : Runnable) × IsPlain x × (text_bound asked state.world text ≡ Ok (behind how x)) × IsShownAs wanted hosts state x lines
Explaining wanted asked hosts state text (Err why) = IsRefusal (text_bound asked state.world text) why

-- the lines that show the statement behind the EXPLAIN of a text were taken
abbrev pub GivesLines : Asking → HostMeanings → State → List ℕ → Option Rows → Option Rows → Type 0
GivesLines asked hosts state text old new =
    (how : Explain) (x : Runnable) → text_bound asked state.world text ≡ Ok (Explains how x) → (lines : Rows) × IsShownAs how hosts state x lines × Adds old new lines

abbrev pub by_cause : Result Rows Refusal → Result Rows Cause
by_cause (Ok lines) = Ok lines
by_cause (Err refusal) = Err refusal.cause

-- ---- of what is ready

abbrev pub ListsReady : Ready → Rows → Type 0
ListsReady r lines =
    (p : Program) × PerformsWith [] p (run_in r) (λ x. steps_in x r) × (NamesWhatIsThere r → IsAccepted p) × (labels : List TableLabel) × (lines ≡ listing_of p labels)

abbrev pub PlansReady : Ready → Rows → Type 0
PlansReady (ready.Select b) lines = PlansBound b lines
PlansReady (ready.Values rows) lines = AreLinesOf no_loops lines
PlansReady r lines = lines ≡ []

abbrev pub ShowsReady : Explain → Ready → Rows → Type 0
ShowsReady Instructions r lines = ListsReady r lines
ShowsReady QueryPlan r lines = PlansReady r lines

-- those lines were taken where it stands behind EXPLAIN
abbrev pub GivesReady : Option Explain → Ready → Option Rows → Option Rows → Type 0
GivesReady None r old new = ⊤
GivesReady (Some how) r old new = (lines : Rows) × ShowsReady how r lines × Adds old new lines

-- ---- lines that are handed to a sink

-- memory was wanting, or the sink failed
abbrev pub IsUntaken : Type 0 → Cause → Type 0
IsUntaken rose why = (why ≡ cause.Mem) ⊎ ((why ≡ cause.SinkFault) × rose)

abbrev pub TakesLine : {A : Type 0} → Option Rows → Option Rows → Type 0 → List Value → Result A Cause → Type 0
TakesLine old new rose line (Ok u) = Adds old new (line ∷ [])
TakesLine old new rose line (Err why) = IsUntaken rose why × Adds old new []

-- all of them were taken, or a front
abbrev pub TakesLines : Option Rows → Option Rows → Type 0 → Rows → Result Done Cause → Type 0
TakesLines old new rose lines (Ok d) = Adds old new lines × (d.given ≡ length lines) × (d.changed ≡ 0)
TakesLines old new rose lines (Err why) = IsUntaken rose why × AddsFront old new lines
