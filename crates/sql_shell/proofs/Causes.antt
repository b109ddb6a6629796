-- What a run of a statement answers is something that the statement can come to.
use Rattle.std.proofs.Common.{◌≡◌, ◌≢◌, ℕ, ◌<◌, ◌≤◌, List, [], ◌++◌, Some, None, Ok, Err, IfOk, Result, false, refl, sym, ◌∙◌, ap, subst, arith}
use Rattle.std.specs.declared.option.Option.{Option}
use Rattle.eng_value.specs.Causes.{CauseSet}
use Rattle.eng_value.specs.HostMeanings.{HostMeanings}
use Rattle.eng_value.specs.declared.cause.Cause.{Cause}
use Rattle.eng_value.specs.declared.cause.Cause.TheVariants as cause
use Rattle.eng_value.specs.declared.value.Value.{Value}
use Rattle.engine.specs.Causes.{GivesAll, GivesFront, IsCause, no_memory, used_up, sink_failed, meant}
use Rattle.host_traits.specs.Faults.{Rose}
use Rattle.sql_meaning.specs.declared.script.Failure.TheVariants.{Refused}
use Rattle.sql_meaning.specs.Named.{TextIsTold}
use Rattle.sql_meaning.specs.Script.{Came, Comes, as_meant, cut_off, is_bad_character}
use Rattle.sql_meaning.specs.Statement.{IsNamed, Outcome, text_outcome}
use Rattle.sql_meaning.specs.Work.{instruction_bound}
use Rattle.sql_meaning.specs.World.{Context, State, context}
use Rattle.sql_shell.specs.declared.given.Given.{Given}
use Rattle.sql_shell.specs.declared.stop.Stop.{Stop}
use Rattle.sql_shell.specs.Running.{CameTo}
use Rattle.sql_shell.specs.Taken.{rows_of}

not_refused : (causes : Option CauseSet) → causes ≡ None → IsNamed causes None
not_refused None e = tt
not_refused (Some set) e = cc

-- a refusal is no bad character
pub refused_good : (r : Result Given Stop) (why : Cause) → IfOk r (λ g. g.failure ≡ Some (Refused why)) → IfOk r (λ g. is_bad_character g.failure ≡ false)
refused_good (Ok g) why is = ap is_bad_character is
refused_good (Err stop) why is = tt

-- what is not refused is none either
pub done_good : (r : Result Given Stop) → IfOk r (λ g. g.failure ≡ None) → IfOk r (λ g. is_bad_character g.failure ≡ false)
done_good (Ok g) is = ap is_bad_character is
done_good (Err stop) is = tt

module _ (h : HostMeanings) (budget : ℕ) (s : State) (text : List ℕ) (rows : List (List Value)) (ran : ℕ) (next : State) where
  abbrev ctx : Context
  ctx = context h s []

  abbrev means : Outcome
  means = text_outcome ctx text

  abbrev bound : ℕ
  bound = instruction_bound ctx text

  abbrev came : Option Cause → Came
  came None = record { failure = None; given = rows; ran = ran; next = next }
  came (Some why) = record { failure = Some (Refused why); given = rows; ran = ran; next = next }

  came_done : means.refusal ≡ None → GivesAll means (Some []) (Some rows) → next ≡ means.next → ran ≤ budget → ran ≤ bound → Comes budget 0 ctx text (came None)
  came_done e gives becomes within few =
      subst (λ rs. Comes budget 0 ctx text (record { failure = None; given = rs; ran = ran; next = next })) (sym gives.2)
      (subst (λ st. Comes budget 0 ctx text (record { failure = None; given = gives.0; ran = ran; next = st })) (sym becomes) (as_meant None gives.0 ran (not_refused means.refusal e) gives.1 (omega arith) (omega arith)))

  -- what is given of it
  pub came_whole : ran ≤ budget → (TextIsTold ctx text → ran ≤ bound) → (r : Result Given Stop) → (TextIsTold ctx text → means.refusal ≡ None) → (TextIsTold ctx text → GivesAll means (Some []) (Some rows)) → (TextIsTold ctx text → next ≡ means.next)
      → IfOk r (λ g. rows_of g.rows ≡ rows) → IfOk r (λ g. g.failure ≡ None) → IfOk r (λ g. CameTo h budget s text (rows_of g.rows) g.failure ran next)
  came_whole within few (Err stop) done gives becomes rows_are why_is = tt
  came_whole within few (Ok g) done gives becomes rows_are why_is =
      λ told.
      let comes = came_done (done told) (gives told) (becomes told) within (few told) in
      subst (λ rs. Comes budget 0 ctx text (record { failure = g.failure; given = rs; ran = ran; next = next })) (sym rows_are)
      (subst (λ w. Comes budget 0 ctx text (record { failure = w; given = rows; ran = ran; next = next })) (sym why_is) comes)

  -- a refusal names one of the causes
  came_named : (why : Cause) → IsNamed means.refusal (Some why) → GivesAll means (Some []) (Some rows) → next ≡ means.next → ran ≤ budget → ran ≤ bound → Comes budget 0 ctx text (came (Some why))
  came_named why named gives becomes within few =
      subst (λ rs. Comes budget 0 ctx text (record { failure = Some (Refused why); given = rs; ran = ran; next = next })) (sym gives.2)
      (subst (λ st. Comes budget 0 ctx text (record { failure = Some (Refused why); given = gives.0; ran = ran; next = st })) (sym becomes) (as_meant (Some why) gives.0 ran named gives.1 (omega arith) (omega arith)))

  -- or the statement is interrupted behind a front of its rows
  came_interrupted : next ≡ s → ran ≡ budget → budget < bound → GivesFront means (Some []) (Some rows) → Comes budget 0 ctx text (came (Some (cause.Interrupted budget)))
  came_interrupted same all below gives =
      let front = gives.2 in
      let whole : rows ++ front.1 ≡ gives.0 = ap (λ rs. rs ++ front.1) front.3 ∙ front.2 in
      subst (λ st. Comes budget 0 ctx text (record { failure = Some (Refused (cause.Interrupted budget)); given = rows; ran = ran; next = st })) (sym same)
      (cut_off gives.0 rows front.1 ran gives.1 whole (omega arith) below)

  refused_from : (why : Cause) → why ≢ cause.Mem → ran ≤ budget → ran ≤ bound → GivesFront means (Some []) (Some rows)
      → IsCause means s next budget bound ran (Some []) (Some rows) (Rose 0 0) why → Comes budget 0 ctx text (came (Some why))
  refused_from why other within few front (no_memory same) = absurd (other refl)
  refused_from why other within few front (used_up same all below) = came_interrupted same all below front
  refused_from why other within few front (sink_failed same rose) = absurd (omega arith)
  refused_from why other within few front (meant why' becomes named gives) = came_named why named gives becomes within few

  -- so that a refusal that ends no run is one that it can come to
  pub came_refused : ran ≤ budget → (TextIsTold ctx text → ran ≤ bound) → (why : Cause) (start end : List (List Value)) (r : Result Given Stop) → start ≡ [] → rows ≡ end
      → (TextIsTold ctx text → GivesFront means (Some start) (Some end)) → (TextIsTold ctx text → IsCause means s next budget bound ran (Some start) (Some end) (Rose 0 0) why)
      → IfOk r (λ g. rows_of g.rows ≡ rows) → IfOk r (λ g. g.failure ≡ Some (Refused why)) → IfOk r (λ g. why ≢ cause.Mem) → IfOk r (λ g. CameTo h budget s text (rows_of g.rows) g.failure ran next)
  came_refused within few why start end (Err stop) none all front is rows_are why_is other = tt
  came_refused within few why start end (Ok g) none all front is rows_are why_is other =
      λ told.
      let from_none = subst (λ xs. GivesFront means (Some xs) (Some end)) none (front told) in
      let cause_from_none = subst (λ xs. IsCause means s next budget bound ran (Some xs) (Some end) (Rose 0 0) why) none (is told) in
      let comes = refused_from why other within (few told) (subst (λ xs. GivesFront means (Some []) (Some xs)) (sym all) from_none)
      (subst (λ xs. IsCause means s next budget bound ran (Some []) (Some xs) (Rose 0 0) why) (sym all) cause_from_none) in
      subst (λ rs. Comes budget 0 ctx text (record { failure = g.failure; given = rs; ran = ran; next = next })) (sym rows_are)
      (subst (λ w. Comes budget 0 ctx text (record { failure = w; given = rows; ran = ran; next = next })) (sym why_is) comes)
