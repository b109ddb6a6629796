-- What EXPLAIN shows of what is ready is what it shows of the text, and lines that are handed over are rows of a plan.
use Rattle.std.proofs.Common.{◌≡◌, ◌⊎◌, inl, inr, ℕ, ◌-◌, ◌≤◌, arith, drop, take, List, [], ◌∷◌, ◌++◌, ℤ, length, Option, Some, None, is_some, true, Result, Ok, Err, refl, sym, ap, ◌∙◌, subst, append-nil}
use Rattle.std.specs.Prelude.{OnOk}
use Rattle.bind_stmt.specs.Binds.{IsBound, IsRefusal}
use Rattle.std.proofs.lemmas.List.{take-append-drop}
use Rattle.host_traits.specs.Faults.{Rose}
use Rattle.eng_entry.specs.Entries.{Entries}
use Rattle.eng_value.specs.Causes.{CauseSet}
use Rattle.eng_value.specs.HostMeanings.{HostMeanings}
use Rattle.eng_value.specs.declared.cause.Cause.{Cause}
use Rattle.eng_value.specs.declared.cause.Cause.TheVariants as cause
use Rattle.eng_value.specs.Environments.{Surroundings}
use Rattle.sql_meaning.proofs.ValidLaws.{same-ok}
use Rattle.sql_meaning.specs.Permits.{Asking}
use Rattle.sql_meaning.specs.Runnables.{Runnable, Creates, DoesNothing, Drops, Explains, Indexes, Puts, Queries, Shows as ShowsRows, Unindexes}
use Rattle.sql_meaning.specs.Statement.{Outcome, outcome_of, text_bound}
use Rattle.sql_meaning.specs.Valid.{IsWorld}
use Rattle.sql_meaning.specs.World.{State, context}
use Rattle.sql_tree.specs.declared.statement.Explain.{Explain}
use Rattle.sql_tree.specs.declared.statement.Explain.TheVariants.{Instructions, QueryPlan}
use Rattle.vm_code.specs.Machine.{World as Lists, Ending, IsSound, Run, Failed, Finished, PerformsWith, world_of}
use Rattle.vm_code.specs.declared.program.Program.{Program}
use Rattle.engine.specs.declared.answers.Done.{Done}
use Rattle.engine.specs.declared.preparing.Prepared.{Prepared}
use Rattle.engine.specs.declared.preparing.Ready.{Ready}
use Rattle.engine.specs.declared.preparing.Ready.TheVariants as ready
use Rattle.engine.specs.Causes.{IsCause, no_memory, sink_failed}
use Rattle.engine.specs.Connected.{CarriesOut}
use Rattle.engine.specs.Explained.{ComesTo, Explaining, IsPlain, IsShownAs, IsUntaken, ListsPlan, GivesLines, GivesReady, ListsReady, PlansReady, ShowsReady, TakesLines}
use Rattle.engine.specs.Held.{state_of, world_in}
use Rattle.engine.specs.Outcomes.{IsOther, outcome_behind, outcome_in, run_in, state_after, steps_in, surroundings_in}
use Rattle.engine.specs.Prepared.{MayRun, NamesWhatIsThere, Prepares, behind, bound_in}
use Rattle.engine.specs.Taking.{Adds, AddsFront, Rows}
use Rattle.engine.proofs.CarryingOut.{Shows, StandsFor, ended_by, named_by, named_none, refusal_none}
use Rattle.engine.proofs.Leaving.{changed_in, index_changed, index_next, index_shows, index_told, next_in, shows_in}
use Rattle.engine.proofs.Named.{ready_names, text_within}
use Rattle.engine.proofs.Takings.{adds_none, adds_then, rose_since}
use Rattle.engine.proofs.Texts.{plain_stands, within_behind}
use Rattle.engine.proofs.Writing.{left_told}

-- ---- plans

plan_shown : (x : Runnable) (r : Ready) (lines : Rows) → IsBound x (bound_in r) → PlansReady r lines → ListsPlan x lines
plan_shown (Creates e) (ready.Create n) lines at lists = lists
plan_shown (Creates e) (ready.Drop d) lines at lists = absurd at
plan_shown (Creates e) (ready.CreateIndex n) lines at lists = absurd at
plan_shown (Creates e) (ready.DropIndex n) lines at lists = absurd at
plan_shown (Creates e) (ready.Insert b) lines at lists = absurd at
plan_shown (Creates e) (ready.Select b) lines at lists = absurd at
plan_shown (Creates e) (ready.Values b) lines at lists = absurd at
plan_shown (Creates e) ready.Nothing lines at lists = absurd at
plan_shown (Drops t) (ready.Create n) lines at lists = absurd at
plan_shown (Drops t) (ready.Drop d) lines at lists = lists
plan_shown (Drops t) (ready.CreateIndex n) lines at lists = absurd at
plan_shown (Drops t) (ready.DropIndex n) lines at lists = absurd at
plan_shown (Drops t) (ready.Insert b) lines at lists = absurd at
plan_shown (Drops t) (ready.Select b) lines at lists = absurd at
plan_shown (Drops t) (ready.Values b) lines at lists = absurd at
plan_shown (Drops t) ready.Nothing lines at lists = absurd at
plan_shown (Indexes i) (ready.Create n) lines at lists = absurd at
plan_shown (Indexes i) (ready.Drop d) lines at lists = absurd at
plan_shown (Indexes i) (ready.CreateIndex n) lines at lists = lists
plan_shown (Indexes i) (ready.DropIndex n) lines at lists = absurd at
plan_shown (Indexes i) (ready.Insert b) lines at lists = absurd at
plan_shown (Indexes i) (ready.Select b) lines at lists = absurd at
plan_shown (Indexes i) (ready.Values b) lines at lists = absurd at
plan_shown (Indexes i) ready.Nothing lines at lists = absurd at
plan_shown (Unindexes name) (ready.Create n) lines at lists = absurd at
plan_shown (Unindexes name) (ready.Drop d) lines at lists = absurd at
plan_shown (Unindexes name) (ready.CreateIndex n) lines at lists = absurd at
plan_shown (Unindexes name) (ready.DropIndex n) lines at lists = lists
plan_shown (Unindexes name) (ready.Insert b) lines at lists = absurd at
plan_shown (Unindexes name) (ready.Select b) lines at lists = absurd at
plan_shown (Unindexes name) (ready.Values b) lines at lists = absurd at
plan_shown (Unindexes name) ready.Nothing lines at lists = absurd at
plan_shown (Puts p) (ready.Create n) lines at lists = absurd at
plan_shown (Puts p) (ready.Drop d) lines at lists = absurd at
plan_shown (Puts p) (ready.CreateIndex n) lines at lists = absurd at
plan_shown (Puts p) (ready.DropIndex n) lines at lists = absurd at
plan_shown (Puts p) (ready.Insert b) lines at lists = lists
plan_shown (Puts p) (ready.Select b) lines at lists = absurd at
plan_shown (Puts p) (ready.Values b) lines at lists = absurd at
plan_shown (Puts p) ready.Nothing lines at lists = absurd at
plan_shown (Queries q) (ready.Create n) lines at lists = absurd at
plan_shown (Queries q) (ready.Drop d) lines at lists = absurd at
plan_shown (Queries q) (ready.CreateIndex n) lines at lists = absurd at
plan_shown (Queries q) (ready.DropIndex n) lines at lists = absurd at
plan_shown (Queries q) (ready.Insert b) lines at lists = absurd at
plan_shown (Queries q) (ready.Select b) lines at lists = (b, at, lists)
plan_shown (Queries q) (ready.Values b) lines at lists = absurd at
plan_shown (Queries q) ready.Nothing lines at lists = absurd at
plan_shown (ShowsRows rows) (ready.Create n) lines at lists = absurd at
plan_shown (ShowsRows rows) (ready.Drop d) lines at lists = absurd at
plan_shown (ShowsRows rows) (ready.CreateIndex n) lines at lists = absurd at
plan_shown (ShowsRows rows) (ready.DropIndex n) lines at lists = absurd at
plan_shown (ShowsRows rows) (ready.Insert b) lines at lists = absurd at
plan_shown (ShowsRows rows) (ready.Select b) lines at lists = absurd at
plan_shown (ShowsRows rows) (ready.Values b) lines at lists = lists
plan_shown (ShowsRows rows) ready.Nothing lines at lists = absurd at
plan_shown DoesNothing (ready.Create n) lines at lists = absurd at
plan_shown DoesNothing (ready.Drop d) lines at lists = absurd at
plan_shown DoesNothing (ready.CreateIndex n) lines at lists = absurd at
plan_shown DoesNothing (ready.DropIndex n) lines at lists = absurd at
plan_shown DoesNothing (ready.Insert b) lines at lists = absurd at
plan_shown DoesNothing (ready.Select b) lines at lists = absurd at
plan_shown DoesNothing (ready.Values b) lines at lists = absurd at
plan_shown DoesNothing ready.Nothing lines at lists = lists
plan_shown (Explains how y) (ready.Create n) lines at lists = absurd at
plan_shown (Explains how y) (ready.Drop d) lines at lists = absurd at
plan_shown (Explains how y) (ready.CreateIndex n) lines at lists = absurd at
plan_shown (Explains how y) (ready.DropIndex n) lines at lists = absurd at
plan_shown (Explains how y) (ready.Insert b) lines at lists = absurd at
plan_shown (Explains how y) (ready.Select b) lines at lists = absurd at
plan_shown (Explains how y) (ready.Values b) lines at lists = absurd at
plan_shown (Explains how y) ready.Nothing lines at lists = absurd at

plain_bound_to : (x : Runnable) (r : Ready) → IsBound x (bound_in r) → IsPlain x
plain_bound_to (Creates e) r at = tt
plain_bound_to (Drops t) r at = tt
plain_bound_to (Indexes i) r at = tt
plain_bound_to (Unindexes name) r at = tt
plain_bound_to (Puts p) r at = tt
plain_bound_to (Queries q) r at = tt
plain_bound_to (ShowsRows rows) r at = tt
plain_bound_to DoesNothing r at = tt
plain_bound_to (Explains how y) (ready.Create n) at = absurd at
plain_bound_to (Explains how y) (ready.Drop d) at = absurd at
plain_bound_to (Explains how y) (ready.CreateIndex n) at = absurd at
plain_bound_to (Explains how y) (ready.DropIndex n) at = absurd at
plain_bound_to (Explains how y) (ready.Insert b) at = absurd at
plain_bound_to (Explains how y) (ready.Select b) at = absurd at
plain_bound_to (Explains how y) (ready.Values b) at = absurd at
plain_bound_to (Explains how y) ready.Nothing at = absurd at

-- ---- programs

module _ (hosts : HostMeanings) (entries : Entries) (lists : Lists) (changes : ℕ) (last : ℤ) where
  abbrev state : State
  state = state_of entries lists changes last

  abbrev around : Surroundings
  around = surroundings_in hosts [] lists

  abbrev run_of : Ready → Run
  run_of r = run_in r around last

  abbrev meant_by : Ready → Outcome
  meant_by r = outcome_in hosts entries lists changes last [] r

  shows_any : (r : Ready) → Shows state (meant_by r) (run_of r).ending (run_of r).shared
  shows_any (ready.Create n) = record { ended = refl; given = refl; kept = λ causes is. absurd (let bad : Finished ≡ Failed causes = is in cc) }
  shows_any (ready.Drop d) = shows_in hosts entries lists changes last [] (ready.Drop d) tt
  shows_any (ready.CreateIndex n) = index_shows hosts entries lists changes last n
  shows_any (ready.DropIndex name) = shows_in hosts entries lists changes last [] (ready.DropIndex name) tt
  shows_any (ready.Insert b) = shows_in hosts entries lists changes last [] (ready.Insert b) tt
  shows_any (ready.Select b) = shows_in hosts entries lists changes last [] (ready.Select b) tt
  shows_any (ready.Values rows) = shows_in hosts entries lists changes last [] (ready.Values rows) tt
  shows_any ready.Nothing = shows_in hosts entries lists changes last [] ready.Nothing tt

  -- the tables that a run leaves where it comes to its end
  tables_any : (r : Ready) → (run_of r).ending ≡ Finished → world_of (run_of r).shared ≡ (meant_by r).next.world.tables
  tables_any (ready.Create n) ends = refl
  tables_any (ready.Drop d) ends = refl
  tables_any (ready.CreateIndex n) ends = ap (λ (s : State). s.world.tables) (index_next hosts entries lists changes last n ends)
  tables_any (ready.DropIndex name) ends = refl
  tables_any (ready.Insert b) ends = ap (λ (s : State). s.world.tables) (next_in hosts entries lists changes last [] (ready.Insert b) tt ends)
  tables_any (ready.Select b) ends = refl
  tables_any (ready.Values rows) ends = refl
  tables_any ready.Nothing ends = refl

  -- and what it tells and changes
  told_any : (r : Ready) → (run_of r).ending ≡ Finished → (run_of r).shared.written.told ≡ (meant_by r).told
  told_any (ready.Create n) ends = refl
  told_any (ready.Drop d) ends = refl
  told_any (ready.CreateIndex n) ends = index_told hosts entries lists changes last n
  told_any (ready.DropIndex name) ends = refl
  told_any (ready.Insert b) ends = sym (left_told entries lists changes last (run_of (ready.Insert b)).ending (run_of (ready.Insert b)).shared ends)
  told_any (ready.Select b) ends = refl
  told_any (ready.Values rows) ends = refl
  told_any ready.Nothing ends = refl

  changed_any : (r : Ready) → (run_of r).ending ≡ Finished → (run_of r).shared.written.changes ≡ (meant_by r).changed
  changed_any (ready.Create n) ends = refl
  changed_any (ready.Drop d) ends = refl
  changed_any (ready.CreateIndex n) ends = index_changed hosts entries lists changes last n
  changed_any (ready.DropIndex name) ends = refl
  changed_any (ready.Insert b) ends = changed_in hosts entries lists changes last [] (ready.Insert b) tt ends
  changed_any (ready.Select b) ends = refl
  changed_any (ready.Values rows) ends = refl
  changed_any ready.Nothing ends = refl

  rowid_any : (r : Ready) → (run_of r).ending ≡ Finished → (run_of r).shared.written.last_rowid ≡ (meant_by r).next.last_rowid
  rowid_any (ready.Create n) ends = refl
  rowid_any (ready.Drop d) ends = refl
  rowid_any (ready.CreateIndex n) ends = ap (λ (s : State). s.last_rowid) (index_next hosts entries lists changes last n ends)
  rowid_any (ready.DropIndex name) ends = refl
  rowid_any (ready.Insert b) ends = ap (λ (s : State). s.last_rowid) (next_in hosts entries lists changes last [] (ready.Insert b) tt ends)
  rowid_any (ready.Select b) ends = refl
  rowid_any (ready.Values rows) ends = refl
  rowid_any ready.Nothing ends = refl

  -- an outcome for which a failed run stands is refused
  fails_by : (refusal : Option CauseSet) (e : Ending) (causes : CauseSet) → e ≡ ended_by refusal → e ≡ Failed causes → is_some refusal ≡ true
  fails_by None e causes is fails = absurd (let both : Finished ≡ Failed causes = sym is ∙ fails in cc)
  fails_by (Some others) e causes is fails = refl

  comes_to : (r : Ready) (o : Outcome) (p : Program) → IsSound lists → PerformsWith [] p (run_in r) (λ x. steps_in x r) → StandsFor o (meant_by r) → ComesTo hosts state o p
  comes_to r o p sound performs stands =
      let shows = shows_any r in
      record {
        most = steps_in around r;
        ending = (run_of r).ending;
        shared = (run_of r).shared;
        ends = performs around last refl sound;
        given = shows.given ∙ sym stands.given;
        fails = λ causes fails. stands.fails ∙ fails_by (meant_by r).refusal (run_of r).ending causes shows.ended fails;
        causes = λ causes fails why has. stands.refusal (Some why) (named_by (meant_by r).refusal (run_of r).ending causes why shows.ended fails has);
        done = λ finished. record {
          allowed = named_none o.refusal (stands.refusal None (rw (refusal_none (meant_by r).refusal (run_of r).ending shows.ended finished) tt));
          tables = tables_any r finished ∙ sym (ap (λ (s : State). s.world.tables) stands.next);
          told = told_any r finished ∙ sym stands.told;
          changed = changed_any r finished ∙ sym stands.changed;
          last_rowid = rowid_any r finished ∙ sym (ap (λ (s : State). s.last_rowid) stands.next);
        };
      }

  module _ (asked : Asking) (text : List ℕ) (valid : IsWorld (world_in entries lists)) (sound : IsSound lists) (size : ℕ) (p : Prepared) where
    -- what is ready is shown as the text's statement
    shown_as : (wanted : Explain) (lines : Rows) → (prepares : Prepares size (text_bound asked (world_in entries lists) text) (Ok p)) → ShowsReady wanted p.ready lines → IsShownAs wanted hosts state prepares.0 lines
    shown_as Instructions lines (x, is, at, small, has) (program, performs, accepted, labels, lists_it) = record {
      program = program;
      accepted = accepted (ready_names x p.ready at (within_behind asked hosts entries lists changes last [] text valid p.explain x (text_within asked (world_in entries lists) text _ is)));
      comes = comes_to p.ready _ program sound performs (plain_stands asked hosts entries lists changes last [] text valid p.explain x p.ready sound is at has);
      labels = labels;
      lists = lists_it;
    }
    shown_as QueryPlan lines (x, is, at, small, has) shows = plan_shown x p.ready lines at shows

    pub explains : (wanted : Explain) (result : Result Rows Cause) → Prepares size (text_bound asked (world_in entries lists) text) (Ok p) → ((lines : Rows) → result ≡ Ok lines → ShowsReady wanted p.ready lines)
        → ((why : Cause) → result ≡ Err why → why ≡ cause.Mem) → Explaining wanted asked hosts state text result
    explains wanted (Ok lines) prepares shows memory =
        (p.explain, prepares.0, plain_bound_to prepares.0 p.ready prepares.2, prepares.1, shown_as wanted lines prepares (shows lines refl))
    explains wanted (Err why) prepares shows memory = inl (memory why refl)

    -- the lines that a run gave are the text's
    gives_by : (e : Option Explain) (old new : Option Rows) (how : Explain) (x y : Runnable) → IsBound y (bound_in p.ready) → behind e y ≡ Explains how x → ((lines : Rows) (h : Explain) → e ≡ Some h → ShowsReady h p.ready lines → IsShownAs h hosts state y lines)
        → GivesReady e p.ready old new → (lines : Rows) × IsShownAs how hosts state x lines × Adds old new lines
    gives_by None old new how x y at same shown given = absurd (subst IsPlain same (plain_bound_to y p.ready at))
    gives_by (Some h) old new how x y at same shown given =
        let ways : h ≡ how = cc in
        let statements : y ≡ x = cc in
        let lines : IsShownAs h hosts state y given.0 = shown given.0 h refl given.1 in
        (given.0, subst (λ k. IsShownAs k hosts state x given.0) ways (subst (λ z. IsShownAs h hosts state z given.0) statements lines), given.2)

    pub gives : (old new : Option Rows) (result : Result Done Cause) → Prepares size (text_bound asked (world_in entries lists) text) (Ok p) → OnOk result (GivesReady p.explain p.ready old new) → OnOk result (GivesLines asked hosts state text old new)
    gives old new (Err why) prepares given = tt
    gives old new (Ok d) prepares given = λ how x is.
        let both : behind p.explain prepares.0 ≡ Explains how x = same-ok (behind p.explain prepares.0) (Explains how x) (sym prepares.1 ∙ is) in
        gives_by p.explain old new how x prepares.0 prepares.2 both (λ lines h way shows. shown_as h lines prepares shows) given

-- ---- lines that are handed over

-- where a line is not taken, those in front of it are
pub stopped_at : (lines : Rows) (k : ℕ) (t0 t u : Option Rows) (before since now : ℕ) (why : Cause) → before ≤ since → Adds t0 t (take k lines) → IsUntaken (Rose since now) why → Adds t u [] → TakesLines t0 u (Rose before now) lines (Err why)
stopped_at lines k t0 t u before since now why le taken untaken none =
    (by untaken, (take k lines, drop k lines, take-append-drop k lines, subst (Adds t0 u) (append-nil (take k lines)) (adds_then t0 t u (take k lines) [] taken none)))
  where
    by : IsUntaken (Rose since now) why → IsUntaken (Rose before now) why
    by (inl memory) = inl memory
    by (inr (failed, rises)) = inr (failed, rose_since before since now le rises)

front_none : (t : Option Rows) (lines : Rows) → AddsFront t t lines
front_none t lines = ([], lines, refl, adds_none t)

module _ (how : Explain) (state : State) (o : Outcome) (budget steps : ℕ) (t0 t : Option Rows) (rose : Type 0) where
  abbrev Carried : Result Done Cause → Type 0
  Carried result = CarriesOut (outcome_behind (Some how) state o) state state budget 0 (steps - steps) t0 t rose result

  pub handed_over : (lines : Rows) (result : Result Done Cause) → TakesLines t0 t rose lines result → Carried result
  handed_over lines (Ok d) (adds, given, changed) = record {
    answer = (refl, refl, (lines, tt, adds, given), changed);
    front = (lines, tt, (lines, [], append-nil lines, adds));
    within = omega arith;
  }
  handed_over lines (Err why) (inl memory, front) = record {
    answer = subst (λ (k : Cause). IsCause (outcome_behind (Some how) state o) state state budget 0 (steps - steps) t0 t rose k) (sym memory) (no_memory refl);
    front = (lines, tt, front);
    within = omega arith;
  }
  handed_over lines (Err why) (inr (failed, rises), front) = record {
    answer = subst (λ (k : Cause). IsCause (outcome_behind (Some how) state o) state state budget 0 (steps - steps) t0 t rose k) (sym failed) (sink_failed refl rises);
    front = (lines, tt, front);
    within = omega arith;
  }

-- nothing was handed over for want of memory
pub unshown : (how : Explain) (state : State) (o : Outcome) (budget steps : ℕ) (t : Option Rows) (rose : Type 0) (why : Cause) → why ≡ cause.Mem → CarriesOut (outcome_behind (Some how) state o) state state budget 0 (steps - steps) t t rose (Err why)
unshown how state o budget steps t rose why memory = handed_over how state o budget steps t t rose [] (Err why) (inl memory, front_none t [])

-- the lines of what is ready were given where all were taken
pub given_lines : (how : Explain) (r : Ready) (old new : Option Rows) (rose : Type 0) (lines : Rows) (result : Result Done Cause) → ShowsReady how r lines → TakesLines old new rose lines result → OnOk result (GivesReady (Some how) r old new)
given_lines how r old new rose lines (Ok d) shows takes = (lines, shows, takes.0)
given_lines how r old new rose lines (Err why) shows takes = tt
