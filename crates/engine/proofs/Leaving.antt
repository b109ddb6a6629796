-- What the runs of programs show and leave is what their statements mean.
use Rattle.std.proofs.Common.{◌≡◌, ℕ, Bool, true, false, ◌&&◌, if◌then◌else◌, List, [], Some, None, ℤ, refl, sym}
use Rattle.eng_entry.specs.Entries.{Entries, with_entry}
use Rattle.eng_index.specs.Keys.{has_doubles}
use Rattle.eng_value.specs.Causes.{CauseSet, named, only}
use Rattle.eng_value.specs.declared.cause.Cause.TheVariants.{Constraint}
use Rattle.eng_value.specs.declared.cause.ConstraintKind.TheVariants.{Unique}
use Rattle.eng_value.specs.Environments.{Surroundings}
use Rattle.eng_value.specs.HostMeanings.{HostMeanings}
use Rattle.eng_value.specs.declared.value.Value.{Value}
use Rattle.gen_query.specs.Queries.{items_in}
use Rattle.sql_meaning.specs.Statement.{Outcome, done, failed, shown_rows}
use Rattle.sql_meaning.specs.World.{State, context}
use Rattle.vm_code.specs.Machine.{World as Lists, Run, Finished, Failed, ending_by, rows_of, world_of}
use Rattle.engine.specs.Held.{state_of}
use Rattle.engine.specs.Outcomes.{IsOther, changed_by, index_outcome_in, outcome_in, run_in, state_after, surroundings_in}
use Rattle.engine.specs.declared.preparing.NewIndexEntry.{NewIndexEntry}
use Rattle.engine.specs.declared.preparing.Ready.{Ready}
use Rattle.engine.specs.declared.preparing.Ready.TheVariants as ready
use Rattle.engine.proofs.Bridges.{query_ended}
use Rattle.engine.proofs.CarryingOut.{Shows}
use Rattle.engine.proofs.Writing.{left_changed, left_next, left_shows}

module _ (hosts : HostMeanings) (entries : Entries) (lists : Lists) (changes : ℕ) (last : ℤ) (params : List Value) where
  abbrev state : State
  state = state_of entries lists changes last

  abbrev around : Surroundings
  around = surroundings_in hosts params lists

  abbrev run_of : Ready → Run
  run_of r = run_in r around last

  pub shows_in : (r : Ready) → IsOther r → Shows state (outcome_in hosts entries lists changes last params r) (run_of r).ending (run_of r).shared
  shows_in (ready.Create n) other = absurd other
  shows_in (ready.Drop d) other = record { ended = refl; given = refl; kept = λ causes is. absurd (let bad : Finished ≡ Failed causes = is in cc) }
  shows_in (ready.CreateIndex n) other = absurd other
  shows_in (ready.DropIndex name) other = record { ended = refl; given = refl; kept = λ causes is. absurd (let bad : Finished ≡ Failed causes = is in cc) }
  shows_in (ready.Insert b) other = left_shows entries lists changes last (run_of (ready.Insert b)).ending (run_of (ready.Insert b)).shared
  shows_in (ready.Select q) other = record { ended = query_ended state (items_in q around); given = refl; kept = λ causes is. refl }
  shows_in (ready.Values rows) other = record { ended = query_ended state (shown_rows (context hosts state params) rows); given = refl; kept = λ causes is. refl }
  shows_in ready.Nothing other = record { ended = refl; given = refl; kept = λ causes is. refl }

  pub next_in : (r : Ready) → IsOther r → (run_of r).ending ≡ Finished
      → state_after r entries (world_of (run_of r).shared) changes last (run_of r).shared.written.changes (run_of r).shared.written.last_rowid ≡ (outcome_in hosts entries lists changes last params r).next
  next_in (ready.Create n) other ends = absurd other
  next_in (ready.Drop d) other ends = refl
  next_in (ready.CreateIndex n) other ends = absurd other
  next_in (ready.DropIndex name) other ends = refl
  next_in (ready.Insert b) other ends = sym (left_next entries lists changes last (run_of (ready.Insert b)).ending (run_of (ready.Insert b)).shared ends)
  next_in (ready.Select q) other ends = refl
  next_in (ready.Values rows) other ends = refl
  next_in ready.Nothing other ends = refl

  pub changed_in : (r : Ready) → IsOther r → (run_of r).ending ≡ Finished → changed_by r (run_of r).shared.written.changes ≡ (outcome_in hosts entries lists changes last params r).changed
  changed_in (ready.Create n) other ends = absurd other
  changed_in (ready.Drop d) other ends = refl
  changed_in (ready.CreateIndex n) other ends = absurd other
  changed_in (ready.DropIndex name) other ends = refl
  changed_in (ready.Insert b) other ends = sym (left_changed entries lists changes last (run_of (ready.Insert b)).ending (run_of (ready.Insert b)).shared ends)
  changed_in (ready.Select q) other ends = refl
  changed_in (ready.Values rows) other ends = refl
  changed_in ready.Nothing other ends = refl

-- ---- CREATE INDEX

module _ (hosts : HostMeanings) (entries : Entries) (lists : Lists) (changes : ℕ) (last : ℤ) (n : NewIndexEntry) where
  abbrev index_run_of : Run
  index_run_of = run_in (ready.CreateIndex n) (surroundings_in hosts [] lists) last

  abbrev broken : Bool
  broken = n.index.unique && has_doubles n.index.terms (rows_of lists n.index.table)

  abbrev causes_of_it : CauseSet
  causes_of_it = only (Constraint Unique n.index.table_name)

  abbrev before : State
  before = state_of entries lists changes last

  abbrev outcome_by : Bool → Outcome
  outcome_by b = if b then failed before causes_of_it else done [] (state_of (with_entry n.entry entries) lists changes last)

  pub index_shows : Shows before (index_outcome_in entries lists changes last n) index_run_of.ending index_run_of.shared
  index_shows = by broken
    where
      by : (b : Bool) → Shows before (outcome_by b) (ending_by (if b then Some causes_of_it else None)) index_run_of.shared
      by true = record { ended = refl; given = refl; kept = λ causes is. refl }
      by false = record { ended = refl; given = refl; kept = λ causes is. absurd (let bad : Finished ≡ Failed causes = is in cc) }

  pub index_next : index_run_of.ending ≡ Finished → state_of (with_entry n.entry entries) lists changes last ≡ (index_outcome_in entries lists changes last n).next
  index_next = by broken
    where
      by : (b : Bool) → ending_by (if b then Some causes_of_it else None) ≡ Finished → state_of (with_entry n.entry entries) lists changes last ≡ (outcome_by b).next
      by true ends = absurd (let bad : Failed (named causes_of_it) ≡ Finished = ends in cc)
      by false ends = refl

  pub index_changed : 0 ≡ (index_outcome_in entries lists changes last n).changed
  index_changed = by broken
    where
      by : (b : Bool) → 0 ≡ (outcome_by b).changed
      by true = refl
      by false = refl

  pub index_told : index_run_of.shared.written.told ≡ (index_outcome_in entries lists changes last n).told
  index_told = by broken
    where
      by : (b : Bool) → [] ≡ (outcome_by b).told
      by true = refl
      by false = refl
