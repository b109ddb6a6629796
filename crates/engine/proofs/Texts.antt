-- What a text means whose statement is ready to run: the outcome of what is ready, where tables go by their numbers.
use Rattle.std.proofs.Common.{◌≡◌, ◌<◌, ◌-◌, inl, inr, ℕ, not, List, ℤ, length, Option, Some, None, Ok, Err, All, slice_index_or, refl, subst, sym, ap, ◌∙◌}
use Rattle.bind_stmt.specs.Binds.{IsBound, IsRefusal}
use Rattle.eng_entry.specs.Entries.{Entries, entry_named, is_index_on}
use Rattle.eng_entry.specs.declared.entry.Entry.{Entry}
use Rattle.eng_value.specs.HostMeanings.{HostMeanings}
use Rattle.eng_value.specs.declared.cause.Cause.{Cause}
use Rattle.eng_value.specs.declared.value.Value.{Value}
use Rattle.sql_meaning.proofs.TableLaws.{entries-by, found-all, index-no_table}
use Rattle.sql_meaning.proofs.RowidPlaces.{found-places}
use Rattle.sql_meaning.proofs.ValidLaws.{FitsIn, index-else, text-fits}
use Rattle.sql_meaning.specs.Runnables.{Runnable, Creates, DoesNothing, Drops, Explains, Indexes, NewIndex, Puts, Queries, Shows, Unindexes}
use Rattle.sql_meaning.specs.Declarations.{table_of, tables_of}
use Rattle.sql_meaning.specs.Permits.{Asking}
use Rattle.sql_meaning.specs.Statement.{Outcome, bound_outcome, create_outcome, outcome_of, outcome_where, text_bound, unindex_outcome}
use Rattle.sql_meaning.specs.Valid.{IsEntry, IsTable, IsWorld}
use Rattle.sql_meaning.specs.World.{Context, State, context}
use Rattle.sql_tree.specs.declared.statement.Explain.{Explain}
use Rattle.vm_code.specs.Machine.{World as Lists, IsSound}
use Rattle.engine.specs.declared.preparing.NewEntry.{NewEntry}
use Rattle.engine.specs.declared.preparing.NewIndexEntry.{NewIndexEntry}
use Rattle.engine.specs.declared.preparing.Ready.{Ready}
use Rattle.engine.specs.declared.preparing.Ready.TheVariants as ready
use Rattle.engine.specs.Held.{state_of, world_in}
use Rattle.engine.specs.Outcomes.{outcome_behind, outcome_in}
use Rattle.engine.specs.Connected.{CarriesOut}
use Rattle.engine.specs.Prepared.{HasEntry, IsNew, IsNewIndex, LeavesNoTable, MayRun, behind, bound_in}
use Rattle.engine.specs.Taking.{Rows}
use Rattle.engine.proofs.CarryingOut.{StandsFor, stands_same, carries_Mem, carries_refused}
use Rattle.meaning_laws.specs.Runs.{RunnableIsWithin}
use Rattle.engine.proofs.Named.{ready_names, text_within}
use Rattle.engine.proofs.Bridges.{drop_same, index_same, put_same, query_same}

module _ (asked : Asking) (hosts : HostMeanings) (entries : Entries) (lists : Lists) (changes : ℕ) (last : ℤ) (params : List Value) (text : List ℕ) (valid : IsWorld (world_in entries lists)) where
  abbrev state : State
  state = state_of entries lists changes last

  abbrev ctx : Context
  ctx = context hosts state params

  abbrev Fits : Runnable → Type 0
  Fits x = FitsIn entries (length lists) x

  -- ---- what was bound

  is_new : (e : Entry) (n : NewEntry) → Fits (Creates e) → HasEntry (Creates e) (ready.Create n) → IsNew entries n
  is_new e n fits has = record {
    kind = ap (λ (x : Entry). x.kind) has.0 ∙ fits.entry.kind;
    free = ap (λ (x : Entry). entry_named x.name entries.names) has.0 ∙ fits.free;
    declared = ap table_of has.0 ∙ has.1;
  }

  is_new_index : (i : NewIndex) (n : NewIndexEntry) → Fits (Indexes i) → HasEntry (Indexes i) (ready.CreateIndex n) → IsNewIndex entries n
  is_new_index i n fits has = record {
    kind = ap (λ (x : Entry). x.kind) has ∙ fits.entry.kind;
    free = ap (λ (x : Entry). entry_named x.name entries.names) has ∙ fits.free;
    undeclared = ap table_of has ∙ index-no_table i.entry fits.entry.index fits.entry.creates;
  }

  -- the entries of a table's indexes are those of no table
  indexes_else : (table : List ℕ) → All (LeavesNoTable (λ e. not (is_index_on table e))) entries.names
  indexes_else table = entries-by (IsEntry (tables_of entries)) (LeavesNoTable (λ e. not (is_index_on table e))) entries.names (index-else table (tables_of entries)) valid.entries

  by_ready : (x : Runnable) (r : Ready) → RunnableIsWithin x → Fits x → IsBound x (bound_in r) → HasEntry x r → MayRun entries r
  by_ready (Creates e) (ready.Create n) within fits at has = is_new e n fits has
  by_ready (Drops t) (ready.Create n) within fits at has = absurd at
  by_ready (Indexes i) (ready.Create n) within fits at has = absurd at
  by_ready (Unindexes name) (ready.Create n) within fits at has = absurd at
  by_ready (Puts p) (ready.Create n) within fits at has = absurd at
  by_ready (Queries q) (ready.Create n) within fits at has = absurd at
  by_ready (Shows rows) (ready.Create n) within fits at has = absurd at
  by_ready DoesNothing (ready.Create n) within fits at has = absurd at
  by_ready (Creates e) (ready.CreateIndex n) within fits at has = absurd at
  by_ready (Drops t) (ready.CreateIndex n) within fits at has = absurd at
  by_ready (Indexes i) (ready.CreateIndex n) within fits at has = is_new_index i n fits has
  by_ready (Unindexes name) (ready.CreateIndex n) within fits at has = absurd at
  by_ready (Puts p) (ready.CreateIndex n) within fits at has = absurd at
  by_ready (Queries q) (ready.CreateIndex n) within fits at has = absurd at
  by_ready (Shows rows) (ready.CreateIndex n) within fits at has = absurd at
  by_ready DoesNothing (ready.CreateIndex n) within fits at has = absurd at
  by_ready (Explains how y) (ready.Create n) within fits at has = absurd at
  by_ready (Explains how y) (ready.CreateIndex n) within fits at has = absurd at
  by_ready x (ready.Drop d) within fits at has = indexes_else d.name
  by_ready x (ready.DropIndex n) within fits at has = ready_names x (ready.DropIndex n) at within
  by_ready x (ready.Insert b) within fits at has = ready_names x (ready.Insert b) at within
  by_ready x (ready.Select b) within fits at has = ready_names x (ready.Select b) at within
  by_ready x (ready.Values b) within fits at has = ready_names x (ready.Values b) at within
  by_ready x ready.Nothing within fits at has = tt

  -- what stands behind EXPLAIN fits and reads as it does without
  fits_behind : (how : Option Explain) (x : Runnable) → Fits (behind how x) → Fits x
  fits_behind None x fits = fits
  fits_behind (Some how) x fits = fits

  pub within_behind : (how : Option Explain) (x : Runnable) → RunnableIsWithin (behind how x) → RunnableIsWithin x
  within_behind None x within = within
  within_behind (Some how) x within = within

  pub may_run : (how : Option Explain) (x : Runnable) (r : Ready) → text_bound asked (world_in entries lists) text ≡ Ok (behind how x) → IsBound x (bound_in r) → HasEntry x r → MayRun entries r
  may_run how x r is at has =
      by_ready x r (within_behind how x (text_within asked (world_in entries lists) text (behind how x) is)) (fits_behind how x (text-fits asked (world_in entries lists) text (behind how x) is)) at has

  bound_stands : (x : Runnable) (r : Ready) → IsSound lists → Fits x → IsBound x (bound_in r) → HasEntry x r → StandsFor (outcome_of ctx x) (outcome_in hosts entries lists changes last params r)
  bound_stands (Creates e) (ready.Create n) sound fits at has = stands_same _ _ (ap (create_outcome state) (sym has.0))
  bound_stands (Creates e) (ready.Drop d) sound fits at has = absurd at
  bound_stands (Creates e) (ready.CreateIndex n) sound fits at has = absurd at
  bound_stands (Creates e) (ready.DropIndex n) sound fits at has = absurd at
  bound_stands (Creates e) (ready.Insert b) sound fits at has = absurd at
  bound_stands (Creates e) (ready.Select b) sound fits at has = absurd at
  bound_stands (Creates e) (ready.Values b) sound fits at has = absurd at
  bound_stands (Creates e) ready.Nothing sound fits at has = absurd at
  bound_stands (Drops t) (ready.Create n) sound fits at has = absurd at
  bound_stands (Drops t) (ready.Drop d) sound fits at has = stands_same _ _ (drop_same hosts entries lists changes last params t d at.0 at.1)
  bound_stands (Drops t) (ready.CreateIndex n) sound fits at has = absurd at
  bound_stands (Drops t) (ready.DropIndex n) sound fits at has = absurd at
  bound_stands (Drops t) (ready.Insert b) sound fits at has = absurd at
  bound_stands (Drops t) (ready.Select b) sound fits at has = absurd at
  bound_stands (Drops t) (ready.Values b) sound fits at has = absurd at
  bound_stands (Drops t) ready.Nothing sound fits at has = absurd at
  bound_stands (Indexes i) (ready.Create n) sound fits at has = absurd at
  bound_stands (Indexes i) (ready.Drop d) sound fits at has = absurd at
  bound_stands (Indexes i) (ready.CreateIndex n) sound fits at has = stands_same _ _ (index_same hosts entries lists changes last params i n at has)
  bound_stands (Indexes i) (ready.DropIndex n) sound fits at has = absurd at
  bound_stands (Indexes i) (ready.Insert b) sound fits at has = absurd at
  bound_stands (Indexes i) (ready.Select b) sound fits at has = absurd at
  bound_stands (Indexes i) (ready.Values b) sound fits at has = absurd at
  bound_stands (Indexes i) ready.Nothing sound fits at has = absurd at
  bound_stands (Unindexes name) (ready.Create n) sound fits at has = absurd at
  bound_stands (Unindexes name) (ready.Drop d) sound fits at has = absurd at
  bound_stands (Unindexes name) (ready.CreateIndex n) sound fits at has = absurd at
  bound_stands (Unindexes name) (ready.DropIndex n) sound fits at has = stands_same _ _ (ap (unindex_outcome state) (sym at))
  bound_stands (Unindexes name) (ready.Insert b) sound fits at has = absurd at
  bound_stands (Unindexes name) (ready.Select b) sound fits at has = absurd at
  bound_stands (Unindexes name) (ready.Values b) sound fits at has = absurd at
  bound_stands (Unindexes name) ready.Nothing sound fits at has = absurd at
  bound_stands (Puts p) (ready.Create n) sound fits at has = absurd at
  bound_stands (Puts p) (ready.Drop d) sound fits at has = absurd at
  bound_stands (Puts p) (ready.CreateIndex n) sound fits at has = absurd at
  bound_stands (Puts p) (ready.DropIndex n) sound fits at has = absurd at
  bound_stands (Puts p) (ready.Insert b) sound fits at has = put_same hosts entries lists changes last params p b at (subst (λ n. n < length lists) (sym fits.into.number) (found-all (IsTable lists) (tables_of entries) p.table.name p.table valid.tables fits.found).there) sound
  bound_stands (Puts p) (ready.Select b) sound fits at has = absurd at
  bound_stands (Puts p) (ready.Values b) sound fits at has = absurd at
  bound_stands (Puts p) ready.Nothing sound fits at has = absurd at
  bound_stands (Queries q) (ready.Create n) sound fits at has = absurd at
  bound_stands (Queries q) (ready.Drop d) sound fits at has = absurd at
  bound_stands (Queries q) (ready.CreateIndex n) sound fits at has = absurd at
  bound_stands (Queries q) (ready.DropIndex n) sound fits at has = absurd at
  bound_stands (Queries q) (ready.Insert b) sound fits at has = absurd at
  bound_stands (Queries q) (ready.Select b) sound fits at has = stands_same _ _ (query_same hosts entries lists changes last params q b at (λ k d within. found-places (world_in entries lists) (slice_index_or q.from k d).table valid (fits k d within)))
  bound_stands (Queries q) (ready.Values b) sound fits at has = absurd at
  bound_stands (Queries q) ready.Nothing sound fits at has = absurd at
  bound_stands (Shows rows) (ready.Create n) sound fits at has = absurd at
  bound_stands (Shows rows) (ready.Drop d) sound fits at has = absurd at
  bound_stands (Shows rows) (ready.CreateIndex n) sound fits at has = absurd at
  bound_stands (Shows rows) (ready.DropIndex n) sound fits at has = absurd at
  bound_stands (Shows rows) (ready.Insert b) sound fits at has = absurd at
  bound_stands (Shows rows) (ready.Select b) sound fits at has = absurd at
  bound_stands (Shows rows) (ready.Values b) sound fits at has = rw at (stands_same _ _ refl)
  bound_stands (Shows rows) ready.Nothing sound fits at has = absurd at
  bound_stands DoesNothing (ready.Create n) sound fits at has = absurd at
  bound_stands DoesNothing (ready.Drop d) sound fits at has = absurd at
  bound_stands DoesNothing (ready.CreateIndex n) sound fits at has = absurd at
  bound_stands DoesNothing (ready.DropIndex n) sound fits at has = absurd at
  bound_stands DoesNothing (ready.Insert b) sound fits at has = absurd at
  bound_stands DoesNothing (ready.Select b) sound fits at has = absurd at
  bound_stands DoesNothing (ready.Values b) sound fits at has = absurd at
  bound_stands DoesNothing ready.Nothing sound fits at has = stands_same _ _ refl
  bound_stands (Explains how y) (ready.Create n) sound fits at has = absurd at
  bound_stands (Explains how y) (ready.Drop d) sound fits at has = absurd at
  bound_stands (Explains how y) (ready.CreateIndex n) sound fits at has = absurd at
  bound_stands (Explains how y) (ready.DropIndex n) sound fits at has = absurd at
  bound_stands (Explains how y) (ready.Insert b) sound fits at has = absurd at
  bound_stands (Explains how y) (ready.Select b) sound fits at has = absurd at
  bound_stands (Explains how y) (ready.Values b) sound fits at has = absurd at
  bound_stands (Explains how y) ready.Nothing sound fits at has = absurd at

  -- what is ready stands for what its text means without EXPLAIN
  pub plain_stands : (how : Option Explain) (x : Runnable) (r : Ready) → IsSound lists → text_bound asked (world_in entries lists) text ≡ Ok (behind how x) → IsBound x (bound_in r) → HasEntry x r → StandsFor (outcome_of ctx x) (outcome_in hosts entries lists changes last params r)
  plain_stands how x r sound is at has = bound_stands x r sound (fits_behind how x (text-fits asked (world_in entries lists) text (behind how x) is)) at has

  behind_stands : (how : Option Explain) (x : Runnable) (o : Outcome) → StandsFor (outcome_of ctx x) o → StandsFor (outcome_of ctx (behind how x)) (outcome_behind how state o)
  behind_stands None x o stands = stands
  behind_stands (Some how) x o stands = stands_same _ _ refl

  pub text_stands : (how : Option Explain) (x : Runnable) (r : Ready) → IsSound lists → text_bound asked (world_in entries lists) text ≡ Ok (behind how x) → IsBound x (bound_in r) → HasEntry x r
      → StandsFor (outcome_where asked ctx text) (outcome_behind how state (outcome_in hosts entries lists changes last params r))
  text_stands how x r sound is at has =
      subst (λ (o : Outcome). StandsFor o (outcome_behind how state (outcome_in hosts entries lists changes last params r))) (sym (ap (bound_outcome ctx) is))
      (behind_stands how x (outcome_in hosts entries lists changes last params r) (plain_stands how x r sound is at has))

  -- ---- a text that is not run

  pub refusal_carries : (why : Cause) → IsRefusal (text_bound asked (world_in entries lists) text) why → (budget bound steps : ℕ) (t : Option Rows) (rose : Type 0) → CarriesOut (outcome_where asked ctx text) state state budget bound (steps - steps) t t rose (Err why)
  refusal_carries why (inl memory) budget bound steps t rose =
      subst (λ k. CarriesOut (outcome_where asked ctx text) state state budget bound (steps - steps) t t rose (Err k)) (sym memory)
      (carries_Mem (outcome_where asked ctx text) state budget bound steps t rose)
  refusal_carries why (inr is) budget bound steps t rose =
      carries_refused (outcome_where asked ctx text) state budget bound steps t rose why (ap (bound_outcome ctx) is)
