-- What statements that are not refused do, in the words of their subject.
use Rattle.std.specs.Prelude.{◌≡◌, ◌≢◌, ◌⊎◌, ⊤, ℕ, true, false, List, [], ◌∷◌, length, Some, None, ℤ, pos, ◌+ℤ◌, ◌<ℤ◌, slice_get, All, Any}
use Rattle.eng_entry.specs.Entries.{entry_named, with_entry, without_name}
use Rattle.eng_entry.specs.declared.entry.Entry.{Entry}
use Rattle.eng_entry.specs.declared.entry.Space.TheVariants as space
use Rattle.eng_value.specs.Environments.{Environment, Lists}
use Rattle.eng_value.specs.StoredRows.{StoredRow}
use Rattle.eng_value.specs.Truths.{truth_in, truth_of}
use Rattle.eng_value.specs.Written.{Written}
use Rattle.eng_value.specs.declared.limits.TheConstants.{MAX_ROWID}
use Rattle.eng_value.specs.declared.truth.Truth.{Truth}
use Rattle.eng_value.specs.declared.truth.Truth.TheVariants as truth
use Rattle.eng_value.specs.declared.value.Value.TheVariants as value
use Rattle.eng_index.specs.Keys.{has_doubles, standing}
use Rattle.eng_index.specs.declared.key_term.KeyTerm.{KeyTerm}
use Rattle.sql_meaning.specs.declared.bound.BoundInsert.{BoundInsert}
use Rattle.sql_meaning.specs.declared.bound.RowidFrom.{RowidFrom}
use Rattle.sql_meaning.specs.declared.bound.RowidFrom.TheVariants as rowid
use Rattle.sql_meaning.specs.declared.column.TableEntry.{TableEntry}
use Rattle.sql_meaning.specs.Declarations.{table_called, table_of}
use Rattle.sql_meaning.specs.Expression.{value_of}
use Rattle.sql_meaning.specs.Rows.{at_row, lacks_value, rowid_column}
use Rattle.eng_index.specs.Stored.{put_row}
use Rattle.sql_meaning.specs.Runnables.{NewIndex, Put}
use Rattle.sql_meaning.specs.Statement.{Outcome}
use Rattle.eng_entry.specs.Entries.{without_indexes}
use Rattle.sql_meaning.specs.Steps.{Step, Done, Left, Fails}
use Rattle.sql_meaning.specs.World.{State, rows_at, seen, tables_in}

-- the rowid is one more than the largest of these rows, and 1 where there is none
abbrev pub IsOneMore : List StoredRow → ℤ → Type 0
IsOneMore rows n = ((rows ≡ []) × (n ≡ pos 1)) ⊎ (Any (λ (r : StoredRow). n ≡ r.rowid +ℤ pos 1) rows × All (λ (r : StoredRow). r.rowid <ℤ n) rows)

-- each of the new rows has such a rowid beside those that came before it
abbrev pub AreDrawn : List StoredRow → List StoredRow → Type 0
AreDrawn rows [] = ⊤
AreDrawn rows (r ∷ new) = IsOneMore rows r.rowid × AreDrawn (put_row rows r) new

-- the new rows came one after another, each to the place of its rowid; no row that was there before it had that rowid or shared one of these keys
abbrev pub AreAdded : List (List KeyTerm) → List StoredRow → List StoredRow → List StoredRow → Type 0
AreAdded keys rows [] after = after ≡ rows
AreAdded keys rows (r ∷ new) after = (standing keys rows r ≡ []) × AreAdded keys (put_row rows r) new after

-- the rowid of the last of these rows; where there is none it is as it was
abbrev pub last_rowid_of : ℤ → List StoredRow → ℤ
last_rowid_of rowid [] = rowid
last_rowid_of rowid (r ∷ rows) = last_rowid_of r.rowid rows

-- whatever a part of a write comes to, what is written is as it was
abbrev pub KeepsWritten : {A : Type 0} → Written → Step A → Type 0
KeepsWritten x (Done a y) = y ≡ x
KeepsWritten x (Left y) = y ≡ x
KeepsWritten x (Fails causes y) = y ≡ x

-- the largest rowid is taken
abbrev pub IsFull : List StoredRow → Type 0
IsFull rows = Any (λ (r : StoredRow). r.rowid ≡ MAX_ROWID) rows

-- what fails no CHECK
abbrev pub Passes : Truth → Type 0
Passes truth.True = ⊤
Passes truth.Unknown = ⊤
Passes truth.False = ⊥
Passes (truth.Failed causes) = ⊥

-- where a column is the rowid, this is seen there, and NULL is stored
abbrev pub HasRowid : RowidFrom → StoredRow → Type 0
HasRowid (rowid.Column place) r =
    (slice_get r.values place ≡ Some value.Null) × (slice_get (seen (Some place) r).values place ≡ Some (value.Integer r.rowid))
HasRowid other r = ⊤

-- a row that breaks no constraint: as it is seen no column is NULL that may not be, and each CHECK passes; and the column that is the rowid has it
pub record IsFitting (env : Environment) (b : BoundInsert) (r : StoredRow) : Type 0 where
  pub not_null : lacks_value b.columns (seen (rowid_column b.rowid) r).values ≡ false
  pub checks : All (λ c. Passes (truth_in (truth_of (value_of c (at_row env (seen (rowid_column b.rowid) r)))))) b.checks
  pub rowid : HasRowid b.rowid r

-- Nothing else of a state is changed than the world and the counts.
pub record KeepsRest (old new : State) : Type 0 where
  pub transaction : new.transaction ≡ old.transaction
  pub in_flight : new.in_flight ≡ old.in_flight
  pub commit_answers : new.commit_answers ≡ old.commit_answers
  pub recursive_triggers : new.recursive_triggers ≡ old.recursive_triggers

-- No table has other rows than before, but the one of this number.
abbrev pub KeepsOthers : Lists → Lists → ℕ → Type 0
KeepsOthers old new number = (other : ℕ) → other ≢ number → rows_at new other ≡ rows_at old other

-- The table has so many rows more, by their rowids among the others, and none of them breaks a constraint; that column is the rowid which is it in the table; where no rowid is given, each is one more than the largest. No other table is changed.
pub record AddsRows (state : State) (env : Environment) (p : Put) (given : ℕ) (o : Outcome) : Type 0 where
  pub found : table_called (tables_in state) p.table.name ≡ Some p.table
  pub column : rowid_column p.insert.rowid ≡ p.table.rowid
  pub catalog : o.next.world.catalog ≡ state.world.catalog
  pub others : KeepsOthers state.world.tables o.next.world.tables p.table.number
  pub new : List StoredRow
  pub added : AreAdded p.insert.keys (rows_at state.world.tables p.table.number) new (rows_at o.next.world.tables p.table.number)
  pub fitting : All (IsFitting env p.insert) new
  pub drawn : p.insert.rowid ≡ rowid.Drawn → AreDrawn (rows_at state.world.tables p.table.number) new
  pub count : length new ≡ given
  pub rest : KeepsRest state o.next
  pub changed : o.changed ≡ given
  pub changes : o.next.changes ≡ given
  pub last_rowid : o.next.last_rowid ≡ last_rowid_of state.last_rowid new

-- Nothing is changed but tables and the catalog.
pub record KeepsCounts (state : State) (o : Outcome) : Type 0 where
  pub rest : KeepsRest state o.next
  pub changed : o.changed ≡ 0
  pub changes : o.next.changes ≡ state.changes
  pub last_rowid : o.next.last_rowid ≡ state.last_rowid

-- The catalog has one entry more behind the others, whose name no table had; its table has a number that no table had, and no row.
pub record AddsTable (state : State) (e : Entry) (o : Outcome) : Type 0 where
  pub free : table_called (tables_in state) e.name ≡ None
  pub new : TableEntry
  pub table : table_of e ≡ Some new
  pub catalog : o.next.world.catalog ≡ with_entry e state.world.catalog
  pub number : All (λ (t : TableEntry). t.number ≢ new.number) (tables_in state)
  pub rows : rows_at o.next.world.tables new.number ≡ []
  pub others : KeepsOthers state.world.tables o.next.world.tables new.number
  pub counts : KeepsCounts state o

-- The table's entry, those of its indexes and its rows are gone; the other entries stay in their order, and the other tables under their numbers.
pub record DropsTable (state : State) (t : TableEntry) (o : Outcome) : Type 0 where
  pub found : table_called (tables_in state) t.name ≡ Some t
  pub catalog : o.next.world.catalog ≡ without_name space.Names t.name (without_indexes t.name state.world.catalog)
  pub gone : table_called (tables_in o.next) t.name ≡ None
  pub rows : rows_at o.next.world.tables t.number ≡ []
  pub others : KeepsOthers state.world.tables o.next.world.tables t.number
  pub counts : KeepsCounts state o

-- The catalog has one entry more behind the others, whose name none had; no table or row is changed. Where the index is unique, no two rows of its table
-- share the key.
pub record AddsIndex (state : State) (i : NewIndex) (o : Outcome) : Type 0 where
  pub found : table_called (tables_in state) i.table.name ≡ Some i.table
  pub free : entry_named i.entry.name state.world.catalog.names ≡ None
  pub catalog : o.next.world.catalog ≡ with_entry i.entry state.world.catalog
  pub tables : tables_in o.next ≡ tables_in state
  pub rows : o.next.world.tables ≡ state.world.tables
  pub unique : i.unique ≡ true → has_doubles i.terms (rows_at state.world.tables i.table.number) ≡ false
  pub counts : KeepsCounts state o

-- The index's entry is gone; no table or row is changed.
pub record DropsIndex (state : State) (name : List ℕ) (o : Outcome) : Type 0 where
  pub catalog : o.next.world.catalog ≡ without_name space.Names name state.world.catalog
  pub gone : entry_named name o.next.world.catalog.names ≡ None
  pub tables : tables_in o.next ≡ tables_in state
  pub rows : o.next.world.tables ≡ state.world.tables
  pub counts : KeepsCounts state o
