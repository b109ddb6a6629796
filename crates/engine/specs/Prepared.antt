-- Why a text has no statement, and what a statement that is ready to run stands for.
use Rattle.std.specs.Prelude.{◌≡◌, ◌≤◌, ⊤, ℕ, ◌+◌, Bool, false, not, List, All, Option, Some, None, Result, Ok, Err}
use Rattle.bind_stmt.specs.declared.statement.Bound.{Bound}
use Rattle.bind_stmt.specs.declared.statement.Bound.TheVariants as bound
use Rattle.bind_stmt.specs.Binds.{IsBound, IsRefusal}
use Rattle.bind_stmt.specs.Small.{IsSmall}
use Rattle.bind_stmt.specs.declared.creating.NewIndex.{NewIndex}
use Rattle.eng_entry.specs.Entries.{Entries, entry_named, is_index_on}
use Rattle.eng_entry.specs.declared.entry.Entry.{Entry}
use Rattle.eng_entry.specs.declared.entry.EntryKind.TheVariants as entry_kind
use Rattle.eng_value.specs.declared.cause.Cause.{Cause}
use Rattle.eng_value.specs.declared.cause.Cause.TheVariants as cause
use Rattle.parse_cursor.specs.declared.texts.Failure.{Failure}
use Rattle.parse_cursor.specs.declared.texts.Failure.TheVariants as failure
use Rattle.gen_query.specs.Queries.{NamesItsItems, NamesNoItem}
use Rattle.gen_write.specs.Writes.{NamesWhatIsThere as InsertNames}
use Rattle.sql_tree.specs.declared.statement.Explain.{Explain}
use Rattle.sql_tree.specs.declared.statement.Statement.{Statement}
use Rattle.sql_meaning.specs.Runnables.{Runnable, Creates, Explains, Indexes}
use Rattle.sql_meaning.specs.Declarations.{table_of}
use Rattle.sql_meaning.specs.Statement.{limit_kind}
use Rattle.engine.specs.declared.preparing.NewEntry.{NewEntry}
use Rattle.engine.specs.declared.preparing.NewIndexEntry.{NewIndexEntry}
use Rattle.engine.specs.declared.preparing.Prepared.{Prepared}
use Rattle.engine.specs.declared.preparing.Ready.{Ready}
use Rattle.engine.specs.declared.preparing.Ready.TheVariants as ready

-- of a text whose first token stands behind so many bytes
abbrev pub cause_of : ℕ → Failure → Cause
cause_of before failure.Memory = cause.Mem
cause_of before (failure.Syntax at) = cause.Syntax (before + at)
cause_of before (failure.TooMuch limit at) = cause.Limit (limit_kind limit)

-- the place of a syntax error behind so many bytes stands in a text of so many
abbrev pub StandsIn : ℕ → ℕ → Failure → Type 0
StandsIn len before failure.Memory = ⊤
StandsIn len before (failure.Syntax at) = before + at ≤ len
StandsIn len before (failure.TooMuch limit at) = ⊤

-- what was bound
abbrev pub bound_in : Ready → Bound
bound_in (ready.Create n) = bound.CreateTable (record { name = n.table.name; columns = n.table.columns; rowid = n.table.rowid })
bound_in (ready.Drop d) = bound.DropTable d
bound_in (ready.CreateIndex n) = bound.CreateIndex n.index
bound_in (ready.DropIndex name) = bound.DropIndex name
bound_in (ready.Insert b) = bound.Insert b
bound_in (ready.Select q) = bound.Select q
bound_in (ready.Values rows) = bound.Values rows
bound_in ready.Nothing = bound.Nothing

-- any but a CREATE TABLE and a CREATE INDEX
abbrev pub CreatesNone : Bound → Type 0
CreatesNone (bound.CreateTable n) = ⊥
CreatesNone (bound.CreateIndex n) = ⊥
CreatesNone b = ⊤

-- the entry is that of the statement, and declares the table
abbrev pub IsEntryOf : Runnable → NewEntry → Type 0
IsEntryOf (Creates e) n = (n.entry ≡ e) × (table_of e ≡ Some n.table)
IsEntryOf x n = ⊥

-- the entry of an index that is created: it has the number of its table
abbrev pub index_entry_in : List ℕ → NewIndex → Statement → Entry
index_entry_in text new s = record { kind = entry_kind.Index; name = new.name; owner = new.table_name; number = new.table; text = text; def = s }

abbrev pub IsIndexEntryOf : Runnable → NewIndexEntry → Type 0
IsIndexEntryOf (Indexes i) n = n.entry ≡ i.entry
IsIndexEntryOf x n = ⊥

-- a table that is created has its entry, and so has an index
abbrev pub HasEntry : Runnable → Ready → Type 0
HasEntry x (ready.Create n) = IsEntryOf x n
HasEntry x (ready.CreateIndex n) = IsIndexEntryOf x n
HasEntry x r = ⊤

-- the statement is bound and ready, and small beside its tokens; or it is refused; and memory may be wanting
abbrev pub Readies : ℕ → Result Runnable Cause → Result Ready Cause → Type 0
Readies size meant (Ok r) = (x : Runnable) × (meant ≡ Ok x) × IsBound x (bound_in r) × IsSmall size x × HasEntry x r
Readies size meant (Err why) = IsRefusal meant why

-- what stands behind EXPLAIN is shown and not run
abbrev pub behind : Option Explain → Runnable → Runnable
behind None x = x
behind (Some how) x = Explains how x

-- the same of a statement that may stand behind EXPLAIN
abbrev pub Prepares : ℕ → Result Runnable Cause → Result Prepared Cause → Type 0
Prepares size meant (Ok p) = (x : Runnable) × (meant ≡ Ok (behind p.explain x)) × IsBound x (bound_in p.ready) × IsSmall size x × HasEntry x p.ready
Prepares size meant (Err why) = IsRefusal meant why

-- ---- what may run

-- what a test leaves out is the entry of no table
abbrev pub LeavesNoTable : (Entry → Bool) → Entry → Type 0
LeavesNoTable p e = p e ≡ false → table_of e ≡ None

-- an entry that may come into a catalog: that of a table, whose name is free
pub record IsNew (entries : Entries) (n : NewEntry) : Type 0 where
  pub kind : n.entry.kind ≡ entry_kind.Table
  pub free : entry_named n.entry.name entries.names ≡ None
  pub declared : table_of n.entry ≡ Some n.table

-- an entry of an index may come, whose name is free
pub record IsNewIndex (entries : Entries) (n : NewIndexEntry) : Type 0 where
  pub kind : n.entry.kind ≡ entry_kind.Index
  pub free : entry_named n.entry.name entries.names ≡ None
  pub undeclared : table_of n.entry ≡ None

-- what a query reads are items of its FROM, and of an INSERT the CHECKs alone read a row, which is the one that is put
abbrev pub NamesWhatIsThere : Ready → Type 0
NamesWhatIsThere (ready.Insert b) = InsertNames b
NamesWhatIsThere (ready.Select q) = NamesItsItems q
NamesWhatIsThere (ready.Values rows) = NamesNoItem rows
NamesWhatIsThere r = ⊤

-- where a table is dropped, the entries of its indexes are those of no table; and what is read is there
abbrev pub MayRun : Entries → Ready → Type 0
MayRun entries (ready.Create n) = IsNew entries n
MayRun entries (ready.CreateIndex n) = IsNewIndex entries n
MayRun entries (ready.Drop d) = All (LeavesNoTable (λ e. not (is_index_on d.name e))) entries.names
MayRun entries r = NamesWhatIsThere r
