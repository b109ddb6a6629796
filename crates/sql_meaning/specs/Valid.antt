-- What is true of each state that a connection holds between two statements.
use Rattle.std.specs.Prelude.{◌≡◌, ◌≢◌, ◌⊎◌, ◌<◌, ◌≤◌, List, true, false, length, Some, is_some, All, AllPairs}
use Rattle.std.specs.List.{AllZip}
use Rattle.eng_entry.specs.Names.{is_same_name}
use Rattle.eng_entry.specs.declared.entry.Entry.{Entry}
use Rattle.eng_entry.specs.declared.entry.EntryKind.TheVariants as entry_kind
use Rattle.eng_number.specs.Numbers.{fits_integer}
use Rattle.eng_value.specs.Casts.{store_as}
use Rattle.eng_value.specs.Environments.{Lists}
use Rattle.eng_value.specs.StoredRows.{StoredRow, IsAscending}
use Rattle.eng_value.specs.declared.out.Out.TheVariants.{Good}
use Rattle.eng_value.specs.declared.value.Value.{Value}
use Rattle.sql_bound.specs.Declarations.{definition_of, index_in, table_in}
use Rattle.sql_lex.specs.Tokens.{tokens_of}
use Rattle.sql_tree.specs.Sizes.{size_of_table}
use Rattle.sql_tree.specs.declared.statement.IndexDefinition.{IndexDefinition}
use Rattle.sql_tree.specs.declared.statement.TableDefinition.{TableDefinition}
use Rattle.sql_meaning.specs.Built.{is_built_table}
use Rattle.sql_meaning.specs.declared.column.Column.{Column}
use Rattle.sql_meaning.specs.declared.column.TableEntry.{TableEntry}
use Rattle.sql_meaning.specs.Declarations.{table_called, table_of, tables_of}
use Rattle.sql_meaning.specs.World.{Savepoint, State, World, rows_at}

-- the column stores the value as it is
abbrev pub IsHeldBy : Column → Value → Type 0
IsHeldBy c v = store_as c.affinity v ≡ Good v

-- a row of a table: its rowid has 64 bits, and it has a value for each column, which stores it as it is
pub record IsRowOf (t : TableEntry) (r : StoredRow) : Type 0 where
  pub rowid : fits_integer r.rowid ≡ true
  pub values : AllZip IsHeldBy t.columns r.values

-- the rows of a table, by ascending rowid
pub record AreRowsOf (t : TableEntry) (rows : List StoredRow) : Type 0 where
  pub ascending : IsAscending rows
  pub each : All (IsRowOf t) rows

-- a table of the catalog, and what stands under its number
pub record IsTable (lists : Lists) (t : TableEntry) : Type 0 where
  pub there : t.number < length lists
  pub rows : AreRowsOf t (rows_at lists t.number)

-- no two of them have one name
abbrev pub HaveOtherNames : List Entry → Type 0
HaveOtherNames entries = AllPairs (λ (a b : Entry). is_same_name a.name b.name ≡ false) entries

-- the entry of a table: what it creates is one of which everything is built, and its tree is no larger than its text has tokens
pub record IsTableEntry (e : Entry) : Type 0 where
  pub kind : e.kind ≡ entry_kind.Table
  pub declared : is_some (table_of e) ≡ true
  pub table : TableDefinition
  pub creates : table_in (definition_of e) ≡ Some table
  pub built : is_built_table e.text table ≡ true
  pub size : size_of_table table ≤ length (tokens_of e.text)

-- the entry of an index on one of these tables
pub record IsIndexEntry (tables : List TableEntry) (e : Entry) : Type 0 where
  pub kind : e.kind ≡ entry_kind.Index
  pub index : IndexDefinition
  pub creates : index_in (definition_of e) ≡ Some index
  pub table : is_some (table_called tables e.owner) ≡ true

abbrev pub IsEntry : List TableEntry → Entry → Type 0
IsEntry tables e = IsTableEntry e ⊎ IsIndexEntry tables e

-- no two things of a kind of names have one name, each entry is that of a table or of an index on one, no two tables have one number, and each
-- has its rows
pub record IsWorld (w : World) : Type 0 where
  pub names : HaveOtherNames w.catalog.names
  pub triggers : HaveOtherNames w.catalog.triggers
  pub entries : All (IsEntry (tables_of w.catalog)) w.catalog.names
  pub numbers : AllPairs (λ (a b : TableEntry). a.number ≢ b.number) (tables_of w.catalog)
  pub tables : All (IsTable w.tables) (tables_of w.catalog)

-- so are the world and those of all marks
pub record IsValid (s : State) : Type 0 where
  pub world : IsWorld s.world
  pub marks : All (λ (m : Savepoint). IsWorld m.world) s.transaction.marks
  pub last_rowid : fits_integer s.last_rowid ≡ true
