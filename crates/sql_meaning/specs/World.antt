-- Tables and what they hold.
use Rattle.std.specs.Prelude.{ℕ, List, [], ◌∷◌, Bool, false, ℤ, pos, nat_lt, length, map, slice_index_or, slice_set, Some, None}
use Rattle.std.specs.Option.{option_map}
use Rattle.std.specs.declared.option.Option.{Option}
use Rattle.eng_entry.specs.Entries.{Entries, no_entries}
use Rattle.eng_value.specs.Environments.{Environment, ItemRow, Lists, Surroundings, environment}
use Rattle.eng_value.specs.HostMeanings.{HostMeanings, Oracle, nobody}
use Rattle.eng_value.specs.StoredRows.{StoredRow}
use Rattle.eng_value.specs.declared.value.Value.{Value}
use Rattle.eng_value.specs.declared.value.Value.TheVariants.{Integer, Null}
use Rattle.sql_meaning.specs.declared.column.TableEntry.{TableEntry}
use Rattle.sql_meaning.specs.Runnables.{Query}
use Rattle.sql_meaning.specs.Declarations.{table_called, tables_of}

-- a world: the catalog, and the rows of each table by ascending rowid. Tables go by their numbers: a table has the number under which its rows stand, and under the number of one that was dropped there are none
pub record World : Type 0 where
  pub catalog : Entries
  pub tables : Lists

-- names of tables: some, or all that there may be
pub data TableNames : Type 0 where
  Every : TableNames
  Only : List (List ℕ) → TableNames

-- a mark in an open transaction: its name, unless it is the transaction's own; the world that going back to it gives; and the names that were touched since by what ended well and was not undone
pub record Savepoint : Type 0 where
  pub name : Option (List ℕ)
  pub world : World
  pub touched : List (List ℕ)

-- the open transaction: its marks, oldest first, none where no transaction is open; and whether some write in it ended well, also one that was undone since
pub record Transaction : Type 0 where
  pub marks : List Savepoint
  pub has_written : Bool

-- a statement in flight: its number, its query with the parameters, the names that it reads, how many items it has given, and how many instructions it ran
pub record Flight : Type 0 where
  pub number : ℕ
  pub query : Query
  pub params : List Value
  pub reads : TableNames
  pub given : ℕ
  pub ran : ℕ

-- what a connection holds between two statements: the world, the open transaction, the statements in flight, what the commit hook will answer, whether triggers may fire themselves, how many rows the last write changed that was not refused, and the rowid of the last row that was put
pub record State : Type 0 where
  pub world : World
  pub transaction : Transaction
  pub in_flight : List Flight
  pub commit_answers : List Bool
  pub recursive_triggers : Bool
  pub changes : ℕ
  pub last_rowid : ℤ

-- a transaction is open where there is a mark
abbrev pub is_in_transaction : State → Bool
is_in_transaction state = nat_lt 0 (length state.transaction.marks)

-- the rows of the table of this number; none where there is no such table
abbrev pub rows_at : Lists → ℕ → List StoredRow
rows_at lists table = slice_index_or lists table []

-- the tables of a state
abbrev pub tables_in : State → List TableEntry
tables_in state = tables_of state.world.catalog

-- ---- the column that is the rowid: the value is stored once, as the rowid of the row, and is seen in both places

-- the values with this one in such a column, if there is one
abbrev pub with_column : Option ℕ → Value → List Value → List Value
with_column None v values = values
with_column (Some place) v values = slice_set values place v

-- what a table stores of a row
abbrev pub stored : Option ℕ → StoredRow → StoredRow
stored column r = record r { values = with_column column Null r.values }

-- what is seen of a row that is stored
abbrev pub seen : Option ℕ → StoredRow → StoredRow
seen column r = record r { values = with_column column (Integer r.rowid) r.values }

-- ---- what a connection shows of its tables

-- a row with its rowid in front
abbrev pub with_rowid : StoredRow → List Value
with_rowid r = Integer r.rowid ∷ r.values

-- the rows of the table of this name, each with its rowid in front; none where there is no such table
abbrev pub table_rows : State → List ℕ → Option (List (List Value))
table_rows state name = option_map (λ (t : TableEntry). map (λ r. with_rowid (seen t.rowid r)) (rows_at state.world.tables t.number)) (table_called (tables_in state) name)

abbrev pub no_transaction : Transaction
no_transaction = record { marks = []; has_written = false }

-- no table yet
abbrev pub new_state : State
new_state = record {
  world = record { catalog = no_entries; tables = [] };
  transaction = no_transaction;
  in_flight = [];
  commit_answers = [];
  recursive_triggers = false;
  changes = 0;
  last_rowid = pos 0;
}

-- ---- what a statement goes by

-- what the hosts mean, who answers what their functions ask, the state, and the parameters
pub record Context : Type 0 where
  pub hosts : HostMeanings
  pub ask : Oracle
  pub state : State
  pub params : List Value

-- of a statement that is run for itself: no function of a host asks yet, so that nobody answers
abbrev pub context : HostMeanings → State → List Value → Context
context hosts state params = record { hosts = hosts; ask = nobody; state = state; params = params }

abbrev pub surroundings_of : Context → Surroundings
surroundings_of ctx = record { params = ctx.params; hosts = ctx.hosts; world = ctx.state.world.tables; ask = ctx.ask }

-- what an expression of a statement sees at these rows: a statement that stands in no other has no arguments
abbrev pub environment_at : Context → List ItemRow → Environment
environment_at ctx rows = environment (surroundings_of ctx) [] [] rows
