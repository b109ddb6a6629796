-- What an entry of the catalog says of its table (CREATE TABLE; Datatypes In SQLite, section 3.1).
use Rattle.std.specs.Prelude.{ℕ, nat_le, List, [], ◌∷◌, ◌++◌, length, map, Option, Some, None, if◌then◌else◌}
use Rattle.std.specs.List.{find}
use Rattle.std.specs.Option.{option_map, option_to_list}
use Rattle.eng_entry.specs.Entries.{Entries}
use Rattle.eng_entry.specs.Names.{is_same_name}
use Rattle.eng_entry.specs.declared.entry.Entry.{Entry}
use Rattle.eng_value.specs.declared.limits.TheConstants.{MAX_COLUMNS}
use Rattle.sql_lex.specs.Tokens.{tokens_of}
use Rattle.sql_tree.specs.declared.statement.ColumnDefinition.{ColumnDefinition}
use Rattle.sql_tree.specs.declared.statement.TableDefinition.{TableDefinition}
use Rattle.sql_tree.specs.declared.statement.Command.{Command}
use Rattle.sql_bound.specs.Declarations.{definition_in, rowid_of, table_in}
use Rattle.sql_meaning.specs.declared.column.Column.{Column}
use Rattle.sql_meaning.specs.declared.column.TableEntry.{TableEntry}
use Rattle.sql_words.specs.Spelled.{name_at}
use Rattle.sql_words.specs.Types.{type_affinity}

-- ---- columns

abbrev pub column_of : List ℕ → ColumnDefinition → Column
column_of text d = record { name = name_at text d.name; affinity = type_affinity text d.type_name }

abbrev pub columns_of : List ℕ → TableDefinition → List Column
columns_of text t = map (column_of text) t.columns

-- ---- the column that is the rowid

abbrev pub rowid_in : List ℕ → Option TableDefinition → Option ℕ
rowid_in text None = None
rowid_in text (Some t) = rowid_of text t

-- of the table that a statement of this text creates, if one of its columns is the rowid
abbrev pub rowid_created : List ℕ → Command → Option ℕ
rowid_created text c = rowid_in text (table_in (definition_in c))

-- ---- entries

-- what is declared of a table of these columns
abbrev pub table_with : Entry → List Column → TableEntry
table_with e columns =
    record { name = e.name; columns = columns; rowid = rowid_created e.text e.def.command; number = e.number; tokens = length (tokens_of e.text) }

-- no more than a table may have
abbrev pub columns_kept : Option (List Column) → Option (List Column)
columns_kept None = None
columns_kept (Some columns) = if nat_le (length columns) MAX_COLUMNS then Some columns else None

-- the columns of the table that a statement of this text creates
abbrev pub columns_created : List ℕ → Command → Option (List Column)
columns_created text c = columns_kept (option_map (columns_of text) (table_in (definition_in c)))

-- what an entry says of its table, if it is that of a table
abbrev pub table_of : Entry → Option TableEntry
table_of e = option_map (table_with e) (columns_created e.text e.def.command)

abbrev pub tables_among : List Entry → List TableEntry
tables_among [] = []
tables_among (e ∷ entries) = option_to_list (table_of e) ++ tables_among entries

-- the tables of a catalog, oldest first
abbrev pub tables_of : Entries → List TableEntry
tables_of c = tables_among c.names

-- the table of a name
abbrev pub table_called : List TableEntry → List ℕ → Option TableEntry
table_called tables name = find (λ (t : TableEntry). is_same_name t.name name) tables
