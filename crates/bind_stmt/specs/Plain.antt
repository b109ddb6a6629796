-- INSERTs of rows of values that name nothing, into tables without constraints.
use Rattle.std.specs.Prelude.{◌≡◌, ℕ, suc, nat_eq, nat_le, Bool, true, false, not, ◌&&◌, if◌then◌else◌, List, [], ◌∷◌, length, Option, Some, None, Ok}
use Rattle.std.specs.Bool.{⊤}
use Rattle.std.specs.List.{list_all}
use Rattle.eng_entry.specs.Entries.{Entries}
use Rattle.eng_entry.specs.declared.entry.Entry.{Entry}
use Rattle.eng_entry.specs.declared.entry.EntryKind.TheVariants as entry_kind
use Rattle.eng_entry.specs.declared.entry.EntryKind.{EntryKind}
use Rattle.eng_value.specs.declared.limits.TheConstants.{MAX_COLUMNS}
use Rattle.sql_tree.specs.Layers.{PartLayer, QueryLayer, of_part, of_query}
use Rattle.sql_tree.specs.declared.expr.Expr.TheOpen.{QueryPart-F}
use Rattle.sql_tree.specs.declared.expr.Expr.{Expr}
use Rattle.sql_tree.specs.declared.statement.ColumnDefinition.{ColumnDefinition}
use Rattle.sql_tree.specs.declared.statement.Command.TheVariants as command
use Rattle.sql_tree.specs.declared.statement.Command.{Command}
use Rattle.sql_tree.specs.declared.statement.Insert.{Insert}
use Rattle.sql_tree.specs.declared.statement.InsertSource.TheVariants as source
use Rattle.sql_tree.specs.declared.statement.InsertSource.{InsertSource}
use Rattle.sql_tree.specs.declared.statement.RowCommand.TheVariants as rows_by
use Rattle.sql_tree.specs.declared.statement.Statement.{Statement}
use Rattle.sql_tree.specs.declared.statement.TableDefinition.{TableDefinition}
use Rattle.sql_tree.specs.declared.token.Token.{Token}
use Rattle.sql_words.specs.Spelled.{name_at}
use Rattle.bound_tree.specs.Exprs.{BoundExpr}
use Rattle.sql_bound.specs.Declarations.{definition_of, is_index_of, table_in, table_named}
use Rattle.sql_bound.specs.Scopes.{Scope}
use Rattle.sql_bound.specs.Trees.{of_expr}
use Rattle.sql_bound.specs.declared.scopes.Operand.{Operand}
use Rattle.sql_bound.specs.declared.scopes.Work.{Work}
use Rattle.sql_meaning.specs.Built.{is_empty, stands_alone}
use Rattle.sql_meaning.specs.Declarations.{table_called}
use Rattle.sql_meaning.specs.declared.bound.BoundInsert.{BoundInsert}
use Rattle.sql_meaning.specs.declared.bound.PutColumn.{PutColumn}
use Rattle.sql_meaning.specs.declared.bound.RowidFrom.TheVariants as rowid
use Rattle.sql_meaning.specs.declared.column.Column.{Column}
use Rattle.sql_meaning.specs.declared.column.TableEntry.{TableEntry}

-- ---- values

-- an expression of this text that is bound to this wherever it stands, and needs nothing
pub record IsValue (text : List ℕ) (x : Expr) (b : BoundExpr) : Type 0 where
  pub bound : (s : Scope) (w : Work) → s.outer.text ≡ text → (a : Operand) × ((of_expr x).bound s w ≡ Ok (a, w)) × (a.tree ≡ b)

abbrev pub AreValues : List ℕ → List Expr → List BoundExpr → Type 0
AreValues text [] [] = ⊤
AreValues text (x ∷ xs) (b ∷ bs) = IsValue text x b × AreValues text xs bs
AreValues text _ _ = ⊥

-- rows of so many values
abbrev pub AreRows : List ℕ → ℕ → List (List Expr) → List (List BoundExpr) → Type 0
AreRows text width [] [] = ⊤
AreRows text width (row ∷ rows) (made ∷ more) = AreValues text row made × (length row ≡ width) × AreRows text width rows more
AreRows text width _ _ = ⊥

-- ---- the statement

abbrev pub insert_in : Command → Option Insert
insert_in (command.Rows (rows_by.Insert i)) = Some i
insert_in other = None

abbrev pub insert_of : Statement → Option Insert
insert_of s = insert_in s.command

-- the rows of VALUES, one at least
abbrev pub rows_in : PartLayer → Option (List (List Expr))
rows_in (QueryPart-F.Values []) = None
rows_in (QueryPart-F.Values (row ∷ rows)) = Some (row ∷ rows)
rows_in (QueryPart-F.Select core) = None

abbrev pub rows_of_query : QueryLayer → Option (List (List Expr))
rows_of_query q = if stands_alone q then rows_in (of_part q.first) else None

abbrev pub rows_of_source : InsertSource → Option (List (List Expr))
rows_of_source (source.Query q) = rows_of_query (of_query q)
rows_of_source source.Defaults = None

-- the rows that an INSERT puts, where it names no columns
abbrev pub rows_of : Insert → Option (List (List Expr))
rows_of i = if is_empty i.columns then rows_of_source i.source else None

-- ---- the table

abbrev pub is_table_kind : EntryKind → Bool
is_table_kind entry_kind.Table = true
is_table_kind other = false

abbrev pub is_plain_column : ColumnDefinition → Bool
is_plain_column c = is_empty c.constraints

-- without a constraint, neither at a column nor behind them
abbrev pub is_plain_table : TableDefinition → Bool
is_plain_table t = is_empty t.constraints && list_all is_plain_column t.columns

-- a table of so many columns without a constraint
abbrev pub is_plain_definition : Option TableDefinition → ℕ → Bool
is_plain_definition None width = false
is_plain_definition (Some t) width = is_plain_table t && nat_eq (length t.columns) width

abbrev pub defines_plain : Entry → ℕ → Bool
defines_plain entry width = is_plain_definition (table_in (definition_of entry)) width

-- no entry is an index of the table
abbrev pub has_no_index : List ℕ → List Entry → Bool
has_no_index table entries = list_all (λ entry. not (is_index_of table entry)) entries

-- the entry of a table of so many columns, not too many, without a constraint and an index
abbrev pub is_plain_entry : Entries → Entry → ℕ → Bool
is_plain_entry catalog entry width =
    nat_le width MAX_COLUMNS && is_table_kind entry.kind && defines_plain entry width && has_no_index entry.name catalog.names

-- such a table, by its name; none of its columns is the rowid
pub record IsPlainTable (catalog : Entries) (tables : List TableEntry) (name : List ℕ) (t : TableEntry) : Type 0 where
  pub entry : Entry
  pub named : table_named name catalog ≡ Some entry
  pub called : table_called tables entry.name ≡ Some t
  pub rowid : t.rowid ≡ None
  pub plain : is_plain_entry catalog entry (length t.columns) ≡ true

-- each column takes the value in its own place, from this place on, and that may be NULL
abbrev pub placed_from : ℕ → List Column → List PutColumn
placed_from place [] = []
placed_from place (c ∷ columns) = record { affinity = c.affinity; place = Some place; default = None; not_null = false } ∷ placed_from (suc place) columns

-- ---- the whole

-- an INSERT of these rows into the table of this name, which has no constraint and no index
pub record PutsPlain (catalog : Entries) (tables : List TableEntry) (text : List ℕ) (name : Token) (written : List (List Expr)) (b : BoundInsert) : Type 0 where
  pub put : TableEntry
  pub table : IsPlainTable catalog tables (name_at text name) put
  pub rows : AreRows text (length put.columns) written b.rows
  pub columns : b.columns ≡ placed_from 0 put.columns
  pub number : b.table ≡ put.number
  pub called : b.name ≡ put.name
  pub rowid : b.rowid ≡ rowid.Drawn
  pub checks : b.checks ≡ []
  pub keys : b.keys ≡ []
