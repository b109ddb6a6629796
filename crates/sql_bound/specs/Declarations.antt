-- What the entries of the catalog declare: the columns and keys of tables, indexes, views and triggers (CREATE TABLE, CREATE INDEX).
use Rattle.std.specs.Prelude.{ℕ, suc, ◌+◌, nat_eq, Bool, true, false, ◌&&◌, not, List, [], ◌∷◌, ◌++◌, map, filter, position, slice_get, Option, Some, None, unwrap_or, if◌then◌else◌, codes}
use Rattle.std.specs.Fmt.{decimal}
use Rattle.std.specs.List.{flat_map, list_any}
use Rattle.std.specs.Option.{option_map, option_to_list}
use Rattle.eng_entry.specs.Entries.{Entries, entry_named}
use Rattle.eng_entry.specs.Names.{is_same_name}
use Rattle.eng_entry.specs.declared.entry.Entry.{Entry}
use Rattle.eng_entry.specs.declared.entry.EntryKind.TheVariants as entry_kind
use Rattle.eng_entry.specs.declared.entry.EntryKind.{EntryKind}
use Rattle.eng_value.specs.declared.collation.Collation.TheVariants as collation
use Rattle.eng_value.specs.declared.collation.Collation.{Collation}
use Rattle.sql_tree.specs.declared.expr.Expr.{Expr}
use Rattle.sql_tree.specs.declared.expr.TypeName.{TypeName}
use Rattle.sql_tree.specs.declared.statement.ColumnConstraint.TheVariants as column_constraint
use Rattle.sql_tree.specs.declared.statement.ColumnConstraint.{ColumnConstraint}
use Rattle.sql_tree.specs.declared.statement.ColumnDefinition.{ColumnDefinition}
use Rattle.sql_tree.specs.declared.statement.Command.TheVariants as command
use Rattle.sql_tree.specs.declared.statement.Command.{Command}
use Rattle.sql_tree.specs.declared.statement.Definition.TheVariants as definition
use Rattle.sql_tree.specs.declared.statement.Definition.{Definition}
use Rattle.sql_tree.specs.declared.statement.IndexDefinition.{IndexDefinition}
use Rattle.sql_tree.specs.declared.statement.IndexedColumn.{IndexedColumn}
use Rattle.sql_tree.specs.declared.statement.TableConstraint.TheVariants as table_constraint
use Rattle.sql_tree.specs.declared.statement.TableConstraint.{TableConstraint}
use Rattle.sql_tree.specs.declared.statement.TableDefinition.{TableDefinition}
use Rattle.sql_tree.specs.declared.statement.TriggerDefinition.{TriggerDefinition}
use Rattle.sql_tree.specs.declared.statement.ViewDefinition.{ViewDefinition}
use Rattle.sql_tree.specs.declared.token.Token.{Token}
use Rattle.sql_words.specs.Collations.{by_bytes, collation_named}
use Rattle.sql_words.specs.Refusals.{or_else}
use Rattle.sql_words.specs.Types.{type_affinity}
use Rattle.sql_words.specs.Spelled.{name_at}
use Rattle.bound_tree.specs.declared.units.BoundColumn.{BoundColumn}
use Rattle.bound_tree.specs.declared.units.BoundIndex.{BoundIndex}
use Rattle.bound_tree.specs.declared.units.IndexPart.{IndexPart}
use Rattle.sql_bound.specs.Scopes.{Facts}

-- ---- columns

pub record DeclaredColumn : Type 0 where
  pub column : BoundColumn
  pub not_null : Bool
  pub default : Option Expr
  pub checks : List Expr

abbrev pub or_host : Option ℕ → Option Collation
or_host None = None
or_host (Some place) = Some (collation.Host place)

-- a collation that is built in, or of a host; a table was created with those that there are
abbrev pub collation_there : Facts → List ℕ → Option Collation
collation_there facts name = or_else (collation_named name) (or_host (facts.collation name))

-- of several words for one thing the last counts
abbrev pub collate_of : Facts → List ℕ → List ColumnConstraint → Option Collation
collate_of facts text [] = None
collate_of facts text (column_constraint.Collate t ∷ rest) = or_else (collate_of facts text rest) (collation_there facts (name_at text t))
collate_of facts text (other ∷ rest) = collate_of facts text rest

abbrev pub default_of : List ColumnConstraint → Option Expr
default_of [] = None
default_of (column_constraint.Default x ∷ rest) = or_else (default_of rest) (Some x)
default_of (other ∷ rest) = default_of rest

abbrev pub is_not_null : ColumnConstraint → Bool
is_not_null column_constraint.NotNull = true
is_not_null other = false

abbrev pub checks_of : List ColumnConstraint → List Expr
checks_of [] = []
checks_of (column_constraint.Check x ∷ rest) = x ∷ checks_of rest
checks_of (other ∷ rest) = checks_of rest

abbrev pub declared_column : Facts → List ℕ → ColumnDefinition → DeclaredColumn
declared_column facts text d =
    record {
      column = record { name = name_at text d.name; affinity = type_affinity text d.type_name; collation = unwrap_or (collate_of facts text d.constraints) by_bytes };
      not_null = list_any is_not_null d.constraints;
      default = default_of d.constraints;
      checks = checks_of d.constraints;
    }

-- ---- INTEGER PRIMARY KEY

abbrev pub is_empty : {A : Type 0} → List A → Bool
is_empty [] = true
is_empty (x ∷ xs) = false

abbrev pub is_word : List ℕ → List ℕ → List Token → Bool
is_word text word (t ∷ []) = is_same_name (name_at text t) word
is_word text word other = false

-- the type is INTEGER and nothing else
abbrev pub is_integer_type : List ℕ → Option TypeName → Bool
is_integer_type text None = false
is_integer_type text (Some t) = is_word text (codes "INTEGER") t.words && is_empty t.sizes

abbrev pub is_primary : ColumnConstraint → Bool
is_primary column_constraint.PrimaryKey = true
is_primary other = false

abbrev pub is_own_rowid : List ℕ → ColumnDefinition → Bool
is_own_rowid text d = is_integer_type text d.type_name && list_any is_primary d.constraints

abbrev pub is_rowid_called : List ℕ → List ℕ → ColumnDefinition → Bool
is_rowid_called text name d = is_integer_type text d.type_name && is_same_name (name_at text d.name) name

-- the column that a table constraint makes the rowid
abbrev pub rowid_of_key : List ℕ → List ColumnDefinition → List IndexedColumn → Option ℕ
rowid_of_key text columns (c ∷ []) = position (is_rowid_called text (name_at text c.name)) columns
rowid_of_key text columns other = None

abbrev pub rowid_of_constraints : List ℕ → List ColumnDefinition → List TableConstraint → Option ℕ
rowid_of_constraints text columns [] = None
rowid_of_constraints text columns (table_constraint.PrimaryKey key ∷ rest) = or_else (rowid_of_key text columns key) (rowid_of_constraints text columns rest)
rowid_of_constraints text columns (other ∷ rest) = rowid_of_constraints text columns rest

-- which column is the rowid
abbrev pub rowid_of : List ℕ → TableDefinition → Option ℕ
rowid_of text t = or_else (position (is_own_rowid text) t.columns) (rowid_of_constraints text t.columns t.constraints)

-- ---- keys, in order of text, but for that which is the rowid

abbrev pub collation_at : Option BoundColumn → Collation
collation_at None = by_bytes
collation_at (Some c) = c.collation

abbrev pub key_part : List BoundColumn → ℕ → IndexPart
key_part columns place = record { column = place; collation = collation_at (slice_get columns place); descending = false }

abbrev pub place_of_column : List BoundColumn → List ℕ → Option ℕ
place_of_column columns name = position (λ (c : BoundColumn). is_same_name c.name name) columns

abbrev pub written_collation : Facts → List ℕ → Option Token → Option Collation
written_collation facts text None = None
written_collation facts text (Some t) = collation_there facts (name_at text t)

abbrev pub index_part : Facts → List ℕ → List BoundColumn → IndexedColumn → ℕ → IndexPart
index_part facts text columns c place =
    record { column = place; collation = unwrap_or (written_collation facts text c.collation) (collation_at (slice_get columns place)); descending = c.descending }

abbrev pub index_parts : Facts → List ℕ → List BoundColumn → List IndexedColumn → List IndexPart
index_parts facts text columns cs = flat_map (λ (c : IndexedColumn). option_to_list (option_map (index_part facts text columns c) (place_of_column columns (name_at text c.name)))) cs

abbrev pub is_the_rowid : Option ℕ → ℕ → Bool
is_the_rowid None place = false
is_the_rowid (Some rowid) place = nat_eq rowid place

abbrev pub own_key : Option ℕ → List BoundColumn → ℕ → ColumnConstraint → List (List IndexPart)
own_key rowid columns place column_constraint.PrimaryKey = if is_the_rowid rowid place then [] else (key_part columns place ∷ []) ∷ []
own_key rowid columns place column_constraint.Unique = (key_part columns place ∷ []) ∷ []
own_key rowid columns place other = []

abbrev pub own_keys : Option ℕ → List BoundColumn → ℕ → List ColumnDefinition → List (List IndexPart)
own_keys rowid columns place [] = []
own_keys rowid columns place (d ∷ ds) = flat_map (own_key rowid columns place) d.constraints ++ own_keys rowid columns (suc place) ds

-- a primary key that is the rowid is no key beside it
abbrev pub is_rowid_key : Option ℕ → List IndexPart → Bool
is_rowid_key (Some rowid) (p ∷ []) = nat_eq rowid p.column
is_rowid_key other parts = false

abbrev pub table_key : Facts → List ℕ → Option ℕ → List BoundColumn → TableConstraint → List (List IndexPart)
table_key facts text rowid columns (table_constraint.PrimaryKey cs) = filter (λ parts. not (is_rowid_key rowid parts)) (index_parts facts text columns cs ∷ [])
table_key facts text rowid columns (table_constraint.Unique cs) = index_parts facts text columns cs ∷ []
table_key facts text rowid columns (table_constraint.Check x) = []

abbrev pub table_checks : List TableConstraint → List Expr
table_checks [] = []
table_checks (table_constraint.Check x ∷ rest) = x ∷ table_checks rest
table_checks (other ∷ rest) = table_checks rest

-- ---- tables

-- a table: its columns, which of them is the rowid, its keys and its CHECKs, each in order of text
pub record DeclaredTable : Type 0 where
  pub columns : List DeclaredColumn
  pub rowid : Option ℕ
  pub keys : List (List IndexPart)
  pub checks : List Expr

abbrev pub bound_columns : List DeclaredColumn → List BoundColumn
bound_columns ds = map (λ (d : DeclaredColumn). d.column) ds

abbrev pub declared_with : Facts → List ℕ → TableDefinition → List DeclaredColumn → Option ℕ → DeclaredTable
declared_with facts text t columns rowid =
    record {
      columns = columns;
      rowid = rowid;
      keys = own_keys rowid (bound_columns columns) 0 t.columns ++ flat_map (table_key facts text rowid (bound_columns columns)) t.constraints;
      checks = flat_map (λ (d : DeclaredColumn). d.checks) columns ++ table_checks t.constraints;
    }

abbrev pub declared_table : Facts → List ℕ → TableDefinition → DeclaredTable
declared_table facts text t = declared_with facts text t (map (declared_column facts text) t.columns) (rowid_of text t)

-- ---- what entries define

abbrev pub definition_in : Command → Option Definition
definition_in (command.Create c) = Some c.definition
definition_in other = None

abbrev pub table_in : Option Definition → Option TableDefinition
table_in (Some (definition.Table t)) = Some t
table_in other = None

abbrev pub index_in : Option Definition → Option IndexDefinition
index_in (Some (definition.Index i)) = Some i
index_in other = None

abbrev pub view_in : Option Definition → Option ViewDefinition
view_in (Some (definition.View v)) = Some v
view_in other = None

abbrev pub trigger_in : Option Definition → Option TriggerDefinition
trigger_in (Some (definition.Trigger t)) = Some t
trigger_in other = None

abbrev pub definition_of : Entry → Option Definition
definition_of entry = definition_in entry.def.command

-- ---- the table or view of a name: an index has its name from the same space, and is none, so that it hides no module

abbrev pub unless_index : EntryKind → Entry → Option Entry
unless_index entry_kind.Index entry = None
unless_index other entry = Some entry

abbrev pub table_or_view : Option Entry → Option Entry
table_or_view None = None
table_or_view (Some entry) = unless_index entry.kind entry

abbrev pub table_named : List ℕ → Entries → Option Entry
table_named name catalog = table_or_view (entry_named name catalog.names)

-- ---- the indexes of a table: those of its keys are older than those that were created

abbrev pub key_name : List ℕ → ℕ → List ℕ
key_name table n = codes "sqlite_autoindex_" ++ table ++ codes "_" ++ decimal n

-- the keys' trees have the numbers behind that of the table
abbrev pub indexes_of_keys : Entry → ℕ → List (List IndexPart) → List BoundIndex
indexes_of_keys entry n [] = []
indexes_of_keys entry n (parts ∷ keys) =
    record { number = entry.number + n; name = key_name entry.name n; unique = true; parts = parts } ∷ indexes_of_keys entry (suc n) keys

abbrev pub index_with : Facts → List BoundColumn → Entry → IndexDefinition → BoundIndex
index_with facts columns entry i = record { number = entry.number; name = entry.name; unique = i.unique; parts = index_parts facts entry.text columns i.columns }

abbrev pub is_index_of : List ℕ → Entry → Bool
is_index_of table entry = is_same_name entry.owner table

abbrev pub created_index : Facts → List ℕ → List BoundColumn → Entry → List BoundIndex
created_index facts table columns entry =
    if is_index_of table entry then option_to_list (option_map (index_with facts columns entry) (index_in (definition_of entry))) else []

abbrev pub created_indexes : Facts → Entries → List ℕ → List BoundColumn → List BoundIndex
created_indexes facts catalog table columns = flat_map (created_index facts table columns) catalog.names

abbrev pub indexes_of : Facts → Entries → Entry → DeclaredTable → List BoundIndex
indexes_of facts catalog entry t = indexes_of_keys entry 1 t.keys ++ created_indexes facts catalog entry.name (bound_columns t.columns)
