-- CREATE: the name comes first, then what is defined, from left to right. Views, WHEN and the bodies of triggers are bound where they are used.
use Rattle.std.specs.Prelude.{ℕ, Bool, true, false, ◌&&◌, List, [], ◌∷◌, ◌++◌, map, Option, Some, None, Ok, Err, is_some, if◌then◌else◌, codes}
use Rattle.std.specs.List.{find}
use Rattle.eng_entry.specs.Entries.{entry_named}
use Rattle.eng_entry.specs.Names.{is_same_name}
use Rattle.eng_entry.specs.declared.entry.Entry.{Entry}
use Rattle.eng_entry.specs.declared.entry.EntryKind.TheVariants as entry_kind
use Rattle.eng_entry.specs.declared.entry.EntryKind.{EntryKind}
use Rattle.eng_value.specs.declared.affinity.Affinity.TheVariants as affinity
use Rattle.eng_value.specs.declared.affinity.Affinity.{Affinity}
use Rattle.eng_value.specs.declared.cause.Cause.TheVariants.{Exists, Misuse, Real, Reserved, Unknown}
use Rattle.eng_value.specs.declared.cause.NameKind.TheVariants as kind
use Rattle.eng_value.specs.declared.cause.NameKind.{NameKind}
use Rattle.sql_tree.specs.declared.expr.Expr.{Expr}
use Rattle.sql_tree.specs.declared.statement.ColumnConstraint.TheVariants as column_constraint
use Rattle.sql_tree.specs.declared.statement.ColumnConstraint.{ColumnConstraint}
use Rattle.sql_tree.specs.declared.statement.ColumnDefinition.{ColumnDefinition}
use Rattle.sql_tree.specs.declared.statement.Create.{Create}
use Rattle.sql_tree.specs.declared.statement.Definition.TheVariants as definition
use Rattle.sql_tree.specs.declared.statement.Definition.{Definition}
use Rattle.sql_tree.specs.declared.statement.IndexDefinition.{IndexDefinition}
use Rattle.sql_tree.specs.declared.statement.IndexedColumn.{IndexedColumn}
use Rattle.sql_tree.specs.declared.statement.TableConstraint.TheVariants as table_constraint
use Rattle.sql_tree.specs.declared.statement.TableConstraint.{TableConstraint}
use Rattle.sql_tree.specs.declared.statement.TableDefinition.{TableDefinition}
use Rattle.sql_tree.specs.declared.statement.TriggerDefinition.{TriggerDefinition}
use Rattle.sql_tree.specs.declared.statement.TriggerEvent.TheVariants as event
use Rattle.sql_tree.specs.declared.statement.TriggerEvent.{TriggerEvent}
use Rattle.sql_tree.specs.declared.statement.TriggerTime.TheVariants as time
use Rattle.sql_tree.specs.declared.statement.TriggerTime.{TriggerTime}
use Rattle.sql_tree.specs.declared.statement.ViewDefinition.{ViewDefinition}
use Rattle.sql_tree.specs.declared.statement.VirtualTableDefinition.{VirtualTableDefinition}
use Rattle.sql_tree.specs.declared.token.Span.{Span}
use Rattle.sql_tree.specs.declared.token.Token.{Token}
use Rattle.sql_words.specs.Refusals.{◌>>=◌}
use Rattle.sql_words.specs.Types.{type_affinity}
use Rattle.sql_words.specs.Names.{is_named_in, is_reserved_name}
use Rattle.sql_words.specs.Spelled.{name_at}
use Rattle.bound_tree.specs.declared.statements.BoundCommand.TheVariants.{Created, Nothing}
use Rattle.bound_tree.specs.declared.statements.BoundCommand.{BoundCommand}
use Rattle.bound_tree.specs.declared.statements.BoundCreation.{BoundCreation}
use Rattle.bound_tree.specs.declared.statements.ThingKind.TheVariants.{AModuleTable, ATable, ATrigger, AView, AnIndex}
use Rattle.bound_tree.specs.declared.statements.ThingKind.{ThingKind}
use Rattle.bound_tree.specs.declared.units.BoundColumn.{BoundColumn}
use Rattle.bound_tree.specs.declared.units.BoundSource.TheVariants as bound_source
use Rattle.sql_bound.specs.Declarations.{DeclaredTable, bound_columns, declared_table, definition_of, index_parts, place_of_column, table_in, table_named}
use Rattle.sql_bound.specs.Expressions.{collation_called}
use Rattle.sql_bound.specs.Froms.{nothing_found, of_catalog, plain_source, scope_item}
use Rattle.sql_bound.specs.Lasting.{collations_kept}
use Rattle.sql_bound.specs.Limits.{by_column, room_behind, within_columns}
use Rattle.sql_bound.specs.Parameters.{query_has_parameter, trigger_has_parameter}
use Rattle.sql_bound.specs.Refusals.{Checked}
use Rattle.sql_bound.specs.Results.{text_of}
use Rattle.sql_bound.specs.Scopes.{Around, Facts, Level, Outer, begun}
use Rattle.sql_bound.specs.Targets.{constraint_bound, found_place, in_check, in_default, inside_write, place_written}
use Rattle.sql_bound.specs.Trees.{of_expr}
use Rattle.sql_bound.specs.declared.froms.Sourced.{Sourced}
use Rattle.sql_bound.specs.declared.scopes.Allowed.{Allowed}
use Rattle.sql_bound.specs.declared.scopes.ScopeColumn.{ScopeColumn}
use Rattle.sql_bound.specs.declared.scopes.ScopeItem.{ScopeItem}

-- ---- the name: it is not reserved, and nothing has it

-- the word for what there is
abbrev pub named_kind : EntryKind → NameKind
named_kind entry_kind.Table = kind.Table
named_kind entry_kind.Module = kind.Table
named_kind entry_kind.Index = kind.Index
named_kind entry_kind.View = kind.View
named_kind entry_kind.Trigger = kind.Trigger

abbrev pub not_there : Option Entry → Checked (Unit {0})
not_there None = Ok tt
not_there (Some entry) = Err (Exists (named_kind entry.kind) entry.name)

abbrev pub is_free : List ℕ → Option Entry → Checked (Unit {0})
is_free name there = if is_reserved_name name then Err (Reserved name) else not_there there

-- triggers have names of their own
abbrev pub entries_beside : Around → Definition → List Entry
entries_beside around (definition.Trigger t) = around.catalog.triggers
entries_beside around other = around.catalog.names

-- ---- a creation

abbrev pub creation_of : ThingKind → List ℕ → List ℕ → BoundCreation
creation_of k name owner = record { kind = k; name = name; owner = owner; unique = false; parts = []; arguments = [] }

-- ---- CREATE TABLE: each column with its constraints in turn, then the constraints behind them

-- a column whose name an earlier one has is refused in its turn, so that no CHECK in front of it finds two
abbrev pub behind_first : List (List ℕ) → List ScopeColumn → List ScopeColumn
behind_first names [] = []
behind_first names (c ∷ cs) = record c { joined = is_named_in names c.name } ∷ behind_first (c.name ∷ names) cs

abbrev pub once_each : ScopeItem → ScopeItem
once_each item = record item { columns = behind_first [] item.columns }

-- the table as CHECKs see it: all its columns
abbrev pub level_of : Facts → List ℕ → List ℕ → TableDefinition → Level
level_of facts text name t = level_with (declared_table facts text t)
  where
    level_with : DeclaredTable → Level
    level_with d = once_each (scope_item 0 (Some name) (record (plain_source (Some name) (bound_source.Table name 0) (bound_columns d.columns)) { has_rowid = true; rowid = d.rowid })) ∷ []

-- what the columns so far are called, and whether there is a primary key
pub record Declaring : Type 0 where
  pub names : List (List ℕ)
  pub has_primary : Bool

-- what a table is created in
pub record Creating : Type 0 where
  pub around : Around
  pub text : List ℕ
  pub name : List ℕ
  pub level : Level
  pub columns : List BoundColumn

abbrev pub is_new_column : Option (List ℕ) → Checked (Unit {0})
is_new_column None = Ok tt
is_new_column (Some name) = Err (Exists kind.Column name)

abbrev pub is_no_real : Affinity → Checked (Unit {0})
is_no_real affinity.Real = Err Real
is_no_real other = Ok tt

abbrev pub with_primary : Creating → Declaring → Checked Declaring
with_primary c d = if d.has_primary then Err (Misuse c.name) else Ok (record d { has_primary = true })

abbrev pub constraint_holds : Creating → Allowed → Level → Expr → Declaring → Checked Declaring
constraint_holds c allowed level x d = constraint_bound c.around c.text level allowed (of_expr x) (begun []) >>= λ a. Ok d

abbrev pub with_collation : Creating → Token → Declaring → Checked Declaring
with_collation c t d = collation_called c.around.facts (name_at c.text t) >>= λ k. Ok d

abbrev pub with_constraint : Creating → ColumnConstraint → Declaring → Checked Declaring
with_constraint c column_constraint.PrimaryKey d = with_primary c d
with_constraint c (column_constraint.Check x) d = constraint_holds c in_check c.level x d
with_constraint c (column_constraint.Default x) d = constraint_holds c in_default c.level x d
with_constraint c (column_constraint.Collate t) d = with_collation c t d
with_constraint c other d = Ok d

abbrev pub in_turn : {A B : Type 0} → (A → B → Checked B) → List A → B → Checked B
in_turn f [] b = Ok b
in_turn f (x ∷ xs) b = f x b >>= λ c. in_turn f xs c

abbrev pub with_column : Creating → ColumnDefinition → Declaring → Checked Declaring
with_column c x d =
    is_new_column (find (is_same_name (name_at c.text x.name)) d.names) >>= λ u. is_no_real (type_affinity c.text x.type_name) >>= λ u.
    room_behind d.names >>= λ u. in_turn (with_constraint c) x.constraints (record d { names = d.names ++ name_at c.text x.name ∷ [] })

-- a column of a key or an index, and its collation
abbrev pub written_is_there : Facts → List ℕ → Option Token → Checked (Unit {0})
written_is_there facts text None = Ok tt
written_is_there facts text (Some t) = collation_called facts (name_at text t) >>= λ k. Ok tt

abbrev pub is_column : List BoundColumn → List ℕ → Checked (Unit {0})
is_column columns name = if is_some (place_of_column columns name) then Ok tt else Err (Unknown kind.Column name)

abbrev pub part_is_there : Facts → List ℕ → List BoundColumn → IndexedColumn → Unit {0} → Checked (Unit {0})
part_is_there facts text columns p u = is_column columns (name_at text p.name) >>= λ u. written_is_there facts text p.collation

abbrev pub parts_are_there : Facts → List ℕ → List BoundColumn → List IndexedColumn → Checked (Unit {0})
parts_are_there facts text columns ps = by_column (part_is_there facts text columns) ps tt

abbrev pub key_of : Creating → List IndexedColumn → Declaring → Checked Declaring
key_of c ps d = parts_are_there c.around.facts c.text c.columns ps >>= λ u. Ok d

abbrev pub with_table_constraint : Creating → TableConstraint → Declaring → Checked Declaring
with_table_constraint c (table_constraint.PrimaryKey ps) d = with_primary c d >>= λ e. key_of c ps e
with_table_constraint c (table_constraint.Unique ps) d = key_of c ps d
with_table_constraint c (table_constraint.Check x) d = constraint_holds c in_check c.level x d

abbrev pub creating : Around → List ℕ → List ℕ → TableDefinition → Creating
creating around text name t =
    record { around = around; text = text; name = name; level = level_of around.facts text name t; columns = bound_columns (declared_table around.facts text t).columns }

abbrev pub table_created : Around → List ℕ → List ℕ → TableDefinition → Checked BoundCreation
table_created around text name t =
    in_turn (with_column (creating around text name t)) t.columns (record { names = []; has_primary = false }) >>= λ d.
    in_turn (with_table_constraint (creating around text name t)) t.constraints d >>= λ e. Ok (creation_of ATable name [])

-- ---- CREATE INDEX: on the columns of a table

abbrev pub entry_of : Around → List ℕ → Option Entry
entry_of around name = table_named name around.catalog

abbrev pub index_on : Around → List ℕ → List ℕ → IndexDefinition → Entry → Option TableDefinition → Checked BoundCreation
index_on around text name i entry None = Err (Misuse entry.name)
index_on around text name i entry (Some t) = collations_kept around entry t >>= λ u. created_on (bound_columns (declared_table around.facts entry.text t).columns)
  where
    created_on : List BoundColumn → Checked BoundCreation
    created_on columns =
        parts_are_there around.facts text columns i.columns >>= λ u.
        Ok (record (creation_of AnIndex name entry.name) { unique = i.unique; parts = index_parts around.facts text columns i.columns })

-- what no entry has is a module that is a table itself, or nothing
abbrev pub no_entry : {A : Type 0} → List ℕ → Option (Bool × Bool) → Checked A
no_entry table (Some (true, writable)) = Err (Misuse table)
no_entry table other = Err (Unknown kind.Table table)

-- neither a view nor a table of a module takes an index
abbrev pub index_by : Around → List ℕ → List ℕ → IndexDefinition → List ℕ → Option Entry → Checked BoundCreation
index_by around text name i table None = no_entry table (around.facts.host_module table)
index_by around text name i table (Some entry) = index_on around text name i entry (table_in (definition_of entry))

abbrev pub index_created : Around → List ℕ → List ℕ → IndexDefinition → Checked BoundCreation
index_created around text name i = index_by around text name i (name_at text i.table) (entry_of around (name_at text i.table))

-- ---- CREATE VIEW

abbrev pub without_parameter : Bool → Checked (Unit {0})
without_parameter false = Ok tt
without_parameter true = Err (Misuse (codes "?"))

abbrev pub view_created : List ℕ → List ℕ → ViewDefinition → Checked BoundCreation
view_created text name v =
    within_columns v.columns >>= λ u. without_parameter (query_has_parameter v.query) >>= λ u. Ok (creation_of AView name [])

-- ---- CREATE TRIGGER: INSTEAD OF on a view, the others on a table; UPDATE OF names columns that there are

abbrev pub is_instead : TriggerTime → Bool
is_instead time.InsteadOf = true
is_instead other = false

abbrev pub fits_kind : List ℕ → Entry → EntryKind → TriggerTime → Checked (Unit {0})
fits_kind table entry entry_kind.Table t = if is_instead t then Err (Misuse entry.name) else Ok tt
fits_kind table entry entry_kind.View t = if is_instead t then Ok tt else Err (Misuse entry.name)
fits_kind table entry entry_kind.Module t = Err (Misuse entry.name)
fits_kind table entry other t = Err (Unknown kind.Table table)

abbrev pub one_is_there : Sourced → List ℕ → Unit {0} → Checked (Unit {0})
one_is_there s name u = found_place name (place_written s name) >>= λ p. Ok tt

abbrev pub columns_of_event : List ℕ → TriggerEvent → List (List ℕ)
columns_of_event text (event.Update ts) = map (name_at text) ts
columns_of_event text other = []

-- only where columns are named the table or view is asked for its own
abbrev pub event_fits : Outer → List ℕ → List (List ℕ) → Checked (Unit {0})
event_fits o table [] = Ok tt
event_fits o table (n ∷ ns) =
    of_catalog (inside_write o) table (entry_of o.around table) [] nothing_found (begun []) >>= λ s. by_column (one_is_there s.0) (n ∷ ns) tt

abbrev pub trigger_on : Outer → List ℕ → TriggerDefinition → Option Entry → Checked BoundCreation
trigger_on o name t None = no_entry (name_at o.text t.table) (o.around.facts.host_module (name_at o.text t.table))
trigger_on o name t (Some entry) =
    fits_kind (name_at o.text t.table) entry entry.kind t.time >>= λ u. event_fits o entry.name (columns_of_event o.text t.event) >>= λ u.
    without_parameter (trigger_has_parameter t) >>= λ u. Ok (creation_of ATrigger name entry.name)

-- ---- CREATE VIRTUAL TABLE: of a module that there is; what it is made of are texts

abbrev pub argument_text : List ℕ → Option Span → List ℕ
argument_text text None = []
argument_text text (Some span) = text_of text span

abbrev pub module_created : List ℕ → List ℕ → VirtualTableDefinition → Option (Bool × Bool) → Checked BoundCreation
module_created text name v None = Err (Unknown kind.Module (name_at text v.module_name))
module_created text name v (Some m) =
    Ok (record (creation_of AModuleTable name (name_at text v.module_name)) { arguments = map (argument_text text) v.arguments })

-- ---- any CREATE; IF NOT EXISTS is asked before all else

abbrev pub created_by : Outer → List ℕ → Definition → Checked BoundCreation
created_by o name (definition.Table t) = table_created o.around o.text name t
created_by o name (definition.Index i) = index_created o.around o.text name i
created_by o name (definition.View v) = view_created o.text name v
created_by o name (definition.Trigger t) = trigger_on o name t (entry_of o.around (name_at o.text t.table))
created_by o name (definition.VirtualTable v) = module_created o.text name v (o.around.facts.host_module (name_at o.text v.module_name))

-- what is there keeps its name, and so does the table of an index or a trigger
abbrev pub name_of_entry : List ℕ → Option Entry → List ℕ
name_of_entry name None = name
name_of_entry name (Some entry) = entry.name

abbrev pub table_called : Outer → Token → List ℕ
table_called o t = name_of_entry (name_at o.text t) (entry_of o.around (name_at o.text t))

abbrev pub nothing_created : Outer → List ℕ → Definition → BoundCommand
nothing_created o name (definition.Table t) = Nothing ATable name []
nothing_created o name (definition.Index i) = Nothing AnIndex name (table_called o i.table)
nothing_created o name (definition.View v) = Nothing AView name []
nothing_created o name (definition.Trigger t) = Nothing ATrigger name (table_called o t.table)
nothing_created o name (definition.VirtualTable v) = Nothing AModuleTable name (name_at o.text v.module_name)

abbrev pub create_there : Outer → Create → List ℕ → Option Entry → Checked BoundCommand
create_there o c name there =
    if c.if_not_exists && is_some there then Ok (nothing_created o (name_of_entry name there) c.definition)
    else (is_free name there >>= λ u. created_by o name c.definition >>= λ made. Ok (Created made))

abbrev pub create_bound : Outer → Create → Checked BoundCommand
create_bound o c = create_there o c (name_at o.text c.name) (entry_named (name_at o.text c.name) (entries_beside o.around c.definition))
