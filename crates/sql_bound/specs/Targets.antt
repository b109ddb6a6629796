-- What a write writes: a table, a table of a module, or a view that has a trigger for it (INSERT; CREATE TRIGGER, section 3).
use Rattle.std.specs.Prelude.{ℕ, nat_eq, Bool, true, false, not, ◌&&◌, ◌||◌, List, [], ◌∷◌, map, position, Option, Some, None, Ok, Err, if◌then◌else◌}
use Rattle.std.specs.List.{list_any}
use Rattle.eng_entry.specs.Names.{is_same_name}
use Rattle.eng_entry.specs.declared.entry.Entry.{Entry}
use Rattle.eng_entry.specs.declared.entry.EntryKind.TheVariants as entry_kind
use Rattle.eng_entry.specs.declared.entry.EntryKind.{EntryKind}
use Rattle.eng_value.specs.declared.cause.Cause.TheVariants.{Misuse, Unknown}
use Rattle.eng_value.specs.declared.cause.NameKind.TheVariants as kind
use Rattle.sql_tree.specs.declared.expr.Expr.{Expr}
use Rattle.sql_tree.specs.declared.statement.TableDefinition.{TableDefinition}
use Rattle.sql_tree.specs.declared.statement.TriggerDefinition.{TriggerDefinition}
use Rattle.sql_tree.specs.declared.statement.TriggerEvent.TheVariants as event
use Rattle.sql_tree.specs.declared.statement.TriggerEvent.{TriggerEvent}
use Rattle.sql_words.specs.Refusals.{◌>>=◌}
use Rattle.sql_words.specs.Spelled.{name_at}
use Rattle.bound_tree.specs.Exprs.{BoundExpr}
use Rattle.bound_tree.specs.Same.{both_same}
use Rattle.bound_tree.specs.declared.units.BoundColumn.{BoundColumn}
use Rattle.bound_tree.specs.declared.units.BoundSource.TheVariants as bound_source
use Rattle.bound_tree.specs.declared.units.BoundSource.{BoundSource}
use Rattle.bound_tree.specs.declared.writes.BoundTarget.{BoundTarget}
use Rattle.bound_tree.specs.declared.writes.FiringEvent.TheVariants.{AtDelete, AtInsert, AtUpdate}
use Rattle.bound_tree.specs.declared.writes.FiringEvent.{FiringEvent}
use Rattle.sql_bound.specs.Carriers.{Expression}
use Rattle.sql_bound.specs.Declarations.{DeclaredColumn, DeclaredTable, declared_table, definition_of, is_empty, table_in, table_named, trigger_in}
use Rattle.sql_bound.specs.Froms.{Inside, nothing_found, of_catalog, plain_item, scope_item}
use Rattle.sql_bound.specs.Refusals.{Checked}
use Rattle.sql_bound.specs.Scopes.{Answer, Around, Level, Outer, is_rowid_name, scope_over}
use Rattle.sql_bound.specs.Scopes.{in_statement}
use Rattle.sql_bound.specs.Trees.{full_depth, of_expr, of_query, outer_at, within}
use Rattle.sql_bound.specs.declared.froms.Sourced.{Sourced}
use Rattle.sql_bound.specs.declared.scopes.Allowed.{Allowed}
use Rattle.sql_bound.specs.declared.scopes.Work.{Work}

-- ---- which column a write names: a column, or the rowid where no column is the rowid

-- the place of a column, none for the rowid
abbrev pub rowid_place : Sourced → List ℕ → Option (Option ℕ)
rowid_place s name = if is_rowid_name name && s.has_rowid then Some s.rowid else None

abbrev pub or_rowid : Sourced → List ℕ → Option ℕ → Option (Option ℕ)
or_rowid s name (Some place) = Some (Some place)
or_rowid s name None = rowid_place s name

abbrev pub place_written : Sourced → List ℕ → Option (Option ℕ)
place_written s name = or_rowid s name (position (λ (c : BoundColumn). is_same_name c.name name) s.columns)

abbrev pub found_place : List ℕ → Option (Option ℕ) → Checked (Option ℕ)
found_place name None = Err (Unknown kind.Column name)
found_place name (Some place) = Ok place

-- ---- which triggers a write can fire

-- what a write does, and the names that an UPDATE sets
pub record Firing : Type 0 where
  pub event : FiringEvent
  pub sets : List (List ℕ)

abbrev pub is_same_column : Sourced → List ℕ → List ℕ → Bool
is_same_column s a b = both_same (both_same nat_eq) (place_written s a) (place_written s b) && not (is_nowhere (place_written s a))
  where
    is_nowhere : Option (Option ℕ) → Bool
    is_nowhere None = true
    is_nowhere (Some place) = false

-- UPDATE OF fires where one of its columns is set
abbrev pub sets_one_of : Sourced → List (List ℕ) → List (List ℕ) → Bool
sets_one_of s sets columns = is_empty columns || list_any (λ c. list_any (is_same_column s c) sets) columns

abbrev pub fires_at : Sourced → List ℕ → Firing → TriggerEvent → Bool
fires_at s text f event.Delete = is_delete f.event
  where
    is_delete : FiringEvent → Bool
    is_delete AtDelete = true
    is_delete other = false
fires_at s text f event.Insert = is_insert f.event
  where
    is_insert : FiringEvent → Bool
    is_insert AtInsert = true
    is_insert other = false
fires_at s text f (event.Update columns) = is_update f.event && sets_one_of s f.sets (map (name_at text) columns)
  where
    is_update : FiringEvent → Bool
    is_update AtUpdate = true
    is_update other = false

abbrev pub can_fire_by : Sourced → Firing → Entry → Option TriggerDefinition → Bool
can_fire_by s f entry None = false
can_fire_by s f entry (Some t) = fires_at s entry.text f t.event

-- a trigger is that of the table whose name its entry tells
abbrev pub can_fire : List ℕ → Sourced → Firing → Entry → Bool
can_fire table s f entry = is_same_name entry.owner table && can_fire_by s f entry (trigger_in (definition_of entry))

-- ---- the target

-- the target as it is bound, as names see it, and as a source of rows
pub record Target : Type 0 where
  pub name : List ℕ
  pub target : BoundTarget
  pub level : Level
  pub source : Sourced

-- a write is no query: a view's query is the outermost
abbrev pub inside_write : Outer → Inside
inside_write o =
    record { outer = o; views = λ name text q units. (of_query q).bound (within name (outer_at o.around (full_depth o.around) text [] in_statement)) units }

-- CHECK names columns, DEFAULT none, and both name only what is built in
abbrev pub in_check : Allowed
in_check = record { hosts = false; queries = false; columns = true; parameters = false; raises = false }

abbrev pub in_default : Allowed
in_default = record { hosts = false; queries = false; columns = false; parameters = false; raises = false }

abbrev pub constraint_bound : Around → List ℕ → Level → Allowed → Expression → Work → Answer BoundExpr
constraint_bound around text level allowed x w =
    x.bound (scope_over level (outer_at around (full_depth around) text [] allowed)) w >>= λ a. Ok (a.0.tree, a.1)

abbrev pub checks_bound : Around → List ℕ → Level → List Expr → Work → Answer (List BoundExpr)
checks_bound around text level [] w = Ok ([], w)
checks_bound around text level (x ∷ xs) w =
    constraint_bound around text level in_check (of_expr x) w >>= λ a. checks_bound around text level xs a.1 >>= λ more. Ok (a.0 ∷ more.0, more.1)

abbrev pub default_bound : Around → List ℕ → Option Expr → Work → Answer (Option BoundExpr)
default_bound around text None w = Ok (None, w)
default_bound around text (Some x) w = constraint_bound around text [] in_default (of_expr x) w >>= λ a. Ok (Some a.0, a.1)

abbrev pub defaults_bound : Around → List ℕ → List DeclaredColumn → Work → Answer (List (Option BoundExpr))
defaults_bound around text [] w = Ok ([], w)
defaults_bound around text (c ∷ cs) w =
    default_bound around text c.default w >>= λ a. defaults_bound around text cs a.1 >>= λ more. Ok (a.0 ∷ more.0, more.1)

-- without defaults and constraints
abbrev pub plain_target : Sourced → List ℕ → BoundTarget
plain_target s name =
    record { item = plain_item (Some name) s; defaults = map (λ c. None) s.columns; not_nulls = map (λ c. false) s.columns; checks = [] }

abbrev pub target_of : List ℕ → Sourced → BoundTarget → Target
target_of name s target = record { name = name; target = target; level = scope_item 0 (Some name) s ∷ []; source = s }

-- a table with what its entry declares
abbrev pub table_target : Around → List ℕ → Sourced → DeclaredTable → List ℕ → Work → Answer Target
table_target around text s t name w =
    defaults_bound around text t.columns w >>= λ d. checks_bound around text (scope_item 0 (Some name) s ∷ []) t.checks d.1 >>= λ c.
    Ok (target_of name s (record (plain_target s name) { defaults = d.0; not_nulls = map (λ (x : DeclaredColumn). x.not_null) t.columns; checks = c.0 }), c.1)

-- a DELETE puts no row, and so asks for neither
abbrev pub declared_target : Around → FiringEvent → List ℕ → Sourced → Option Entry → Work → Answer Target
declared_target around AtDelete name s entry w = Ok (target_of name s (plain_target s name), w)
declared_target around other name s None w = Ok (target_of name s (plain_target s name), w)
declared_target around other name s (Some entry) w = table_by (table_in (definition_of entry))
  where
    table_by : Option TableDefinition → Answer Target
    table_by None = Ok (target_of name s (plain_target s name), w)
    table_by (Some t) = table_target around entry.text s (declared_table around.facts entry.text t) name w

-- ---- whether it can be written

abbrev pub if_writable : List ℕ → Bool → Checked (Unit {0})
if_writable name true = Ok tt
if_writable name false = Err (Misuse name)

abbrev pub writable_entry : Entry → Option (Bool × Bool) → Checked (Unit {0})
writable_entry entry None = Err (Unknown kind.Module entry.owner)
writable_entry entry (Some m) = if_writable entry.name m.1

-- a table of a module, before the module is asked for its columns
abbrev pub may_write_module : Around → List ℕ → Option Entry → Checked (Unit {0})
may_write_module around name (Some entry) = by_kind entry.kind
  where
    by_kind : EntryKind → Checked (Unit {0})
    by_kind entry_kind.Module = writable_entry entry (around.facts.host_module entry.owner)
    by_kind other = Ok tt
may_write_module around name None = by_module (around.facts.host_module name)
  where
    by_module : Option (Bool × Bool) → Checked (Unit {0})
    by_module (Some (true, writable)) = if_writable name writable
    by_module other = Ok tt

-- a view needs a trigger that can fire
abbrev pub may_write_view : Around → Sourced → Firing → BoundSource → Checked (Unit {0})
may_write_view around s f (bound_source.View view u) = if_writable view (list_any (can_fire view s f) around.catalog.triggers)
may_write_view around s f other = Ok tt

abbrev pub shown_name : List ℕ → Option (List ℕ) → List ℕ
shown_name name None = name
shown_name name (Some shown) = shown

-- the target comes first: it is there, and can be written so
abbrev pub target_bound : Outer → List ℕ → Firing → Work → Answer Target
target_bound o name f w =
    may_write_module o.around name (table_named name o.around.catalog) >>= λ u.
    of_catalog (inside_write o) name (table_named name o.around.catalog) [] nothing_found w >>= λ s. may_write_view o.around s.0 f s.0.source >>= λ u.
    declared_target o.around f.event (shown_name name s.0.name) s.0 (table_named name o.around.catalog) s.1
