-- FROM: where the rows of an item come from, what names it brings, and how it is joined with those on its left (SELECT, section 2.1).
use Rattle.std.specs.Prelude.{ℕ, suc, ◌-◌, nat_eq, nat_lt, nat_le, Bool, true, false, not, ◌&&◌, ◌||◌, List, [], ◌∷◌, ◌++◌, map, length, filter, slice_get, Option, Some, None, Ok, Err, unwrap_or, if◌then◌else◌, codes}
use Rattle.std.specs.List.{flat_map}
use Rattle.eng_entry.specs.Names.{is_same_name}
use Rattle.eng_entry.specs.declared.entry.Entry.{Entry}
use Rattle.eng_entry.specs.declared.entry.EntryKind.TheVariants as entry_kind
use Rattle.eng_entry.specs.declared.entry.EntryKind.{EntryKind}
use Rattle.eng_value.specs.declared.affinity.Affinity.TheVariants as affinity
use Rattle.eng_value.specs.declared.cause.Cause.TheVariants.{Ambiguous, Arity, Limit, Misuse, Unknown}
use Rattle.eng_value.specs.declared.cause.Cause.TheVariants.{Fault}
use Rattle.eng_value.specs.declared.cause.LimitKind.TheVariants as limit
use Rattle.eng_value.specs.declared.cause.NameKind.TheVariants as kind
use Rattle.eng_value.specs.declared.compare_op.CompareOp.TheVariants as compare
use Rattle.eng_value.specs.declared.modules.ColumnKind.TheVariants as column_kind
use Rattle.eng_value.specs.declared.modules.ColumnKind.{ColumnKind}
use Rattle.eng_value.specs.declared.modules.ModColumn.{ModColumn}
use Rattle.sql_tree.specs.declared.query.Query.{Query}
use Rattle.sql_tree.specs.declared.statement.TableDefinition.{TableDefinition}
use Rattle.sql_tree.specs.declared.statement.ViewDefinition.{ViewDefinition}
use Rattle.sql_tree.specs.declared.token.Token.{Token}
use Rattle.sql_words.specs.Collations.{by_bytes}
use Rattle.sql_words.specs.Refusals.{◌>>=◌}
use Rattle.sql_words.specs.Types.{affinity_of_words}
use Rattle.sql_words.specs.Spelled.{name_at}
use Rattle.bound_tree.specs.Exprs as e
use Rattle.bound_tree.specs.Exprs.{BoundExpr}
use Rattle.bound_tree.specs.declared.units.BoundColumn.{BoundColumn}
use Rattle.bound_tree.specs.declared.units.BoundIndex.{BoundIndex}
use Rattle.bound_tree.specs.declared.units.BoundItem.{BoundItem}
use Rattle.bound_tree.specs.declared.units.BoundSource.TheVariants as bound_source
use Rattle.bound_tree.specs.declared.units.BoundSource.{BoundSource}
use Rattle.bound_tree.specs.declared.units.BoundUnit.{BoundUnit}
use Rattle.bound_tree.specs.declared.units.JoinKind.TheVariants as join_kind
use Rattle.bound_tree.specs.declared.units.JoinKind.{JoinKind}
use Rattle.sql_bound.specs.Carriers as parts
use Rattle.sql_bound.specs.Carriers.{ConstraintParts, Expression, ItemParts, On, QueryParts, SourceParts, Unconstrained, Using}
use Rattle.sql_bound.specs.Declarations.{DeclaredTable, bound_columns, declared_table, definition_of, indexes_of, is_empty, table_in, table_named, view_in}
use Rattle.sql_bound.specs.Expressions.{all_bound, asked}
use Rattle.sql_bound.specs.Lasting.{collations_kept}
use Rattle.sql_bound.specs.Limits.{by_column, most_items, within_columns}
use Rattle.sql_bound.specs.Operands.{collation_of_result, column_operand, compared, trees_of}
use Rattle.sql_bound.specs.Refusals.{Checked}
use Rattle.sql_bound.specs.Scopes.{Answer, Facts, Level, Outer, UnitsAnswer, further, handed, inside, is_shown, scope_over, unjoined, columns_named, with_named}
use Rattle.sql_bound.specs.declared.froms.Found.{Found}
use Rattle.sql_bound.specs.declared.froms.Joining.{Joining}
use Rattle.sql_bound.specs.declared.froms.QueueTable.{QueueTable}
use Rattle.sql_bound.specs.declared.froms.Sourced.{Sourced}
use Rattle.sql_bound.specs.declared.scopes.Asked.{Asked}
use Rattle.sql_bound.specs.declared.scopes.ResultColumn.{ResultColumn}
use Rattle.sql_bound.specs.declared.scopes.ScopeColumn.{ScopeColumn}
use Rattle.sql_bound.specs.declared.scopes.ScopeItem.{ScopeItem}
use Rattle.sql_bound.specs.declared.scopes.WithEntry.{WithEntry}
use Rattle.sql_bound.specs.declared.scopes.WithMeaning.TheVariants.{Bound, Itself}
use Rattle.sql_bound.specs.declared.scopes.WithMeaning.{WithMeaning}
use Rattle.sql_bound.specs.declared.scopes.Work.{Work}

-- what a query is bound in once it is entered, and how the query of a view is bound there
pub record Inside : Type 0 where
  pub outer : Outer
  pub views : List ℕ → List ℕ → Query → List BoundUnit → UnitsAnswer Asked

-- a query in FROM, an argument list's beginning, LIMIT and OFFSET see nothing of the own FROM
abbrev pub beside_from : Outer → Outer
beside_from o = inside [] o

abbrev pub nothing_found : Found
nothing_found = record { level = []; items = []; has_queue = false }

-- ---- an item's rows and columns, before it is joined

-- columns that are all shown, without a rowid
abbrev pub plain_source : Option (List ℕ) → BoundSource → List BoundColumn → Sourced
plain_source name source columns =
    record { name = name; source = source; columns = columns; kinds = []; hidden = map (λ c. false) columns; has_rowid = false; rowid = None; indexes = []; is_queue = false }

-- a result as a column: BINARY where it has no collation
abbrev pub as_column : ResultColumn → BoundColumn
as_column c = record { name = c.name; affinity = c.affinity; collation = collation_of_result c }

abbrev pub as_columns : List ResultColumn → List BoundColumn
as_columns cs = map as_column cs

-- ---- tables and views of the catalog

abbrev pub table_source : Facts → Entry → List BoundIndex → DeclaredTable → Sourced
table_source facts entry indexes t =
    record (plain_source (Some entry.name) (bound_source.Table entry.name entry.number) (bound_columns t.columns)) { has_rowid = facts.rowids; rowid = t.rowid; indexes = indexes }

abbrev pub declared_source : Outer → Entry → DeclaredTable → Sourced
declared_source o entry t = table_source o.around.facts entry (indexes_of o.around.facts o.around.catalog entry t) t

abbrev pub no_table : {A : Type 0} → List ℕ → Checked A
no_table name = Err (Unknown kind.Table name)

abbrev pub of_table : Outer → List ℕ → Entry → Option TableDefinition → Checked Sourced
of_table o name entry None = no_table name
of_table o name entry (Some t) = collations_kept o.around entry t >>= λ u. Ok (declared_source o entry (declared_table o.around.facts entry.text t))

-- the names of a list of columns, where there is one, in the place of a query's own; else it does not fit the table or view
abbrev pub renamed : List (List ℕ) → List ResultColumn → List ResultColumn
renamed [] cs = []
renamed (n ∷ ns) [] = []
renamed (n ∷ ns) (c ∷ cs) = record c { name = n } ∷ renamed ns cs

abbrev pub with_names : List ℕ → List (List ℕ) → List ResultColumn → Checked (List ResultColumn)
with_names table [] cs = Ok cs
with_names table (n ∷ ns) cs = if nat_eq (length (n ∷ ns)) (length cs) then Ok (renamed (n ∷ ns) cs) else Err (Arity table)

-- a view's query is bound in the view's own text, one level deeper, and sees nothing of what is around its use
abbrev pub of_view : Inside → List ℕ → Entry → Option ViewDefinition → Work → Answer Sourced
of_view i name entry None w = no_table name
of_view i name entry (Some v) w =
    i.views entry.name entry.text v.query w.units >>= λ a. with_names entry.name (map (name_at entry.text) v.columns) a.0.columns >>= λ cs.
    Ok (plain_source (Some entry.name) (bound_source.View entry.name a.0.unit) (as_columns cs), record w { units = a.1 })

-- ---- tables of modules

abbrev pub is_hidden : ColumnKind → Bool
is_hidden column_kind.Shown = false
is_hidden other = true

abbrev pub module_column : ModColumn → BoundColumn
module_column c = record { name = c.name; affinity = affinity_of_words (filter (λ word. not (is_empty word)) (c.type_text ∷ [])); collation = by_bytes }

abbrev pub hidden_columns : List ModColumn → List ModColumn
hidden_columns cs = filter (λ (c : ModColumn). is_hidden c.kind) cs

abbrev pub told : {A : Type 0} → List ℕ → Option A → Checked A
told host None = Err (Fault host)
told host (Some a) = Ok a

abbrev pub columns_told : Facts → List ℕ → ℕ → Checked (List ModColumn)
columns_told facts name table = told name (facts.columns name table) >>= λ cs. within_columns cs

abbrev pub module_source : List ℕ → List ℕ → ℕ → List ModColumn → List BoundExpr → Sourced
module_source shown name table cs args =
    record (plain_source (Some shown) (bound_source.Module shown name table args) (map module_column cs)) { kinds = map (λ (c : ModColumn). c.kind) cs; hidden = map (λ (c : ModColumn). is_hidden c.kind) cs; has_rowid = true }

-- as many arguments as there are hidden columns, or fewer
abbrev pub arguments_fit : List ℕ → List ModColumn → List Expression → Checked (Unit {0})
arguments_fit name cs args = if nat_le (length args) (length (hidden_columns cs)) then Ok tt else Err (Arity name)

-- an argument may name the items on the left
abbrev pub of_module : Inside → List ℕ → List ℕ → ℕ → List Expression → Found → Work → Answer Sourced
of_module i shown name table args f w =
    columns_told i.outer.around.facts name table >>= λ cs. arguments_fit name cs args >>= λ u. all_bound (scope_over f.level i.outer) args w >>= λ xs.
    Ok (module_source shown name table cs (trees_of xs.0), xs.1)

-- ---- any name: a WITH table, then a table or view of the catalog, then a module that is a table itself

abbrev pub without_arguments : List ℕ → List Expression → Checked (Unit {0})
without_arguments name [] = Ok tt
without_arguments name (x ∷ xs) = Err (Arity name)

abbrev pub with_units : {A : Type 0} → Checked A → Work → Answer A
with_units answer w = answer >>= λ a. Ok (a, w)

-- hosts may have gone since the table was created
abbrev pub module_there : Entry → Option (Bool × Bool) → Checked (Unit {0})
module_there entry None = Err (Unknown kind.Module entry.owner)
module_there entry (Some m) = Ok tt

abbrev pub of_entry : Inside → List ℕ → Entry → EntryKind → List Expression → Found → Work → Answer Sourced
of_entry i name entry entry_kind.Table args f w = without_arguments entry.name args >>= λ u. with_units (of_table i.outer name entry (table_in (definition_of entry))) w
of_entry i name entry entry_kind.View args f w = without_arguments entry.name args >>= λ u. of_view i name entry (view_in (definition_of entry)) w
of_entry i name entry entry_kind.Module args f w =
    module_there entry (i.outer.around.facts.host_module entry.owner) >>= λ u. of_module i entry.name entry.owner entry.number args f w
of_entry i name entry other args f w = no_table name

-- by the name as it is written, since hosts do not tell how they declare it
abbrev pub of_eponymous : Inside → List ℕ → Option (Bool × Bool) → List Expression → Found → Work → Answer Sourced
of_eponymous i name (Some (true, writable)) args f w = of_module i name name 0 args f w
of_eponymous i name other args f w = no_table name

abbrev pub of_catalog : Inside → List ℕ → Option Entry → List Expression → Found → Work → Answer Sourced
of_catalog i name (Some entry) args f w = of_entry i name entry entry.kind args f w
of_catalog i name None args f w = of_eponymous i name (i.outer.around.facts.host_module name) args f w

-- the queue stands once, and only in the FROM of the part itself
abbrev pub of_queue : List ℕ → Option QueueTable → Bool → Checked Sourced
of_queue name (Some q) false = if is_same_name q.name name then Ok (record (plain_source (Some name) bound_source.Queue (as_columns q.columns)) { is_queue = true }) else Err (Misuse name)
of_queue name other has_queue = Err (Misuse name)

abbrev pub with_source : Bool → ℕ → List BoundExpr → BoundSource
with_source false u arguments = bound_source.With u arguments
with_source true u arguments = bound_source.Recursive u arguments

-- what it needs is seen from here with the FROMs between
abbrev pub of_with : Inside → Option QueueTable → WithEntry → WithMeaning → Found → Work → Answer Sourced
of_with i queue t Itself f w = with_units (of_queue t.name queue f.has_queue) w
of_with i queue t (Bound u recursive needs cs) f w =
    let h = handed (map (further (length i.outer.levels - t.around)) needs) w in
    Ok (plain_source (Some t.name) (with_source recursive u h.0) (as_columns cs), h.1)

abbrev pub of_name : Inside → Option QueueTable → List ℕ → Option WithEntry → List Expression → Found → Work → Answer Sourced
of_name i queue name (Some t) args f w = without_arguments t.name args >>= λ u. of_with i queue t t.meaning f w
of_name i queue name None args f w = of_catalog i name (table_named name i.outer.around.catalog) args f w

abbrev pub or_none : Option (List Expression) → List Expression
or_none None = []
or_none (Some args) = args

abbrev pub derived : Work → UnitsAnswer Asked → Answer Sourced
derived w answer = asked w answer >>= λ a. Ok (plain_source None (bound_source.Query a.0.0.unit a.0.1) (as_columns a.0.0.columns), a.1)

abbrev pub of_source : Inside → Option QueueTable → SourceParts → Found → Work → Answer Sourced
of_source i queue (parts.Table t args) f w =
    of_name i queue (name_at i.outer.text t) (with_named (name_at i.outer.text t) i.outer.tables) (or_none args) f w
of_source i queue (parts.Derived q) f w = derived w (q.bound (beside_from i.outer) w.units)

-- ---- as names see it: columns of this item of the FROM

abbrev pub columns_from : ℕ → ℕ → List BoundColumn → List Bool → List ScopeColumn
columns_from item place [] hidden = []
columns_from item place (c ∷ cs) [] = []
columns_from item place (c ∷ cs) (h ∷ hs) =
    record { name = c.name; affinity = c.affinity; collation = c.collation; tree = e.Column item place; joined = false; hidden = h } ∷ columns_from item (suc place) cs hs

abbrev pub the_rowid : ℕ → ScopeColumn
the_rowid item = record { name = codes "rowid"; affinity = affinity.Integer; collation = by_bytes; tree = e.Rowid item; joined = false; hidden = true }

-- the rowid is a column of its own, or that which is declared so
abbrev pub rowid_in : ℕ → List ScopeColumn → Bool → Option ℕ → Option ScopeColumn
rowid_in item columns false place = None
rowid_in item columns true None = Some (the_rowid item)
rowid_in item columns true (Some place) = slice_get columns place

abbrev pub scope_item : ℕ → Option (List ℕ) → Sourced → ScopeItem
scope_item item name s =
    let columns = columns_from item 0 s.columns s.hidden in record { name = name; columns = columns; rowid = rowid_in item columns s.has_rowid s.rowid; bare = true }

abbrev pub called_by : List ℕ → Option Token → Option (List ℕ) → Option (List ℕ)
called_by text None name = name
called_by text (Some t) name = Some (name_at text t)

-- ---- joins: USING tests that columns of a name are equal and shows that on the left

abbrev pub one_of : List ℕ → List ScopeColumn → Checked ScopeColumn
one_of name [] = Err (Unknown kind.Column name)
one_of name (c ∷ []) = Ok c
one_of name (c ∷ d ∷ others) = Err (Ambiguous name)

-- USING joins by any column, NATURAL passes over those that are hidden
abbrev pub is_any : ScopeColumn → Bool
is_any c = true

abbrev pub on_left : (ScopeColumn → Bool) → List ℕ → Level → List ScopeColumn
on_left counts name left = flat_map (λ item. filter counts (unjoined (columns_named name item))) left

abbrev pub equality_of : ScopeColumn → ScopeColumn → BoundExpr
equality_of l r = (compared compare.Eq (column_operand l l.tree) (column_operand r r.tree)).tree

abbrev pub joined_if : (ScopeColumn → Bool) → List ℕ → ScopeColumn → ScopeColumn
joined_if counts name c = if counts c && is_same_name c.name name then record c { joined = true } else c

abbrev pub with_joined : (ScopeColumn → Bool) → List ℕ → ScopeItem → ScopeItem
with_joined counts name item = record item { columns = map (joined_if counts name) item.columns }

abbrev pub using_one : (ScopeColumn → Bool) → Level → List ℕ → Joining → Checked Joining
using_one counts left name j =
    one_of name (on_left counts name left) >>= λ l. one_of name (filter counts (columns_named name j.right)) >>= λ r.
    Ok (record { right = with_joined counts name j.right; ons = j.ons ++ equality_of l r ∷ [] })

-- the names that NATURAL joins by: those of columns that are shown on both sides
abbrev pub is_shown_left : Level → ScopeColumn → Bool
is_shown_left left c = is_shown c && not (is_empty (on_left is_shown c.name left))

abbrev pub common_names : Level → ScopeItem → List (List ℕ)
common_names left right = map (λ (c : ScopeColumn). c.name) (filter (is_shown_left left) right.columns)

abbrev pub using_all : (ScopeColumn → Bool) → Level → List (List ℕ) → Joining → Checked Joining
using_all counts left names j = by_column (using_one counts left) names j

-- an ON may name the items up to its own
abbrev pub on_bound : Inside → Level → Expression → Joining → Work → Answer Joining
on_bound i left x j w = x.bound (scope_over (left ++ j.right ∷ []) i.outer) w >>= λ c. Ok (record j { ons = x.conjuncts c.0.tree }, c.1)

-- NATURAL beside ON or USING is refused where these stand, behind the item's table
abbrev pub constrained : Inside → Level → Bool → ConstraintParts → Joining → Work → Answer Joining
constrained i left true Unconstrained j w = with_units (using_all is_shown left (common_names left j.right) j) w
constrained i left true other j w = Err (Misuse (codes "NATURAL"))
constrained i left false Unconstrained j w = Ok (j, w)
constrained i left false (On x) j w = on_bound i left x j w
constrained i left false (Using ts) j w = with_units (using_all is_any left (map (name_at i.outer.text) ts) j) w

-- ---- items in turn

abbrev pub kind_of_join : Bool → JoinKind
kind_of_join false = join_kind.Inner
kind_of_join true = join_kind.Left

-- the conjuncts of an ON are written, those of USING and NATURAL made
abbrev pub are_made : ConstraintParts → Bool
are_made (On x) = false
are_made other = true

-- an item without conjuncts
abbrev pub plain_item : Option (List ℕ) → Sourced → BoundItem
plain_item name s =
    record { join = join_kind.Inner; ons = []; ons_made = true; shown = unwrap_or name []; source = s.source; columns = s.columns; kinds = s.kinds; rowid = s.rowid; indexes = s.indexes; ignored = [] }

abbrev pub with_item : ItemParts → Option (List ℕ) → Sourced → Found → Joining → Found
with_item item name s f j =
    record { level = f.level ++ j.right ∷ []; items = f.items ++ record (plain_item name s) { join = kind_of_join item.join.left; ons = j.ons; ons_made = are_made item.constraint } ∷ []; has_queue = f.has_queue || s.is_queue }

abbrev pub joined_to : Inside → ItemParts → Option (List ℕ) → Sourced → Found → Work → Answer Found
joined_to i item name s f w =
    constrained i f.level item.join.natural item.constraint (record { right = scope_item (length f.items) name s; ons = [] }) w >>= λ j.
    Ok (with_item item name s f j.0, j.1)

abbrev pub has_room : Found → Checked (Unit {0})
has_room f = if nat_lt (length f.items) most_items then Ok tt else Err (Limit limit.Items)

abbrev pub item_found : Inside → Option QueueTable → ItemParts → Found → Work → Answer Found
item_found i queue item f w =
    has_room f >>= λ u. of_source i queue item.source f w >>= λ s. joined_to i item (called_by i.outer.text item.alias s.0.name) s.0 f s.1

abbrev pub items_found : Inside → Option QueueTable → List ItemParts → Found → Work → Answer Found
items_found i queue [] f w = Ok (f, w)
items_found i queue (item ∷ items) f w = item_found i queue item f w >>= λ g. items_found i queue items g.0 g.1
