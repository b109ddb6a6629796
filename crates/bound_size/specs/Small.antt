-- How large what is bound of a query is, beside its tree.
use Rattle.std.specs.Prelude.{◌≡◌, ◌≤◌, ℕ, ◌+◌, ◌*◌, Bool, true, false, List, [], ◌∷◌, length, map, slice_get, Option, Some}
use Rattle.std.specs.List.{flat_map, list_all}
use Rattle.std.specs.Option.{option_to_list}
use Rattle.eng_entry.specs.declared.entry.Entry.{Entry}
use Rattle.sql_tree.specs.Layers.{PartLayer, ResultLayer, SelectLayer, of_part, of_query, of_result, of_select}
use Rattle.sql_tree.specs.Sizes.{size_of_filter, size_of_from, size_of_result, size_of_row, size_of_table, total}
use Rattle.sql_tree.specs.declared.expr.Expr.TheOpen.{QueryPart-F, ResultColumn-F}
use Rattle.sql_tree.specs.declared.query.Query.{Query}
use Rattle.sql_tree.specs.declared.query.ResultColumn.{ResultColumn}
use Rattle.sql_tree.specs.declared.statement.TableDefinition.{TableDefinition}
use Rattle.bound_tree.specs.Exprs.{BoundExpr}
use Rattle.bound_tree.specs.declared.units.BoundCore.{BoundCore}
use Rattle.bound_tree.specs.declared.units.BoundItem.{BoundItem}
use Rattle.bound_tree.specs.declared.units.BoundPart.TheVariants as bound_part
use Rattle.bound_tree.specs.declared.units.BoundPart.{BoundPart}
use Rattle.bound_tree.specs.declared.units.BoundQuery.{BoundQuery}
use Rattle.bound_tree.specs.declared.units.BoundSource.TheVariants.{Table}
use Rattle.bound_tree.specs.declared.units.BoundUnit.TheVariants.{Queried}
use Rattle.bound_tree.specs.declared.units.BoundUnit.{BoundUnit}
use Rattle.bound_tree.specs.declared.writes.BoundChange.TheVariants.{Inserted}
use Rattle.bound_tree.specs.declared.writes.BoundChange.{BoundChange}
use Rattle.bound_tree.specs.declared.writes.BoundTarget.{BoundTarget}
use Rattle.sql_bound.specs.Declarations.{definition_of, table_in}
use Rattle.sql_bound.specs.Scopes.{Level}
use Rattle.sql_bound.specs.declared.scopes.ScopeItem.{ScopeItem}
use Rattle.bound_tree.specs.Conditions.{conditions_of}
use Rattle.bound_size.specs.Counts.{rows_size}
use Rattle.bound_size.specs.Plain.{is_plain_table}
use Rattle.bound_size.specs.Sizes.{all_nodes}

-- ---- FROM

-- how many columns its items have, as names see them, and as they are bound
abbrev pub seen_columns : Level → ℕ
seen_columns level = total (map (λ (item : ScopeItem). length item.columns) level)

abbrev pub columns_in : List BoundItem → ℕ
columns_in items = total (map (λ (item : BoundItem). length item.columns) items)

-- FROM and each item
abbrev pub from_size : List BoundItem → ℕ
from_size [] = 0
from_size (item ∷ items) = 1 + length (item ∷ items)

-- ---- results

-- what is shown by results of this size over so many columns: `*` adds at most a hundred columns, and none where there is none
pub record AreFewShown (size columns : ℕ) (trees : List BoundExpr) : Type 0 where
  pub stars : ℕ
  pub hundred : stars ≤ 100
  pub of_columns : stars ≤ 100 * columns
  pub nodes : all_nodes trees ≤ 2 * size + stars

-- no name stands behind AS
abbrev pub is_unnamed : ResultLayer → Bool
is_unnamed (ResultColumn-F.Expression x (Some name)) = false
is_unnamed other = true

abbrev pub names_none : List ResultColumn → Bool
names_none results = list_all (λ r. is_unnamed (of_result r)) results

-- ---- queries

-- a WHERE may repeat what a result with a name shows
pub record IsSmallCore (s : SelectLayer) (b : BoundCore) : Type 0 where
  pub items : from_size b.items ≡ size_of_from s.from
  pub results : AreFewShown (total (map size_of_result s.results)) (columns_in b.items) b.results
  pub tests : names_none s.results ≡ true → all_nodes (flat_map conditions_of b.conjuncts) ≤ 4 * size_of_filter s.filter

pub record AreFewRows (size : ℕ) (rows : List (List BoundExpr)) : Type 0 where
  pub nodes : rows_size rows ≤ 2 * size
  pub count : length rows ≤ size

abbrev pub IsSmallPart : PartLayer → BoundPart → Type 0
IsSmallPart (QueryPart-F.Select core) (bound_part.Select b) = IsSmallCore (of_select core) b
IsSmallPart (QueryPart-F.Values rows) (bound_part.Values bound) = AreFewRows (total (map size_of_row rows)) bound
IsSmallPart part other = ⊥

-- in this place stands a query whose first part is small beside that of the tree
pub record MakesSmall (q : Query) (place : ℕ) (units : List BoundUnit) : Type 0 where
  pub unit : BoundQuery
  pub placed : slice_get units place ≡ Some (Queried unit)
  pub small : IsSmallPart (of_part (of_query q).first) unit.first

-- an INSERT's change, whose source is such a query
pub record InsertsSmall (q : Query) (made : BoundChange) (units : List BoundUnit) : Type 0 where
  pub columns : List (Option ℕ)
  pub rowid : Option ℕ
  pub source : ℕ
  pub arguments : List BoundExpr
  pub change : made ≡ Inserted columns rowid source arguments
  pub makes : MakesSmall q source units

-- ---- what an INSERT puts by default, and what it tests of a row

abbrev pub constraints_nodes : BoundTarget → ℕ
constraints_nodes t = all_nodes (flat_map option_to_list t.defaults) + all_nodes t.checks

-- an entry creates the table of this name, and its DEFAULTs and CHECKs are small beside its tree, where they ask no query
pub record HasSmallConstraints (there : Option Entry) (name : List ℕ) (target : BoundTarget) : Type 0 where
  pub entry : Entry
  pub is_there : there ≡ Some entry
  pub named : entry.name ≡ name
  pub table : TableDefinition
  pub creates : table_in (definition_of entry) ≡ Some table
  pub small : is_plain_table table ≡ true → constraints_nodes target ≤ 2 * size_of_table table

-- where it writes rows of a table, and not of a view or a module
abbrev pub IsSmallTarget : Option Entry → BoundTarget → Type 0
IsSmallTarget there target = (name : List ℕ) (number : ℕ) → target.item.source ≡ Table name number → HasSmallConstraints there name target
