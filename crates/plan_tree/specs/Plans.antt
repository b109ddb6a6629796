-- The rows that the loops of a plan give, and what it has to keep to.
use Rattle.std.specs.Prelude.{◌≡◌, ⊤, ℕ, zero, suc, ◌≤◌, All, Bool, List, [], ◌∷◌, ◌++◌, if◌then◌else◌, true, false, length, map, pos, refl, slice_index_or, sum_by}
use Rattle.std.specs.List.{AllByRecursion, flat_map}
use Rattle.std.specs.Ordering.{is_lt, ordering_then}
use Rattle.std.specs.declared.cmp.Ordering.{Ordering}
use Rattle.std.specs.declared.cmp.Ordering.TheVariants.{Equal}
use Rattle.bound_tree.specs.Conditions.{conditions_of}
use Rattle.bound_tree.specs.Exprs.{BoundExpr}
use Rattle.eng_value.specs.Arrangements.{Shuffled, arranged}
use Rattle.eng_value.specs.Collations.{compare}
use Rattle.eng_value.specs.Environments.{Environment, ItemRow, Surroundings, environment, no_causes, null_row, table_row}
use Rattle.eng_value.specs.StoredRows.{IsAscending, StoredRow}
use Rattle.eng_value.specs.declared.built.Built.TheVariants as built
use Rattle.eng_value.specs.declared.out.Out.{Out}
use Rattle.eng_value.specs.declared.out.Out.TheVariants.{Bad, Good}
use Rattle.eng_value.specs.declared.value.Value.{Value}
use Rattle.eng_value.specs.declared.value.Value.TheVariants.{Null}
use Rattle.plan_tree.specs.declared.access.JoinPlan.{JoinPlan}
use Rattle.plan_tree.specs.declared.access.Loop.{Loop}
use Rattle.plan_tree.specs.declared.access.Pairs.{Pairs}
use Rattle.plan_tree.specs.declared.access.Pairs.TheVariants.{Each, OrAlone}
use Rattle.plan_tree.specs.Visits.{CountsSides, IsCounted, key_expr, keys_in, visited}
use Rattle.sql_meaning.specs.Products.{FromRow, JoinedItem, in_row, no_rows, or_alone, passed, product, with_item}
use Rattle.sql_meaning.specs.Searches.{rows_counted}
use Rattle.sql_meaning.specs.World.{rows_at}
use Rattle.sql_meaning.specs.declared.bound.FromTable.{FromTable}
use Rattle.sql_meaning.specs.declared.bound.Join.{Join}
use Rattle.sql_meaning.specs.declared.bound.Join.TheVariants.{Inner, Left}

-- ---- the rows of a FROM, as tables store them

-- a BETWEEN among the conjuncts is two conditions
abbrev pub split_join : Join → Join
split_join Inner = Inner
split_join (Left ons) = Left (flat_map conditions_of ons)

abbrev pub joined_table : Environment → FromTable → JoinedItem
joined_table env f = record { rows = map table_row (rows_at env.world f.table); join = split_join f.join }

abbrev pub rows_of_from : Environment → List FromTable → List FromRow
rows_of_from env from = product env (map (joined_table env) from)

-- ---- the rows that loops give

-- the rows of the item that are visited
abbrev pub visited_by : Environment → Loop → FromRow → List StoredRow
visited_by env l row = visited (in_row env row) l.path (rows_at env.world l.table)

-- a row with each of those that are visited
abbrev pub paired_with : Environment → ℕ → Pairs → List StoredRow → FromRow → List FromRow
paired_with env place Each rows row = map (λ r. with_item place row (table_row r)) rows
paired_with env place (OrAlone ons) rows row =
    or_alone row (flat_map (λ r. passed env ons (with_item place row (table_row r))) rows)

abbrev pub pairs_by : Environment → Loop → FromRow → List FromRow
pairs_by env l row = paired_with env l.place l.pairs (visited_by env l row) row

-- a row with those of the loops, outermost first, that no check rejects
abbrev pub looped : Environment → List Loop → FromRow → List FromRow
looped env [] row = row ∷ []
looped env (l ∷ loops) row = flat_map (λ pair. flat_map (looped env loops) (passed env l.checks pair)) (pairs_by env l row)

-- those of all loops of a plan, in their order
abbrev pub gathered : Environment → JoinPlan → FromRow → List FromRow
gathered env p row = flat_map (looped env p.loops) (passed env p.checks row)

-- ---- the order of a FROM

abbrev pub value_or_null : Out → Value
value_or_null (Good v) = v
value_or_null (Bad causes) = Null

-- the rowid of the row of the item in a place; NULL where it has no row
abbrev pub position : ℕ → FromRow → Value
position place row = value_or_null (slice_index_or row.rows place null_row).rowid

-- by the first item, of so many from a place on, in which their positions differ
abbrev pub position_cmp : ℕ → ℕ → FromRow → FromRow → Ordering
position_cmp place zero a b = Equal
position_cmp place (suc count) a b =
    ordering_then (compare built.Binary (position place a) (position place b)) (position_cmp (suc place) count a b)

-- it comes before the other in the order of a FROM of so many items
abbrev pub stands_before : ℕ → FromRow → FromRow → Bool
stands_before width a b = is_lt (position_cmp 0 width a b)

-- ---- the rows that a plan gives

-- what the loops give, or that in the order of the FROM
abbrev pub planned : Environment → JoinPlan → FromRow → List FromRow
planned env p row =
    if p.sort then arranged (stands_before (length p.loops)) (gathered env p row) else gathered env p row

-- ---- how much is tested

abbrev pub ons_in : Pairs → List BoundExpr
ons_in Each = []
ons_in (OrAlone ons) = ons

-- all that a plan tests
abbrev pub tested_by : JoinPlan → List BoundExpr
tested_by p = p.checks ++ flat_map (λ (l : Loop). ons_in l.pairs ++ l.checks) p.loops

abbrev pub join_conjuncts : Join → List BoundExpr
join_conjuncts Inner = []
join_conjuncts (Left ons) = flat_map conditions_of ons

-- all that the items of a FROM and a WHERE test
abbrev pub all_conjuncts : List FromTable → List BoundExpr → List BoundExpr
all_conjuncts from conjuncts = conjuncts ++ flat_map (λ (f : FromTable). join_conjuncts f.join) from

-- each conjunct is tested at most once, and is the side of at most one key
pub record IsSmall (from : List FromTable) (conjuncts : List BoundExpr) (p : JoinPlan) : Type 0 where
  pub tests : (size : BoundExpr → ℕ) → sum_by size (tested_by p) ≤ sum_by size (all_conjuncts from conjuncts)
  pub keys : (size : BoundExpr → ℕ) → CountsSides size → sum_by (λ (l : Loop). sum_by (λ k. size (key_expr k)) (keys_in l.path)) p.loops ≤ sum_by size (all_conjuncts from conjuncts)

-- ---- a plan

-- the places and tables of items, from a place on
abbrev pub items_from : ℕ → List FromTable → List (ℕ × ℕ)
items_from place [] = []
items_from place (f ∷ from) = (place, f.table) ∷ items_from (suc place) from

-- the place and the table of the item that a loop is over
abbrev pub item_of : Loop → ℕ × ℕ
item_of l = (l.place, l.table)

-- a loop for each item
pub record AreOver (from : List FromTable) (loops : List Loop) : Type 0 where
  pub items : Shuffled (map item_of loops) (items_from 0 from)
  pub counted : AllByRecursion (λ (l : Loop). IsCounted l.path) loops

-- a LEFT JOIN visits rows by its own ON alone
abbrev pub UnlessLeft : Join → Type 0 → Type 0
UnlessLeft Inner P = P
UnlessLeft (Left ons) P = ⊤

-- where an item stands alone, of several searches that `=` makes the one that keeps most bounds how many of its rows are visited
abbrev pub IsFewOf : List Value → List FromTable → List BoundExpr → List Loop → Type 0
IsFewOf params (f ∷ []) conjuncts (l ∷ []) =
    UnlessLeft f.join ((x : Surroundings) → x.params ≡ params → length (visited_by (environment x [] [] []) l (no_rows 1)) ≤ rows_counted x f.indexes conjuncts (rows_at x.world f.table))
IsFewOf params from conjuncts loops = ⊤

-- where tables ascend by rowid, it gives the rows of the FROM that the conjuncts keep, in their order
pub record PlanFits (params : List Value) (from : List FromTable) (conjuncts : List BoundExpr) (p : JoinPlan) : Type 0 where
  pub gives : (env : Environment) → env.params ≡ params → All IsAscending env.world → planned env p (no_rows (length from)) ≡ flat_map (passed env conjuncts) (rows_of_from env from)
  pub over : AreOver from p.loops
  pub few : IsFewOf params from conjuncts p.loops
  pub small : IsSmall from conjuncts p

-- ---- examples

abbrev row_of : ℕ → ItemRow
row_of n = table_row (record { rowid = pos n; values = [] })

abbrev with_rows : List ItemRow → FromRow
with_rows rows = record { rows = rows; causes = no_causes }

-- the leftmost item whose rowids differ decides; an item without a row comes before all others
in_the_order_of_a_from : (stands_before 2 (with_rows (row_of 1 ∷ row_of 9 ∷ [])) (with_rows (row_of 2 ∷ row_of 3 ∷ [])) ≡ true)
    × (stands_before 2 (with_rows (row_of 2 ∷ row_of 9 ∷ [])) (with_rows (row_of 2 ∷ row_of 3 ∷ [])) ≡ false)
    × (stands_before 2 (with_rows (row_of 2 ∷ null_row ∷ [])) (with_rows (row_of 2 ∷ row_of 3 ∷ [])) ≡ true)
in_the_order_of_a_from = (refl, refl, refl)
