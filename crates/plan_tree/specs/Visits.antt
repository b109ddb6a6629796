-- Which rows of an item an access visits, and what it has to keep to (SQLite Query Optimizer Overview, section 2).
use Rattle.std.specs.Prelude.{◌≡◌, ℕ, ◌≤◌, ◌<◌, Bool, true, false, List, [], ◌∷◌, length, map, slice_set, sum_by, None, ⊤}
use Rattle.std.specs.List.{filter}
use Rattle.bound_tree.specs.Exprs as e
use Rattle.bound_tree.specs.Exprs.{BoundExpr}
use Rattle.bound_tree.specs.Seen.{seen}
use Rattle.eng_index.specs.Keys.{is_within}
use Rattle.eng_index.specs.Searching.{bound_count, range_of}
use Rattle.eng_index.specs.declared.key_term.KeyTerm.{KeyTerm}
use Rattle.eng_index.specs.declared.range.Range.{Range}
use Rattle.eng_value.specs.Casts.{beside}
use Rattle.eng_value.specs.Environments.{Environment, ItemRow, Surroundings, environment, null_row, table_row}
use Rattle.eng_value.specs.Outs.{turned}
use Rattle.eng_value.specs.StoredRows.{StoredRow}
use Rattle.eng_value.specs.declared.compare_op.CompareOp.{CompareOp}
use Rattle.eng_value.specs.declared.operators.BinaryOperator.TheVariants as binary
use Rattle.eng_value.specs.declared.operators.Sides.{Sides}
use Rattle.eng_value.specs.declared.out.Out.{Out}
use Rattle.eng_value.specs.declared.out.Out.TheVariants.{Good}
use Rattle.eng_value.specs.declared.value.Value.{Value}
use Rattle.plan_tree.specs.declared.access.Access.{Access}
use Rattle.plan_tree.specs.declared.access.Key.{Key}
use Rattle.plan_tree.specs.declared.access.Path.{Path}
use Rattle.plan_tree.specs.declared.access.Path.TheVariants as path
use Rattle.plan_tree.specs.declared.access.Search.{Search}
use Rattle.sql_meaning.specs.Expression.{value_of}
use Rattle.sql_meaning.specs.Products.{sifted}
use Rattle.sql_meaning.specs.Searches.{rows_counted}

-- ---- rows of items

-- with another row of the item in a place
abbrev pub with_row_at : Environment → ℕ → ItemRow → Environment
with_row_at env place row = record env { rows = slice_set env.rows place row }

-- with a row of a table
abbrev pub at_item : Environment → ℕ → StoredRow → Environment
at_item env place r = with_row_at env place (table_row r)

-- it comes to the same whatever row the item in a place has
abbrev pub Ignores : ℕ → BoundExpr → Type 0
Ignores place c = (env : Environment) (row : ItemRow) → value_of c (with_row_at env place row) ≡ value_of c env

-- ---- keys

-- the expression of a key
abbrev pub key_expr : Key → BoundExpr
key_expr k = seen k.value.now

-- the value of a key as the comparison sees it: what its affinity and that of the other side make of it
abbrev pub key_out : Key → Environment → Out
key_out k env = turned (λ v. Good (beside k.other k.own v)) (value_of (key_expr k) env)

abbrev pub key_outs : Environment → List Key → List Out
key_outs env keys = map (λ k. key_out k env) keys

-- what a search looks for
abbrev pub range_at : Environment → Search → Range
range_at env s = range_of s.bounds (key_outs env s.keys)

-- ---- the rows that are visited

abbrev pub is_in_range : List KeyTerm → Range → StoredRow → Bool
is_in_range terms range r = is_within terms range.equal range.lower range.upper r

abbrev pub is_visited : Environment → Path → StoredRow → Bool
is_visited env path.Scan r = true
is_visited env (path.Search s) r = is_in_range s.terms (range_at env s) r

-- the rows that are visited, in the order of their rowids
abbrev pub visited : Environment → Path → List StoredRow → List StoredRow
visited env p rows = filter (is_visited env p) rows

-- ---- what is left to be tested

abbrev pub unless : Bool → BoundExpr → List BoundExpr → List BoundExpr
unless true c cs = cs
unless false c cs = c ∷ cs

-- the conjuncts that are not consumed
abbrev pub tested : List Bool → List BoundExpr → List BoundExpr
tested consumed [] = []
tested [] (c ∷ cs) = c ∷ cs
tested (b ∷ consumed) (c ∷ cs) = unless b c (tested consumed cs)

-- ---- the size of the keys

abbrev pub keys_in : Path → List Key
keys_in path.Scan = []
keys_in (path.Search s) = s.keys

-- a comparison is as large as each of its sides, at least
abbrev pub CountsSides : (BoundExpr → ℕ) → Type 0
CountsSides size =
    (op : CompareOp) (sides : Sides) (a b : BoundExpr) → (size a ≤ size (e.Binary (binary.Compare op sides) a b)) × (size b ≤ size (e.Binary (binary.Compare op sides) a b))

-- each key is a side of a conjunct of its own: by whatever they are measured, all keys are no larger than all conjuncts
abbrev pub AreSides : List Key → List BoundExpr → Type 0
AreSides keys conjuncts =
    (size : BoundExpr → ℕ) → CountsSides size → sum_by (λ k. size (key_expr k)) keys ≤ sum_by size conjuncts

-- the keys are so many as the bounds ask for
abbrev pub IsCounted : Path → Type 0
IsCounted path.Scan = ⊤
IsCounted (path.Search s) = length s.keys ≡ bound_count s.bounds

-- ---- an access

-- at a row of the items around it: no row that is left out would have been kept; what is not tested any more is true wherever a row is visited
pub record Fits (env : Environment) (place : ℕ) (conjuncts : List BoundExpr) (a : Access) : Type 0 where
  pub left_out : (r : StoredRow) → is_visited env a.path r ≡ false → (causes : Out) → sifted conjuncts (at_item env place r) causes ≡ None
  pub kept : (r : StoredRow) → is_visited env a.path r ≡ true → (causes : Out) → sifted (tested a.consumed conjuncts) (at_item env place r) causes ≡ sifted conjuncts (at_item env place r) causes

-- what keys see of an item that stands alone: no row is there yet
abbrev pub before : Surroundings → Environment
before x = environment x [] [] (null_row ∷ [])

-- of several searches that `=` makes, the one that keeps most bounds how many rows are visited
abbrev pub IsFew : List Value → List (List KeyTerm) → List BoundExpr → Access → Type 0
IsFew params indexes conjuncts a =
    (x : Surroundings) → x.params ≡ params → (rows : List StoredRow) → length (visited (before x) a.path rows) ≤ rows_counted x indexes conjuncts rows

-- for these parameters, of the item in a place, whatever rows the others have; the keys are those of the bounds, and each is a side of a conjunct of its own
pub record AccessFits (params : List Value) (place : ℕ) (indexes : List (List KeyTerm)) (conjuncts : List BoundExpr) (a : Access) : Type 0 where
  pub fits : (env : Environment) → env.params ≡ params → place < length env.rows → Fits env place conjuncts a
  pub few : place ≡ 0 → IsFew params indexes conjuncts a
  pub counted : IsCounted a.path
  pub keys : AreSides (keys_in a.path) conjuncts
