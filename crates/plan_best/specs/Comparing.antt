-- What the comparison of a conjunct says of a search by its key.
use Rattle.std.specs.Prelude.{◌≡◌, ℕ, ◌≤◌, ◌<◌, nat_eq, Bool, true, false, ◌&&◌, List, [], ◌∷◌, length, Option, Some, None}
use Rattle.std.specs.List.{list_any}
use Rattle.std.specs.Ordering.{is_eq, is_ge, is_gt, is_le, is_lt}
use Rattle.std.specs.declared.cmp.Ordering.{Ordering}
use Rattle.bound_tree.specs.Exprs as e
use Rattle.bound_tree.specs.Exprs.{BoundExpr}
use Rattle.eng_index.specs.Keys.{is_known_so, term_value}
use Rattle.eng_index.specs.declared.key_term.KeyTerm.{KeyTerm}
use Rattle.eng_index.specs.declared.key_term.TermSource.{TermSource}
use Rattle.eng_index.specs.declared.key_term.TermSource.TheVariants as term
use Rattle.eng_value.specs.Environments.{Environment}
use Rattle.eng_value.specs.StoredRows.{StoredRow}
use Rattle.eng_value.specs.Truths.{truth_in, truth_of}
use Rattle.eng_value.specs.declared.collation.Collation.{Collation}
use Rattle.eng_value.specs.declared.compare_op.CompareOp.{CompareOp}
use Rattle.eng_value.specs.declared.compare_op.CompareOp.TheVariants as compare
use Rattle.eng_value.specs.declared.operators.BinaryOperator.TheVariants as binary
use Rattle.eng_value.specs.declared.operators.Sides.{Sides}
use Rattle.eng_value.specs.declared.out.Out.{Out}
use Rattle.eng_value.specs.declared.out.Out.TheVariants.{Good}
use Rattle.eng_value.specs.declared.truth.Truth.{Truth}
use Rattle.eng_value.specs.declared.truth.Truth.TheVariants.{True}
use Rattle.eng_value.specs.declared.value.Value.{Value}
use Rattle.plan_best.specs.Sides.{source_of}
use Rattle.plan_best.specs.declared.comparing.Comparison.{Comparison}
use Rattle.plan_best.specs.declared.comparing.Wanted.{Wanted}
use Rattle.plan_best.specs.declared.comparing.Wanted.TheVariants as wanted
use Rattle.plan_tree.specs.Visits.{CountsSides, at_item, key_expr, key_out}
use Rattle.sql_meaning.specs.Expression.{value_of}
use Rattle.sql_meaning.specs.Searches.{begins_with, has_none, is_collation, is_given, is_good, is_key, is_search}
use Rattle.sql_meaning.specs.Products.{after_conjunct}

-- ---- conjuncts at rows of an item

abbrev pub truth_at : Environment → ℕ → BoundExpr → StoredRow → Truth
truth_at env item c r = truth_in (truth_of (value_of c (at_item env item r)))

-- whatever causes there are already
abbrev pub Rejects : Environment → ℕ → BoundExpr → StoredRow → Type 0
Rejects env item c r = (causes : Out) → after_conjunct causes (truth_at env item c r) ≡ None

-- ---- which terms it is of

abbrev pub reads_same : TermSource → Collation → KeyTerm → TermSource → Bool
reads_same term.Rowid c t term.Rowid = true
reads_same (term.Column own) c t (term.Column other) = nat_eq own other && is_collation c t.collation
reads_same source c t other = false

-- the term reads the rowid too, or the same column under the collation of the comparison
abbrev pub is_of_term : Comparison → KeyTerm → Bool
is_of_term c t = reads_same c.source c.collation t t.source

abbrev pub is_begun : Comparison → List KeyTerm → Bool
is_begun c [] = false
is_begun c (t ∷ terms) = is_of_term c t

-- ---- what a search takes it for

abbrev pub is_wanted : Wanted → CompareOp → Bool
is_wanted wanted.Equal compare.Eq = true
is_wanted wanted.Lower compare.Gt = true
is_wanted wanted.Lower compare.Ge = true
is_wanted wanted.Upper compare.Lt = true
is_wanted wanted.Upper compare.Le = true
is_wanted for other = false

-- values that stand so to a key pass
abbrev pub stands_so : CompareOp → Ordering → Bool
stands_so compare.Eq = is_eq
stands_so compare.Lt = is_lt
stands_so compare.Le = is_le
stands_so compare.Gt = is_gt
stands_so compare.Ge = is_ge

abbrev pub is_equality : CompareOp → Bool
is_equality compare.Eq = true
is_equality other = false

abbrev pub is_equal_search : Comparison → Bool
is_equal_search c = is_equality c.op && c.given && has_none c.key.own

abbrev pub is_searchable : List (List KeyTerm) → Collation → TermSource → Bool
is_searchable indexes c term.Rowid = true
is_searchable indexes c (term.Column column) = list_any (begins_with c column) indexes

-- ---- what it says

-- where the key has a value, just the rows of the item whose value in the term stands so to it are kept; a given key has one; the key is a
-- side of the conjunct; and of the first item the conjunct is a search just where the comparison is
pub record Compares (params : List Value) (item : ℕ) (e : BoundExpr) (c : Comparison) : Type 0 where
  pub met : (env : Environment) → item < length env.rows → (t : KeyTerm) (r : StoredRow) (v : Value) → is_of_term c t ≡ true → key_out c.key env ≡ Good v → is_known_so (stands_so c.op) t (term_value t r) v ≡ true → truth_at env item e r ≡ True
  pub rejected : (env : Environment) → item < length env.rows → (t : KeyTerm) (r : StoredRow) (v : Value) → is_of_term c t ≡ true → key_out c.key env ≡ Good v → is_known_so (stands_so c.op) t (term_value t r) v ≡ false → Rejects env item e r
  pub given : (env : Environment) → env.params ≡ params → c.given ≡ true → is_good (key_out c.key env) ≡ true
  pub side : (size : BoundExpr → ℕ) → CountsSides size → size (key_expr c.key) ≤ size e
  pub search : item ≡ 0 → (indexes : List (List KeyTerm)) → is_search indexes params e ≡ (is_equal_search c && is_searchable indexes c.collation c.source)

-- of the first item it is no search
abbrev pub IsNoSearch : List Value → ℕ → BoundExpr → Type 0
IsNoSearch params item e = item ≡ 0 → (indexes : List (List KeyTerm)) → is_search indexes params e ≡ false

-- without one it is none
abbrev pub MayCompare : List Value → ℕ → BoundExpr → Option Comparison → Type 0
MayCompare params item e None = IsNoSearch params item e
MayCompare params item e (Some c) = Compares params item e c

-- ---- one side at a time

-- its left side is the key of a search, and its right side is given
abbrev pub is_search_so : List (List KeyTerm) → List Value → CompareOp → Sides → BoundExpr → BoundExpr → Bool
is_search_so indexes params op sides a b = is_equality op && (is_key indexes sides.collation a && is_given params b && has_none sides.right)

abbrev pub IsNoSearchSo : List Value → ℕ → CompareOp → Sides → BoundExpr → BoundExpr → Type 0
IsNoSearchSo params item op sides a b = item ≡ 0 → (indexes : List (List KeyTerm)) → is_search_so indexes params op sides a b ≡ false

-- the key is the right side
abbrev pub MayStand : List Value → ℕ → CompareOp → Sides → BoundExpr → BoundExpr → Option Comparison → Type 0
MayStand params item op sides a b None = IsNoSearchSo params item op sides a b
MayStand params item op sides a b (Some c) = Compares params item (e.Binary (binary.Compare op sides) a b) c × (key_expr c.key ≡ b)

-- where the left side reads this of a row
abbrev pub MayStandTo : List Value → ℕ → TermSource → CompareOp → Sides → BoundExpr → Option Comparison → Type 0
MayStandTo params item source op sides b found = (a : BoundExpr) → source_of item a ≡ Some source → MayStand params item op sides a b found
