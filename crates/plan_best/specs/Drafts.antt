-- Searches that are drafted key by key.
use Rattle.std.specs.Prelude.{◌≡◌, ℕ, ◌+◌, ◌≤◌, ◌<◌, Bool, true, false, List, [], ◌∷◌, ◌++◌, length, slice_get, slice_set, sum_by, replicate, Option, Some, None, ⊤}
use Rattle.std.specs.List.{AllByRecursion, filter, list_any}
use Rattle.bound_tree.specs.Exprs.{BoundExpr}
use Rattle.eng_index.specs.Searching.{bound_count}
use Rattle.eng_index.specs.declared.key_term.KeyTerm.{KeyTerm}
use Rattle.eng_index.specs.declared.range.Bounds.{Bounds}
use Rattle.eng_index.specs.declared.range.Edge.TheVariants.{Excluded, Included}
use Rattle.eng_value.specs.Environments.{Environment, Surroundings}
use Rattle.eng_value.specs.StoredRows.{StoredRow}
use Rattle.eng_value.specs.declared.compare_op.CompareOp.{CompareOp}
use Rattle.eng_value.specs.declared.compare_op.CompareOp.TheVariants as compare
use Rattle.eng_value.specs.declared.out.Out.{Out}
use Rattle.eng_value.specs.declared.value.Value.{Value}
use Rattle.plan_best.specs.Comparing.{Compares, is_equal_search, is_of_term, is_wanted}
use Rattle.plan_best.specs.declared.comparing.Comparison.{Comparison}
use Rattle.plan_best.specs.declared.comparing.Wanted.{Wanted}
use Rattle.plan_best.specs.declared.comparing.Wanted.TheVariants as wanted
use Rattle.plan_best.specs.declared.drafting.Draft.{Draft}
use Rattle.plan_tree.specs.Visits.{AreSides, CountsSides, at_item, before, is_visited, key_expr, key_outs, tested}
use Rattle.plan_tree.specs.declared.access.Path.TheVariants as path
use Rattle.sql_meaning.specs.Products.{sifted}
use Rattle.sql_meaning.specs.Searches.{is_good, is_search, rows_counted}

-- ---- a key more

abbrev pub with_bound : CompareOp → Bounds → Bounds
with_bound compare.Eq b = record b { equal = b.equal + 1 }
with_bound compare.Lt b = record b { upper = Some Excluded }
with_bound compare.Le b = record b { upper = Some Included }
with_bound compare.Gt b = record b { lower = Some Excluded }
with_bound compare.Ge b = record b { lower = Some Included }

abbrev pub set_if : Bool → List Bool → ℕ → List Bool
set_if true consumed place = slice_set consumed place true
set_if false consumed place = consumed

-- the conjunct in this place, which compares so, has a key too; it is consumed where the key is given
abbrev pub with_key : Draft → ℕ → Comparison → Draft
with_key d place c = record {
  search = record d.search { bounds = with_bound c.op d.search.bounds; keys = d.search.keys ++ c.key ∷ [] };
  consumed = set_if c.given d.consumed place;
}

-- what stands in front of which: the equal ones, then the lower limit, then the upper one
abbrev pub IsNext : Wanted → Bounds → Type 0
IsNext wanted.Equal b = (b.lower ≡ None) × (b.upper ≡ None)
IsNext wanted.Lower b = (b.lower ≡ None) × (b.upper ≡ None)
IsNext wanted.Upper b = b.upper ≡ None

-- the search by these terms that has no key yet, where there are so many conjuncts
abbrev pub without_keys : List KeyTerm → ℕ → Draft
without_keys terms conjuncts = record {
  search = record { terms = terms; bounds = record { equal = 0; lower = None; upper = None }; keys = [] };
  consumed = replicate conjuncts false;
}

-- ---- what a draft keeps to

abbrev pub is_found : Environment → Draft → StoredRow → Bool
is_found env d r = is_visited env (path.Search d.search) r

-- the parameters are these, and the item has a place among the rows
pub record IsAround (params : List Value) (item : ℕ) (env : Environment) : Type 0 where
  pub same : env.params ≡ params
  pub place : item < length env.rows

-- as `Fits` says of the access that it becomes
pub record IsSound (env : Environment) (item : ℕ) (conjuncts : List BoundExpr) (d : Draft) : Type 0 where
  pub left_out : (r : StoredRow) → is_found env d r ≡ false → (causes : Out) → sifted conjuncts (at_item env item r) causes ≡ None
  pub kept : (r : StoredRow) → is_found env d r ≡ true → (causes : Out) → sifted (tested d.consumed conjuncts) (at_item env item r) causes ≡ sifted conjuncts (at_item env item r) causes

abbrev pub AllSound : List Value → ℕ → List BoundExpr → Draft → Type 0
AllSound params item conjuncts d = (env : Environment) → IsAround params item env → IsSound env item conjuncts d

abbrev pub HasKeys : Draft → Type 0
HasKeys d = length d.search.keys ≡ bound_count d.search.bounds

abbrev pub FindsFew : List Value → List (List KeyTerm) → List BoundExpr → Draft → Type 0
FindsFew params indexes conjuncts d =
    (x : Surroundings) → x.params ≡ params → (rows : List StoredRow) → length (filter (is_found (before x) d) rows) ≤ rows_counted x indexes conjuncts rows

-- as `AccessFits` does
pub record Serves (params : List Value) (item : ℕ) (indexes : List (List KeyTerm)) (conjuncts : List BoundExpr) (d : Draft) : Type 0 where
  pub sound : AllSound params item conjuncts d
  pub few : item ≡ 0 → FindsFew params indexes conjuncts d
  pub counted : HasKeys d
  pub keys : AreSides d.search.keys conjuncts

-- each key has a value, so that another may follow, and the conjuncts that are not consumed have none
pub record MayGoOn (params : List Value) (item : ℕ) (conjuncts : List BoundExpr) (d : Draft) : Type 0 where
  pub sound : AllSound params item conjuncts d
  pub good : (env : Environment) → env.params ≡ params → AllByRecursion (λ out. is_good out ≡ true) (key_outs env d.search.keys)
  pub counted : HasKeys d
  pub spare : (size : BoundExpr → ℕ) → CountsSides size → sum_by (λ k. size (key_expr k)) d.search.keys + sum_by size (tested d.consumed conjuncts) ≤ sum_by size conjuncts

-- what serves goes on to serve
abbrev pub KeepsServing : List Value → ℕ → List BoundExpr → Draft → Draft → Type 0
KeepsServing params item conjuncts old new = (indexes : List (List KeyTerm)) → Serves params item indexes conjuncts old → Serves params item indexes conjuncts new

-- ---- what is found for it

-- the conjunct compares the term's column so, with a key that is given or not
pub record IsFitting (params : List Value) (item : ℕ) (conjunct : BoundExpr) (t : KeyTerm) (for : Wanted) (given : Bool) (c : Comparison) : Type 0 where
  pub compares : Compares params item conjunct c
  pub term : is_of_term c t ≡ true
  pub wanted : is_wanted for c.op ≡ true
  pub given_so : c.given ≡ given

abbrev pub MayFit : List Value → ℕ → BoundExpr → KeyTerm → Wanted → Bool → Option Comparison → Type 0
MayFit params item conjunct t for given None = ⊤
MayFit params item conjunct t for given (Some c) = IsFitting params item conjunct t for given c

-- so does the conjunct in this place, which is not consumed
pub record IsFound (params : List Value) (item : ℕ) (conjuncts : List BoundExpr) (consumed : List Bool) (t : KeyTerm) (for : Wanted) (given : Bool) (place : ℕ) (c : Comparison) : Type 0 where
  pub conjunct : BoundExpr
  pub at : slice_get conjuncts place ≡ Some conjunct
  pub free : slice_get consumed place ≡ Some false
  pub fitting : IsFitting params item conjunct t for given c

abbrev pub MayFind : List Value → ℕ → List BoundExpr → List Bool → KeyTerm → Wanted → Bool → Option (ℕ × Comparison) → Type 0
MayFind params item conjuncts consumed t for given None = ⊤
MayFind params item conjuncts consumed t for given (Some found) = IsFound params item conjuncts consumed t for given found.0 found.1

-- ---- what was added

abbrev pub IsBehind : Wanted → Bounds → Bounds → Type 0
IsBehind wanted.Equal old new = new ≡ record old { equal = old.equal + 1 }
IsBehind wanted.Lower old new = (new.equal ≡ old.equal) × (new.upper ≡ old.upper)
IsBehind wanted.Upper old new = new.equal ≡ old.equal

-- a key, or nothing
abbrev pub HasAdded : Bool → Wanted → Draft → Draft → Type 0
HasAdded true for old new = (new.search.terms ≡ old.search.terms) × IsBehind for old.search.bounds new.search.bounds
HasAdded false for old new = new ≡ old

-- ---- the best so far

-- what is chosen from serves
abbrev pub MayBest : List Value → ℕ → List (List KeyTerm) → List BoundExpr → Option Draft → Type 0
MayBest params item indexes conjuncts None = ⊤
MayBest params item indexes conjuncts (Some d) = Serves params item indexes conjuncts d

abbrev pub HasNoSearch : List Value → List (List KeyTerm) → List BoundExpr → Type 0
HasNoSearch params indexes conjuncts = list_any (is_search indexes params) conjuncts ≡ false

-- searches are those of the first item
abbrev pub UnlessSearch : List Value → ℕ → List (List KeyTerm) → List BoundExpr → Type 0
UnlessSearch params item indexes conjuncts = item ≡ 0 → HasNoSearch params indexes conjuncts

-- of the first item: while there is none, none of these conjuncts is a search
abbrev pub BestOf : List Value → List (List KeyTerm) → List BoundExpr → List BoundExpr → Option Draft → Type 0
BestOf params indexes conjuncts those None = HasNoSearch params indexes those
BestOf params indexes conjuncts those (Some d) = Serves params 0 indexes conjuncts d

-- there was none, nor is this so; or there is one now
abbrev pub BestUnless : List Value → List (List KeyTerm) → List BoundExpr → Bool → Option Draft → Option Draft → Type 0
BestUnless params indexes conjuncts is was None = (was ≡ None) × (is ≡ false)
BestUnless params indexes conjuncts is was (Some d) = Serves params 0 indexes conjuncts d

-- the conjunct in this place compares the first item so, by the `=` of a search
pub record IsSearchAt (params : List Value) (conjuncts : List BoundExpr) (place : ℕ) (c : Comparison) : Type 0 where
  pub conjunct : BoundExpr
  pub at : slice_get conjuncts place ≡ Some conjunct
  pub compares : Compares params 0 conjunct c
  pub equal : is_equal_search c ≡ true
