-- How many rows count by the searches of a WHERE.
use Rattle.std.proofs.Common.{◌≡◌, ◌≤◌, ℕ, max, Bool, true, false, ◌||◌, cond, List, [], ◌∷◌, length, map, filter, fold, All, refl, sym, ap, ◌∙◌, arith}
use Rattle.std.specs.List.{list_any}
use Rattle.std.proofs.Math.Nat.{le-max_left, le-max_right}
use Rattle.std.proofs.lemmas.List.Elements.{All-cons, All-head, All-nil, All-tail}
use Rattle.std.proofs.lemmas.List.Sums.{count_by-le-length, length-filter}
use Rattle.bound_tree.specs.Exprs.{BoundExpr}
use Rattle.eng_index.specs.declared.key_term.KeyTerm.{KeyTerm}
use Rattle.eng_value.specs.Environments.{Surroundings}
use Rattle.eng_value.specs.StoredRows.{StoredRow}
use Rattle.sql_meaning.specs.Searches.{is_search, largest_or, meets, rows_counted, rows_met}

-- ---- the largest of some numbers

first-within : (m : ℕ) (ns : List ℕ) → m ≤ fold max m ns
first-within m [] = omega arith
first-within m (n ∷ ns) =
    let rest : max m n ≤ fold max (max m n) ns = first-within (max m n) ns in
    let here = le-max_left m n in
    omega (arith, here, rest)

all-within : (m : ℕ) (ns : List ℕ) → All (λ k. k ≤ fold max m ns) ns
all-within m [] = All-nil (λ k. k ≤ m)
all-within m (n ∷ ns) =
    let rest : max m n ≤ fold max (max m n) ns = first-within (max m n) ns in
    let here = le-max_right m n in
    All-cons (λ k. k ≤ fold max (max m n) ns) n ns (omega (arith, here, rest)) (all-within (max m n) ns)

largest-within : (other : ℕ) (ns : List ℕ) → All (λ k. k ≤ largest_or other ns) ns
largest-within other [] = All-nil (λ k. k ≤ other)
largest-within other (n ∷ ns) = All-cons (λ k. k ≤ fold max n ns) n ns (first-within n ns) (all-within n ns)

fold-below : (most m : ℕ) (ns : List ℕ) → m ≤ most → All (λ k. k ≤ most) ns → fold max m ns ≤ most
fold-below most m [] le all = le
fold-below most m (n ∷ ns) le all =
    let here = All-head (λ k. k ≤ most) n ns all in
    fold-below most (max m n) ns (omega (arith, le, here)) (All-tail (λ k. k ≤ most) n ns all)

largest-below : (other : ℕ) (ns : List ℕ) → All (λ k. k ≤ other) ns → largest_or other ns ≤ other
largest-below other [] all = omega arith
largest-below other (n ∷ ns) all = fold-below other n ns (All-head (λ k. k ≤ other) n ns all) (All-tail (λ k. k ≤ other) n ns all)

-- ---- what holds of those that pass a test

module _ {X : Type 0} (p : X → Bool) (f : X → ℕ) (P : ℕ → Type 0) where
  abbrev Holds : X → Type 0
  Holds x = p x ≡ true → P (f x)

  passed-cons : (x : X) (xs : List X) (b : Bool) → p x ≡ b → All P (map f (cond b (x ∷ filter p xs) (filter p xs))) → (All P (map f (filter p xs)) → All Holds xs) → All Holds (x ∷ xs)
  passed-cons x xs true is those rest = All-cons Holds x xs (λ so. All-head P (f x) (map f (filter p xs)) those) (rest (All-tail P (f x) (map f (filter p xs)) those))
  passed-cons x xs false is those rest = All-cons Holds x xs (λ so. absurd (let bad : true ≡ false = sym so ∙ is in cc)) (rest those)

  each-passed : (xs : List X) → All P (map f (filter p xs)) → All Holds xs
  each-passed [] those = All-nil Holds
  each-passed (x ∷ xs) those = passed-cons x xs (p x) refl those (each-passed xs)

none-passed : {X : Type 0} (p : X → Bool) (xs : List X) → list_any p xs ≡ false → filter p xs ≡ []
none-passed p [] none = refl
none-passed p (x ∷ xs) none = by (p x) refl none (none-passed p xs)
  where
    by : (b : Bool) → p x ≡ b → (b || list_any p xs) ≡ false → (list_any p xs ≡ false → filter p xs ≡ []) → filter p (x ∷ xs) ≡ []
    by true is bad rest = absurd (let not_so : true ≡ false = bad in cc)
    by false is none rest = ap (λ b. cond b (x ∷ filter p xs) (filter p xs)) is ∙ rest none

-- ---- the rows that count

module _ (x : Surroundings) (indexes : List (List KeyTerm)) (conjuncts : List BoundExpr) (rows : List StoredRow) where
  abbrev is_one : BoundExpr → Bool
  is_one e = is_search indexes x.params e

  -- no fewer than those that meet a search
  pub search-counts : All (λ (e : BoundExpr). is_search indexes x.params e ≡ true → rows_met x rows e ≤ rows_counted x indexes conjuncts rows) conjuncts
  search-counts = each-passed is_one (rows_met x rows) (λ n. n ≤ rows_counted x indexes conjuncts rows) conjuncts (largest-within (length rows) (map (rows_met x rows) (filter is_one conjuncts)))

  -- without a search all
  pub all-count : list_any (is_search indexes x.params) conjuncts ≡ false → rows_counted x indexes conjuncts rows ≡ length rows
  all-count none = ap (λ those. largest_or (length rows) (map (rows_met x rows) those)) (none-passed is_one conjuncts none)

  met-few : (es : List BoundExpr) → All (λ n. n ≤ length rows) (map (rows_met x rows) es)
  met-few [] = All-nil (λ n. n ≤ length rows)
  met-few (e ∷ es) = All-cons (λ n. n ≤ length rows) (rows_met x rows e) (map (rows_met x rows) es) (omega (arith, length-filter (meets x e) rows, count_by-le-length (meets x e) rows)) (met-few es)

  -- and never more than all
  pub counted-few : rows_counted x indexes conjuncts rows ≤ length rows
  counted-few = largest-below (length rows) (map (rows_met x rows) (filter is_one conjuncts)) (met-few (filter is_one conjuncts))
