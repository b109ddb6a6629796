-- What conjuncts read, and in which loop they are tested.
use Rattle.std.proofs.Common.{◌≡◌, ℕ, Bool, true, false, not, ◌&&◌, cond, List, [], ◌∷◌, ◌++◌, length, refl, sym, ap, subst, ◌∙◌, append-nil, append_assoc}
use Rattle.std.specs.Prelude.{nat_eq}
use Rattle.std.specs.List.{AllByRecursion, filter}
use Rattle.bound_tree.specs.Exprs.{BoundExpr}
use Rattle.eng_value.proofs.Shuffling.{shuffled_back, shuffled_in_front, shuffled_is, shuffled_middle}
use Rattle.eng_value.specs.Arrangements.{Shuffled, empty, keep, onward}
use Rattle.plan_join.specs.Ready.{assigned_in, is_ready, reads_none, tested_in}
use Rattle.plan_tree.proofs.Ignoring.{ignores-same}
use Rattle.plan_tree.proofs.Reordering.{alone-reordered}
use Rattle.plan_tree.specs.Assigned.{AreReady, IgnoresAll, Reordered, TestsAll, all_of, numbered}
use Rattle.plan_tree.specs.Ignoring.{ignores}
use Rattle.sql_meaning.specs.declared.bound.FromTable.{FromTable}

-- ---- what is ignored

both : (a b : Bool) → (a && b) ≡ true → (a ≡ true) × (b ≡ true)
both true b is = (refl, is)
both false b is = absurd (cc)

none-read : (items : List (ℕ × FromTable)) (c : BoundExpr) → reads_none items c ≡ true → IgnoresAll items c
none-read [] c is = tt
none-read (item ∷ items) c is =
    let parts = both (ignores item.0 c) (reads_none items c) is in
    (ignores-same item.0 c parts.0, none-read items c parts.1)

ready-ignored : (alone : Bool) (left : List (ℕ × FromTable)) (c : BoundExpr) → is_ready alone left c ≡ true → IgnoresAll left c
ready-ignored true [] c is = tt
ready-ignored true (item ∷ left) c is = absurd (cc)
ready-ignored false left c is = none-read left c is

-- what is ready in front of a loop is ready behind it
ready-later : (alone : Bool) (item : ℕ × FromTable) (left : List (ℕ × FromTable)) (c : BoundExpr) → is_ready alone (item ∷ left) c ≡ true → is_ready alone left c ≡ true
ready-later true item left c is = absurd (cc)
ready-later false item left c is = (both (ignores item.0 c) (reads_none left c) is).1

-- ---- those that are tested in a loop

all-filter : {X : Type 0} (P : X → Type 0) (p : X → Bool) (xs : List X) → ((x : X) → p x ≡ true → P x) → AllByRecursion P (filter p xs)
all-filter P p [] each = tt
all-filter P p (x ∷ xs) each = by (p x) refl (all-filter P p xs each)
  where
    by : (b : Bool) → p x ≡ b → AllByRecursion P (filter p xs) → AllByRecursion P (cond b (x ∷ filter p xs) (filter p xs))
    by true is rest = (each x is, rest)
    by false is rest = rest

pub all-first : (alone : Bool) (conjuncts : List BoundExpr) (order : List (ℕ × FromTable)) → AllByRecursion (IgnoresAll order) (filter (is_ready alone order) conjuncts)
all-first alone conjuncts order = all-filter (IgnoresAll order) (is_ready alone order) conjuncts (ready-ignored alone order)

pub are-ready : (alone : Bool) (conjuncts : List BoundExpr) (order : List (ℕ × FromTable)) → AreReady order (assigned_in alone conjuncts order)
are-ready alone conjuncts [] = tt
are-ready alone conjuncts (item ∷ order) =
    (all-filter (IgnoresAll order) (λ c. is_ready alone order c && not (is_ready alone (item ∷ order) c)) conjuncts (λ c is. ready-ignored alone order c (both (is_ready alone order c) (not (is_ready alone (item ∷ order) c)) is).0), are-ready alone conjuncts order)

-- ---- each of them is tested once

data Splits : Bool → Bool → Bool → Type 0 where
  first : Splits true false true
  second : Splits false true true
  neither : Splits false false false

split-more : {X : Type 0} (x : X) (xs ys zs : List X) → Shuffled (xs ++ ys) zs → (a b c : Bool) → Splits a b c → Shuffled (cond a (x ∷ xs) xs ++ cond b (x ∷ ys) ys) (cond c (x ∷ zs) zs)
split-more x xs ys zs s true false true first = keep x s
split-more x xs ys zs s false true true second = onward (shuffled_back (shuffled_middle x xs ys)) (keep x s)
split-more x xs ys zs s false false false neither = s
split-more x xs ys zs s false false true none = elim none [ ]
split-more x xs ys zs s false true false none = elim none [ ]
split-more x xs ys zs s true false false none = elim none [ ]
split-more x xs ys zs s true true c none = elim none [ ]

split-filter : {X : Type 0} (p q r : X → Bool) → ((x : X) → Splits (p x) (q x) (r x)) → (xs : List X) → Shuffled (filter p xs ++ filter q xs) (filter r xs)
split-filter p q r each [] = empty
split-filter p q r each (x ∷ xs) =
    split-more x (filter p xs) (filter q xs) (filter r xs) (split-filter p q r each xs) (p x) (q x) (r x) (each x)

split-of : (a b : Bool) → (a ≡ true → b ≡ true) → Splits a (b && not a) b
split-of true true later = first
split-of true false later = absurd (let bad : false ≡ true = later refl in cc)
split-of false true later = second
split-of false false later = neither

filter-all : {X : Type 0} (p : X → Bool) (xs : List X) → ((x : X) → p x ≡ true) → filter p xs ≡ xs
filter-all p [] each = refl
filter-all p (x ∷ xs) each = ap (λ b. cond b (x ∷ filter p xs) (filter p xs)) (each x) ∙ ap (λ rest. x ∷ rest) (filter-all p xs each)

none-left : (alone : Bool) (c : BoundExpr) → is_ready alone [] c ≡ true
none-left true c = refl
none-left false c = refl

-- those that are tested first and those of the items are all
pub all-assigned : (alone : Bool) (conjuncts : List BoundExpr) (order : List (ℕ × FromTable)) → Shuffled (filter (is_ready alone order) conjuncts ++ all_of (assigned_in alone conjuncts order)) conjuncts
all-assigned alone conjuncts [] =
    shuffled_is (filter (is_ready alone []) conjuncts ++ []) conjuncts (append-nil (filter (is_ready alone []) conjuncts) ∙ filter-all (is_ready alone []) conjuncts (none-left alone))
all-assigned alone conjuncts (item ∷ order) =
    let here : List BoundExpr = filter (is_ready alone (item ∷ order)) conjuncts in
    let next : List BoundExpr = tested_in alone (item ∷ order) order conjuncts in
    let rest : List BoundExpr = all_of (assigned_in alone conjuncts order) in
    onward (shuffled_is (here ++ (next ++ rest)) ((here ++ next) ++ rest) (sym (append_assoc here next rest))) (onward (shuffled_in_front rest (split-filter (is_ready alone (item ∷ order)) (λ c. is_ready alone order c && not (is_ready alone (item ∷ order) c)) (is_ready alone order) (λ c. split-of (is_ready alone (item ∷ order) c) (is_ready alone order c) (ready-later alone item order c)) conjuncts)) (all-assigned alone conjuncts order))

-- ---- an item that stands alone

none-kept : {X : Type 0} (xs : List X) → filter (λ x. false) xs ≡ []
none-kept [] = refl
none-kept (x ∷ xs) = none-kept xs

all-kept : {X : Type 0} (xs : List X) → filter (λ x. true) xs ≡ xs
all-kept [] = refl
all-kept (x ∷ xs) = ap (λ rest. x ∷ rest) (all-kept xs)

pub tests-all : (alone : Bool) (conjuncts : List BoundExpr) (from : List FromTable) (order : List (ℕ × FromTable)) → Reordered (numbered 0 from) order → alone ≡ nat_eq (length order) 1 → TestsAll from conjuncts (filter (is_ready alone order) conjuncts) (assigned_in alone conjuncts order)
tests-all alone conjuncts [] order reordered is = tt
tests-all alone conjuncts (f ∷ g ∷ from) order reordered is = tt
tests-all alone conjuncts (f ∷ []) order reordered is =
    let one : order ≡ (0, f) ∷ [] = alone-reordered (0, f) reordered refl in
    let stands : alone ≡ true = is ∙ ap (λ those. nat_eq (length those) 1) one in
    subst (λ those. TestsAll (f ∷ []) conjuncts (filter (is_ready alone those) conjuncts) (assigned_in alone conjuncts those)) (sym one) (subst (λ b. TestsAll (f ∷ []) conjuncts (filter (is_ready b ((0, f) ∷ [])) conjuncts) (assigned_in b conjuncts ((0, f) ∷ []))) (sym stands) (none-kept conjuncts, ap (λ cs. cs ∷ []) (all-kept conjuncts)))
