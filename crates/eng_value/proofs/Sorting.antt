-- Arranging is what a stable sort does.
use Rattle.std.proofs.Common.{◌≡◌, ℕ, suc, ◌<◌, ◌≤◌, List, [], ◌∷◌, Bool, true, false, not, ◌&&◌, cond, length, get_or, refl, sym, ap, ◌∙◌, arith}
use Rattle.std.specs.Cmp.{IsStrictWeakOrder}
use Rattle.std.specs.List.{AllByRecursion, count_by, filter}
use Rattle.std.specs.List.Sorted.{IsPermutation, IsSortedBy, IsStableBy, ties}
use Rattle.std.proofs.lemmas.List.Sorted.{IsPermutation-refl, IsPermutation-cons, IsPermutation-swap, IsPermutation-trans, length_permutation, sorted_far, sum_by-IsPermutation}
use Rattle.eng_value.specs.Arrangements.{arranged, IsArranged, Shuffled, empty, keep, swap, onward}
use Rattle.eng_value.proofs.Arranging.{all_more, arranged-stays, arranged-arranged, filter-arranged}

differ : true ≡ false → ⊥
differ is = cc

module _ {X : Type 0} (before : X → X → Bool) (o : IsStrictWeakOrder before) where
  itself : (x : X) → before x x ≡ false
  itself x = by (before x x) refl
    where
      by : (b : Bool) → before x x ≡ b → b ≡ false
      by true is = absurd (differ (sym is ∙ o.one_way x x is))
      by false is = refl

  -- neither comes before the other
  neither : (a b : Bool) → (not a && not b) ≡ true → (a ≡ false) × (b ≡ false)
  neither true true is = absurd (cc)
  neither true false is = absurd (cc)
  neither false true is = absurd (cc)
  neither false false is = (refl, refl)

  tied : (x y : X) → before x y ≡ false → before y x ≡ false → ties before x y ≡ true
  tied x y e f = ap (λ b. not b && not (before y x)) e ∙ ap not f

  ties_itself : (x : X) → ties before x x ≡ true
  ties_itself x = tied x x (itself x) (itself x)

  -- ---- arranging is stable

  all-ties : (x : X) (xs : List X) → AllByRecursion (λ y. ties before x y ≡ true) (filter (ties before x) xs)
  all-ties x [] = tt
  all-ties x (y ∷ ys) = by (ties before x y) refl (all-ties x ys)
    where
      by : (b : Bool) → ties before x y ≡ b → AllByRecursion (λ z. ties before x z ≡ true) (filter (ties before x) ys) → AllByRecursion (λ z. ties before x z ≡ true) (cond b (y ∷ filter (ties before x) ys) (filter (ties before x) ys))
      by true is rest = (is, rest)
      by false is rest = rest

  tied_arranged : (x : X) (ys : List X) → AllByRecursion (λ y. ties before x y ≡ true) ys → IsArranged before ys
  tied_arranged x [] all = tt
  tied_arranged x (y ∷ ys) all =
      let y_x = neither (before x y) (before y x) all.0 in
      (all_more (λ z. ties before x z ≡ true) (λ z. before z y ≡ false) (λ z h. o.chain z x y (neither (before x z) (before z x) h).1 y_x.0) ys all.1, tied_arranged x ys all.1)

  pub arranged-stable : (xs : List X) → IsStableBy before xs (arranged before xs)
  arranged-stable xs x =
      filter-arranged before o (ties before x) xs ∙ arranged-stays before (filter (ties before x) xs) (tied_arranged x (filter (ties before x) xs) (all-ties x xs))

  -- ---- only one list is arranged and stable

  -- in an arranged list there is one that ties with x, so x is not before the first
  not_before_first : (x y : X) (ys : List X) → AllByRecursion (λ z. before z y ≡ false) ys → (zs : List X) → filter (ties before x) ys ≡ x ∷ zs → before x y ≡ false
  not_before_first x y [] all zs e = absurd (cc)
  not_before_first x y (z ∷ more) all zs e = by (ties before x z) refl e (not_before_first x y more all.1 zs)
    where
      by : (b : Bool) → ties before x z ≡ b → cond b (z ∷ filter (ties before x) more) (filter (ties before x) more) ≡ x ∷ zs → (filter (ties before x) more ≡ x ∷ zs → before x y ≡ false) → before x y ≡ false
      by true is e rest = o.chain x z y (neither (before x z) (before z x) is).0 all.0
      by false is e rest = rest e

  first_kept : (p : X → Bool) (x : X) (xs : List X) → p x ≡ true → filter p (x ∷ xs) ≡ x ∷ filter p xs
  first_kept p x xs is = ap (λ b. cond b (x ∷ filter p xs) (filter p xs)) is

  pub arranged_alike : (xs ys : List X) → IsArranged before xs → IsArranged before ys → IsStableBy before xs ys → ys ≡ xs
  arranged_alike [] [] up_x up_y stable = refl
  arranged_alike [] (y ∷ ys) up_x up_y stable = let e : y ∷ filter (ties before y) ys ≡ [] = sym (first_kept (ties before y) y ys (ties_itself y)) ∙ stable y in absurd (cc)
  arranged_alike (x ∷ xs) [] up_x up_y stable = let e : [] ≡ x ∷ filter (ties before x) xs = stable x ∙ first_kept (ties before x) x xs (ties_itself x) in absurd (cc)
  arranged_alike (x ∷ xs) (y ∷ ys) up_x up_y stable = by (sym x_y) (arranged_alike xs ys up_x.1 up_y.1)
    where
      y_x : before y x ≡ false
      y_x = not_before_first y x (x ∷ xs) (itself x, up_x.0) (filter (ties before y) ys) (sym (stable y) ∙ first_kept (ties before y) y ys (ties_itself y))

      before_x_y : before x y ≡ false
      before_x_y = not_before_first x y (y ∷ ys) (itself y, up_y.0) (filter (ties before x) xs) (stable x ∙ first_kept (ties before x) x xs (ties_itself x))

      x_y : x ≡ y
      x_y = let e : y ∷ filter (ties before x) ys ≡ x ∷ filter (ties before x) xs = sym (first_kept (ties before x) y ys (tied x y before_x_y y_x)) ∙ stable x ∙ first_kept (ties before x) x xs (ties_itself x) in cc

      rest_at : (z : X) (b : Bool) → ties before z x ≡ b → filter (ties before z) (x ∷ ys) ≡ filter (ties before z) (x ∷ xs) → filter (ties before z) ys ≡ filter (ties before z) xs
      rest_at z true is e = let f : x ∷ filter (ties before z) ys ≡ x ∷ filter (ties before z) xs = sym (first_kept (ties before z) x ys is) ∙ e ∙ first_kept (ties before z) x xs is in cc
      rest_at z false is e = sym (ap (λ b. cond b (x ∷ filter (ties before z) ys) (filter (ties before z) ys)) is) ∙ e ∙ ap (λ b. cond b (x ∷ filter (ties before z) xs) (filter (ties before z) xs)) is

      rest : IsStableBy before xs ys
      rest z = rest_at z (ties before z x) refl (ap (λ w. filter (ties before z) (w ∷ ys)) x_y ∙ stable z)

      by : y ≡ x → (IsStableBy before xs ys → ys ≡ xs) → y ∷ ys ≡ x ∷ xs
      by is more = ap (λ w. w ∷ ys) is ∙ ap (λ l. x ∷ l) (more rest)

  pub stable_is_arranged : (xs ys : List X) → IsArranged before ys → IsStableBy before xs ys → ys ≡ arranged before xs
  stable_is_arranged xs ys up stable =
      arranged_alike (arranged before xs) ys (arranged-arranged before o xs) up (λ x. stable x ∙ sym (arranged-stable xs x))

  -- ---- the words of std's sorts

  from_places : (P : X → Type 0) (xs : List X) → ((i : ℕ) (d : X) → i < length xs → P (get_or xs i d)) → AllByRecursion P xs
  from_places P [] at = tt
  from_places P (x ∷ xs) at = (at 0 x (omega arith), from_places P xs (λ i d lt. at (suc i) d (omega arith)))

  arranged_from_far : (xs : List X) → ((i j : ℕ) (d : X) → i ≤ j → j < length xs → before (get_or xs j d) (get_or xs i d) ≡ false) → IsArranged before xs
  arranged_from_far [] far = tt
  arranged_from_far (x ∷ xs) far =
      (from_places (λ y. before y x ≡ false) xs (λ i d lt. far 0 (suc i) d (omega arith) (omega arith)), arranged_from_far xs (λ i j d le lt. far (suc i) (suc j) d (omega arith) (omega arith)))

  pub arranged_from_sorted : (xs : List X) → IsSortedBy before xs → IsArranged before xs
  arranged_from_sorted xs up = arranged_from_far xs (sorted_far before o xs up)

  -- what a stable sort ensures
  pub sorted_is_arranged : (xs ys : List X) → IsSortedBy before ys → IsStableBy before xs ys → ys ≡ arranged before xs
  sorted_is_arranged xs ys up stable = stable_is_arranged xs ys (arranged_from_sorted ys up) stable

module _ {X : Type 0} where
  pub permutation_from_shuffled : {xs ys : List X} → Shuffled xs ys → IsPermutation xs ys
  permutation_from_shuffled empty = IsPermutation-refl []
  permutation_from_shuffled (keep x {xs} {ys} s) = IsPermutation-cons x xs ys (permutation_from_shuffled s)
  permutation_from_shuffled (swap x y xs) = IsPermutation-swap (x ∷ y ∷ xs) (y ∷ x ∷ xs) 0 1 (omega arith) (omega arith) refl
  permutation_from_shuffled (onward {xs} {ys} {zs} s t) = IsPermutation-trans xs ys zs (permutation_from_shuffled s) (permutation_from_shuffled t)

  pub length-shuffled : (xs ys : List X) → Shuffled xs ys → length xs ≡ length ys
  length-shuffled xs ys s = sym (length_permutation xs ys (permutation_from_shuffled s))

  pub count_by-shuffled : (p : X → Bool) (xs ys : List X) → Shuffled xs ys → count_by p xs ≡ count_by p ys
  count_by-shuffled p xs ys s = sym (sum_by-IsPermutation (λ x. cond (p x) 1 0) xs ys (permutation_from_shuffled s))
