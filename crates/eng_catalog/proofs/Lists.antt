-- What the place of the first element that passes a test tells of a list.
use Rattle.std.proofs.Common.{◌≡◌, ℕ, suc, ◌+◌, ◌≤◌, zero, Bool, true, false, cond, not, nat_lt, List, [], ◌∷◌, ◌++◌, length, map, get_or, remove, slice_get, position, Option, None, Some, IfNone, refl, sym, ap, ◌∙◌, arith}
use Rattle.std.specs.List.{AllByRecursion, IsDistinct, filter, find, position_or_len}
use Rattle.std.proofs.lemmas.List.{append-nil, drop_all, length-map, take_all}
use Rattle.std.proofs.lemmas.List.Folds.{find_at}
use Rattle.std.proofs.lemmas.Map.Keys.{IsDistinct-head, IsDistinct-tail}
use Rattle.std.proofs.lemmas.List.Quantifiers.{position-Some}
use Rattle.std.proofs.lemmas.Option.{slice_get-get_or, slice_get_past}
use borrow.Author.Tests.{ltb-false}

-- the element at a place, and the list without it
abbrev pub at_place : {X : Type 0} → List X → Option ℕ → Option X
at_place xs None = None
at_place xs (Some i) = slice_get xs i

abbrev pub without_place : {X : Type 0} → List X → Option ℕ → List X
without_place xs None = xs
without_place xs (Some i) = remove xs i

-- a place, and that all differ, through a function
module _ {X Y : Type 0} (f : X → Y) where
  module _ (p : Y → Bool) where
    position_or_len-map : (xs : List X) → position_or_len p (map f xs) ≡ position_or_len (λ x. p (f x)) xs
    position_or_len-map [] = refl
    position_or_len-map (x ∷ xs) = ap (λ n. cond (not (p (f x))) (1 + n) 0) (position_or_len-map xs)

    pub position-map : (xs : List X) → position p (map f xs) ≡ position (λ x. p (f x)) xs
    position-map xs = λ j. cond (nat_lt (position_or_len-map xs j) (length-map xs f j)) (Some (position_or_len-map xs j)) None

  module _ (P : Y → Type 0) where
    all_mapped : (xs : List X) → AllByRecursion P (map f xs) → AllByRecursion (λ x. P (f x)) xs
    all_mapped [] h = tt
    all_mapped (x ∷ xs) h = (h.0, all_mapped xs h.1)

    all_unmapped : (xs : List X) → AllByRecursion (λ x. P (f x)) xs → AllByRecursion P (map f xs)
    all_unmapped [] h = tt
    all_unmapped (x ∷ xs) h = (h.0, all_unmapped xs h.1)

  module _ (same : Y → Y → Bool) where
    pub distinct_mapped : (xs : List X) → IsDistinct same (map f xs) → IsDistinct (λ a b. same (f a) (f b)) xs
    unfolding IsDistinct
    distinct_mapped [] h = tt
    distinct_mapped (x ∷ xs) h = (all_mapped (λ y. same (f x) y ≡ false) xs h.0, distinct_mapped xs h.1)

    pub distinct_unmapped : (xs : List X) → IsDistinct (λ a b. same (f a) (f b)) xs → IsDistinct same (map f xs)
    unfolding IsDistinct
    distinct_unmapped [] h = tt
    distinct_unmapped (x ∷ xs) h = (all_unmapped (λ y. same (f x) y ≡ false) xs h.0, distinct_unmapped xs h.1)

module _ {X : Type 0} (p : X → Bool) where
  -- the first that passes
  pub find_by_place : (xs : List X) → find p xs ≡ at_place xs (position p xs)
  find_by_place xs = find_at p xs ∙ by (nat_lt (position_or_len p xs) (length xs)) refl
    where
      by : (b : Bool) → nat_lt (position_or_len p xs) (length xs) ≡ b → slice_get xs (position_or_len p xs) ≡ at_place xs (cond b (Some (position_or_len p xs)) None)
      by true e = refl
      by false e = slice_get_past xs (position_or_len p xs) (ltb-false (position_or_len p xs) (length xs) e)

  -- where none passes
  pub filter_not-all : (xs : List X) → find p xs ≡ None → filter (λ x. not (p x)) xs ≡ xs
  filter_not-all [] none = refl
  filter_not-all (x ∷ xs) none = by (p x) (filter_not-all xs) none
    where
      by : (b : Bool) → (find p xs ≡ None → filter (λ y. not (p y)) xs ≡ xs) → cond b (Some x) (find p xs) ≡ None → cond (not b) (x ∷ filter (λ y. not (p y)) xs) (filter (λ y. not (p y)) xs) ≡ x ∷ xs
      by true rest e = cc
      by false rest e = ap (λ l. x ∷ l) (rest e)

  -- without one that passes
  filter_not-drop : (xs : List X) (i : ℕ) (x : X) → slice_get xs i ≡ Some x → p x ≡ true → filter (λ y. not (p y)) (remove xs i) ≡ filter (λ y. not (p y)) xs
  filter_not-drop [] i x at is = absurd (cc)
  filter_not-drop (y ∷ xs) zero x at is =
      let same : y ≡ x = cc in
      let passes : p y ≡ true = ap p same ∙ is in
      rw passes refl
  filter_not-drop (y ∷ xs) (suc i) x at is = ap (λ l. cond (not (p y)) (y ∷ l) l) (filter_not-drop xs i x at is)

  -- without the first that passes
  pub filter_not-place : (xs : List X) (i : ℕ) → position p xs ≡ Some i → filter (λ y. not (p y)) (remove xs i) ≡ filter (λ y. not (p y)) xs
  filter_not-place [] i is = absurd (cc)
  filter_not-place (x ∷ xs) i is =
      let h = position-Some p (x ∷ xs) i x is in
      filter_not-drop (x ∷ xs) i (get_or (x ∷ xs) i x) (slice_get-get_or (x ∷ xs) i x h.0) h.1

  -- where there is none
  pub filter_not-none : (xs : List X) → position p xs ≡ None → filter (λ y. not (p y)) xs ≡ xs
  filter_not-none xs none = filter_not-all xs (find_by_place xs ∙ ap (at_place xs) none)

  -- where at most one element passes, since those that pass are the same and no two are
  module _ (same : X → X → Bool) (one : (x y : X) → p x ≡ true → p y ≡ same x y) where
    all_kept : (x : X) → p x ≡ true → (xs : List X) → AllByRecursion (λ y. same x y ≡ false) xs → filter (λ y. not (p y)) xs ≡ xs
    all_kept x e [] h = refl
    all_kept x e (y ∷ ys) h =
        λ j. cond (not ((one x y e ∙ h.0) j)) (y ∷ all_kept x e ys h.1 j) (all_kept x e ys h.1 j)

    filter_not-remove : (xs : List X) → IsDistinct same xs → filter (λ x. not (p x)) xs ≡ remove xs (position_or_len p xs)
    filter_not-remove [] d = refl
    filter_not-remove (x ∷ xs) d = by (p x) refl (filter_not-remove xs (IsDistinct-tail same x xs d))
      where
        by : (b : Bool) → p x ≡ b → filter (λ y. not (p y)) xs ≡ remove xs (position_or_len p xs) → cond (not b) (x ∷ filter (λ y. not (p y)) xs) (filter (λ y. not (p y)) xs) ≡ remove (x ∷ xs) (cond (not b) (1 + position_or_len p xs) 0)
        by true e rest = all_kept x e xs (IsDistinct-head same x xs d)
        by false e rest =
            let n : 1 + position_or_len p xs ≡ suc (position_or_len p xs) = omega arith in
            ap (λ l. x ∷ l) rest ∙ sym (ap (remove (x ∷ xs)) n)

    pub filter_by_place : (xs : List X) → IsDistinct same xs → filter (λ x. not (p x)) xs ≡ without_place xs (position p xs)
    filter_by_place xs d = filter_not-remove xs d ∙ by (nat_lt (position_or_len p xs) (length xs)) refl
      where
        by : (b : Bool) → nat_lt (position_or_len p xs) (length xs) ≡ b → remove xs (position_or_len p xs) ≡ without_place xs (cond b (Some (position_or_len p xs)) None)
        by true e = refl
        by false e =
            let n = position_or_len p xs in
            let past : length xs ≤ n = ltb-false n (length xs) e in
            (λ j. take_all n xs past j ++ drop_all (suc n) xs (omega arith) j) ∙ append-nil xs

-- a fact for the case of none becomes another one
pub IfNone-map : {A P Q : Type 0} (r : Option A) → (P → Q) → IfNone r P → IfNone r Q
IfNone-map None f h = f h
IfNone-map (Some _) f h = h
