-- Lists with the same elements.
use Rattle.std.proofs.Common.{◌≡◌, List, [], ◌∷◌, ◌++◌, Bool, true, false, cond, map, refl, sym, ap, ◌∙◌, subst, append_assoc, append-nil}
use Rattle.std.specs.List.{AllByRecursion, filter, flat_map}
use Rattle.eng_value.specs.Arrangements.{Shuffled, empty, keep, swap, onward}

module _ {X : Type 0} where
  pub shuffled_same : (xs : List X) → Shuffled xs xs
  shuffled_same [] = empty
  shuffled_same (x ∷ xs) = keep x (shuffled_same xs)

  pub shuffled_is : (xs ys : List X) → xs ≡ ys → Shuffled xs ys
  shuffled_is xs ys is = subst (Shuffled xs) is (shuffled_same xs)

  pub shuffled_back : {xs ys : List X} → Shuffled xs ys → Shuffled ys xs
  shuffled_back empty = empty
  shuffled_back (keep x s) = keep x (shuffled_back s)
  shuffled_back (swap x y xs) = swap y x xs
  shuffled_back (onward s t) = onward (shuffled_back t) (shuffled_back s)

  -- ---- parts of lists

  pub shuffled_behind : (zs : List X) {xs ys : List X} → Shuffled xs ys → Shuffled (zs ++ xs) (zs ++ ys)
  shuffled_behind [] s = s
  shuffled_behind (z ∷ zs) s = keep z (shuffled_behind zs s)

  pub shuffled_in_front : (zs : List X) {xs ys : List X} → Shuffled xs ys → Shuffled (xs ++ zs) (ys ++ zs)
  shuffled_in_front zs empty = shuffled_same zs
  shuffled_in_front zs (keep x s) = keep x (shuffled_in_front zs s)
  shuffled_in_front zs (swap x y xs) = swap x y (xs ++ zs)
  shuffled_in_front zs (onward s t) = onward (shuffled_in_front zs s) (shuffled_in_front zs t)

  pub shuffled_both : {xs ys us vs : List X} → Shuffled xs ys → Shuffled us vs → Shuffled (xs ++ us) (ys ++ vs)
  shuffled_both {xs = xs} {ys = ys} {us = us} {vs = vs} s t = onward (shuffled_in_front us s) (shuffled_behind ys t)

  -- one in front of a list goes into it
  pub shuffled_middle : (x : X) (xs ys : List X) → Shuffled (x ∷ (xs ++ ys)) (xs ++ x ∷ ys)
  shuffled_middle x [] ys = shuffled_same (x ∷ ys)
  shuffled_middle x (z ∷ zs) ys = onward (swap x z (zs ++ ys)) (keep z (shuffled_middle x zs ys))

  -- two lists change places
  pub shuffled_turn : (xs ys : List X) → Shuffled (xs ++ ys) (ys ++ xs)
  shuffled_turn [] ys = shuffled_is ys (ys ++ []) (sym (append-nil ys))
  shuffled_turn (x ∷ xs) ys = onward (keep x (shuffled_turn xs ys)) (shuffled_middle x ys xs)

  -- of four lists the inner two change places
  shuffled_inner : (a b c d : List X) → Shuffled ((a ++ b) ++ (c ++ d)) ((a ++ c) ++ (b ++ d))
  shuffled_inner a b c d =
      let inner : Shuffled (b ++ (c ++ d)) (c ++ (b ++ d)) = onward (shuffled_is (b ++ (c ++ d)) ((b ++ c) ++ d) (sym (append_assoc b c d))) (onward (shuffled_in_front d (shuffled_turn b c)) (shuffled_is ((c ++ b) ++ d) (c ++ (b ++ d)) (append_assoc c b d))) in
      onward (shuffled_is ((a ++ b) ++ (c ++ d)) (a ++ (b ++ (c ++ d))) (append_assoc a b (c ++ d))) (onward (shuffled_behind a inner) (shuffled_is (a ++ (c ++ (b ++ d))) ((a ++ c) ++ (b ++ d)) (sym (append_assoc a c (b ++ d)))))

  -- ---- what does not see the order

  pub all-shuffled : (P : X → Type 0) {xs ys : List X} → Shuffled xs ys → AllByRecursion P xs → AllByRecursion P ys
  all-shuffled P empty all = tt
  all-shuffled P (keep x s) all = (all.0, all-shuffled P s all.1)
  all-shuffled P (swap x y xs) all = (all.1.0, (all.0, all.1.1))
  all-shuffled P (onward s t) all = all-shuffled P t (all-shuffled P s all)

  pub filter-shuffled : (p : X → Bool) {xs ys : List X} → Shuffled xs ys → Shuffled (filter p xs) (filter p ys)
  filter-shuffled p empty = empty
  filter-shuffled p (keep x {xs} {ys} s) = by (p x) (filter-shuffled p s)
    where
      by : (b : Bool) → Shuffled (filter p xs) (filter p ys) → Shuffled (cond b (x ∷ filter p xs) (filter p xs)) (cond b (x ∷ filter p ys) (filter p ys))
      by true s = keep x s
      by false s = s
  filter-shuffled p (swap x y xs) = by (p x) (p y)
    where
      by : (a b : Bool) → Shuffled (cond a (x ∷ cond b (y ∷ filter p xs) (filter p xs)) (cond b (y ∷ filter p xs) (filter p xs))) (cond b (y ∷ cond a (x ∷ filter p xs) (filter p xs)) (cond a (x ∷ filter p xs) (filter p xs)))
      by true true = swap x y (filter p xs)
      by true false = shuffled_same (x ∷ filter p xs)
      by false true = shuffled_same (y ∷ filter p xs)
      by false false = shuffled_same (filter p xs)
  filter-shuffled p (onward s t) = onward (filter-shuffled p s) (filter-shuffled p t)

-- ---- loops

module _ {X Y : Type 0} where
  pub map-shuffled : (f : X → Y) {xs ys : List X} → Shuffled xs ys → Shuffled (map f xs) (map f ys)
  map-shuffled f empty = empty
  map-shuffled f (keep x s) = keep (f x) (map-shuffled f s)
  map-shuffled f (swap x y xs) = swap (f x) (f y) (map f xs)
  map-shuffled f (onward s t) = onward (map-shuffled f s) (map-shuffled f t)

  pub flat_map-shuffled : (f : X → List Y) {xs ys : List X} → Shuffled xs ys → Shuffled (flat_map f xs) (flat_map f ys)
  flat_map-shuffled f empty = empty
  flat_map-shuffled f (keep x s) = shuffled_behind (f x) (flat_map-shuffled f s)
  flat_map-shuffled f (swap x y xs) =
      onward (shuffled_is (f x ++ (f y ++ flat_map f xs)) ((f x ++ f y) ++ flat_map f xs) (sym (append_assoc (f x) (f y) (flat_map f xs)))) (onward (shuffled_in_front (flat_map f xs) (shuffled_turn (f x) (f y))) (shuffled_is ((f y ++ f x) ++ flat_map f xs) (f y ++ (f x ++ flat_map f xs)) (append_assoc (f y) (f x) (flat_map f xs))))
  flat_map-shuffled f (onward s t) = onward (flat_map-shuffled f s) (flat_map-shuffled f t)

  -- bodies that give the same elements
  pub flat_map-each : (f g : X → List Y) (xs : List X) → ((x : X) → Shuffled (f x) (g x)) → Shuffled (flat_map f xs) (flat_map g xs)
  flat_map-each f g [] each = empty
  flat_map-each f g (x ∷ xs) each = shuffled_both (each x) (flat_map-each f g xs each)

  -- a body of two parts
  flat_map-two : (f g : X → List Y) (xs : List X) → Shuffled (flat_map (λ x. f x ++ g x) xs) (flat_map f xs ++ flat_map g xs)
  flat_map-two f g [] = empty
  flat_map-two f g (x ∷ xs) =
      onward (shuffled_behind (f x ++ g x) (flat_map-two f g xs)) (shuffled_inner (f x) (g x) (flat_map f xs) (flat_map g xs))

  pub flat_map-nil : (f : X → List Y) (xs : List X) → ((x : X) → f x ≡ []) → flat_map f xs ≡ []
  flat_map-nil f [] none = refl
  flat_map-nil f (x ∷ xs) none = ap (λ ys. ys ++ flat_map f xs) (none x) ∙ flat_map-nil f xs none

-- two loops change places
pub flat_map-exchange : {X Y Z : Type 0} (f : X → Y → List Z) (xs : List X) (ys : List Y) → Shuffled (flat_map (λ y. flat_map (λ x. f x y) xs) ys) (flat_map (λ x. flat_map (λ y. f x y) ys) xs)
flat_map-exchange f [] ys =
    shuffled_is (flat_map (λ y. flat_map (λ x. f x y) []) ys) [] (flat_map-nil (λ y. flat_map (λ x. f x y) []) ys (λ y. refl))
flat_map-exchange f (x ∷ xs) ys =
    onward (flat_map-two (λ y. f x y) (λ y. flat_map (λ x. f x y) xs) ys) (shuffled_behind (flat_map (λ y. f x y) ys) (flat_map-exchange f xs ys))
