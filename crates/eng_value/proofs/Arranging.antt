-- Arranged lists.
use Rattle.std.proofs.Common.{◌≡◌, List, [], ◌∷◌, Bool, true, false, cond, map, refl, sym, ap, ◌∙◌, ◌⊎◌, inl, inr, ⊎_elim}
use Rattle.std.specs.Cmp.{IsStrictWeakOrder}
use Rattle.std.specs.List.{AllByRecursion, filter}
use Rattle.eng_value.specs.Arrangements.{placed, arranged, Chain, IsArranged, Ascends, AreApart, Shuffled, empty, keep, swap, onward}
use Rattle.eng_value.proofs.Shuffling.{shuffled_back, shuffled_same, all-shuffled}

differ : true ≡ false → ⊥
differ is = cc

module _ {X : Type 0} where
  pub all_more : (P Q : X → Type 0) → ((x : X) → P x → Q x) → (xs : List X) → AllByRecursion P xs → AllByRecursion Q xs
  all_more P Q more [] all = tt
  all_more P Q more (x ∷ xs) all = (more x all.0, all_more P Q more xs all.1)

  pub all_each : (P : X → Type 0) → ((x : X) → P x) → (xs : List X) → AllByRecursion P xs
  all_each P each [] = tt
  all_each P each (x ∷ xs) = (each x, all_each P each xs)

  all-filter : (P : X → Type 0) (p : X → Bool) (xs : List X) → AllByRecursion P xs → AllByRecursion P (filter p xs)
  all-filter P p [] all = tt
  all-filter P p (x ∷ xs) all = by (p x) (all-filter P p xs all.1)
    where
      by : (b : Bool) → AllByRecursion P (filter p xs) → AllByRecursion P (cond b (x ∷ filter p xs) (filter p xs))
      by true rest = (all.0, rest)
      by false rest = rest

  pub chain_more : (R S : X → X → Type 0) → ((x y : X) → R x y → S x y) → (xs : List X) → Chain R xs → Chain S xs
  chain_more R S more [] chain = tt
  chain_more R S more (x ∷ xs) chain = (all_more (R x) (S x) (more x) xs chain.0, chain_more R S more xs chain.1)

  pub chain-filter : (R : X → X → Type 0) (p : X → Bool) (xs : List X) → Chain R xs → Chain R (filter p xs)
  chain-filter R p [] chain = tt
  chain-filter R p (x ∷ xs) chain = by (p x) (chain-filter R p xs chain.1)
    where
      by : (b : Bool) → Chain R (filter p xs) → Chain R (cond b (x ∷ filter p xs) (filter p xs))
      by true rest = (all-filter (R x) p xs chain.0, rest)
      by false rest = rest

module _ {X : Type 0} (before : X → X → Bool) where
  -- ---- arranging moves elements alone

  placed-shuffled : (x : X) (xs : List X) → Shuffled (x ∷ xs) (placed before x xs)
  placed-shuffled x [] = shuffled_same (x ∷ [])
  placed-shuffled x (y ∷ ys) = by (before y x) (placed-shuffled x ys)
    where
      by : (b : Bool) → Shuffled (x ∷ ys) (placed before x ys) → Shuffled (x ∷ y ∷ ys) (cond b (y ∷ placed before x ys) (x ∷ y ∷ ys))
      by true s = onward (swap x y ys) (keep y s)
      by false s = shuffled_same (x ∷ y ∷ ys)

  pub arranged-shuffled : (xs : List X) → Shuffled xs (arranged before xs)
  arranged-shuffled [] = empty
  arranged-shuffled (x ∷ xs) = onward (keep x (arranged-shuffled xs)) (placed-shuffled x (arranged before xs))

  -- in front of what does not come before it
  placed-first : (x : X) (ys : List X) → AllByRecursion (λ y. before y x ≡ false) ys → placed before x ys ≡ x ∷ ys
  placed-first x [] all = refl
  placed-first x (y ∷ ys) all = ap (λ b. cond b (y ∷ placed before x ys) (x ∷ y ∷ ys)) all.0

  -- a list that is arranged stays as it is
  pub arranged-stays : (xs : List X) → IsArranged before xs → arranged before xs ≡ xs
  arranged-stays [] up = refl
  arranged-stays (x ∷ xs) up = ap (placed before x) (arranged-stays xs up.1) ∙ placed-first x xs up.0

  module _ (o : IsStrictWeakOrder before) where
    further : (x y z : X) → before x y ≡ true → before y z ≡ true → before x z ≡ true
    further x y z e f = by (before x z) refl
      where
        by : (b : Bool) → before x z ≡ b → b ≡ true
        by true is = refl
        by false is = absurd (differ (sym e ∙ o.chain x z y is (o.one_way y z f)))

    -- ---- what comes of arranging is arranged

    all-placed : (P : X → Type 0) (x : X) (ys : List X) → P x → AllByRecursion P ys → AllByRecursion P (placed before x ys)
    all-placed P x ys first all = all-shuffled P (placed-shuffled x ys) (first, all)

    placed-arranged : (x : X) (ys : List X) → IsArranged before ys → IsArranged before (placed before x ys)
    placed-arranged x [] up = (tt, tt)
    placed-arranged x (y ∷ ys) up = by (before y x) refl (placed-arranged x ys up.1)
      where
        by : (b : Bool) → before y x ≡ b → IsArranged before (placed before x ys) → IsArranged before (cond b (y ∷ placed before x ys) (x ∷ y ∷ ys))
        by true is rest = (all-placed (λ z. before z y ≡ false) x ys (o.one_way y x is) up.0, rest)
        by false is rest = ((is, all_more (λ z. before z y ≡ false) (λ z. before z x ≡ false) (λ z h. o.chain z y x h is) ys up.0), up)

    pub arranged-arranged : (xs : List X) → IsArranged before (arranged before xs)
    arranged-arranged [] = tt
    arranged-arranged (x ∷ xs) = placed-arranged x (arranged before xs) (arranged-arranged xs)

    -- ---- a part of an arranged list is that part arranged

    filter-placed : (p : X → Bool) (x : X) (ys : List X) → IsArranged before ys → filter p (placed before x ys) ≡ cond (p x) (placed before x (filter p ys)) (filter p ys)
    filter-placed p x [] up = refl
    filter-placed p x (y ∷ ys) up = by (before y x) refl (filter-placed p x ys up.1)
      where
        behind : (b d : Bool) → before y x ≡ true → cond d (y ∷ cond b (placed before x (filter p ys)) (filter p ys)) (cond b (placed before x (filter p ys)) (filter p ys)) ≡ cond b (placed before x (cond d (y ∷ filter p ys) (filter p ys))) (cond d (y ∷ filter p ys) (filter p ys))
        behind true true is = sym (ap (λ b. cond b (y ∷ placed before x (filter p ys)) (x ∷ y ∷ filter p ys)) is)
        behind true false is = refl
        behind false true is = refl
        behind false false is = refl

        first : (b : Bool) → AllByRecursion (λ z. before z x ≡ false) (y ∷ ys) → cond b (x ∷ filter p (y ∷ ys)) (filter p (y ∷ ys)) ≡ cond b (placed before x (filter p (y ∷ ys))) (filter p (y ∷ ys))
        first true all = sym (placed-first x (filter p (y ∷ ys)) (all-filter (λ z. before z x ≡ false) p (y ∷ ys) all))
        first false all = refl

        by : (b : Bool) → before y x ≡ b → filter p (placed before x ys) ≡ cond (p x) (placed before x (filter p ys)) (filter p ys) → filter p (cond b (y ∷ placed before x ys) (x ∷ y ∷ ys)) ≡ cond (p x) (placed before x (filter p (y ∷ ys))) (filter p (y ∷ ys))
        by true is rest = ap (λ zs. cond (p y) (y ∷ zs) zs) rest ∙ behind (p x) (p y) is
        by false is rest =
            first (p x) (is, all_more (λ z. before z y ≡ false) (λ z. before z x ≡ false) (λ z h. o.chain z y x h is) ys up.0)

    pub filter-arranged : (p : X → Bool) (xs : List X) → filter p (arranged before xs) ≡ arranged before (filter p xs)
    filter-arranged p [] = refl
    filter-arranged p (x ∷ xs) =
        filter-placed p x (arranged before xs) (arranged-arranged xs) ∙ by (p x) (filter-arranged p xs)
      where
        by : (b : Bool) → filter p (arranged before xs) ≡ arranged before (filter p xs) → cond b (placed before x (filter p (arranged before xs))) (filter p (arranged before xs)) ≡ arranged before (cond b (x ∷ filter p xs) (filter p xs))
        by true rest = ap (placed before x) rest
        by false rest = rest

    -- ---- where of each two one comes before the other, the order that they stood in does not count

    two_placed : (x y : X) (xs : List X) → before x y ≡ true → placed before x (placed before y xs) ≡ placed before y (placed before x xs)
    two_placed x y [] e =
        ap (λ b. cond b (y ∷ x ∷ []) (x ∷ y ∷ [])) (o.one_way x y e) ∙ sym (ap (λ b. cond b (x ∷ y ∷ []) (y ∷ x ∷ [])) e)
    two_placed x y (z ∷ zs) e = by (before z x) (before z y) refl refl (two_placed x y zs e)
      where
        by : (a b : Bool) → before z x ≡ a → before z y ≡ b → placed before x (placed before y zs) ≡ placed before y (placed before x zs) → placed before x (cond b (z ∷ placed before y zs) (y ∷ z ∷ zs)) ≡ placed before y (cond a (z ∷ placed before x zs) (x ∷ z ∷ zs))
        by true true p q rest =
            ap (λ b. cond b (z ∷ placed before x (placed before y zs)) (x ∷ z ∷ placed before y zs)) p
            ∙ ap (λ l. z ∷ l) rest
            ∙ sym (ap (λ b. cond b (z ∷ placed before y (placed before x zs)) (y ∷ z ∷ placed before x zs)) q)
        by true false p q rest = absurd (differ (sym (further z x y p e) ∙ q))
        by false true p q rest =
            ap (λ b. cond b (z ∷ placed before x (placed before y zs)) (x ∷ z ∷ placed before y zs)) p
            ∙ sym (ap (λ b. cond b (x ∷ placed before y (z ∷ zs)) (y ∷ x ∷ z ∷ zs)) e ∙ ap (λ b. x ∷ cond b (z ∷ placed before y zs) (y ∷ z ∷ zs)) q)
        by false false p q rest =
            ap (λ b. cond b (y ∷ placed before x (z ∷ zs)) (x ∷ y ∷ z ∷ zs)) (o.one_way x y e)
            ∙ sym (ap (λ b. cond b (x ∷ placed before y (z ∷ zs)) (y ∷ x ∷ z ∷ zs)) e ∙ ap (λ b. x ∷ cond b (z ∷ placed before y zs) (y ∷ z ∷ zs)) q)

    turned : {A B : Type 0} → A ⊎ B → B ⊎ A
    turned (inl a) = inr a
    turned (inr b) = inl b

    pub apart-shuffled : {xs ys : List X} → Shuffled xs ys → AreApart before xs → AreApart before ys
    apart-shuffled empty apart = tt
    apart-shuffled (keep x s) apart = (all-shuffled (λ y. (before x y ≡ true) ⊎ (before y x ≡ true)) s apart.0, apart-shuffled s apart.1)
    apart-shuffled (swap x y xs) apart = ((turned apart.0.0, apart.1.0), (apart.0.1, apart.1.1))
    apart-shuffled (onward s t) apart = apart-shuffled t (apart-shuffled s apart)

    pub arranged-apart : {xs ys : List X} → Shuffled xs ys → AreApart before xs → arranged before xs ≡ arranged before ys
    arranged-apart empty apart = refl
    arranged-apart (keep x s) apart = ap (placed before x) (arranged-apart s apart.1)
    arranged-apart (swap x y xs) apart =
        ⊎_elim (λ e. two_placed x y (arranged before xs) e) (λ e. sym (two_placed y x (arranged before xs) e)) apart.0.0
    arranged-apart (onward s t) apart = arranged-apart s apart ∙ arranged-apart t (apart-shuffled s apart)

    -- a list that ascends is what its elements are arranged to
    pub arranged-to : (xs ys : List X) → Shuffled xs ys → Ascends before ys → arranged before xs ≡ ys
    arranged-to xs ys s up =
        sym (arranged-apart (shuffled_back s) (chain_more (λ x y. before x y ≡ true) (λ x y. (before x y ≡ true) ⊎ (before y x ≡ true)) (λ x y e. inl e) ys up))
        ∙ arranged-stays ys (chain_more (λ x y. before x y ≡ true) (λ x y. before y x ≡ false) (λ x y e. o.one_way x y e) ys up)

-- ---- two tests

module _ {X : Type 0} (f g : X → X → Bool) where
  placed-agree : (x : X) (ys : List X) → AllByRecursion (λ y. f y x ≡ g y x) ys → placed f x ys ≡ placed g x ys
  placed-agree x [] all = refl
  placed-agree x (y ∷ ys) all =
      ap (λ b. cond b (y ∷ placed f x ys) (x ∷ y ∷ ys)) all.0 ∙ by (g y x) (placed-agree x ys all.1)
    where
      by : (b : Bool) → placed f x ys ≡ placed g x ys → cond b (y ∷ placed f x ys) (x ∷ y ∷ ys) ≡ cond b (y ∷ placed g x ys) (x ∷ y ∷ ys)
      by true rest = ap (λ l. y ∷ l) rest
      by false rest = refl

  -- tests that agree on each element beside those in front of it arrange alike
  pub arranged-agree : (xs : List X) → Chain (λ x y. f y x ≡ g y x) xs → arranged f xs ≡ arranged g xs
  arranged-agree [] agree = refl
  arranged-agree (x ∷ xs) agree =
      ap (placed f x) (arranged-agree xs agree.1) ∙ placed-agree x (arranged g xs) (all-shuffled (λ y. f y x ≡ g y x) (arranged-shuffled g xs) agree.0)

-- arranging by what a function gives
module _ {X Y : Type 0} (f : X → Y) (before : Y → Y → Bool) where
  placed-map : (x : X) (ys : List X) → placed before (f x) (map f ys) ≡ map f (placed (λ a b. before (f a) (f b)) x ys)
  placed-map x [] = refl
  placed-map x (y ∷ ys) = by (before (f y) (f x)) (placed-map x ys)
    where
      by : (b : Bool) → placed before (f x) (map f ys) ≡ map f (placed (λ a b. before (f a) (f b)) x ys) → cond b (f y ∷ placed before (f x) (map f ys)) (f x ∷ f y ∷ map f ys) ≡ map f (cond b (y ∷ placed (λ a b. before (f a) (f b)) x ys) (x ∷ y ∷ ys))
      by true rest = ap (λ l. f y ∷ l) rest
      by false rest = refl

  pub arranged-map : (xs : List X) → arranged before (map f xs) ≡ map f (arranged (λ a b. before (f a) (f b)) xs)
  arranged-map [] = refl
  arranged-map (x ∷ xs) = ap (placed before (f x)) (arranged-map xs) ∙ placed-map x (arranged (λ a b. before (f a) (f b)) xs)
