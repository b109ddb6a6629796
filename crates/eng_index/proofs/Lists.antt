-- Lists: tests that agree, and parts of lists.
use Rattle.std.proofs.Common.{◌≡◌, ℕ, zero, suc, ◌<◌, List, [], ◌∷◌, ◌++◌, Bool, true, false, ◌&&◌, cond, ◌||◌, length, get_or, set, map, Some, None, Option, All, refl, ap, ap₂, ◌∙◌, arith}
use Rattle.std.proofs.lemmas.List.Sorted.{IsPermutation-keeps}
use Rattle.std.specs.List.{AllByRecursion, cons_option, filter, filter_map, list_any, swap as swapped}
use Rattle.std.specs.List.Sorted.{IsPermutation}
use Rattle.eng_value.specs.Arrangements.{Chain, Shuffled, empty, keep, swap, onward}
use Rattle.eng_value.proofs.Shuffling.{all-shuffled, shuffled_same}

pub differ : true ≡ false → ⊥
differ is = cc

either-comm : (a b c : Bool) → (a || (b || c)) ≡ (b || (a || c))
either-comm true true c = refl
either-comm true false c = refl
either-comm false true c = refl
either-comm false false c = refl

module _ {X : Type 0} where
  pub all-append : (P : X → Type 0) (xs ys : List X) → AllByRecursion P xs → AllByRecursion P ys → AllByRecursion P (xs ++ ys)
  all-append P [] ys ps qs = qs
  all-append P (x ∷ xs) ys ps qs = (ps.0, all-append P xs ys ps.1 qs)

  pub filter-all : (p : X → Bool) (xs : List X) → AllByRecursion (λ x. p x ≡ true) xs → filter p xs ≡ xs
  filter-all p [] all = refl
  filter-all p (x ∷ xs) all = ap (λ b. cond b (x ∷ filter p xs) (filter p xs)) all.0 ∙ ap (λ l. x ∷ l) (filter-all p xs all.1)

  pub filter-none : (p : X → Bool) (xs : List X) → AllByRecursion (λ x. p x ≡ false) xs → filter p xs ≡ []
  filter-none p [] all = refl
  filter-none p (x ∷ xs) all = ap (λ b. cond b (x ∷ filter p xs) (filter p xs)) all.0 ∙ filter-none p xs all.1

  pub filter-agree : (p q : X → Bool) (xs : List X) → AllByRecursion (λ x. p x ≡ q x) xs → filter p xs ≡ filter q xs
  filter-agree p q [] all = refl
  filter-agree p q (x ∷ xs) all = ap (λ b. cond b (x ∷ filter p xs) (filter p xs)) all.0 ∙ ap (λ l. cond (q x) (x ∷ l) l) (filter-agree p q xs all.1)

  pub all_from : (P : X → Type 0) (xs : List X) → All P xs → AllByRecursion P xs
  all_from P [] all = tt
  all_from P (x ∷ xs) all = (all 0 x (omega arith), all_from P xs (λ i d lt. all (suc i) d (omega arith)))

  pub all_both : (P Q R : X → Type 0) → ((x : X) → P x → Q x → R x) → (xs : List X) → AllByRecursion P xs → AllByRecursion Q xs → AllByRecursion R xs
  all_both P Q R both [] ps qs = tt
  all_both P Q R both (x ∷ xs) ps qs = (both x ps.0 qs.0, all_both P Q R both xs ps.1 qs.1)

  pub all-filter : (P : X → Type 0) (p : X → Bool) (xs : List X) → AllByRecursion P xs → AllByRecursion P (filter p xs)
  all-filter P p [] all = tt
  all-filter P p (x ∷ xs) all = by (p x) (all-filter P p xs all.1)
    where
      by : (b : Bool) → AllByRecursion P (filter p xs) → AllByRecursion P (cond b (x ∷ filter p xs) (filter p xs))
      by true rest = (all.0, rest)
      by false rest = rest

  pub filter-twice : (p q : X → Bool) (xs : List X) → filter q (filter p xs) ≡ filter (λ x. p x && q x) xs
  filter-twice p q [] = refl
  filter-twice p q (x ∷ xs) = by (p x) (filter-twice p q xs)
    where
      by : (b : Bool) → filter q (filter p xs) ≡ filter (λ y. p y && q y) xs → filter q (cond b (x ∷ filter p xs) (filter p xs)) ≡ cond (b && q x) (x ∷ filter (λ y. p y && q y) xs) (filter (λ y. p y && q y) xs)
      by true rest = ap (λ l. cond (q x) (x ∷ l) l) rest
      by false rest = rest

module _ {X Y : Type 0} where
  pub filter-map : (f : X → Y) (p : Y → Bool) (xs : List X) → filter p (map f xs) ≡ map f (filter (λ x. p (f x)) xs)
  filter-map f p [] = refl
  filter-map f p (x ∷ xs) = by (p (f x)) (filter-map f p xs)
    where
      by : (b : Bool) → filter p (map f xs) ≡ map f (filter (λ x. p (f x)) xs) → cond b (f x ∷ filter p (map f xs)) (filter p (map f xs)) ≡ map f (cond b (x ∷ filter (λ x. p (f x)) xs) (filter (λ x. p (f x)) xs))
      by true rest = ap (λ l. f x ∷ l) rest
      by false rest = rest

  pub all-map : (f : X → Y) (P : Y → Type 0) (xs : List X) → AllByRecursion (λ x. P (f x)) xs → AllByRecursion P (map f xs)
  all-map f P [] all = tt
  all-map f P (x ∷ xs) all = (all.0, all-map f P xs all.1)

  pub all-map-back : (f : X → Y) (P : Y → Type 0) (xs : List X) → AllByRecursion P (map f xs) → AllByRecursion (λ x. P (f x)) xs
  all-map-back f P [] all = tt
  all-map-back f P (x ∷ xs) all = (all.0, all-map-back f P xs all.1)

  pub chain-map-back : (f : X → Y) (R : Y → Y → Type 0) (xs : List X) → Chain R (map f xs) → Chain (λ a b. R (f a) (f b)) xs
  chain-map-back f R [] chain = tt
  chain-map-back f R (x ∷ xs) chain = (all-map-back f (R (f x)) xs chain.0, chain-map-back f R xs chain.1)

  pub chain-map : (f : X → Y) (R : Y → Y → Type 0) (xs : List X) → Chain (λ a b. R (f a) (f b)) xs → Chain R (map f xs)
  chain-map f R [] chain = tt
  chain-map f R (x ∷ xs) chain = (all-map f (R (f x)) xs chain.0, chain-map f R xs chain.1)

  pub map-append : (f : X → Y) (xs ys : List X) → map f (xs ++ ys) ≡ map f xs ++ map f ys
  map-append f [] ys = refl
  map-append f (x ∷ xs) ys = ap (λ l. f x ∷ l) (map-append f xs ys)

  pub filter_map-shuffled : (h : X → Option Y) {xs ys : List X} → Shuffled xs ys → Shuffled (filter_map h xs) (filter_map h ys)
  filter_map-shuffled h empty = empty
  filter_map-shuffled h (keep x {xs} {ys} s) = by (h x) (filter_map-shuffled h s)
    where
      by : (o : Option Y) → Shuffled (filter_map h xs) (filter_map h ys) → Shuffled (cons_option o (filter_map h xs)) (cons_option o (filter_map h ys))
      by None s = s
      by (Some y) s = keep y s
  filter_map-shuffled h (swap x y xs) = by (h x) (h y)
    where
      by : (a b : Option Y) → Shuffled (cons_option a (cons_option b (filter_map h xs))) (cons_option b (cons_option a (filter_map h xs)))
      by None b = shuffled_same (cons_option b (filter_map h xs))
      by (Some a) None = shuffled_same (a ∷ filter_map h xs)
      by (Some a) (Some b) = swap a b (filter_map h xs)
  filter_map-shuffled h (onward s t) = onward (filter_map-shuffled h s) (filter_map-shuffled h t)

  -- what a list of values is shuffled to comes of the elements shuffled
  pub record Lifted (f : X → Y) (xs : List X) (ys : List Y) : Type 0 where
    pub those : List X
    pub shuffled : Shuffled xs those
    pub values : ys ≡ map f those

  pub lifted : (f : X → Y) {us ys : List Y} → Shuffled us ys → (xs : List X) → us ≡ map f xs → Lifted f xs ys
  lifted f empty [] e = record { those = []; shuffled = empty; values = refl }
  lifted f empty (x ∷ xs) e = absurd (cc)
  lifted f (keep u s) [] e = absurd (cc)
  lifted f (keep u {xs = us} {ys = vs} s) (x ∷ xs) e =
      let first : u ≡ f x = cc in
      let rest : us ≡ map f xs = cc in
      let more = lifted f s xs rest in
      record { those = x ∷ more.those; shuffled = keep x more.shuffled; values = ap₂ (λ a l. a ∷ l) first more.values }
  lifted f (swap u v us) [] e = absurd (cc)
  lifted f (swap u v us) (x ∷ []) e = absurd (cc)
  lifted f (swap u v us) (x ∷ y ∷ xs) e =
      let first : u ≡ f x = cc in
      let second : v ≡ f y = cc in
      let rest : us ≡ map f xs = cc in
      record { those = y ∷ x ∷ xs; shuffled = swap x y xs; values = ap₂ (λ a l. a ∷ l) second (ap₂ (λ a l. a ∷ l) first rest) }
  lifted f (onward s t) xs e =
      let one = lifted f s xs e in
      let two = lifted f t one.those one.values in
      record { those = two.those; shuffled = onward one.shuffled two.shuffled; values = two.values }

module _ {X : Type 0} where
  -- ---- elements change places

  swapped-first : (d x : X) (xs : List X) (j : ℕ) → j < length xs → Shuffled (x ∷ xs) (get_or xs j d ∷ set xs j x)
  swapped-first d x [] j lt = absurd (omega arith)
  swapped-first d x (y ∷ ys) zero lt = swap x y ys
  swapped-first d x (y ∷ ys) (suc j) lt =
      onward (swap x y ys) (onward (keep y (swapped-first d x ys j (omega arith))) (swap y (get_or ys j d) (set ys j x)))

  swapped-by : (d : X) (xs : List X) (i j : ℕ) → i < length xs → j < length xs → Shuffled xs (set (set xs i (get_or xs j d)) j (get_or xs i d))
  swapped-by d [] i j lt lt' = absurd (omega arith)
  swapped-by d (x ∷ xs) zero zero lt lt' = shuffled_same (x ∷ xs)
  swapped-by d (x ∷ xs) zero (suc j) lt lt' = swapped-first d x xs j (omega arith)
  swapped-by d (x ∷ xs) (suc i) zero lt lt' = swapped-first d x xs i (omega arith)
  swapped-by d (x ∷ xs) (suc i) (suc j) lt lt' = keep x (swapped-by d xs i j (omega arith) (omega arith))

  swapped-shuffled : (xs : List X) (i j : ℕ) → i < length xs → j < length xs → Shuffled xs (swapped xs i j)
  swapped-shuffled [] i j lt lt' = absurd (omega arith)
  swapped-shuffled (x ∷ xs) i j lt lt' = swapped-by x (x ∷ xs) i j lt lt'

  pub shuffled_from_permutation : (xs ys : List X) → IsPermutation xs ys → Shuffled xs ys
  shuffled_from_permutation xs ys moved =
      IsPermutation-keeps xs (Shuffled xs) (shuffled_same xs) (λ l i j lt lt' s. onward s (swapped-shuffled l i j lt lt')) ys moved

  -- ---- what holds of each two

  pub chain-shuffled : (R : X → X → Type 0) → ((x y : X) → R x y → R y x) → {xs ys : List X} → Shuffled xs ys → Chain R xs → Chain R ys
  chain-shuffled R back empty chain = tt
  chain-shuffled R back (keep x s) chain = (all-shuffled (R x) s chain.0, chain-shuffled R back s chain.1)
  chain-shuffled R back (swap x y xs) chain = ((back x y chain.0.0, chain.1.0), (chain.0.1, chain.1.1))
  chain-shuffled R back (onward s t) chain = chain-shuffled R back t (chain-shuffled R back s chain)

  pub chain-behind : (R : X → X → Type 0) (front : List X) (x : X) (xs : List X) → Chain R (front ++ x ∷ xs) → AllByRecursion (R x) xs
  chain-behind R [] x xs chain = chain.0
  chain-behind R (y ∷ front) x xs chain = chain-behind R front x xs chain.1

  pub list_any-none : (p : X → Bool) (xs : List X) → AllByRecursion (λ x. p x ≡ false) xs → list_any p xs ≡ false
  list_any-none p [] all = refl
  list_any-none p (x ∷ xs) all = ap (λ b. b || list_any p xs) all.0 ∙ list_any-none p xs all.1

  pub list_any-shuffled : (p : X → Bool) {xs ys : List X} → Shuffled xs ys → list_any p xs ≡ list_any p ys
  list_any-shuffled p empty = refl
  list_any-shuffled p (keep x s) = ap (λ b. p x || b) (list_any-shuffled p s)
  list_any-shuffled p (swap x y xs) = either-comm (p x) (p y) (list_any p xs)
  list_any-shuffled p (onward s t) = list_any-shuffled p s ∙ list_any-shuffled p t
