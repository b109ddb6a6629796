-- Lists of lists, one behind another.
use Rattle.std.proofs.Common.{◌≡◌, List, [], ◌∷◌, ◌++◌, map, Bool, true, false, cond, refl, sym, ap, ◌∙◌}
use Rattle.std.specs.List.{AllByRecursion, filter, flat_map}
use Rattle.std.proofs.lemmas.Grind.{flat_map-append}

module _ {X Y : Type 0} where
  pub flat_map-same : (f g : X → List Y) (xs : List X) → ((x : X) → f x ≡ g x) → flat_map f xs ≡ flat_map g xs
  flat_map-same f g [] same = refl
  flat_map-same f g (x ∷ xs) same = ap (λ ys. ys ++ flat_map f xs) (same x) ∙ ap (λ ys. g x ++ ys) (flat_map-same f g xs same)

  -- the same of each that is there
  pub flat_map-agree : (f g : X → List Y) (xs : List X) → AllByRecursion (λ x. f x ≡ g x) xs → flat_map f xs ≡ flat_map g xs
  flat_map-agree f g [] agree = refl
  flat_map-agree f g (x ∷ xs) agree = ap (λ ys. ys ++ flat_map f xs) agree.0 ∙ ap (λ ys. g x ++ ys) (flat_map-agree f g xs agree.1)

  pub flat_map-none : (f : X → List Y) (xs : List X) → AllByRecursion (λ x. f x ≡ []) xs → flat_map f xs ≡ []
  flat_map-none f [] none = refl
  flat_map-none f (x ∷ xs) none = ap (λ ys. ys ++ flat_map f xs) none.0 ∙ flat_map-none f xs none.1

  -- one of each
  pub flat_map-one : (f : X → List Y) (g : X → Y) (xs : List X) → AllByRecursion (λ x. f x ≡ g x ∷ []) xs → flat_map f xs ≡ map g xs
  flat_map-one f g [] one = refl
  flat_map-one f g (x ∷ xs) one = ap (λ ys. ys ++ flat_map f xs) one.0 ∙ ap (λ ys. g x ∷ ys) (flat_map-one f g xs one.1)

  -- the same of those that are kept, and nothing of those that are left out
  pub flat_map-filter : (p : X → Bool) (f g : X → List Y) (xs : List X) → ((x : X) → p x ≡ true → f x ≡ g x) → ((x : X) → p x ≡ false → g x ≡ []) → flat_map f (filter p xs) ≡ flat_map g xs
  flat_map-filter p f g [] same none = refl
  flat_map-filter p f g (x ∷ xs) same none = by (p x) refl (flat_map-filter p f g xs same none)
    where
      by : (b : Bool) → p x ≡ b → flat_map f (filter p xs) ≡ flat_map g xs → flat_map f (cond b (x ∷ filter p xs) (filter p xs)) ≡ g x ++ flat_map g xs
      by true is rest = ap (λ ys. ys ++ flat_map f (filter p xs)) (same x is) ∙ ap (λ ys. g x ++ ys) rest
      by false is rest = rest ∙ ap (λ ys. ys ++ flat_map g xs) (sym (none x is))

  pub all-map : (P : Y → Type 0) (f : X → Y) (xs : List X) → ((x : X) → P (f x)) → AllByRecursion P (map f xs)
  all-map P f [] each = tt
  all-map P f (x ∷ xs) each = (each x, all-map P f xs each)

module _ {X : Type 0} where
  pub all-each : (P Q : X → Type 0) (xs : List X) → ((x : X) → P x → Q x) → AllByRecursion P xs → AllByRecursion Q xs
  all-each P Q [] each all = tt
  all-each P Q (x ∷ xs) each all = (each x all.0, all-each P Q xs each all.1)

  pub all-append : (P : X → Type 0) (xs ys : List X) → AllByRecursion P xs → AllByRecursion P ys → AllByRecursion P (xs ++ ys)
  all-append P [] ys all those = those
  all-append P (x ∷ xs) ys all those = (all.0, all-append P xs ys all.1 those)

pub all-flat_map : {X Y : Type 0} (P : Y → Type 0) (f : X → List Y) (xs : List X) → ((x : X) → AllByRecursion P (f x)) → AllByRecursion P (flat_map f xs)
all-flat_map P f [] each = tt
all-flat_map P f (x ∷ xs) each = all-append P (f x) (flat_map f xs) (each x) (all-flat_map P f xs each)

pub flat_map-flat_map : {X Y Z : Type 0} (f : Y → List Z) (g : X → List Y) (xs : List X) → flat_map f (flat_map g xs) ≡ flat_map (λ x. flat_map f (g x)) xs
flat_map-flat_map f g [] = refl
flat_map-flat_map f g (x ∷ xs) = flat_map-append f (g x) (flat_map g xs) ∙ ap (λ ys. flat_map f (g x) ++ ys) (flat_map-flat_map f g xs)

pub flat_map-each : {X : Type 0} (xs : List X) → flat_map (λ x. x ∷ []) xs ≡ xs
flat_map-each [] = refl
flat_map-each (x ∷ xs) = ap (λ ys. x ∷ ys) (flat_map-each xs)

module _ {X Y : Type 0} where
  -- what holds of each that the body gives for an element of which something holds
  pub all-flat_map-each : (P : X → Type 0) (Q : Y → Type 0) (f : X → List Y) (xs : List X) → ((x : X) → P x → AllByRecursion Q (f x)) → AllByRecursion P xs → AllByRecursion Q (flat_map f xs)
  all-flat_map-each P Q f [] each all = tt
  all-flat_map-each P Q f (x ∷ xs) each all =
      all-append Q (f x) (flat_map f xs) (each x all.0) (all-flat_map-each P Q f xs each all.1)
