-- Lists in which something holds between each element and each one behind it.
use Rattle.std.proofs.Common.{List, [], ◌∷◌, ◌++◌, map}
use Rattle.std.specs.List.{AllByRecursion, flat_map}
use Rattle.eng_value.specs.Arrangements.{Chain}
use Rattle.plan_tree.proofs.Lists.{all-append, all-each}

module _ {X : Type 0} (R : X → X → Type 0) where
  chain-append : (xs ys : List X) → Chain R xs → Chain R ys → AllByRecursion (λ x. AllByRecursion (R x) ys) xs → Chain R (xs ++ ys)
  chain-append [] ys one two between = two
  chain-append (x ∷ xs) ys one two between =
      (all-append (R x) xs ys one.0 between.0, chain-append xs ys one.1 two between.1)

module _ {X Y : Type 0} where
  -- what holds of each piece holds of all of them
  all-pieces : (P : Y → Type 0) (f : X → List Y) (all : List X) → AllByRecursion (λ a. AllByRecursion P (f a)) all → AllByRecursion P (flat_map f all)
  all-pieces P f [] each = tt
  all-pieces P f (a ∷ rest) each = all-append P (f a) (flat_map f rest) each.0 (all-pieces P f rest each.1)

  all-turned : (R : Y → Y → Type 0) (f : X → List Y) (ys : List Y) (all : List X) → AllByRecursion (λ a. AllByRecursion (λ y. AllByRecursion (R y) (f a)) ys) all → AllByRecursion (λ y. AllByRecursion (λ a. AllByRecursion (R y) (f a)) all) ys
  all-turned R f [] all each = tt
  all-turned R f (y ∷ ys) all each =
      (all-each (λ a. AllByRecursion (λ z. AllByRecursion (R z) (f a)) (y ∷ ys)) (λ a. AllByRecursion (R y) (f a)) all (λ a own. own.0) each, all-turned R f ys all (all-each (λ a. AllByRecursion (λ z. AllByRecursion (R z) (f a)) (y ∷ ys)) (λ a. AllByRecursion (λ z. AllByRecursion (R z) (f a)) ys) all (λ a own. own.1) each))

  -- pieces in order, each element of which stands so to those of the next ones
  pub chain-flat_map : (R : Y → Y → Type 0) (S : X → X → Type 0) (f : X → List Y) → ((a b : X) → S a b → AllByRecursion (λ y. AllByRecursion (R y) (f b)) (f a)) → (all : List X) → AllByRecursion (λ a. Chain R (f a)) all → Chain S all → Chain R (flat_map f all)
  chain-flat_map R S f between [] each chain = tt
  chain-flat_map R S f between (a ∷ rest) each chain =
      let apart : AllByRecursion (λ b. AllByRecursion (λ y. AllByRecursion (R y) (f b)) (f a)) rest = all-each (S a) (λ b. AllByRecursion (λ y. AllByRecursion (R y) (f b)) (f a)) rest (λ b s. between a b s) chain.0 in
      chain-append R (f a) (flat_map f rest) each.0 (chain-flat_map R S f between rest each.1 chain.1) (all-each (λ y. AllByRecursion (λ b. AllByRecursion (R y) (f b)) rest) (λ y. AllByRecursion (R y) (flat_map f rest)) (f a) (λ y own. all-pieces (R y) f rest own) (all-turned R f (f a) rest apart))

  pub chain-map : (R : Y → Y → Type 0) (S : X → X → Type 0) (f : X → Y) → ((a b : X) → S a b → R (f a) (f b)) → (all : List X) → Chain S all → Chain R (map f all)
  chain-map R S f both [] chain = tt
  chain-map R S f both (a ∷ rest) chain = (lead rest chain.0, chain-map R S f both rest chain.1)
    where
      lead : (those : List X) → AllByRecursion (S a) those → AllByRecursion (R (f a)) (map f those)
      lead [] all = tt
      lead (b ∷ those) all = (both a b all.0, lead those all.1)
