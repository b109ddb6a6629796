-- Lists arranged by a test of what comes first, and lists with the same elements. They need nothing of values: rows, entries and items
-- are arranged alike.
use Rattle.std.specs.Prelude.{◌≡◌, ◌⊎◌, Bool, true, false, List, [], ◌∷◌, if◌then◌else◌, ⊤}
use Rattle.std.specs.List.{AllByRecursion}

-- it holds between each element and each one behind it
abbrev pub Chain : {X : Type 0} → (X → X → Type 0) → List X → Type 0
Chain R [] = ⊤
Chain R (x ∷ xs) = AllByRecursion (R x) xs × Chain R xs

module _ {X : Type 0} (before : X → X → Bool) where
  -- one element more, behind those that come before it
  abbrev pub placed : X → List X → List X
  placed x [] = x ∷ []
  placed x (y ∷ ys) = if before y x then y ∷ placed x ys else x ∷ y ∷ ys

  -- the stable arrangement: elements of which neither comes before the other stay as they stood
  abbrev pub arranged : List X → List X
  arranged [] = []
  arranged (x ∷ xs) = placed x (arranged xs)

  -- no element comes before one in front of it
  abbrev pub IsArranged : List X → Type 0
  IsArranged xs = Chain (λ x y. before y x ≡ false) xs

  -- each element comes before those behind it
  abbrev pub Ascends : List X → Type 0
  Ascends xs = Chain (λ x y. before x y ≡ true) xs

  -- of any two elements one comes before the other
  abbrev pub AreApart : List X → Type 0
  AreApart xs = Chain (λ x y. (before x y ≡ true) ⊎ (before y x ≡ true)) xs

-- the same elements, each as often, in any order
pub data Shuffled {X : Type 0} : List X → List X → Type 0 where
  empty : Shuffled [] []
  keep : (x : X) {xs ys : List X} → Shuffled xs ys → Shuffled (x ∷ xs) (x ∷ ys)
  swap : (x y : X) (xs : List X) → Shuffled (x ∷ y ∷ xs) (y ∷ x ∷ xs)
  onward : {xs ys zs : List X} → Shuffled xs ys → Shuffled ys zs → Shuffled xs zs
