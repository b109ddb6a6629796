-- The last of several by its place.
use Rattle.std.proofs.Common.{◌≡◌, ℕ, suc, ◌-◌, List, [], ◌∷◌, length, slice_get, take, Option, refl, ap, ◌∙◌, arith}
use Rattle.bind_with.specs.Recursive.{front_of, last_of}

pub last-get : {A : Type 0} (xs : List A) → slice_get xs (length xs - 1) ≡ last_of xs
last-get [] = refl
last-get (x ∷ []) = refl
last-get (x ∷ y ∷ xs) =
    let next : length (x ∷ y ∷ xs) - 1 ≡ suc (length (y ∷ xs) - 1) = omega arith in
    ap (slice_get (x ∷ y ∷ xs)) next ∙ last-get (y ∷ xs)

pub front-take : {A : Type 0} (xs : List A) → take (length xs - 1) xs ≡ front_of xs
front-take [] = refl
front-take (x ∷ []) = refl
front-take (x ∷ y ∷ xs) =
    let next : length (x ∷ y ∷ xs) - 1 ≡ suc (length (y ∷ xs) - 1) = omega arith in
    ap (λ n. take n (x ∷ y ∷ xs)) next ∙ ap (λ ys. x ∷ ys) (front-take (y ∷ xs))

pub ruleset last_steps = (last-get, front-take)
