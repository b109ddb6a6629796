-- The first member that passes a test, found by walking.
use Rattle.std.proofs.Common.{◌≡◌, ℕ, ◌+◌, ◌<◌, ◌≤◌, Bool, true, false, List, [], ◌∷◌, drop, length, position, Option, Some, None, arith}
use Rattle.std.specs.List.{position_or_len}
use Rattle.std.proofs.lemmas.Grind.{common_steps}

pub place-found : {X : Type 0} (p : X → Bool) (xs : List X) (i : ℕ) (x : X) (rest : List X)
    → position_or_len p xs ≡ i + position_or_len p (drop i xs) → drop i xs ≡ x ∷ rest → p x ≡ true → i < length xs → position p xs ≡ Some i
place-found p xs i x rest walked here passes within = grind (arith, common_steps)

pub place-absent : {X : Type 0} (p : X → Bool) (xs : List X) (i : ℕ)
    → position_or_len p xs ≡ i + position_or_len p (drop i xs) → length xs ≤ i → position p xs ≡ None
place-absent p xs i walked past = grind (arith, common_steps)

pub place-next : {X : Type 0} (p : X → Bool) (xs : List X) (i : ℕ) (x : X) (rest : List X)
    → position_or_len p xs ≡ i + position_or_len p (drop i xs) → drop i xs ≡ x ∷ rest → p x ≡ false → position_or_len p xs ≡ i + 1 + position_or_len p rest
place-next p xs i x rest walked here fails = grind (arith, common_steps)

pub ruleset place_steps = (place-found, place-absent, place-next)
