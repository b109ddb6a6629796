-- The first bytes of a key as a number.
use Rattle.std.specs.Prelude.{◌≡◌, ℕ, zero, suc, ◌+◌, ◌*◌, ◌^◌, ◌≤◌, List, [], ◌∷◌, length}

-- what the first bytes are worth, so many of them, high first
abbrev pub worth : ℕ → List ℕ → ℕ
worth zero key = 0
worth (suc n) [] = 0
worth (suc n) (b ∷ key) = b * 256 ^ n + worth n key

-- of a key that is not shorter it is what its first eight bytes are worth
abbrev pub IsPrefix : ℕ → List ℕ → Type 0
IsPrefix prefix key = 8 ≤ length key → prefix ≡ worth 8 key
