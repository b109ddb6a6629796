-- The first place that passes a test, in plain words.
use Rattle.std.specs.Prelude.{◌≡◌, ℕ, ◌<◌, Bool, true, false, Option, Some, None}

-- the place is the first of so many that passes the test; there is none where none of them does
abbrev pub IsFirst : (ℕ → Bool) → ℕ → Option ℕ → Type 0
IsFirst passes many (Some place) = (place < many) × (passes place ≡ true) × ((other : ℕ) → other < place → passes other ≡ false)
IsFirst passes many None = (other : ℕ) → other < many → passes other ≡ false
