-- How a replacement is made: piece by piece, within its limit.
use Rattle.std.specs.Prelude.{◌≡◌, ℕ, ◌<◌, ◌≤◌, Bool, List, ◌++◌, length, Option, MatchOption}
use Rattle.std.specs.Bool.{MatchBool}
use Rattle.eng_text.specs.Texts.{replaced}

-- what is in front of the first `old` is kept, and what is behind it is shorter
abbrev pub IsAroundFirst : List ℕ → List ℕ → Option (List ℕ × List ℕ) → Type 0
IsAroundFirst old bytes parts = MatchOption parts ((new : List ℕ) → replaced old new bytes ≡ bytes)
    (λ p. ((new : List ℕ) → replaced old new bytes ≡ p.0 ++ (new ++ replaced old new p.1)) × (length p.1 < length bytes))

-- whether there are at most so many bytes, and that they were made if so
abbrev pub IsPut : ℕ → List ℕ → List ℕ → Bool → Type 0
IsPut limit bytes made is_within = MatchBool is_within ((made ≡ bytes) × (length bytes ≤ limit)) (limit < length bytes)
