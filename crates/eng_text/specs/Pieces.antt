-- A text cut at each place where another stands, and its pieces joined again.
use Rattle.std.specs.Prelude.{◌≡◌, ◌≢◌, ℕ, ◌≤◌, List, [], ◌∷◌, ◌++◌, length, Option, Some, None, MatchOption, codes, refl}
use Rattle.eng_text.specs.Texts.{place_of}

-- the first place where the needle stands: as long a front as this is before it, and no shorter one; or there is none
abbrev pub IsFirstPlace : List ℕ → List ℕ → Option ℕ → Type 0
IsFirstPlace needle text place =
    MatchOption place ((front back : List ℕ) → text ≢ front ++ (needle ++ back))
    (λ n. ((front : List ℕ) × (back : List ℕ) × (text ≡ front ++ (needle ++ back)) × (length front ≡ n)) × ((front back : List ℕ) → text ≡ front ++ (needle ++ back) → n ≤ length front))

-- the pieces with the separator between each two of them
abbrev pub joined : List ℕ → List (List ℕ) → List ℕ
joined separator [] = []
joined separator (piece ∷ []) = piece
joined separator (piece ∷ next ∷ pieces) = piece ++ (separator ++ joined separator (next ∷ pieces))

-- pieces between which `old` stands, from the left: behind each but the last the first `old` stands right at its end, and in the last none
abbrev pub AreBetween : List ℕ → List (List ℕ) → Type 0
AreBetween old [] = ⊥
AreBetween old (piece ∷ []) = place_of old piece ≡ None
AreBetween old (piece ∷ next ∷ pieces) = (place_of old (piece ++ old) ≡ Some (length piece)) × AreBetween old (next ∷ pieces)

-- ---- examples

pieces : joined (codes ", ") (codes "a" ∷ [] ∷ codes "b" ∷ []) ≡ codes "a, , b"
pieces = refl

cut_from_left : AreBetween (codes "aa") ([] ∷ codes "a" ∷ []) × (joined (codes "aa") ([] ∷ codes "a" ∷ []) ≡ codes "aaa")
cut_from_left = ((refl, refl), refl)
