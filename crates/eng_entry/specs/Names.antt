-- Names. They do not regard the case of ASCII letters.
use Rattle.std.specs.Prelude.{◌≡◌, ℕ, List, [], ◌∷◌, Bool, true, false, codes, refl}
use Rattle.std.specs.Str.{str_eq_ignore_ascii_case}

-- two names name one thing
abbrev pub is_same_name : List ℕ → List ℕ → Bool
is_same_name a b = str_eq_ignore_ascii_case a b

letters_without_case : is_same_name (codes "Total_7") (codes "tOTAL_7") ≡ true
letters_without_case = refl

other_letters : is_same_name (codes "Total_7") (codes "Total_8") ≡ false
other_letters = refl

-- Ä and ä are 195 132 and 195 164
letters_beyond_ascii : is_same_name (195 ∷ 132 ∷ []) (195 ∷ 164 ∷ []) ≡ false
letters_beyond_ascii = refl
