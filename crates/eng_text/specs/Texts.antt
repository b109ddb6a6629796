-- Finding and replacing.
use Rattle.std.specs.Prelude.{◌≡◌, ℕ, zero, suc, ◌-◌, ◌<◌, ◌≤◌, Bool, true, false, ◌&&◌, ◌==◌, List, [], ◌∷◌, ◌++◌, length, map, Option, Some, None, MatchOption, if◌then◌else◌, codes, refl}
use Rattle.std.specs.Option.{option_map}
use Rattle.std.specs.Char.{to_ascii_lowercase}

-- the bytes begin with these
abbrev pub begins : List ℕ → List ℕ → Bool
begins [] bytes = true
begins (n ∷ ns) [] = false
begins (n ∷ ns) (b ∷ bytes) = (n == b) && begins ns bytes

-- the first place, from 0 on, from which on the needle stands
abbrev pub place_of : List ℕ → List ℕ → Option ℕ
place_of needle [] = if begins needle [] then Some 0 else None
place_of needle (b ∷ hay) = if begins needle (b ∷ hay) then Some 0 else option_map suc (place_of needle hay)

-- the text with `new` for each `old`, from the left; so many bytes of an `old` are still passed over
abbrev pub replaced_behind : List ℕ → List ℕ → ℕ → List ℕ → List ℕ
replaced_behind old new skip [] = []
replaced_behind old new (suc skip) (b ∷ bytes) = replaced_behind old new skip bytes
replaced_behind old new zero (b ∷ bytes) =
    if begins old (b ∷ bytes) then new ++ replaced_behind old new (length old - 1) bytes else b ∷ replaced_behind old new zero bytes

-- nothing is replaced where `old` is empty
abbrev pub replaced : List ℕ → List ℕ → List ℕ → List ℕ
replaced [] new bytes = bytes
replaced (o ∷ os) new bytes = replaced_behind (o ∷ os) new zero bytes

-- these bytes, unless there are more of them than the limit
abbrev pub IsWithin : ℕ → List ℕ → Option (List ℕ) → Type 0
IsWithin limit bytes made = MatchOption made (limit < length bytes) (λ all. (all ≡ bytes) × (length bytes ≤ limit))

-- the letters of ASCII in lower case
abbrev pub folded : List ℕ → List ℕ
folded bytes = map to_ascii_lowercase bytes

places : (place_of (codes "b") (codes "abb") ≡ Some 1) × (place_of [] (codes "ab") ≡ Some 0) × (place_of (codes "abc") (codes "ab") ≡ None)
places = (refl, refl, refl)

replacements : (replaced (codes "aa") (codes "x") (codes "aaaab") ≡ codes "xxb") × (replaced [] (codes "x") (codes "ab") ≡ codes "ab") × (replaced (codes "a") (codes "aa") (codes "aba") ≡ codes "aabaa")
replacements = (refl, refl, refl)
