-- The keys of rowids (Rowid Tables).
use Rattle.std.specs.Prelude.{◌≡◌, ◌-◌, ◌^◌, ◌==◌, ℕ, List, [], ◌∷◌, ℤ, pos, negsuc, ◌+ℤ◌, ◌-ℤ◌, unsigned_abs, FitsSigned, if◌then◌else◌, length, replicate, Some, None, refl}
use Rattle.std.specs.Int.{w64, to_be_bytes, from_be_bytes}
use Rattle.std.specs.declared.option.Option.{Option}

-- a rowid is a signed number of 64 bits
abbrev pub IsRowid : ℤ → Type 0
IsRowid n = FitsSigned w64 n

abbrev pub least_rowid : ℤ
least_rowid = negsuc (2 ^ 63 - 1)

-- how far a rowid is from the least one, and the rowid that is so far from it
abbrev pub distance_of : ℤ → ℕ
distance_of n = unsigned_abs (n -ℤ least_rowid)

abbrev pub rowid_at : ℕ → ℤ
rowid_at distance = least_rowid +ℤ pos distance

-- the eight bytes of the distance, high first
unfoldable pub rowid_key : ℤ → List ℕ
rowid_key n = to_be_bytes w64 (distance_of n)

-- the rowid whose key this is
unfoldable pub rowid_of : List ℕ → Option ℤ
rowid_of key = if length key == 8 then Some (rowid_at (from_be_bytes w64 key)) else None

pub least_key : rowid_key least_rowid ≡ replicate 8 0
unfolding rowid_key
least_key = refl

minus_one : rowid_key (negsuc 0) ≡ 127 ∷ replicate 7 255
unfolding rowid_key
minus_one = refl

nought : rowid_key (pos 0) ≡ 128 ∷ replicate 7 0
unfolding rowid_key
nought = refl

one : rowid_key (pos 1) ≡ 128 ∷ 0 ∷ 0 ∷ 0 ∷ 0 ∷ 0 ∷ 0 ∷ 1 ∷ []
unfolding rowid_key
one = refl

greatest : rowid_key (pos (2 ^ 63 - 1)) ≡ replicate 8 255
unfolding rowid_key
greatest = refl

seven_bytes : rowid_of (replicate 7 0) ≡ None
unfolding rowid_of
seven_bytes = refl

nine_bytes : rowid_of (replicate 9 0) ≡ None
unfolding rowid_of
nine_bytes = refl
