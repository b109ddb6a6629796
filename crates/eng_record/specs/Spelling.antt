-- The one spelling of each row as a record (Database File Format, section 2.1).
use Rattle.std.specs.Prelude.{◌≡◌, ℕ, zero, suc, ◌+◌, ◌-◌, ◌*◌, ◌/◌, ◌%◌, ◌<◌, ◌^◌, ⊤, Bool, true, ◌&&◌, nat_lt, nat_le, ℤ, pos, neg_ℤ, int_le, int_lt, List, [], ◌∷◌, ◌++◌, length, if◌then◌else◌}
use Rattle.std.specs.List.{flat_map, AllByRecursion}
use Rattle.std.specs.Int.{w64, bytes_high_first, cast_unsigned}
use Rattle.std.specs.Str.{is_utf8}
use Rattle.eng_value.specs.declared.value.Value.{Value}
use Rattle.eng_value.specs.declared.value.Value.TheVariants.{Null, Integer, Text, Blob}
use Rattle.eng_record.specs.declared.serial_type.SerialType.{SerialType}
use Rattle.eng_record.specs.declared.serial_type.SerialType.TheVariants as types

-- ---- varints

-- seven bits of n in each of k bytes, the highest first, each with the bit that says that bytes follow
abbrev pub leading : ℕ → ℕ → List ℕ
leading zero n = []
leading (suc k) n = (128 + n / 128 ^ k) ∷ leading k (n % (128 ^ k))

-- how many bytes a number needs: nine where it has more than 56 bits
unfoldable pub varint_len : ℕ → ℕ
varint_len n =
    if nat_lt n (2 ^ 7) then 1 else if nat_lt n (2 ^ 14) then 2 else if nat_lt n (2 ^ 21) then 3 else if nat_lt n (2 ^ 28) then 4 else
    if nat_lt n (2 ^ 35) then 5 else if nat_lt n (2 ^ 42) then 6 else if nat_lt n (2 ^ 49) then 7 else if nat_lt n (2 ^ 56) then 8 else 9

-- the last byte has seven bits, the ninth has eight
unfoldable pub varint : ℕ → List ℕ
varint n =
    if nat_lt n (2 ^ 56) then leading (varint_len n - 1) (n / 128) ++ (n % 128) ∷ []
    else leading 8 (n / 256) ++ (n % 256) ∷ []

-- ---- serial types

-- the number fits in k bytes with its sign
abbrev pub fits_in : ℕ → ℤ → Bool
fits_in k n = int_le (neg_ℤ (pos (2 ^ (8 * k - 1)))) n && int_lt n (pos (2 ^ (8 * k - 1)))

-- how many bytes an integer takes: none where its type says the number
unfoldable pub integer_len : ℤ → ℕ
integer_len n =
    if fits_in 1 n then (if int_le (pos 0) n && int_le n (pos 1) then 0 else 1) else if fits_in 2 n then 2 else if fits_in 3 n then 3 else
    if fits_in 4 n then 4 else if fits_in 6 n then 6 else 8

abbrev pub integer_type : ℤ → ℕ → SerialType
integer_type n zero = if int_le n (pos 0) then types.Zero else types.One
integer_type n (suc k) = types.Integer (suc k)

abbrev pub type_of : Value → SerialType
type_of Null = types.Null
type_of (Integer n) = integer_type n (integer_len n)
type_of (Text bytes) = types.Text (length bytes)
type_of (Blob bytes) = types.Blob (length bytes)

-- the number of a type
abbrev pub code : SerialType → ℕ
code types.Null = 0
code (types.Integer k) = if nat_le k 4 then k else if nat_le k 6 then 5 else 6
code types.Zero = 8
code types.One = 9
code (types.Blob n) = 12 + 2 * n
code (types.Text n) = 13 + 2 * n

-- ---- records

-- an integer's body is its lowest bytes, the highest of them first
abbrev pub body : Value → List ℕ
body Null = []
body (Integer n) = bytes_high_first (integer_len n) (cast_unsigned w64 n)
body (Text bytes) = bytes
body (Blob bytes) = bytes

-- the types of a row, one after another
abbrev pub types_spelled : List Value → List ℕ
types_spelled row = flat_map (λ v. varint (code (type_of v))) row

-- the least k, of those from k on, that is no less than the length of the number s + k
abbrev pub own_len_from : ℕ → ℕ → ℕ → ℕ
own_len_from zero k s = k
own_len_from (suc more) k s = if nat_le (varint_len (s + k)) k then k else own_len_from more (suc k) s

-- the length of a header whose types take s bytes: it counts the bytes of its own number
unfoldable pub header_len : ℕ → ℕ
header_len s = s + own_len_from 8 1 s

-- the length of the header, the types, and the bodies
abbrev pub spelling : List Value → List ℕ
spelling row = varint (header_len (length (types_spelled row))) ++ types_spelled row ++ flat_map body row

-- ---- what can be spelled

-- a text is UTF-8, an integer has 64 bits, and the length of a body has too
abbrev pub IsSpellableValue : Value → Type 0
IsSpellableValue Null = ⊤
IsSpellableValue (Integer n) = fits_in 8 n ≡ true
IsSpellableValue (Text bytes) = (is_utf8 bytes ≡ true) × (13 + 2 * length bytes < 2 ^ 64)
IsSpellableValue (Blob bytes) = 12 + 2 * length bytes < 2 ^ 64

pub record IsSpellable (row : List Value) : Type 0 where
  pub values : AllByRecursion IsSpellableValue row
  pub header : header_len (length (types_spelled row)) < 2 ^ 64
