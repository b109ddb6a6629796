-- What bytes mean as a record, read from left to right, with the first fault.
use Rattle.std.specs.Prelude.{◌≡◌, ℕ, zero, suc, ◌+◌, ◌-◌, ◌*◌, ◌/◌, ◌%◌, ⊤, nat_lt, nat_le, ◌==◌, ℤ, pos, List, [], ◌∷◌, ◌++◌, length, take, drop, replicate, if◌then◌else◌, Option, Some, None, Result, Ok, Err}
use Rattle.std.specs.Int.{w64, from_be_bytes, cast_signed}
use Rattle.std.specs.Str.{is_utf8}
use Rattle.eng_value.specs.declared.value.Value.{Value}
use Rattle.eng_value.specs.declared.value.Value.TheVariants as value
use Rattle.eng_record.specs.declared.record_error.RecordErr.{RecordErr}
use Rattle.eng_record.specs.declared.record_error.RecordErr.TheVariants.{Short, BadKind, BadText, Trailing, NotShortest, Mem}
use Rattle.eng_record.specs.declared.serial_type.SerialType.{SerialType}
use Rattle.eng_record.specs.declared.serial_type.SerialType.TheVariants as types
use Rattle.eng_record.specs.Spelling.{varint_len, integer_len, header_len}

-- what is read, or the first fault
abbrev pub Read : Type 0 → Type 0
Read A = Result A RecordErr

infixl 10 ◌>>=◌
abbrev pub ◌>>=◌ : {A B : Type 0} → Read A → (A → Read B) → Read B
(Ok x) >>= next = next x
(Err e) >>= next = Err e

-- so many bytes from the front, and the bytes behind them
unfoldable pub front : ℕ → List ℕ → Read (List ℕ × List ℕ)
front n bytes = if nat_lt (length bytes) n then Err Short else Ok (take n bytes, drop n bytes)

-- ---- varints

-- the number whose higher bits are `high`, where at most so many bytes belong to it; the bytes behind it
abbrev pub number_from : ℕ → ℕ → List ℕ → Read (ℕ × List ℕ)
number_from most high [] = Err Short
number_from zero high (b ∷ bytes) = Ok (256 * high + b, bytes)
number_from (suc more) high (b ∷ bytes) =
    if nat_lt b 128 then Ok (128 * high + b, bytes) else number_from more (128 * high + (b - 128)) bytes

-- the number at the front, however it is written
unfoldable pub number_at : List ℕ → Read (ℕ × List ℕ)
number_at bytes = number_from 8 0 bytes

-- how many bytes were read
abbrev pub used : List ℕ → List ℕ → ℕ
used bytes rest = length bytes - length rest

-- the number at the front, which takes no more bytes than it needs
unfoldable pub varint_at : List ℕ → Read (ℕ × List ℕ)
varint_at bytes = do
  n ← number_at bytes
  if used bytes n.1 == varint_len n.0 then Ok n else Err NotShortest

-- ---- the header

-- the type of a number; none for 7, 10 and 11
abbrev pub type_of_code : ℕ → Option SerialType
type_of_code n =
    if n == 0 then Some types.Null else if nat_le n 4 then Some (types.Integer n) else
    if n == 5 then Some (types.Integer 6) else if n == 6 then Some (types.Integer 8) else if n == 7 then None else
    if n == 8 then Some types.Zero else if n == 9 then Some types.One else if nat_le n 11 then None else
    if n % 2 == 0 then Some (types.Blob ((n - 12) / 2)) else Some (types.Text ((n - 13) / 2))

abbrev pub or_bad_kind : Option SerialType → List ℕ → Read (SerialType × List ℕ)
or_bad_kind None rest = Err BadKind
or_bad_kind (Some kind) rest = Ok (kind, rest)

unfoldable pub type_at : List ℕ → Read (SerialType × List ℕ)
type_at bytes = do
  n ← varint_at bytes
  or_bad_kind (type_of_code n.0) n.1

-- the types that fill these bytes, of which there are at most so many
abbrev pub types_in : ℕ → List ℕ → Read (List SerialType)
types_in most [] = Ok []
types_in zero (b ∷ bytes) = Err Short
types_in (suc more) (b ∷ bytes) = do
  first ← type_at (b ∷ bytes)
  others ← types_in more first.1
  Ok (first.0 ∷ others)

-- how many bytes the types take, and the bytes behind the header's length
unfoldable pub header_len_at : List ℕ → Read (ℕ × List ℕ)
header_len_at bytes = do
  n ← number_at bytes
  if nat_lt n.0 (used bytes n.1) then Err Short else
      if n.0 == header_len (n.0 - used bytes n.1) then Ok (n.0 - used bytes n.1, n.1) else Err NotShortest

-- the types of the values, and the bytes of their bodies
unfoldable pub header_at : List ℕ → Read (List SerialType × List ℕ)
header_at bytes = do
  n ← header_len_at bytes
  kinds ← types_in n.0 (take n.0 n.1)
  if nat_lt (length n.1) n.0 then Err Short else Ok (kinds, drop n.0 n.1)

-- ---- the bodies

-- the byte that continues a number's sign to the left
abbrev pub sign_of : List ℕ → ℕ
sign_of [] = 0
sign_of (b ∷ bytes) = if nat_lt b 128 then 0 else 255

-- the number of these bytes, the highest first, in two's complement
unfoldable pub signed : List ℕ → ℤ
signed bytes = cast_signed w64 (from_be_bytes w64 (replicate (8 - length bytes) (sign_of bytes) ++ bytes))

-- the value of a type, and the bytes behind it
unfoldable pub body_at : SerialType → List ℕ → Read (Value × List ℕ)
body_at types.Null bytes = Ok (value.Null, bytes)
body_at (types.Integer k) bytes = do
  found ← front k bytes
  if integer_len (signed found.0) == k then Ok (value.Integer (signed found.0), found.1) else Err NotShortest
body_at types.Zero bytes = Ok (value.Integer (pos 0), bytes)
body_at types.One bytes = Ok (value.Integer (pos 1), bytes)
body_at (types.Blob n) bytes = do
  found ← front n bytes
  Ok (value.Blob found.0, found.1)
body_at (types.Text n) bytes = do
  found ← front n bytes
  if is_utf8 found.0 then Ok (value.Text found.0, found.1) else Err BadText

unfoldable pub bodies_at : List SerialType → List ℕ → Read (List Value × List ℕ)
bodies_at [] bytes = Ok ([], bytes)
bodies_at (kind ∷ kinds) bytes = do
  first ← body_at kind bytes
  others ← bodies_at kinds first.1
  Ok (first.0 ∷ others.0, others.1)

-- ---- records

-- the row at the front, and the bytes behind it
unfoldable pub record_at : List ℕ → Read (List Value × List ℕ)
record_at bytes = do
  header ← header_at bytes
  bodies_at header.0 header.1

-- the row of these bytes, all of them
unfoldable pub reading : List ℕ → Read (List Value)
reading bytes = do
  found ← record_at bytes
  if length found.1 == 0 then Ok found.0 else Err Trailing

-- ---- what a function answers

-- a function's error is the fault of what is read, unless memory was not found
abbrev pub IsFault : {B : Type 0} → RecordErr → Read B → Type 0
IsFault Mem read = ⊤
IsFault Short read = read ≡ Err Short
IsFault BadKind read = read ≡ Err BadKind
IsFault BadText read = read ≡ Err BadText
IsFault Trailing read = read ≡ Err Trailing
IsFault NotShortest read = read ≡ Err NotShortest

-- a function's answer, seen so, is what is read
abbrev pub Gives : {A B : Type 0} → (A → B) → Result A RecordErr → Read B → Type 0
Gives view (Ok x) read = read ≡ Ok (view x)
Gives view (Err e) read = IsFault e read
