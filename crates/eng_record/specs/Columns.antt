-- The value in one column of a record, read without the others.
use Rattle.std.specs.Prelude.{ℕ, zero, suc, List, [], ◌∷◌, take, drop, Ok}
use Rattle.eng_value.specs.declared.value.Value.{Value}
use Rattle.eng_record.specs.declared.serial_type.SerialType.{SerialType}
use Rattle.eng_record.specs.declared.serial_type.SerialType.TheVariants.{Null, Integer, Zero, One, Blob, Text}
use Rattle.eng_record.specs.Reading.{Read, ◌>>=◌, body_at, front, header_len_at, type_at}

-- how many bytes the body of a value of this type takes
abbrev pub body_len : SerialType → ℕ
body_len Null = 0
body_len (Integer k) = k
body_len Zero = 0
body_len One = 0
body_len (Blob n) = n
body_len (Text n) = n

-- among types and bodies, the type in a place and the bytes from its body on; behind the last type NULL, which has no body
abbrev pub body_among : ℕ → List ℕ → List ℕ → Read (SerialType × List ℕ)
body_among place [] bodies = Ok (Null, bodies)
body_among zero (b ∷ kinds) bodies = do
  kind ← type_at (b ∷ kinds)
  Ok (kind.0, bodies)
body_among (suc more) (b ∷ kinds) bodies = do
  kind ← type_at (b ∷ kinds)
  passed ← front (body_len kind.0) bodies
  body_among more kind.1 passed.1

-- the same in the bytes of a record
unfoldable pub body_of : ℕ → List ℕ → Read (SerialType × List ℕ)
body_of place bytes = do
  header ← header_len_at bytes
  body_among place (take header.0 header.1) (drop header.0 header.1)

-- a value of a type at the front
abbrev pub value_at : SerialType → List ℕ → Read Value
value_at kind bytes = do
  value ← body_at kind bytes
  Ok value.0

-- the value in a place, or the first fault on the way to its end: the bodies in front of it are passed by unread, and what stands
-- behind it is not looked at
unfoldable pub column_at : ℕ → List ℕ → Read Value
column_at place bytes = do
  found ← body_of place bytes
  value_at found.0 found.1
