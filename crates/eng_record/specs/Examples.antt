-- Worked records, varints at both ends of each length, integers at both ends of each type, and bytes that are no record.
use Rattle.std.specs.Prelude.{◌≡◌, ℕ, ◌+◌, ◌-◌, ◌^◌, pos, negsuc, List, [], ◌∷◌, ◌++◌, refl, replicate, Ok, Err}
use Rattle.eng_value.specs.declared.value.Value.{Value}
use Rattle.eng_value.specs.declared.value.Value.TheVariants.{Null, Integer, Text, Blob}
use Rattle.eng_record.specs.declared.record_error.RecordErr.TheVariants.{Short, BadKind, Trailing, NotShortest}
use Rattle.eng_record.specs.Spelling.{varint, varint_len, header_len, integer_len, spelling}
use Rattle.eng_record.specs.Columns.{body_of, column_at}
use Rattle.eng_record.specs.Reading.{reading, record_at, bodies_at, body_at, signed, header_at, header_len_at, type_at, varint_at, number_at, front}

-- ---- NULL, 1, 'ab', 300

abbrev row : List Value
row = Null ∷ Integer (pos 1) ∷ Text (0x61 ∷ 0x62 ∷ []) ∷ Integer (pos 300) ∷ []

abbrev bytes : List ℕ
bytes = 0x05 ∷ 0x00 ∷ 0x09 ∷ 0x11 ∷ 0x02 ∷ 0x61 ∷ 0x62 ∷ 0x01 ∷ 0x2c ∷ []

spelled : spelling row ≡ bytes
unfolding varint varint_len header_len integer_len
spelled = refl

-- ---- varints

varints_of_one : (varint 0 ≡ 0x00 ∷ []) × (varint (2 ^ 7 - 1) ≡ 0x7f ∷ [])
unfolding varint varint_len
varints_of_one = (refl, refl)

varints_of_two : (varint (2 ^ 7) ≡ 0x81 ∷ 0x00 ∷ []) × (varint (2 ^ 14 - 1) ≡ 0xff ∷ 0x7f ∷ [])
unfolding varint varint_len
varints_of_two = (refl, refl)

varints_of_three : (varint (2 ^ 14) ≡ 0x81 ∷ 0x80 ∷ 0x00 ∷ []) × (varint (2 ^ 21 - 1) ≡ 0xff ∷ 0xff ∷ 0x7f ∷ [])
unfolding varint varint_len
varints_of_three = (refl, refl)

varints_of_eight : (varint (2 ^ 49) ≡ 0x81 ∷ replicate 6 0x80 ++ 0x00 ∷ []) × (varint (2 ^ 56 - 1) ≡ replicate 7 0xff ++ 0x7f ∷ [])
unfolding varint varint_len
varints_of_eight = (refl, refl)

varints_of_nine : (varint (2 ^ 56) ≡ 0x80 ∷ 0xc0 ∷ replicate 6 0x80 ++ 0x00 ∷ []) × (varint (2 ^ 64 - 1) ≡ replicate 9 0xff)
unfolding varint varint_len
varints_of_nine = (refl, refl)

-- ---- headers: the number 128 would count 126 bytes of types in two bytes of its own, but one is enough

headers : (header_len 0 ≡ 1) × (header_len 126 ≡ 127) × (header_len 127 ≡ 129) × (header_len (2 ^ 14 - 3) ≡ 2 ^ 14 - 1) × (header_len (2 ^ 14 - 2) ≡ 2 ^ 14 + 1)
unfolding header_len varint_len
headers = (refl, refl, refl, refl, refl)

-- ---- integers

lengths : (integer_len (pos 0) ≡ 0) × (integer_len (pos 1) ≡ 0) × (integer_len (pos 2) ≡ 1) × (integer_len (negsuc 0) ≡ 1)
unfolding integer_len
lengths = (refl, refl, refl, refl)

lengths_above : (integer_len (pos (2 ^ 7 - 1)) ≡ 1) × (integer_len (pos (2 ^ 7)) ≡ 2) × (integer_len (pos (2 ^ 15)) ≡ 3) × (integer_len (pos (2 ^ 23)) ≡ 4) × (integer_len (pos (2 ^ 31)) ≡ 6) × (integer_len (pos (2 ^ 47)) ≡ 8)
unfolding integer_len
lengths_above = (refl, refl, refl, refl, refl, refl)

lengths_below : (integer_len (negsuc (2 ^ 7 - 1)) ≡ 1) × (integer_len (negsuc (2 ^ 7)) ≡ 2) × (integer_len (negsuc (2 ^ 15)) ≡ 3) × (integer_len (negsuc (2 ^ 23)) ≡ 4) × (integer_len (negsuc (2 ^ 31)) ≡ 6) × (integer_len (negsuc (2 ^ 47)) ≡ 8)
unfolding integer_len
lengths_below = (refl, refl, refl, refl, refl, refl)

-- ---- reading

-- NULL, 1, x'6162', 300
blob_read : reading (0x05 ∷ 0x00 ∷ 0x09 ∷ 0x10 ∷ 0x02 ∷ 0x61 ∷ 0x62 ∷ 0x01 ∷ 0x2c ∷ []) ≡ Ok (Null ∷ Integer (pos 1) ∷ Blob (0x61 ∷ 0x62 ∷ []) ∷ Integer (pos 300) ∷ [])
unfolding reading record_at header_at header_len_at type_at varint_at number_at bodies_at body_at front signed varint_len header_len integer_len
blob_read = refl

no_values : reading (0x01 ∷ []) ≡ Ok []
unfolding reading record_at header_at header_len_at type_at varint_at number_at bodies_at body_at front signed varint_len header_len integer_len
no_values = refl

-- -128 in one byte, -129 in two
negative_read : reading (0x03 ∷ 0x01 ∷ 0x02 ∷ 0x80 ∷ 0xff ∷ 0x7f ∷ []) ≡ Ok (Integer (negsuc 127) ∷ Integer (negsuc 128) ∷ [])
unfolding reading record_at header_at header_len_at type_at varint_at number_at bodies_at body_at front signed varint_len header_len integer_len
negative_read = refl

-- nothing, half a number, no type, half a type, half an integer, half a blob
cut_short : (reading ([]) ≡ Err Short) × (reading (0x80 ∷ []) ≡ Err Short) × (reading (0x02 ∷ []) ≡ Err Short) × (reading (0x02 ∷ 0x81 ∷ []) ≡ Err Short) × (reading (0x02 ∷ 0x02 ∷ 0x01 ∷ []) ≡ Err Short) × (reading (0x02 ∷ 0x10 ∷ 0x01 ∷ []) ≡ Err Short)
unfolding reading record_at header_at header_len_at type_at varint_at number_at bodies_at body_at front signed varint_len header_len integer_len
cut_short = (refl, refl, refl, refl, refl, refl)

-- a header that ends in front of itself, and one that ends inside a type whose bytes go on
header_cut_short : (reading (0x00 ∷ []) ≡ Err Short) × (reading (0x02 ∷ 0x81 ∷ 0x00 ∷ []) ≡ Err Short)
unfolding reading record_at header_at header_len_at type_at varint_at number_at bodies_at body_at front signed varint_len header_len integer_len
header_cut_short = (refl, refl)

-- a header's length in two bytes, and a type in two, where one is enough
longer_varint : (reading (0x80 ∷ 0x01 ∷ []) ≡ Err Short) × (reading (0x80 ∷ 0x02 ∷ []) ≡ Err NotShortest) × (reading (0x03 ∷ 0x80 ∷ 0x00 ∷ []) ≡ Err NotShortest)
unfolding reading record_at header_at header_len_at type_at varint_at number_at bodies_at body_at front signed varint_len header_len integer_len
longer_varint = (refl, refl, refl)

-- 0 and 1 with a body, 127 and -128 in two bytes
longer_integer : (reading (0x02 ∷ 0x01 ∷ 0x00 ∷ []) ≡ Err NotShortest) × (reading (0x02 ∷ 0x01 ∷ 0x01 ∷ []) ≡ Err NotShortest) × (reading (0x02 ∷ 0x02 ∷ 0x00 ∷ 0x7f ∷ []) ≡ Err NotShortest) × (reading (0x02 ∷ 0x02 ∷ 0xff ∷ 0x80 ∷ []) ≡ Err NotShortest)
unfolding reading record_at header_at header_len_at type_at varint_at number_at bodies_at body_at front signed varint_len header_len integer_len
longer_integer = (refl, refl, refl, refl)

kinds : (reading (0x02 ∷ 0x07 ∷ []) ≡ Err BadKind) × (reading (0x02 ∷ 0x0a ∷ []) ≡ Err BadKind) × (reading (0x02 ∷ 0x0b ∷ []) ≡ Err BadKind)
unfolding reading record_at header_at header_len_at type_at varint_at number_at bodies_at body_at front signed varint_len header_len integer_len
kinds = (refl, refl, refl)

more_behind : (reading (0x01 ∷ 0x00 ∷ []) ≡ Err Trailing) × (reading (0x03 ∷ 0x08 ∷ 0x09 ∷ 0x00 ∷ []) ≡ Err Trailing)
unfolding reading record_at header_at header_len_at type_at varint_at number_at bodies_at body_at front signed varint_len header_len integer_len
more_behind = (refl, refl)

-- the earlier fault, where there are two
first_from_the_left : (reading (0x03 ∷ 0x07 ∷ 0x80 ∷ []) ≡ Err BadKind) × (reading (0x04 ∷ 0x80 ∷ 0x00 ∷ 0x07 ∷ []) ≡ Err NotShortest) × (reading (0x03 ∷ 0x02 ∷ 0x01 ∷ 0x00 ∷ 0x01 ∷ []) ≡ Err NotShortest) × (reading (0x09 ∷ 0x07 ∷ []) ≡ Err BadKind)
unfolding reading record_at header_at header_len_at type_at varint_at number_at bodies_at body_at front signed varint_len header_len integer_len
first_from_the_left = (refl, refl, refl, refl)

-- ---- one column

-- NULL, 1, x'6162', 300, and nothing behind them
abbrev with_blob : List ℕ
with_blob = 0x05 ∷ 0x00 ∷ 0x09 ∷ 0x10 ∷ 0x02 ∷ 0x61 ∷ 0x62 ∷ 0x01 ∷ 0x2c ∷ []

columns_of_the_row : (column_at 0 with_blob ≡ Ok Null) × (column_at 1 with_blob ≡ Ok (Integer (pos 1))) × (column_at 2 with_blob ≡ Ok (Blob (0x61 ∷ 0x62 ∷ []))) × (column_at 3 with_blob ≡ Ok (Integer (pos 300))) × (column_at 4 with_blob ≡ Ok Null)
unfolding column_at body_of header_len_at type_at varint_at number_at body_at front signed varint_len header_len integer_len
columns_of_the_row = (refl, refl, refl, refl, refl)

-- 0 with a body, 0, and a byte behind both: the record of no row
columns_of_no_row : (reading (0x03 ∷ 0x01 ∷ 0x08 ∷ 0x00 ∷ 0x00 ∷ []) ≡ Err NotShortest) × (column_at 0 (0x03 ∷ 0x01 ∷ 0x08 ∷ 0x00 ∷ 0x00 ∷ []) ≡ Err NotShortest) × (column_at 1 (0x03 ∷ 0x01 ∷ 0x08 ∷ 0x00 ∷ 0x00 ∷ []) ≡ Ok (Integer (pos 0))) × (column_at 2 (0x03 ∷ 0x01 ∷ 0x08 ∷ 0x00 ∷ 0x00 ∷ []) ≡ Ok Null)
unfolding column_at body_of reading record_at header_at header_len_at type_at varint_at number_at bodies_at body_at front signed varint_len header_len integer_len
columns_of_no_row = (refl, refl, refl, refl)
