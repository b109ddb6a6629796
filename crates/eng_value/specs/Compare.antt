-- How values stand to one another.
use Rattle.std.specs.Prelude.{◌≡◌, ℕ, List, [], Bool, false, pos, negsuc, codes, refl}
use Rattle.std.specs.Ordering.{nat_cmp, int_cmp, is_gt}
use Rattle.std.specs.Cmp.Lexicographic.{slice_cmp}
use Rattle.std.specs.declared.cmp.Ordering.{Ordering}
use Rattle.std.specs.declared.cmp.Ordering.TheVariants.{Less, Equal, Greater}
use Rattle.eng_value.specs.declared.value.Value.{Value}
use Rattle.eng_value.specs.declared.value.Value.TheVariants.{Null, Integer, Text, Blob}

-- texts and blobs by their bytes, the first that differ deciding, a front before what goes on
abbrev pub bytes_cmp : List ℕ → List ℕ → Ordering
bytes_cmp = slice_cmp nat_cmp

-- NULL, then INTEGER by size, then TEXT by bytes, then BLOB by bytes
abbrev pub value_cmp : Value → Value → Ordering
value_cmp Null Null = Equal
value_cmp Null v = Less
value_cmp (Integer a) Null = Greater
value_cmp (Integer a) (Integer b) = int_cmp a b
value_cmp (Integer a) v = Less
value_cmp (Text s) (Text t) = bytes_cmp s t
value_cmp (Text s) (Blob c) = Less
value_cmp (Text s) v = Greater
value_cmp (Blob b) (Blob c) = bytes_cmp b c
value_cmp (Blob b) v = Greater

-- `a > b` of two values that are not NULL; NULL compared with anything is NULL, which is not true
abbrev pub is_greater : Value → Value → Bool
is_greater Null v = false
is_greater (Integer a) Null = false
is_greater (Integer a) v = is_gt (value_cmp (Integer a) v)
is_greater (Text s) Null = false
is_greater (Text s) v = is_gt (value_cmp (Text s) v)
is_greater (Blob b) Null = false
is_greater (Blob b) v = is_gt (value_cmp (Blob b) v)

-- the storage classes stand in their order, and NULL is greater than nothing
numbers_before_texts : value_cmp (Integer (pos 7)) (Text (codes "1")) ≡ Less
numbers_before_texts = refl

negative_numbers : value_cmp (Integer (negsuc 1)) (Integer (negsuc 0)) ≡ Less
negative_numbers = refl

a_front_is_less : value_cmp (Text (codes "ab")) (Text (codes "abc")) ≡ Less
a_front_is_less = refl

texts_before_blobs : value_cmp (Blob []) (Text (codes "z")) ≡ Greater
texts_before_blobs = refl

null_is_not_greater : is_greater (Integer (pos 1)) Null ≡ false
null_is_not_greater = refl
