-- The built-in functions (SQL Language Expressions, "Built-in Scalar SQL Functions"). Characters are those of UTF-8, and U+0000 is
-- one of them. Where an argument is NULL the result is, unless it is said otherwise.
use Rattle.std.specs.Prelude.{◌≡◌, ℕ, suc, ◌+◌, ◌/◌, ◌%◌, Bool, true, false, ◌&&◌, ◌||◌, ◌==◌, nat_lt, List, [], ◌∷◌, ◌++◌, map, reverse, length, replicate, ℤ, pos, negsuc, ◌+ℤ◌, int_lt, int_le, unsigned_abs, Option, Some, None, encode_utf8_all, if◌then◌else◌, codes, refl}
use Rattle.std.specs.List.{flat_map, list_any}
use Rattle.std.specs.Char.{to_ascii_uppercase, encode_utf8}
use Rattle.std.specs.Fmt.{signed_decimal}
use Rattle.std.specs.Ordering.{is_lt, is_gt, is_eq, nat_cmp}
use Rattle.std.specs.Cmp.Lexicographic.{slice_cmp}
use Rattle.std.specs.Str.{chars}
use Rattle.eng_text.specs.Texts.{folded, place_of, replaced}
use Rattle.eng_value.specs.declared.builtin.Builtin.{Builtin}
use Rattle.eng_value.specs.declared.builtin.Builtin.TheVariants as builtin
use Rattle.eng_value.specs.declared.cause.Cause.{Cause}
use Rattle.eng_value.specs.declared.cause.Cause.TheVariants as cause
use Rattle.eng_value.specs.declared.out.Out.{Out}
use Rattle.eng_value.specs.declared.out.Out.TheVariants.{Good}
use Rattle.eng_value.specs.declared.value.Value.{Value}
use Rattle.eng_value.specs.declared.value.Value.TheVariants.{Null, Integer, Text, Blob}
use Rattle.eng_value.specs.Casts.{to_text, to_blob, to_integer}
use Rattle.eng_number.specs.Numbers.{fits_integer}
use Rattle.eng_value.specs.Operators.{made}
use Rattle.eng_value.specs.Outs.{bad, turned, on_both}
use Rattle.eng_value.specs.Truths.{chosen, truth_in, truth_of}

-- ---- arguments

abbrev pub is_null : Value → Bool
is_null Null = true
is_null (Integer n) = false
is_null (Text text) = false
is_null (Blob bytes) = false

abbrev pub bytes_of : Value → List ℕ
bytes_of Null = []
bytes_of (Integer n) = []
bytes_of (Text text) = text
bytes_of (Blob bytes) = bytes

-- the integer that an argument is cast to; NULL counts as 0
abbrev pub integer_in : Value → ℤ
integer_in Null = pos 0
integer_in (Integer n) = n
integer_in (Text text) = pos 0
integer_in (Blob bytes) = pos 0

abbrev pub int_of : Value → ℤ
int_of v = integer_in (to_integer v)

-- the text of these characters
abbrev pub text_of_chars : List ℕ → Value
text_of_chars cs = Text (encode_utf8_all cs)

-- of an argument that is cast to TEXT, by its bytes
abbrev pub on_bytes : (List ℕ → Out) → Value → Out
on_bytes f Null = Good Null
on_bytes f v = f (bytes_of v)

abbrev pub on_text : (List ℕ → Out) → Value → Out
on_text f v = turned (on_bytes f) (to_text v)

abbrev pub on_texts : (List ℕ → List ℕ → Out) → Value → Value → Out
on_texts f v w = on_both (λ s t. f (bytes_of s) (bytes_of t)) (to_text v) (to_text w)

-- ---- what a function gives for values, told so that it has a cause wherever it is bad

pub data FunctionResult : Type 0 where
  -- this value
  value : Value → FunctionResult
  -- this value, unless it is too big
  limited : Value → FunctionResult
  -- no value, for this cause
  refused : Cause → FunctionResult
  -- the first where the test is true, else the second
  either : Bool → FunctionResult → FunctionResult → FunctionResult
  -- by the text that a value is cast to, and NULL for NULL
  with_text : Value → (List ℕ → FunctionResult) → FunctionResult
  -- by the texts that two values are cast to, which are empty for NULL
  with_texts : Value → Value → (List ℕ → List ℕ → FunctionResult) → FunctionResult

abbrev pub given : FunctionResult → Out
given (value v) = Good v
given (limited v) = made v
given (refused why) = bad why
given (either test g h) = if test then given g else given h
given (with_text v g) = on_text (λ t. given (g t)) v
given (with_texts v w g) = on_texts (λ s t. given (g s t)) v w

-- NULL where an argument is
abbrev pub strict : (List Value → FunctionResult) → List Value → FunctionResult
strict f args = either (list_any is_null args) (value Null) (f args)

abbrev pub on_one : (Value → FunctionResult) → List Value → FunctionResult
on_one f (x ∷ rest) = f x
on_one f [] = value Null

abbrev pub on_two : (Value → Value → FunctionResult) → List Value → FunctionResult
on_two f (x ∷ y ∷ rest) = f x y
on_two f args = value Null

-- ---- numbers

abbrev pub in_range : ℤ → FunctionResult
in_range n = either (fits_integer n) (value (Integer n)) (refused cause.Overflow)

abbrev pub abs_of : Value → FunctionResult
abs_of Null = value Null
abs_of (Integer n) = in_range (pos (unsigned_abs n))
abs_of (Text text) = refused cause.Real
abs_of (Blob bytes) = refused cause.Real

-- ---- characters

-- a number that is no Unicode scalar value stands for U+FFFD
abbrev pub is_scalar : ℤ → Bool
is_scalar n = int_le (pos 0) n && (int_lt n (pos 0xd800) || (int_lt (pos 0xdfff) n && int_lt n (pos 0x110000)))

abbrev pub char_of_number : ℤ → ℕ
char_of_number n = if is_scalar n then unsigned_abs n else 0xfffd

abbrev pub char_of : List Value → FunctionResult
char_of args = limited (text_of_chars (map (λ v. char_of_number (int_of v)) args))

abbrev pub first_char : List ℕ → Value
first_char [] = Null
first_char (c ∷ cs) = Integer (pos c)

abbrev pub unicode_of : List ℕ → Value
unicode_of t = first_char (chars t)

abbrev pub length_of_value : Value → FunctionResult
length_of_value (Blob bytes) = value (Integer (pos (length bytes)))
length_of_value v = with_text v (λ t. value (Integer (pos (length (chars t)))))

abbrev pub lower_of : List ℕ → Value
lower_of t = Text (folded t)

abbrev pub upper_of : List ℕ → Value
upper_of t = Text (map to_ascii_uppercase t)

-- ---- trimming: the longest beginning and the longest end of these characters are taken away

abbrev pub without_front : List ℕ → List ℕ → List ℕ
without_front these [] = []
without_front these (c ∷ cs) = if list_any (λ t. t == c) these then without_front these cs else c ∷ cs

abbrev pub without_back : List ℕ → List ℕ → List ℕ
without_back these cs = reverse (without_front these (reverse cs))

abbrev pub trim_by : Builtin → List ℕ → List ℕ → List ℕ
trim_by builtin.TrimLeft these cs = without_front these cs
trim_by builtin.TrimRight these cs = without_back these cs
trim_by f these cs = without_back these (without_front these cs)

abbrev pub trim_of : Builtin → List Value → FunctionResult
trim_of f (x ∷ []) = with_text x (λ t. value (text_of_chars (trim_by f (codes " ") (chars t))))
trim_of f (x ∷ y ∷ rest) = with_texts x y (λ t u. value (text_of_chars (trim_by f (chars u) (chars t))))
trim_of f [] = value Null

-- ---- places

-- the first place, from 1 on, from which on the needle stands; 0 where there is none
abbrev pub number_of_place : Option ℕ → Value
number_of_place None = Integer (pos 0)
number_of_place (Some n) = Integer (pos (suc n))

-- by bytes where both are blobs, else by characters
abbrev pub instr_of : Value → Value → FunctionResult
instr_of (Blob a) (Blob b) = value (number_of_place (place_of b a))
instr_of x y = with_texts x y (λ s t. value (number_of_place (place_of (chars t) (chars s))))

-- ---- parts: places count from 1, and from the end where Y is negative

abbrev pub start_of : ℕ → ℤ → ℤ
start_of n y = if int_lt y (pos 0) then pos n +ℤ y +ℤ pos 1 else y

-- what stands in the places from the first to in front of the last
abbrev pub part : {X : Type 0} → ℤ → ℤ → ℤ → List X → List X
part from to here [] = []
part from to here (x ∷ xs) = if int_le from here && int_lt here to then x ∷ part from to (here +ℤ pos 1) xs else part from to (here +ℤ pos 1) xs

-- without a length to the end; a negative length takes what stands in front of the start
abbrev pub substr_in : ℤ → Option ℤ → List ℕ → List ℕ
substr_in y None xs = part (start_of (length xs) y) (pos (length xs) +ℤ pos 1) (pos 1) xs
substr_in y (Some z) xs =
    if int_lt z (pos 0) then part (start_of (length xs) y +ℤ z) (start_of (length xs) y) (pos 1) xs
    else part (start_of (length xs) y) (start_of (length xs) y +ℤ z) (pos 1) xs

abbrev pub substr_by : Value → ℤ → Option ℤ → FunctionResult
substr_by (Blob bytes) y z = value (Blob (substr_in y z bytes))
substr_by v y z = with_text v (λ t. value (text_of_chars (substr_in y z (chars t))))

abbrev pub substr_of : List Value → FunctionResult
substr_of (x ∷ y ∷ []) = substr_by x (int_of y) None
substr_of (x ∷ y ∷ z ∷ rest) = substr_by x (int_of y) (Some (int_of z))
substr_of args = value Null

-- ---- spelling

abbrev pub hex_digit : ℕ → ℕ
hex_digit d = if nat_lt d 10 then 48 + d else 55 + d

abbrev pub hex_of_bytes : List ℕ → List ℕ
hex_of_bytes bytes = flat_map (λ b. hex_digit (b / 16) ∷ hex_digit (b % 16) ∷ []) bytes

abbrev pub hex_of : Value → FunctionResult
hex_of v = limited (Text (hex_of_bytes (bytes_of (to_blob v))))

abbrev pub doubled : List ℕ → List ℕ
doubled text = flat_map (λ b. if b == 0x27 then 0x27 ∷ 0x27 ∷ [] else b ∷ []) text

-- the literal that spells the value
abbrev pub quoted : Value → List ℕ
quoted Null = codes "NULL"
quoted (Integer n) = signed_decimal n
quoted (Text text) = codes "'" ++ doubled text ++ codes "'"
quoted (Blob bytes) = codes "X'" ++ hex_of_bytes bytes ++ codes "'"

abbrev pub type_name : Value → List ℕ
type_name Null = codes "null"
type_name (Integer n) = codes "integer"
type_name (Text text) = codes "text"
type_name (Blob bytes) = codes "blob"

abbrev pub zeroblob_of : Value → FunctionResult
zeroblob_of v = either (int_lt (int_of v) (pos 0)) (value (Blob [])) (limited (Blob (replicate (unsigned_abs (int_of v)) 0)))

-- ---- replacing

-- where `old` is empty it is the value itself
abbrev pub replaced_in : Value → List ℕ → Value → FunctionResult
replaced_in x [] z = value x
replaced_in x (o ∷ os) z = with_texts x z (λ s u. limited (Text (replaced (o ∷ os) u s)))

abbrev pub replace_of : List Value → FunctionResult
replace_of (x ∷ y ∷ z ∷ rest) = with_text y (λ t. replaced_in x t z)
replace_of args = value Null

-- ---- the largest and the smallest, and equality, by keys that the arguments have under a collation

abbrev pub best_behind : (List ℕ → List ℕ → Bool) → Value → List ℕ → List Value → List (List ℕ) → Value
best_behind beats best key [] keys = best
best_behind beats best key (v ∷ vs) [] = best
best_behind beats best key (v ∷ vs) (k ∷ ks) = if beats k key then best_behind beats v k vs ks else best_behind beats best key vs ks

abbrev pub best_of : (List ℕ → List ℕ → Bool) → List Value → List (List ℕ) → Value
best_of beats (v ∷ vs) (k ∷ ks) = best_behind beats v k vs ks
best_of beats vs ks = Null

abbrev pub is_above : List ℕ → List ℕ → Bool
is_above a b = is_gt (slice_cmp nat_cmp a b)

abbrev pub is_below : List ℕ → List ℕ → Bool
is_below a b = is_lt (slice_cmp nat_cmp a b)

abbrev pub unless_equal : List Value → List (List ℕ) → Value
unless_equal (x ∷ rest) (a ∷ b ∷ ks) = if is_eq (slice_cmp nat_cmp a b) then Null else x
unless_equal args keys = Null

-- ---- the first that is known, and a choice

abbrev pub first_known : List Value → Value
first_known [] = Null
first_known (v ∷ vs) = if is_null v then first_known vs else v

abbrev pub iif_of : List Value → Out
iif_of (x ∷ y ∷ z ∷ rest) = chosen (truth_in (truth_of (Good x))) (Good y) (Good z)
iif_of args = Good Null

-- ---- all of them, each by how it comes to what it gives

pub data FunctionKind : Type 0 where
  -- the first argument that is not NULL
  FirstKnown : FunctionKind
  -- the second argument where the first is true, else the third
  Choice : FunctionKind
  -- by the arguments and the keys that they have under a collation
  ByKeys : (List Value → List (List ℕ) → FunctionResult) → FunctionKind
  -- by the one text that its argument is cast to
  OfText : (List ℕ → Value) → FunctionKind
  -- by the arguments
  OfValues : (List Value → FunctionResult) → FunctionKind

unfoldable pub kind_of : Builtin → FunctionKind
kind_of builtin.Abs = OfValues (on_one abs_of)
kind_of builtin.Char = OfValues char_of
kind_of builtin.Coalesce = FirstKnown
kind_of builtin.IfNull = FirstKnown
kind_of builtin.Iif = Choice
kind_of builtin.Hex = OfValues (on_one hex_of)
kind_of builtin.Instr = OfValues (strict (on_two instr_of))
kind_of builtin.Length = OfValues (on_one length_of_value)
kind_of builtin.Lower = OfText lower_of
kind_of builtin.Upper = OfText upper_of
kind_of builtin.Trim = OfValues (strict (trim_of builtin.Trim))
kind_of builtin.TrimLeft = OfValues (strict (trim_of builtin.TrimLeft))
kind_of builtin.TrimRight = OfValues (strict (trim_of builtin.TrimRight))
kind_of builtin.Max = ByKeys (λ args keys. strict (λ vs. value (best_of is_above vs keys)) args)
kind_of builtin.Min = ByKeys (λ args keys. strict (λ vs. value (best_of is_below vs keys)) args)
kind_of builtin.NullIf = ByKeys (λ args keys. value (unless_equal args keys))
kind_of builtin.Quote = OfValues (on_one (λ v. limited (Text (quoted v))))
kind_of builtin.Replace = OfValues (strict replace_of)
kind_of builtin.Substr = OfValues (strict substr_of)
kind_of builtin.TypeOf = OfValues (on_one (λ v. value (Text (type_name v))))
kind_of builtin.Unicode = OfText unicode_of
kind_of builtin.ZeroBlob = OfValues (on_one zeroblob_of)

abbrev pub call_by : FunctionKind → List Value → List (List ℕ) → Out
call_by FirstKnown args keys = Good (first_known args)
call_by Choice args keys = iif_of args
call_by (ByKeys f) args keys = given (f args keys)
call_by (OfText f) args keys = given (on_one (λ v. with_text v (λ t. value (f t))) args)
call_by (OfValues f) args keys = given (f args)

-- of the arguments, and of their keys for max, min and nullif
unfoldable pub call_of : Builtin → List Value → List (List ℕ) → Out
call_of f args keys = call_by (kind_of f) args keys

-- ---- examples

parts : (call_of builtin.Substr (Text (codes "abc") ∷ Integer (pos 0) ∷ Integer (pos 2) ∷ []) [] ≡ Good (Text (codes "a"))) × (call_of builtin.Substr (Blob (codes "abc") ∷ Integer (negsuc 1) ∷ []) [] ≡ Good (Blob (codes "bc"))) × (call_of builtin.Substr (Blob (codes "abc") ∷ Integer (pos 3) ∷ Integer (negsuc 1) ∷ []) [] ≡ Good (Blob (codes "ab")))
unfolding call_of kind_of chars encode_utf8
parts = (refl, refl, refl)

spelled : (call_of builtin.Hex (Text (codes "abc") ∷ []) [] ≡ Good (Text (codes "616263"))) × (call_of builtin.Quote (Text (codes "it's") ∷ []) [] ≡ Good (Text (codes "'it''s'"))) × (call_of builtin.Hex (Null ∷ []) [] ≡ Good (Text []))
unfolding call_of kind_of
spelled = (refl, refl, refl)

places : (call_of builtin.Instr (Blob (codes "abc") ∷ Blob (codes "c") ∷ []) [] ≡ Good (Integer (pos 3))) × (call_of builtin.Instr (Blob (codes "abc") ∷ Blob [] ∷ []) [] ≡ Good (Integer (pos 1))) × (call_of builtin.Instr (Null ∷ Blob [] ∷ []) [] ≡ Good Null)
unfolding call_of kind_of
places = (refl, refl, refl)

others : (call_of builtin.Length (Null ∷ []) [] ≡ Good Null) × (call_of builtin.Abs (Integer (negsuc 6) ∷ []) [] ≡ Good (Integer (pos 7))) × (call_of builtin.Replace (Text (codes "aaab") ∷ Text (codes "aa") ∷ Text (codes "x") ∷ []) [] ≡ Good (Text (codes "xab"))) × (call_of builtin.TypeOf (Blob [] ∷ []) [] ≡ Good (Text (codes "blob")))
unfolding call_of kind_of
others = (refl, refl, refl, refl)
