-- Values as others: storing and casting (Datatypes In SQLite, section 3; SQL Language Expressions, "CAST expressions").
use Rattle.std.specs.Prelude.{◌≡◌, ℕ, Bool, true, false, List, ℤ, pos, negsuc, Option, Some, None, MatchOption, if◌then◌else◌, codes, refl}
use Rattle.std.specs.Fmt.{digits, signed_decimal}
use Rattle.std.specs.Str.{is_utf8}
use Rattle.eng_value.specs.declared.affinity.Affinity.{Affinity}
use Rattle.eng_value.specs.declared.affinity.Affinity.TheVariants as affinity
use Rattle.eng_value.specs.declared.cause.Cause.TheVariants as cause
use Rattle.eng_number.specs.declared.numbers.TextKind.{TextKind}
use Rattle.eng_number.specs.declared.numbers.TextKind.TheVariants as kind
use Rattle.eng_value.specs.declared.out.Out.{Out}
use Rattle.eng_value.specs.declared.out.Out.TheVariants.{Good}
use Rattle.eng_value.specs.declared.value.Value.{Value}
use Rattle.eng_value.specs.declared.value.Value.TheVariants.{Null, Integer, Text, Blob}
use Rattle.eng_value.specs.Outs.{bad}
use Rattle.eng_number.specs.Numbers.{text_kind, number_prefix, integer_prefix}

-- ---- casts

-- an integer as its decimal text, a blob as the text of its bytes
abbrev pub to_text : Value → Out
to_text Null = Good Null
to_text (Integer n) = Good (Text (signed_decimal n))
to_text (Text text) = Good (Text text)
to_text (Blob bytes) = if is_utf8 bytes then Good (Text bytes) else bad cause.NotText

-- the bytes of the text
abbrev pub to_blob : Value → Value
to_blob Null = Null
to_blob (Integer n) = Blob (signed_decimal n)
to_blob (Text text) = Blob text
to_blob (Blob bytes) = Blob bytes

-- the digits at the front; this never fails
abbrev pub to_integer : Value → Value
to_integer Null = Null
to_integer (Integer n) = Integer n
to_integer (Text text) = Integer (integer_prefix text)
to_integer (Blob bytes) = Integer (integer_prefix bytes)

abbrev pub integer_or_real : Option ℤ → Out
integer_or_real (Some n) = Good (Integer n)
integer_or_real None = bad cause.Real

-- the number at the front
abbrev pub to_number : Value → Out
to_number Null = Good Null
to_number (Integer n) = Good (Integer n)
to_number (Text text) = integer_or_real (number_prefix text)
to_number (Blob bytes) = integer_or_real (number_prefix bytes)

unfoldable pub cast : Affinity → Value → Out
cast affinity.Integer v = Good (to_integer v)
cast affinity.Numeric v = to_number v
cast affinity.Real v = bad cause.Real
cast affinity.Text v = to_text v
cast affinity.Blob v = Good (to_blob v)
cast affinity.None v = Good v

-- ---- storing

-- a text that is a number becomes it
abbrev pub numeric_text : List ℕ → TextKind → Out
numeric_text text kind.NoNumber = Good (Text text)
numeric_text text (kind.Whole n) = Good (Integer n)
numeric_text text kind.Real = bad cause.Real

abbrev pub store_number : Value → Out
store_number Null = Good Null
store_number (Integer n) = Good (Integer n)
store_number (Text text) = numeric_text text (text_kind text)
store_number (Blob bytes) = Good (Blob bytes)

abbrev pub integer_as_text : Value → Value
integer_as_text Null = Null
integer_as_text (Integer n) = Text (signed_decimal n)
integer_as_text (Text text) = Text text
integer_as_text (Blob bytes) = Blob bytes

unfoldable pub store_as : Affinity → Value → Out
store_as affinity.Integer v = store_number v
store_as affinity.Numeric v = store_number v
store_as affinity.Real v = bad cause.Real
store_as affinity.Text v = Good (integer_as_text v)
store_as affinity.Blob v = Good v
store_as affinity.None v = Good v

-- ---- comparing: each side as its own affinity and that of the other side want it

abbrev pub is_numeric : Affinity → Bool
is_numeric affinity.Integer = true
is_numeric affinity.Numeric = true
is_numeric affinity.Real = false
is_numeric affinity.Text = false
is_numeric affinity.Blob = false
is_numeric affinity.None = false

abbrev pub whole_text : List ℕ → TextKind → Value
whole_text text kind.NoNumber = Text text
whole_text text (kind.Whole n) = Integer n
whole_text text kind.Real = Text text

-- a whole text becomes an integer, and any other stays without an error
abbrev pub as_number : Value → Value
as_number Null = Null
as_number (Integer n) = Integer n
as_number (Text text) = whole_text text (text_kind text)
as_number (Blob bytes) = Blob bytes

-- beside TEXT an integer without an affinity becomes text
abbrev pub as_text_beside : Affinity → Affinity → Value → Value
as_text_beside affinity.Text affinity.None v = integer_as_text v
as_text_beside other own v = v

unfoldable pub beside : Affinity → Affinity → Value → Value
beside other own v = if is_numeric other then (if is_numeric own then v else as_number v) else as_text_beside other own v

-- what a value became; none where it is as before
abbrev pub Changes : Option Value → Value → Value → Type 0
Changes changed before after = MatchOption changed (after ≡ before) (λ v. v ≡ after)

-- ---- examples

stored : (store_as affinity.Integer (Text (codes "12")) ≡ Good (Integer (pos 12))) × (store_as affinity.Text (Integer (pos 7)) ≡ Good (Text (codes "7"))) × (store_as affinity.Integer (Text (codes "1.5")) ≡ bad cause.Real) × (store_as affinity.Integer (Text (codes "x")) ≡ Good (Text (codes "x")))
unfolding store_as text_kind digits
stored = (refl, refl, refl, refl)

casts : (cast affinity.Integer (Text (codes "9x")) ≡ Good (Integer (pos 9))) × (cast affinity.Numeric (Text (codes "1e2")) ≡ bad cause.Real) × (cast affinity.Text (Integer (negsuc 4)) ≡ Good (Text (codes "-5"))) × (cast affinity.Blob (Integer (pos 12)) ≡ Good (Blob (codes "12")))
unfolding cast integer_prefix number_prefix digits
casts = (refl, refl, refl, refl)

sides : (beside affinity.Integer affinity.None (Text (codes "12")) ≡ Integer (pos 12)) × (beside affinity.Integer affinity.None (Text (codes "1.0")) ≡ Text (codes "1.0")) × (beside affinity.Text affinity.None (Integer (pos 12)) ≡ Text (codes "12")) × (beside affinity.None affinity.None (Text (codes "12")) ≡ Text (codes "12"))
unfolding beside text_kind digits
sides = (refl, refl, refl, refl)
