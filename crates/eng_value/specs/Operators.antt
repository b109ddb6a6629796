-- The operators on numbers and texts (SQL Language Expressions, section 2). An operand is what it came to: a value, or a set of
-- causes. An operator is bad where an operand is, with the causes of all.
use Rattle.std.specs.Prelude.{◌≡◌, ℕ, ◌-◌, ◌^◌, nat_lt, List, ◌++◌, length, ℤ, pos, negsuc, neg_ℤ, ◌+ℤ◌, ◌-ℤ◌, ◌*ℤ◌, int_lt, unsigned_abs, if◌then◌else◌, codes, refl}
use Rattle.std.specs.Int.{w64, int_bit_and, int_bit_or, int_shl, int_shr}
use Rattle.std.specs.Int.RustNames.{int_div, int_rem}
use Rattle.std.specs.Ordering.{int_eq}
use Rattle.eng_value.specs.declared.cause.Cause.TheVariants as cause
use Rattle.eng_value.specs.declared.limits.TheConstants.{MAX_VALUE_BYTES}
use Rattle.eng_value.specs.declared.operators.ArithmeticOp.{ArithmeticOp}
use Rattle.eng_value.specs.declared.operators.ArithmeticOp.TheVariants as arithmetic
use Rattle.eng_value.specs.declared.operators.IntegerOp.{IntegerOp}
use Rattle.eng_value.specs.declared.operators.IntegerOp.TheVariants as integer
use Rattle.eng_value.specs.declared.out.Out.{Out}
use Rattle.eng_value.specs.declared.out.Out.TheVariants.{Good}
use Rattle.eng_value.specs.declared.value.Value.{Value}
use Rattle.eng_value.specs.declared.value.Value.TheVariants.{Null, Integer, Text, Blob}
use Rattle.eng_value.specs.Casts.{to_number, to_integer, to_text}
use Rattle.eng_number.specs.Numbers.{fits_integer, number_prefix}
use Rattle.eng_value.specs.Outs.{bad, turned, on_both}

-- ---- arithmetic

-- an integer of 64 bits, or Overflow
abbrev pub integer_in_range : ℤ → Out
integer_in_range n = if fits_integer n then Good (Integer n) else bad cause.Overflow

-- division truncates towards zero, and by zero it is NULL
abbrev pub of_integers : ArithmeticOp → ℤ → ℤ → Out
of_integers arithmetic.Add a b = integer_in_range (a +ℤ b)
of_integers arithmetic.Subtract a b = integer_in_range (a -ℤ b)
of_integers arithmetic.Multiply a b = integer_in_range (a *ℤ b)
of_integers arithmetic.Divide a b = if int_eq b (pos 0) then Good Null else integer_in_range (int_div a b)

-- of two numbers, NULL beside NULL
abbrev pub of_numbers : ArithmeticOp → Value → Value → Out
of_numbers op (Integer a) (Integer b) = of_integers op a b
of_numbers op a b = Good Null

unfoldable pub arithmetic_of : ArithmeticOp → Out → Out → Out
arithmetic_of op a b = on_both (of_numbers op) (turned to_number a) (turned to_number b)

abbrev pub negated : Value → Out
negated Null = Good Null
negated (Integer n) = integer_in_range (neg_ℤ n)
negated (Text text) = Good Null
negated (Blob bytes) = Good Null

unfoldable pub negative_of : Out → Out
negative_of a = turned negated (turned to_number a)

-- ---- bits and remainders

-- by so many places to the left: none is left of 64 and more
abbrev pub shifted_left : ℤ → ℕ → ℤ
shifted_left a n = if nat_lt n 64 then int_shl w64 a n else pos 0

-- to the right, where the sign fills: 64 and more leave nothing but the sign
abbrev pub shifted_right : ℤ → ℕ → ℤ
shifted_right a n = int_shr a (if nat_lt n 64 then n else 63)

-- a remainder has the sign of the dividend; by zero it is NULL
abbrev pub of_bits : IntegerOp → ℤ → ℤ → Value
of_bits integer.Remainder a b = if int_eq b (pos 0) then Null else Integer (int_rem a b)
of_bits integer.And a b = Integer (int_bit_and w64 a b)
of_bits integer.Or a b = Integer (int_bit_or w64 a b)
of_bits integer.ShiftLeft a b = Integer (if int_lt b (pos 0) then shifted_right a (unsigned_abs b) else shifted_left a (unsigned_abs b))
of_bits integer.ShiftRight a b = Integer (if int_lt b (pos 0) then shifted_left a (unsigned_abs b) else shifted_right a (unsigned_abs b))

abbrev pub of_whole_numbers : IntegerOp → Value → Value → Out
of_whole_numbers op (Integer a) (Integer b) = Good (of_bits op a b)
of_whole_numbers op a b = Good Null

abbrev pub as_integer : Value → Out
as_integer v = Good (to_integer v)

unfoldable pub integers_of : IntegerOp → Out → Out → Out
integers_of op a b = on_both (of_whole_numbers op) (turned as_integer a) (turned as_integer b)

-- each bit the other one
abbrev pub inverted : Value → Value
inverted Null = Null
inverted (Integer n) = Integer (neg_ℤ n -ℤ pos 1)
inverted (Text text) = Null
inverted (Blob bytes) = Null

unfoldable pub inverse_of : Out → Out
inverse_of a = turned (λ v. Good (inverted (to_integer v))) a

-- ---- texts

abbrev pub length_of : Value → ℕ
length_of Null = 0
length_of (Integer n) = 0
length_of (Text text) = length text
length_of (Blob bytes) = length bytes

-- a value that was made, or TooBig
abbrev pub made : Value → Out
made v = if nat_lt MAX_VALUE_BYTES (length_of v) then bad cause.TooBig else Good v

abbrev pub joined : Value → Value → Out
joined (Text a) (Text b) = made (Text (a ++ b))
joined a b = Good Null

unfoldable pub concatenation_of : Out → Out → Out
concatenation_of a b = on_both joined (turned to_text a) (turned to_text b)

-- ---- examples

abbrev number : ℤ → Out
number n = Good (Integer n)

abbrev text : List ℕ → Out
text t = Good (Text t)

quotients : (arithmetic_of arithmetic.Divide (number (pos 7)) (number (pos 2)) ≡ number (pos 3)) × (arithmetic_of arithmetic.Divide (number (negsuc 6)) (number (pos 2)) ≡ number (negsuc 2)) × (arithmetic_of arithmetic.Divide (number (pos 1)) (number (pos 0)) ≡ Good Null) × (arithmetic_of arithmetic.Divide (number (negsuc (2 ^ 63 - 1))) (number (negsuc 0)) ≡ bad cause.Overflow)
unfolding arithmetic_of
quotients = (refl, refl, refl, refl)

sums : (arithmetic_of arithmetic.Add (number (pos (2 ^ 63 - 1))) (number (pos 1)) ≡ bad cause.Overflow) × (arithmetic_of arithmetic.Add (text (codes "5 apples")) (number (pos 1)) ≡ number (pos 6)) × (arithmetic_of arithmetic.Add (text (codes "2.5")) (number (pos 1)) ≡ bad cause.Real)
unfolding arithmetic_of number_prefix
sums = (refl, refl, refl)

remainders : (integers_of integer.Remainder (number (pos 7)) (number (pos 0)) ≡ Good Null) × (integers_of integer.Remainder (number (negsuc 6)) (number (pos 2)) ≡ number (negsuc 0)) × (integers_of integer.Remainder (number (negsuc (2 ^ 63 - 1))) (number (negsuc 0)) ≡ number (pos 0))
unfolding integers_of
remainders = (refl, refl, refl)

shifts : (integers_of integer.ShiftLeft (number (pos 1)) (number (pos 64)) ≡ number (pos 0)) × (integers_of integer.ShiftRight (number (negsuc 0)) (number (pos 70)) ≡ number (negsuc 0)) × (integers_of integer.ShiftLeft (number (pos 8)) (number (negsuc 1)) ≡ number (pos 2)) × (integers_of integer.ShiftLeft (number (pos 1)) (number (pos 63)) ≡ number (negsuc (2 ^ 63 - 1)))
unfolding integers_of
shifts = (refl, refl, refl, refl)
