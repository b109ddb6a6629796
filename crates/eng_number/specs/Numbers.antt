-- The numbers that texts spell. There is no REAL: a text that spells one is told apart, and its use is an error.
use Rattle.std.specs.Prelude.{◌≡◌, ℕ, ◌-◌, ◌^◌, Bool, ◌&&◌, List, ℤ, pos, negsuc, int_le, int_lt, Option, Some, None, if◌then◌else◌, codes, refl}
use Rattle.std.specs.Str.Parse.{signed_digits_value}
use Rattle.eng_number.specs.declared.numbers.TextKind.{TextKind}
use Rattle.eng_number.specs.declared.numbers.TextKind.TheVariants.{NoNumber, Whole, Real}
use Rattle.eng_number.specs.Forms.{Form, one_of, digits, ◌then◌, either, optional, longest, without_space, trimmed}

-- ---- forms of numbers

abbrev pub sign : Form
sign = one_of (codes "+-")

abbrev pub point : Form
point = one_of (codes ".")

abbrev pub whole_number : Form
whole_number = optional sign then digits

-- a point and optional digits
abbrev pub fraction : Form
fraction = point then optional digits

-- a point and digits
abbrev pub pointed : Form
pointed = point then digits

-- digits with an optional point and optional digits behind it, or a point and digits
abbrev pub mantissa : Form
mantissa = either (digits then optional fraction) pointed

abbrev pub exponent : Form
exponent = one_of (codes "eE") then whole_number

abbrev pub unsigned_number : Form
unsigned_number = mantissa then optional exponent

abbrev pub decimal_number : Form
decimal_number = optional sign then unsigned_number

-- ---- what a text is

abbrev pub fits_integer : ℤ → Bool
fits_integer n = int_le (negsuc (2 ^ 63 - 1)) n && int_lt n (pos (2 ^ 63))

-- the integer of a number; none where it has a point or an exponent, or does not fit in 64 bits
abbrev pub integer_of : List ℕ → Option ℤ
integer_of number =
    if whole_number number && fits_integer (signed_digits_value 10 number) then Some (signed_digits_value 10 number) else None

abbrev pub kind_of_number : Option ℤ → TextKind
kind_of_number None = Real
kind_of_number (Some n) = Whole n

unfoldable pub text_kind : List ℕ → TextKind
text_kind text = if decimal_number (trimmed text) then kind_of_number (integer_of (trimmed text)) else NoNumber

-- ---- prefixes

abbrev pub integer_of_prefix : Option (List ℕ) → Option ℤ
integer_of_prefix None = Some (pos 0)
integer_of_prefix (Some number) = integer_of number

-- the integer of the longest beginning, behind white space, that is a number: 0 where there is none, and none where it is no integer
unfoldable pub number_prefix : List ℕ → Option ℤ
number_prefix bytes = integer_of_prefix (longest decimal_number (without_space bytes))

-- the nearest integer of 64 bits
abbrev pub clamped : ℤ → ℤ
clamped n = if int_lt n (negsuc (2 ^ 63 - 1)) then negsuc (2 ^ 63 - 1) else if int_lt n (pos (2 ^ 63)) then n else pos (2 ^ 63 - 1)

abbrev pub clamped_prefix : Option (List ℕ) → ℤ
clamped_prefix None = pos 0
clamped_prefix (Some number) = clamped (signed_digits_value 10 number)

-- the integer of the longest beginning, behind white space, that is a sign and digits; point and exponent are not read
unfoldable pub integer_prefix : List ℕ → ℤ
integer_prefix bytes = clamped_prefix (longest whole_number (without_space bytes))

-- ---- examples

whole_texts : (text_kind (codes " 7 ") ≡ Whole (pos 7)) × (text_kind (codes "-12") ≡ Whole (negsuc 11)) × (text_kind (codes "12abc") ≡ NoNumber) × (text_kind (codes "") ≡ NoNumber) × (text_kind (codes "+") ≡ NoNumber)
unfolding text_kind
whole_texts = (refl, refl, refl, refl, refl)

real_texts : (text_kind (codes "1.") ≡ Real) × (text_kind (codes ".5") ≡ Real) × (text_kind (codes "1e5") ≡ Real) × (text_kind (codes ".") ≡ NoNumber) × (text_kind (codes "1e") ≡ NoNumber)
unfolding text_kind
real_texts = (refl, refl, refl, refl, refl)

ends : (text_kind (codes "9223372036854775807") ≡ Whole (pos (2 ^ 63 - 1))) × (text_kind (codes "9223372036854775808") ≡ Real)
unfolding text_kind
ends = (refl, refl)

prefixes : (number_prefix (codes " 12abc") ≡ Some (pos 12)) × (number_prefix (codes "0x10") ≡ Some (pos 0)) × (number_prefix (codes "1e5x") ≡ None) × (number_prefix (codes "1ex") ≡ Some (pos 1)) × (number_prefix (codes "-.x") ≡ Some (pos 0)) × (number_prefix (codes "5.x") ≡ None)
unfolding number_prefix
prefixes = (refl, refl, refl, refl, refl, refl)

casts : (integer_prefix (codes "123e+5") ≡ pos 123) × (integer_prefix (codes "9x") ≡ pos 9) × (integer_prefix (codes "-1.5") ≡ negsuc 0) × (integer_prefix (codes "99999999999999999999") ≡ pos (2 ^ 63 - 1)) × (integer_prefix (codes "x") ≡ pos 0)
unfolding integer_prefix
casts = (refl, refl, refl, refl, refl)
