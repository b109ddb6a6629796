-- What the names and the literals of a text stand for (SQL Language Expressions, section 3; SQL Keywords).
use Rattle.std.specs.Prelude.{◌≡◌, ℕ, ◌-◌, ◌%◌, ◌^◌, ◌==◌, ◌&&◌, ◌||◌, nat_lt, Bool, false, List, [], ◌∷◌, take, drop, length, ℤ, pos, negsuc, ◌-ℤ◌, Option, Some, None, if◌then◌else◌, codes, refl}
use Rattle.std.specs.Char.{encode_utf8, to_ascii_lowercase}
use Rattle.std.specs.Str.{chars, is_utf8}
use Rattle.std.specs.Str.Parse.{digits_value}
use Rattle.eng_entry.specs.Names.{is_same_name}
use Rattle.eng_number.specs.Forms.{digits}
use Rattle.eng_number.specs.Numbers.{fits_integer}
use Rattle.eng_value.specs.declared.cause.Cause.TheVariants as cause
use Rattle.eng_value.specs.declared.limits.TheConstants.{MAX_VALUE_BYTES}
use Rattle.eng_value.specs.declared.value.Value.TheVariants as value
use Rattle.eng_value.specs.Operators.{length_of}
use Rattle.sql_lex.specs.Tokens.{slice_of}
use Rattle.sql_tree.specs.declared.token.Token.{Token}
use Rattle.sql_tree.specs.declared.token.TokenKind.{TokenKind}
use Rattle.sql_tree.specs.declared.token.TokenKind.TheVariants as kind
use Rattle.sql_words.specs.declared.literal.Literal.{Literal}
use Rattle.sql_words.specs.declared.literal.Literal.TheVariants.{Value, Bad}

-- ---- quotes

-- without the first byte and the last one
abbrev pub inside : List ℕ → List ℕ
inside bytes = take (length bytes - 2) (drop 1 bytes)

-- two quotes stand for one
abbrev pub undoubled : ℕ → List ℕ → List ℕ
undoubled quote [] = []
undoubled quote (b ∷ []) = b ∷ []
undoubled quote (b ∷ c ∷ rest) = if b == quote && c == quote then b ∷ undoubled quote rest else b ∷ undoubled quote (c ∷ rest)

-- a text is UTF-8: a token ends where a character does, and so this leaves it as it is
abbrev pub as_text : List ℕ → List ℕ
as_text bytes = if is_utf8 bytes then bytes else []

-- opens the test where an example computes with it
unfoldable pub the_text_test : Unit {0}
unfolding is_utf8 chars encode_utf8
the_text_test = tt

-- ---- names

-- in `[..]` a name stands as it is, and in `".."` and `` `..` `` the quote is doubled
abbrev pub name_of : List ℕ → List ℕ
name_of [] = []
name_of (b ∷ bytes) =
    if b == 0x5b then inside (b ∷ bytes) else
    if b == 0x22 || b == 0x60 then undoubled b (inside (b ∷ bytes)) else b ∷ bytes

abbrev pub name_bytes : List ℕ → Token → List ℕ
name_bytes text t = name_of (slice_of text t)

abbrev pub name_at : List ℕ → Token → List ℕ
name_at text t = as_text (name_bytes text t)

-- ---- literals

-- a number of 64 bits without a sign, as the integer with these bits
abbrev pub of_bits : ℕ → ℤ
of_bits n = if nat_lt n (2 ^ 63) then pos n else pos n -ℤ pos (2 ^ 64)

-- `0x` and digits, of 64 bits at most
abbrev pub hexadecimal_number : ℕ → Literal
hexadecimal_number n = if nat_lt n (2 ^ 64) then Value (value.Integer (of_bits n)) else Bad cause.Overflow

abbrev pub is_hexadecimal : List ℕ → Bool
is_hexadecimal [] = false
is_hexadecimal (b ∷ []) = false
is_hexadecimal (b ∷ c ∷ rest) = to_ascii_lowercase c == 0x78

abbrev pub whole_number : ℤ → Literal
whole_number n = if fits_integer n then Value (value.Integer n) else Bad cause.Real

-- a number that is none of 64 bits, or has a point or an exponent, would be REAL
abbrev pub number_literal : List ℕ → Literal
number_literal bytes =
    if is_hexadecimal bytes then hexadecimal_number (digits_value 16 (drop 2 bytes)) else
    if digits bytes then whole_number (pos (digits_value 10 bytes)) else Bad cause.Real

-- whether minus in front makes it the least integer
abbrev pub is_least_magnitude : List ℕ → Bool
is_least_magnitude bytes = digits bytes && digits_value 10 bytes == 2 ^ 63

-- two digits a byte
abbrev pub hexadecimal_bytes : List ℕ → List ℕ
hexadecimal_bytes [] = []
hexadecimal_bytes (c ∷ []) = []
hexadecimal_bytes (c ∷ d ∷ rest) = digits_value 16 (c ∷ d ∷ []) % 2 ^ 8 ∷ hexadecimal_bytes rest

-- a value that is not too long
abbrev pub kept : Rattle.eng_value.specs.declared.value.Value.Value → Literal
kept v = if nat_lt MAX_VALUE_BYTES (length_of v) then Bad cause.TooBig else Value v

abbrev pub literal_of : TokenKind → List ℕ → Literal
literal_of kind.Number bytes = number_literal bytes
literal_of kind.Text bytes = kept (value.Text (as_text (undoubled 0x27 (inside bytes))))
literal_of kind.Blob bytes = kept (value.Blob (hexadecimal_bytes (inside (drop 1 bytes))))
literal_of kind.True bytes = Value (value.Integer (pos 1))
literal_of kind.False bytes = Value (value.Integer (pos 0))
literal_of _ bytes = Value value.Null

abbrev pub literal_at : List ℕ → Token → Literal
literal_at text t = literal_of t.kind (slice_of text t)

-- ---- words

-- what a PRAGMA is set to
abbrev pub is_off : List ℕ → Option Token → Bool
is_off text None = false
is_off text (Some t) = is_same_name (slice_of text t) (codes "OFF")

-- ---- examples

names : (name_of (codes "a1") ≡ codes "a1") × (name_of (codes "\"a\"\"b\"") ≡ codes "a\"b") × (name_of (codes "[a b]") ≡ codes "a b") × (name_of (codes "`a```") ≡ codes "a`")
names = (refl, refl, refl, refl)

numbers : (number_literal (codes "007") ≡ Value (value.Integer (pos 7))) × (number_literal (codes "9223372036854775808") ≡ Bad cause.Real) × (number_literal (codes "1.") ≡ Bad cause.Real) × (number_literal (codes "0xFFFFFFFFFFFFFFFF") ≡ Value (value.Integer (negsuc 0)))
numbers = (refl, refl, refl, refl)

others : (literal_of kind.Text (codes "'it''s'") ≡ Value (value.Text (codes "it's"))) × (literal_of kind.Blob (codes "X'61fF'") ≡ Value (value.Blob (0x61 ∷ 0xff ∷ []))) × (literal_of kind.Null (codes "null") ≡ Value value.Null) × (literal_of kind.True (codes "true") ≡ Value (value.Integer (pos 1)))
unfolding the_text_test
others = (refl, refl, refl, refl)
