-- What the literals of the dialect mean (SQL Language Expressions, "Literal Values (Constants)"): NULL, integers of 64 bits, texts and
-- blobs. Nothing here rests on how a value is spelled.
use Rattle.std.specs.Prelude.{◌≡◌, ℕ, ◌+◌, ◌*◌, ◌<◌, ⊤, Bool, true, nat_lt, ◌&&◌, ◌==◌, List, [], ◌∷◌, ℤ, pos, negsuc, neg_ℤ, Option, Some, None, if◌then◌else◌, codes, refl}
use Rattle.std.specs.Char.{digit_value, to_ascii_lowercase}
use Rattle.std.specs.List.{AllByRecursion}
use Rattle.std.specs.Option.{option_map}
use Rattle.std.specs.Str.{bytes_eq}
use Rattle.std.specs.Str.Parse.{digits_value}
use Rattle.eng_number.specs.Forms.{digits, is_digit}
use Rattle.eng_number.specs.Numbers.{fits_integer}
use Rattle.eng_text.specs.Texts.{folded}
use Rattle.eng_value.specs.declared.value.Value.{Value}
use Rattle.eng_value.specs.declared.value.Value.TheVariants.{Null, Integer, Text, Blob}

abbrev pub quote_mark : ℕ
quote_mark = 0x27

abbrev pub minus_sign : ℕ
minus_sign = 0x2d

-- ---- integers

abbrev pub of_64_bits : ℤ → Option Value
of_64_bits n = if fits_integer n then Some (Integer n) else None

-- digits alone, with their number under this sign
abbrev pub integer_of_digits : (ℕ → ℤ) → List ℕ → Option Value
integer_of_digits signed bytes = if digits bytes then of_64_bits (signed (digits_value 10 bytes)) else None

abbrev pub negative : ℕ → ℤ
negative n = neg_ℤ (pos n)

-- ---- texts

-- from behind the first quote: two quotes are one, and a quote alone is the end
abbrev pub unquoted : List ℕ → Option (List ℕ)
unquoted [] = None
unquoted (b ∷ []) = if b == quote_mark then Some [] else None
unquoted (b ∷ c ∷ bytes) =
    if b == quote_mark then (if c == quote_mark then option_map (λ text. quote_mark ∷ text) (unquoted bytes) else None)
    else option_map (λ text. b ∷ text) (unquoted (c ∷ bytes))

-- ---- blobs

abbrev pub is_hex_digit : ℕ → Bool
is_hex_digit c = nat_lt (digit_value c) 16

-- two hexadecimal digits a byte, of either case, up to the quote at the end
abbrev pub bytes_of_hex : List ℕ → Option (List ℕ)
bytes_of_hex [] = None
bytes_of_hex (c ∷ []) = if c == quote_mark then Some [] else None
bytes_of_hex (c ∷ d ∷ rest) =
    if is_hex_digit c && is_hex_digit d then option_map (λ bytes. (16 * digit_value c + digit_value d) ∷ bytes) (bytes_of_hex rest) else None

-- from behind the X
abbrev pub blob_behind_x : List ℕ → Option (List ℕ)
blob_behind_x [] = None
blob_behind_x (b ∷ rest) = if b == quote_mark then bytes_of_hex rest else None

-- ---- all of them

-- the value that a literal means; none where the bytes are no literal
unfoldable pub literal : List ℕ → Option Value
literal [] = None
literal (b ∷ rest) =
    if is_digit b then integer_of_digits pos (b ∷ rest) else
    if b == minus_sign then integer_of_digits negative rest else
    if b == quote_mark then option_map Text (unquoted rest) else
    if to_ascii_lowercase b == 0x78 then option_map Blob (blob_behind_x rest) else
    if bytes_eq (folded (b ∷ rest)) (codes "null") then Some Null else None

-- ---- what has a literal

-- an integer has 64 bits, and the bytes of a blob are below 256
abbrev pub HasLiteral : Value → Type 0
HasLiteral Null = ⊤
HasLiteral (Integer n) = fits_integer n ≡ true
HasLiteral (Text text) = ⊤
HasLiteral (Blob bytes) = AllByRecursion (λ b. b < 256) bytes

-- ---- examples

numbers : (literal (codes "12") ≡ Some (Integer (pos 12))) × (literal (codes "-7") ≡ Some (Integer (negsuc 6))) × (literal (codes "007") ≡ Some (Integer (pos 7))) × (literal (codes "-9223372036854775808") ≡ Some (Integer (negsuc 9223372036854775807)))
unfolding literal
numbers = (refl, refl, refl, refl)

texts : (literal (codes "'it''s'") ≡ Some (Text (codes "it's"))) × (literal (codes "''") ≡ Some (Text [])) × (literal (codes "''''") ≡ Some (Text (codes "'")))
unfolding literal
texts = (refl, refl, refl)

blobs : (literal (codes "X'61fF'") ≡ Some (Blob (0x61 ∷ 0xff ∷ []))) × (literal (codes "x''") ≡ Some (Blob [])) × (literal (codes "NULL") ≡ Some Null) × (literal (codes "Null") ≡ Some Null)
unfolding literal
blobs = (refl, refl, refl, refl)

no_numbers : (literal (codes "9223372036854775808") ≡ None) × (literal (codes "-9223372036854775809") ≡ None) × (literal (codes "-") ≡ None) × (literal (codes "1x") ≡ None) × (literal [] ≡ None) × (literal (codes "NULLS") ≡ None)
unfolding literal
no_numbers = (refl, refl, refl, refl, refl, refl)

no_texts : (literal (codes "'it's'") ≡ None) × (literal (codes "'it") ≡ None) × (literal (codes "'") ≡ None) × (literal (codes "'''") ≡ None) × (literal (codes "X'6'") ≡ None) × (literal (codes "X'6g'") ≡ None) × (literal (codes "X'61") ≡ None) × (literal (codes "X61'") ≡ None)
unfolding literal
no_texts = (refl, refl, refl, refl, refl, refl, refl, refl)
