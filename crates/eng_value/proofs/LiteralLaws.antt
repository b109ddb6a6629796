-- The literal that spells a value means it.
use Rattle.std.proofs.Common.{◌≡◌, ℕ, suc, ◌+◌, ◌*◌, ◌/◌, ◌%◌, ◌^◌, ◌<◌, true, false, ◌==◌, List, [], ◌∷◌, ◌++◌, length, Some, ℤ, pos, negsuc, refl, sym, ap, ◌∙◌, inl, inr, arith}
use Rattle.std.specs.Char.{digit_value}
use Rattle.std.specs.Fmt.{decimal, signed_decimal}
use Rattle.std.specs.List.{AllByRecursion}
use Rattle.std.specs.Option.{option_map}
use Rattle.std.specs.Str.Parse.{AllDigits}
use Rattle.std.proofs.lemmas.Bool.{and_from, and_parts, cases_Bool, eqb-true, le-leb, lt-ltb, or_right}
use Rattle.std.proofs.lemmas.Bool.Decides.{nat_tests}
use Rattle.std.proofs.lemmas.Fmt.{decimal_is_IsNumeral}
use Rattle.std.proofs.lemmas.Str.Parse.{digit_from_value}
use Rattle.eng_number.specs.Forms.{digits, empty, is_digit}
use Rattle.eng_number.specs.Numbers.{fits_integer}
use Rattle.eng_value.specs.declared.value.Value.{Value}
use Rattle.eng_value.specs.declared.value.Value.TheVariants.{Null, Integer, Text, Blob}
use Rattle.eng_value.specs.Functions.{doubled, hex_digit, hex_of_bytes, quoted}
use Rattle.eng_value.specs.Literals.{HasLiteral, bytes_of_hex, integer_of_digits, is_hex_digit, literal, negative, of_64_bits, quote_mark, unquoted}

-- ---- texts

unquoted-plain : (b : ℕ) (bytes : List ℕ) → (b == quote_mark) ≡ false → unquoted (b ∷ bytes) ≡ option_map (λ text. b ∷ text) (unquoted bytes)
unquoted-plain b [] plain = rw plain refl
unquoted-plain b (c ∷ bytes) plain = rw plain refl

unquoted-doubled : (text : List ℕ) → unquoted (doubled text ++ quote_mark ∷ []) ≡ Some text
unquoted-doubled [] = refl
unquoted-doubled (b ∷ text) =
    elim (cases_Bool (b == quote_mark)) [
      | inl mark ↦ rw (mark, unquoted-doubled text, eqb-true b quote_mark mark) refl
      | inr plain ↦ rw (plain, unquoted-plain b (doubled text ++ quote_mark ∷ []) plain, unquoted-doubled text) refl
    ]

-- ---- blobs

value_of_hex : (d : ℕ) → d < 16 → digit_value (hex_digit d) ≡ d
value_of_hex d low = grind (arith, nat_tests)

hex_is_digit : (d : ℕ) → d < 16 → is_hex_digit (hex_digit d) ≡ true
hex_is_digit d low = rw (value_of_hex d low) (lt-ltb d 16 low)

bytes_of_hex-hex : (bytes : List ℕ) → AllByRecursion (λ b. b < 256) bytes → bytes_of_hex (hex_of_bytes bytes ++ quote_mark ∷ []) ≡ Some bytes
bytes_of_hex-hex [] all = refl
bytes_of_hex-hex (b ∷ bytes) all =
    let high : b / 16 < 16 = omega (arith, all.0) in
    let low : b % 16 < 16 = omega arith in
    let whole : 16 * (b / 16) + b % 16 ≡ b = omega arith in
    rw (hex_is_digit (b / 16) high, hex_is_digit (b % 16) low, bytes_of_hex-hex bytes all.1, value_of_hex (b / 16) high, value_of_hex (b % 16) low, whole) refl

-- ---- integers

one_digit : (c : ℕ) → digit_value c < 10 → is_digit c ≡ true
one_digit c low = let range = digit_from_value c low in and_from _ _ (le-leb 48 c range.0) (le-leb c 57 range.1)

digits_from_all : (c : ℕ) (cs : List ℕ) → AllDigits 10 (c ∷ cs) → digits (c ∷ cs) ≡ true
digits_from_all c [] all = and_from _ _ (one_digit c all.0) refl
digits_from_all c (d ∷ cs) all = and_from _ _ (one_digit c all.0) (or_right (empty (d ∷ cs)) _ (digits_from_all d cs all.1))

decimal_is_digits : (n : ℕ) → n < 2 ^ 64 → digits (decimal n) ≡ true
decimal_is_digits n fits = by (decimal n) (decimal_is_IsNumeral n fits).0.0 (decimal_is_IsNumeral n fits).0.1
  where
    by : (ds : List ℕ) → 0 < length ds → AllDigits 10 ds → digits ds ≡ true
    by [] some all = absurd (omega arith)
    by (c ∷ cs) some all = digits_from_all c cs all

decimal_means : (signed : ℕ → ℤ) (n : ℕ) → n < 2 ^ 64 → integer_of_digits signed (decimal n) ≡ of_64_bits (signed n)
decimal_means signed n fits = rw (decimal_is_digits n fits, (decimal_is_IsNumeral n fits).1) refl

literal-digits : (ds : List ℕ) → digits ds ≡ true → literal ds ≡ integer_of_digits pos ds
unfolding literal
literal-digits [] is = refl
literal-digits (c ∷ cs) is = rw (and_parts (is_digit c) _ is).0 refl

literal-negative : (ds : List ℕ) → literal (45 ∷ ds) ≡ integer_of_digits negative ds
unfolding literal
literal-negative ds = refl

fits_positive : (n : ℕ) → fits_integer (pos n) ≡ true → n < 2 ^ 64
fits_positive n is = grind (arith, nat_tests)

fits_negative : (n : ℕ) → fits_integer (negsuc n) ≡ true → suc n < 2 ^ 64
fits_negative n is = grind (arith, nat_tests)

literal-integer : (n : ℤ) → fits_integer n ≡ true → literal (signed_decimal n) ≡ Some (Integer n)
literal-integer (pos n) is =
    let fits = fits_positive n is in
    literal-digits (decimal n) (decimal_is_digits n fits) ∙ decimal_means pos n fits ∙ rw is refl
literal-integer (negsuc n) is = literal-negative (decimal (suc n)) ∙ decimal_means negative (suc n) (fits_negative n is) ∙ rw is refl

-- ---- all of them

pub literal_quoted : (v : Value) → HasLiteral v → literal (quoted v) ≡ Some v
unfolding literal
literal_quoted Null is = refl
literal_quoted (Integer n) is = literal-integer n is
literal_quoted (Text text) is = ap (option_map Text) (unquoted-doubled text)
literal_quoted (Blob bytes) is = ap (option_map Blob) (bytes_of_hex-hex bytes is)

same_some : {X : Type 0} (x y : X) → Some x ≡ Some y → x ≡ y
same_some x y is = cc

pub quoted_apart : (v w : Value) → HasLiteral v → HasLiteral w → quoted v ≡ quoted w → v ≡ w
quoted_apart v w has too is = same_some v w (sym (literal_quoted v has) ∙ ap literal is ∙ literal_quoted w too)
