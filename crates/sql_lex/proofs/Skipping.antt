-- Where no trigger is created, the end of a statement may be looked for byte by byte: what stands in no quotes and in no comment is passed over
-- without regard to words and numbers.
use Rattle.std.proofs.Common.{◌≡◌, ℕ, suc, zero, ◌+◌, ◌-◌, ◌<◌, ◌≤◌, Bool, true, false, cond, not, ◌&&◌, ◌||◌, ◌==◌, List, [], ◌∷◌, length, length-drop, get_or, drop, Option, Some, None, IfSome, IsCharBoundary, IsUtf8, option_map, refl, sym, ap, subst, ◌∙◌, arith}
use Rattle.std.specs.Prelude.{⊤, nat_eq, nat_le}
use Rattle.std.specs.Char.{is_ascii_digit, is_ascii_hexdigit}
use Rattle.std.specs.List.{take_while}
use Rattle.std.proofs.lemmas.Bool.Decides.{nat_tests}
use Rattle.std.proofs.lemmas.List.{drop-drop}
use Rattle.std.proofs.lemmas.List.Sums.{take_while-cons}
use Rattle.std.proofs.lemmas.Str.{IsCharBoundary-after_ascii, IsCharBoundary-before_ascii}
use Rattle.sql_tree.specs.declared.token.TokenKind.{TokenKind}
use Rattle.sql_tree.specs.declared.token.TokenKind.TheVariants as kind
use Rattle.sql_lex.specs.declared.piece.Piece.{Piece}
use Rattle.sql_lex.specs.declared.piece.Piece.TheVariants.{Blank, Lexeme, Parameter}
use Rattle.sql_lex.specs.declared.reading.Reading.{Reading}
use Rattle.sql_lex.specs.declared.reading.Reading.TheVariants as reading
use Rattle.sql_lex.specs.Pieces.{begins_with, begins_word, blob_up_to, closed, comment_width, decimal_width, digits_width, exponent_width, fraction_width, is_space, is_word_byte, is_x, line_width, number_by_digits, number_of_width, number_piece, parameter_piece, piece, pointed_width, sign_piece, sign_width, up_to, up_to_quote, with_digits, without_zeros, word_piece, word_width}
use Rattle.sql_lex.specs.Cutting.{statement_end}
use Rattle.sql_lex.specs.Plain.{end_at, is_plain, plain_end}
use Rattle.sql_lex.specs.Reading.{behind_piece, is_end}
use Rattle.sql_lex.specs.Signs.{double_kind, single_kind}
use Rattle.sql_lex.specs.Tokens.{width_of}
use Rattle.sql_lex.proofs.Appending.{hex_digit_word, number_width, parameter_width}
use Rattle.sql_lex.proofs.Cuts.{begins_word_byte, number_some, piece_fits, run_some}
use Rattle.sql_lex.proofs.Lasting.{none_some, some_is}
use Rattle.sql_lex.proofs.Readings.{byte_at, end_at_more, end_at_start, end_byte}
use Rattle.sql_lex.proofs.Semicolons.{is_semicolon, semicolon_begins}
use Rattle.sql_lex.proofs.Signing.{sign_is, sign_of}

-- so many bytes are passed over
abbrev pub Passes : ℕ → List ℕ → Type 0
Passes n xs = (from : ℕ) → plain_end from xs ≡ plain_end (from + n) (drop n xs)

pub passes_none : (xs : List ℕ) → Passes 0 xs
passes_none xs from = ap (λ n. plain_end n xs) (omega arith)

pub passes_more : (n m : ℕ) (xs : List ℕ) → Passes n xs → Passes m (drop n xs) → Passes (n + m) xs
passes_more n m xs f g from =
    let e : from + n + m ≡ from + (n + m) = omega arith in
    f from ∙ g (from + n) ∙ ap (λ k. plain_end k (drop m (drop n xs))) e ∙ ap (plain_end (from + (n + m))) (drop-drop m n xs)

-- the first of them alone, where those behind it are
first_alone : (n b : ℕ) (bytes : List ℕ) → Passes (suc n) (b ∷ bytes) → Passes n bytes → Passes 1 (b ∷ bytes)
first_alone n b bytes f g from =
    let e : from + suc n ≡ from + 1 + n = omega arith in
    f from ∙ ap (λ k. plain_end k (drop n bytes)) e ∙ sym (g (from + 1))

-- ---- a piece that is no `;`

goes_on : (p : Piece) → is_semicolon p ≡ false → is_end reading.Other p ≡ false
goes_on (Blank width) none = refl
goes_on (Lexeme k width) none = ap (λ t. t && true) none
goes_on (Parameter number width) none = refl

stays : (p : Piece) → behind_piece reading.Other p ≡ reading.Other
stays (Blank width) = refl
stays (Lexeme k width) = refl
stays (Parameter number width) = refl

piece_passes : (b : ℕ) (bytes : List ℕ) → is_semicolon (piece b bytes) ≡ false → Passes (width_of (piece b bytes)) (b ∷ bytes)
piece_passes b bytes none from =
    let p = piece b bytes in
    let rest : List ℕ = drop (width_of p) (b ∷ bytes) in
    end_at_more reading.Other from b bytes p refl (piece_fits b bytes).some
    ∙ ap (λ t. cond t (Some from) (end_at (behind_piece reading.Other p) (from + width_of p) rest)) (goes_on p none)
    ∙ ap (λ (r : Reading). end_at r (from + width_of p) rest) (stays p)

-- ---- bytes inside a piece

-- it begins nothing where these bytes follow it
abbrev innocent : ℕ → List ℕ → Bool
innocent b bytes = is_plain b || (b == 45 && not (begins_with 45 bytes))

-- so many are there, and each is such a byte
abbrev Inner : ℕ → List ℕ → Type 0
Inner zero xs = ⊤
Inner (suc n) [] = ⊥
Inner (suc n) (b ∷ bytes) = (innocent b bytes ≡ true) × Inner n bytes

plain_innocent : (b : ℕ) (bytes : List ℕ) → is_plain b ≡ true → innocent b bytes ≡ true
plain_innocent b bytes h = ap (λ t. t || (b == 45 && not (begins_with 45 bytes))) h

inner_both : (n m : ℕ) (xs : List ℕ) → Inner n xs → Inner m (drop n xs) → Inner (n + m) xs
inner_both zero m xs f g = let e : m ≡ 0 + m = omega arith in subst (λ (k : ℕ). Inner k xs) e g
inner_both (suc n) m [] f g = absurd f
inner_both (suc n) m (b ∷ bytes) f g =
    let e : suc (n + m) ≡ suc n + m = omega arith in
    let all : Inner (suc (n + m)) (b ∷ bytes) = (f.0, inner_both n m bytes f.1 g) in
    subst (λ (k : ℕ). Inner k (b ∷ bytes)) e all

inner_run : (p : ℕ → Bool) → ((b : ℕ) → p b ≡ true → is_plain b ≡ true) → (xs : List ℕ) → Inner (length (take_while p xs)) xs
inner_run p plain [] = tt
inner_run p plain (x ∷ xs) = rw (take_while-cons p x xs) (by (p x) refl (inner_run p plain xs))
  where
    by : (t : Bool) → p x ≡ t → Inner (length (take_while p xs)) xs → Inner (length (cond t (x ∷ take_while p xs) [])) (x ∷ xs)
    by true e h = (plain_innocent x xs (plain x e), h)
    by false e h = tt

word_plain : (b : ℕ) → is_word_byte b ≡ true → is_plain b ≡ true
word_plain b h = grind (arith, nat_tests)

digit_plain : (b : ℕ) → is_ascii_digit b ≡ true → is_plain b ≡ true
digit_plain b h = grind (arith, nat_tests)

digit_word : (b : ℕ) → is_ascii_digit b ≡ true → is_word_byte b ≡ true
digit_word b h = grind (arith, nat_tests)

hex_plain : (b : ℕ) → is_ascii_hexdigit b ≡ true → is_plain b ≡ true
hex_plain b h = word_plain b (hex_digit_word b h)

inner_words : (xs : List ℕ) → Inner (word_width xs) xs
inner_words xs = inner_run is_word_byte word_plain xs

inner_digits : (xs : List ℕ) → Inner (digits_width xs) xs
inner_digits xs = inner_run is_ascii_digit digit_plain xs

-- ---- numbers

inner_fraction : (xs : List ℕ) → Inner (fraction_width xs) xs
inner_fraction [] = tt
inner_fraction (b ∷ bytes) = by (b == 46) refl
  where
    by : (t : Bool) → (b == 46) ≡ t → Inner (cond t (suc (digits_width bytes)) 0) (b ∷ bytes)
    by true e = (plain_innocent b bytes (grind (arith, nat_tests)), inner_digits bytes)
    by false e = tt

inner_pointed : (xs : List ℕ) → Inner (pointed_width xs) xs
inner_pointed xs = inner_both (digits_width xs) (fraction_width (drop (digits_width xs) xs)) xs (inner_digits xs) (inner_fraction (drop (digits_width xs) xs))

-- what begins with a digit does not begin with a minus
digits_begin : (xs : List ℕ) → nat_eq (digits_width xs) 0 ≡ false → begins_with 45 xs ≡ false
digits_begin [] e = refl
digits_begin (d ∷ ds) e = by (is_ascii_digit d) refl (rw (take_while-cons is_ascii_digit d ds) at e)
  where
    by : (t : Bool) → is_ascii_digit d ≡ t → nat_eq (length (cond t (d ∷ take_while is_ascii_digit ds) [])) 0 ≡ false → (d == 45) ≡ false
    by true e h = grind (arith, nat_tests)
    by false e h = absurd (cc)

inner_sign : (xs : List ℕ) → nat_eq (digits_width (drop (sign_width xs) xs)) 0 ≡ false → Inner (sign_width xs) xs
inner_sign [] e = tt
inner_sign (b ∷ bytes) e = by (b == 43) (b == 45) refl refl e
  where
    by : (s t : Bool) → (b == 43) ≡ s → (b == 45) ≡ t → nat_eq (digits_width (drop (cond (s || t) 1 0) (b ∷ bytes))) 0 ≡ false → Inner (cond (s || t) 1 0) (b ∷ bytes)
    by true t es et e = (plain_innocent b bytes (grind (arith, nat_tests)), tt)
    by false true es et e = (minus (is_plain b) es et (digits_begin bytes e), tt)
      where
        minus : (p : Bool) → (b == 43) ≡ false → (b == 45) ≡ true → begins_with 45 bytes ≡ false → (p || (b == 45 && not (begins_with 45 bytes))) ≡ true
        minus true es et h = refl
        minus false es et h = ap (λ t. t && not (begins_with 45 bytes)) et ∙ ap not h
    by false false es et e = tt

inner_exponent : (xs : List ℕ) → Inner (exponent_width xs) xs
inner_exponent [] = tt
inner_exponent (b ∷ bytes) = by (b == 101 || b == 69) refl
  where
    digits : (t : Bool) → (b == 101 || b == 69) ≡ true → nat_eq (digits_width (drop (sign_width bytes) bytes)) 0 ≡ t → Inner (cond t 0 (suc (sign_width bytes) + digits_width (drop (sign_width bytes) bytes))) (b ∷ bytes)
    digits true e h = tt
    digits false e h = inner_both (suc (sign_width bytes)) (digits_width (drop (sign_width bytes) bytes)) (b ∷ bytes) (plain_innocent b bytes (grind (arith, nat_tests)), inner_sign bytes h) (inner_digits (drop (sign_width bytes) bytes))

    by : (t : Bool) → (b == 101 || b == 69) ≡ t → Inner (cond t (with_digits (suc (sign_width bytes)) (drop (sign_width bytes) bytes)) 0) (b ∷ bytes)
    by true e = digits (nat_eq (digits_width (drop (sign_width bytes) bytes)) 0) e refl
    by false e = tt

inner_decimal : (xs : List ℕ) → Inner (decimal_width xs) xs
inner_decimal xs = inner_both (pointed_width xs) (exponent_width (drop (pointed_width xs) xs)) xs (inner_pointed xs) (inner_exponent (drop (pointed_width xs) xs))

inner_number_of : (w : ℕ) (xs : List ℕ) → Inner w xs → Inner (width_of (number_of_width w xs)) xs
inner_number_of w xs h = rw (number_width w xs) (inner_both w (word_width (drop w xs)) xs h (inner_words (drop w xs)))

inner_hex : (b c d : ℕ) (cs ds : List ℕ) → is_ascii_digit b ≡ true → is_x c ≡ true → d ∷ ds ≡ take_while is_ascii_hexdigit cs → Inner (width_of (number_by_digits (d ∷ ds) (b ∷ c ∷ cs))) (b ∷ c ∷ cs)
inner_hex b c d cs ds digit x e = by (nat_le (length (without_zeros (d ∷ ds))) 16)
  where
    two : Inner 2 (b ∷ c ∷ cs)
    two = (plain_innocent b (c ∷ cs) (digit_plain b digit), (plain_innocent c cs (grind (arith, nat_tests)), tt))

    run : Inner (length (d ∷ ds)) cs
    run = subst (λ (ys : List ℕ). Inner (length ys) cs) (sym e) (inner_run is_ascii_hexdigit hex_plain cs)

    by : (t : Bool) → Inner (width_of (cond t (number_of_width (2 + length (d ∷ ds)) (b ∷ c ∷ cs)) (Lexeme kind.Illegal (2 + word_width cs)))) (b ∷ c ∷ cs)
    by true = inner_number_of (2 + length (d ∷ ds)) (b ∷ c ∷ cs) (inner_both 2 (length (d ∷ ds)) (b ∷ c ∷ cs) two run)
    by false = inner_both 2 (word_width cs) (b ∷ c ∷ cs) two (inner_words cs)

inner_by : (b c : ℕ) (cs ds : List ℕ) → is_ascii_digit b ≡ true → is_x c ≡ true → ds ≡ take_while is_ascii_hexdigit cs → Inner (width_of (number_by_digits ds (b ∷ c ∷ cs))) (b ∷ c ∷ cs)
inner_by b c cs [] digit x e = inner_number_of (decimal_width (b ∷ c ∷ cs)) (b ∷ c ∷ cs) (inner_decimal (b ∷ c ∷ cs))
inner_by b c cs (d ∷ ds) digit x e = inner_hex b c d cs ds digit x e

inner_number : (b : ℕ) (bytes : List ℕ) → is_ascii_digit b ≡ true → Inner (width_of (number_piece (b ∷ bytes))) (b ∷ bytes)
inner_number b [] digit = inner_number_of (decimal_width (b ∷ [])) (b ∷ []) (inner_decimal (b ∷ []))
inner_number b (c ∷ cs) digit = by (b == 48) (is_x c) refl
  where
    by : (s t : Bool) → is_x c ≡ t → Inner (width_of (number_by_digits (cond (s && t) (take_while is_ascii_hexdigit cs) []) (b ∷ c ∷ cs))) (b ∷ c ∷ cs)
    by true true x = inner_by b c cs (take_while is_ascii_hexdigit cs) digit x refl
    by true false x = inner_number_of (decimal_width (b ∷ c ∷ cs)) (b ∷ c ∷ cs) (inner_decimal (b ∷ c ∷ cs))
    by false t x = inner_number_of (decimal_width (b ∷ c ∷ cs)) (b ∷ c ∷ cs) (inner_decimal (b ∷ c ∷ cs))

-- ---- signs

inner_one : (s : Bool) (c : ℕ) (bytes : List ℕ) → is_plain c ≡ true → (s && begins_with c bytes) ≡ true → Inner 1 bytes
inner_one false c bytes plain h = absurd (cc)
inner_one true c [] plain h = absurd (cc)
inner_one true c (b ∷ bytes) plain h =
    let same : b ≡ c = grind (arith, nat_tests) in
    (plain_innocent b bytes (ap is_plain same ∙ plain), tt)

either_sign : (bytes : List ℕ) (t : Bool) (k : TokenKind) (o : Option TokenKind) → (t ≡ true → Inner 1 bytes) → IfSome o (λ k. Inner 1 bytes) → IfSome (cond t (Some k) o) (λ k. Inner 1 bytes)
either_sign bytes true k o f h = f refl
either_sign bytes false k o f h = h

inner_double : (b : ℕ) (bytes : List ℕ) → IfSome (double_kind b bytes) (λ k. Inner 1 bytes)
inner_double b bytes =
    either_sign bytes (b == 124 && begins_with 124 bytes) _ _ (inner_one (b == 124) 124 bytes refl) (
    either_sign bytes (b == 60 && begins_with 60 bytes) _ _ (inner_one (b == 60) 60 bytes refl) (
    either_sign bytes (b == 62 && begins_with 62 bytes) _ _ (inner_one (b == 62) 62 bytes refl) (
    either_sign bytes (b == 60 && begins_with 61 bytes) _ _ (inner_one (b == 60) 61 bytes refl) (
    either_sign bytes (b == 62 && begins_with 61 bytes) _ _ (inner_one (b == 62) 61 bytes refl) (
    either_sign bytes (b == 61 && begins_with 61 bytes) _ _ (inner_one (b == 61) 61 bytes refl) (
    either_sign bytes (b == 60 && begins_with 62 bytes) _ _ (inner_one (b == 60) 62 bytes refl) (
    either_sign bytes (b == 33 && begins_with 61 bytes) _ _ (inner_one (b == 33) 61 bytes refl) tt)))))))

inner_behind_sign : (bytes : List ℕ) (o : Option TokenKind) (k : TokenKind) → IfSome o (λ k. Inner 1 bytes) → Inner (width_of (sign_of o k) - 1) bytes
inner_behind_sign bytes None k h = tt
inner_behind_sign bytes (Some two) k h = h

-- ---- texts in quotes, which may be left at any quote

false_true : {X : Type 0} → false ≡ true → X
false_true e = absurd (cc)

all_behind : (xs : List ℕ) → drop (length xs) xs ≡ []
all_behind [] = refl
all_behind (x ∷ xs) = all_behind xs

-- behind so many bytes; nothing ends where there are none
abbrev behind_quote : ℕ → Option ℕ → List ℕ → Option ℕ
behind_quote from None bytes = None
behind_quote from (Some w) bytes = plain_end (from + w) (drop w bytes)

closed_end : (k : TokenKind) (from : ℕ) (o : Option ℕ) (b : ℕ) (bytes : List ℕ) → plain_end (from + width_of (closed k 1 o bytes)) (drop (width_of (closed k 1 o bytes)) (b ∷ bytes)) ≡ behind_quote (from + 1) o bytes
closed_end k from None b bytes =
    let one : 1 + length bytes ≡ suc (length bytes) = omega arith in
    ap (λ n. plain_end (from + (1 + length bytes)) (drop n (b ∷ bytes))) one ∙ ap (plain_end (from + (1 + length bytes))) (all_behind bytes)
closed_end k from (Some w) b bytes =
    let one : 1 + w ≡ suc w = omega arith in
    let e : from + (1 + w) ≡ from + 1 + w = omega arith in
    ap (λ n. plain_end (from + (1 + w)) (drop n (b ∷ bytes))) one ∙ ap (λ n. plain_end n (drop w bytes)) e

text_piece : (bytes : List ℕ) → piece 39 bytes ≡ closed kind.Text 1 (up_to_quote 39 bytes) bytes
text_piece bytes = refl

closed_none : (o : Option ℕ) (bytes : List ℕ) → is_semicolon (closed kind.Text 1 o bytes) ≡ false
closed_none None bytes = refl
closed_none (Some w) bytes = refl

text_end : (from : ℕ) (bytes : List ℕ) → plain_end from (39 ∷ bytes) ≡ behind_quote (from + 1) (up_to_quote 39 bytes) bytes
text_end from bytes = piece_passes 39 bytes (closed_none (up_to_quote 39 bytes) bytes) from ∙ closed_end kind.Text from (up_to_quote 39 bytes) 39 bytes

-- one byte more in front
quote_behind : (from b : ℕ) (bytes : List ℕ) (o : Option ℕ) → behind_quote from (option_map suc o) (b ∷ bytes) ≡ behind_quote (from + 1) o bytes
quote_behind from b bytes None = refl
quote_behind from b bytes (Some w) = let e : from + suc w ≡ from + 1 + w = omega arith in ap (λ n. plain_end n (drop w bytes)) e

two_behind : (from b c : ℕ) (bytes : List ℕ) (o : Option ℕ) → behind_quote from (option_map (λ n. suc (suc n)) o) (b ∷ c ∷ bytes) ≡ behind_quote (from + 1 + 1) o bytes
two_behind from b c bytes None = refl
two_behind from b c bytes (Some w) = let e : from + suc (suc w) ≡ from + 1 + 1 + w = omega arith in ap (λ n. plain_end n (drop w bytes)) e

-- the first quote and the closing one are alike
quotes_alike : (from : ℕ) (bytes : List ℕ) → behind_quote from (up_to 39 bytes) bytes ≡ behind_quote from (up_to_quote 39 bytes) bytes
quotes_alike from [] = refl
quotes_alike from (b ∷ []) = by (b == 39)
  where
    by : (t : Bool) → behind_quote from (cond t (Some 1) None) (b ∷ []) ≡ behind_quote from (cond t (Some 1) None) (b ∷ [])
    by true = refl
    by false = refl
quotes_alike from (b ∷ c ∷ bytes) = by (b == 39) (c == 39) refl (quotes_alike (from + 1) (c ∷ bytes))
  where
    by : (s t : Bool) → (c == 39) ≡ t → behind_quote (from + 1) (up_to 39 (c ∷ bytes)) (c ∷ bytes) ≡ behind_quote (from + 1) (up_to_quote 39 (c ∷ bytes)) (c ∷ bytes)
        → behind_quote from (cond s (Some 1) (option_map suc (up_to 39 (c ∷ bytes)))) (b ∷ c ∷ bytes) ≡ behind_quote from (cond (not s) (option_map suc (up_to_quote 39 (c ∷ bytes))) (cond t (option_map (λ n. suc (suc n)) (up_to_quote 39 bytes)) (Some 1))) (b ∷ c ∷ bytes)
    by false t e h =
        quote_behind from b (c ∷ bytes) (up_to 39 (c ∷ bytes)) ∙ h ∙ sym (quote_behind from b (c ∷ bytes) (up_to_quote 39 (c ∷ bytes)))
    by true true e h =
        let same : c ≡ 39 = grind (arith, nat_tests) in
        ap (λ c. plain_end (from + 1) (c ∷ bytes)) same
        ∙ text_end (from + 1) bytes
        ∙ sym (two_behind from b c bytes (up_to_quote 39 bytes))
    by true false e h = refl

-- a blob is the text behind its x
blob_end : (from b : ℕ) (o : Option ℕ) (bytes : List ℕ) → plain_end (from + width_of (blob_up_to o bytes)) (drop (width_of (blob_up_to o bytes)) (b ∷ 39 ∷ bytes)) ≡ behind_quote (from + 1 + 1) o bytes
blob_end from b None bytes =
    let two : 2 + length bytes ≡ suc (suc (length bytes)) = omega arith in
    ap (λ n. plain_end (from + (2 + length bytes)) (drop n (b ∷ 39 ∷ bytes))) two ∙ ap (plain_end (from + (2 + length bytes))) (all_behind bytes)
blob_end from b (Some w) bytes =
    let two : 2 + w ≡ suc (suc w) = omega arith in
    let e : from + (2 + w) ≡ from + 1 + 1 + w = omega arith in
    ap (λ n. plain_end (from + (2 + w)) (drop n (b ∷ 39 ∷ bytes))) two ∙ ap (λ n. plain_end n (drop w bytes)) e

blob_passes : (b : ℕ) (bytes : List ℕ) → begins_with 39 bytes ≡ true → Passes (width_of (blob_up_to (up_to 39 (drop 1 bytes)) (drop 1 bytes))) (b ∷ bytes) → Passes 1 (b ∷ bytes)
blob_passes b [] q h from = false_true q
blob_passes b (c ∷ bytes) q h from =
    let same : c ≡ 39 = grind (arith, nat_tests) in
    h from
    ∙ ap (λ c. plain_end (from + width_of (blob_up_to (up_to 39 bytes) bytes)) (drop (width_of (blob_up_to (up_to 39 bytes) bytes)) (b ∷ c ∷ bytes))) same
    ∙ blob_end from b (up_to 39 bytes) bytes
    ∙ quotes_alike (from + 1 + 1) bytes
    ∙ sym (text_end (from + 1) bytes)
    ∙ sym (ap (λ c. plain_end (from + 1) (c ∷ bytes)) same)

-- ---- one byte

-- where the piece of the byte is passed over, so is the byte alone
abbrev Alone : ℕ → List ℕ → Piece → Type 0
Alone b bytes p = Passes (width_of p) (b ∷ bytes) → Passes 1 (b ∷ bytes)

-- bytes shorter than this are passed over one by one
abbrev Shorter : ℕ → Type 0
Shorter most = (b : ℕ) (bytes : List ℕ) → length (b ∷ bytes) ≤ most → innocent b bytes ≡ true → Passes 1 (b ∷ bytes)

many : (most : ℕ) → Shorter most → (n : ℕ) (xs : List ℕ) → length xs ≤ most → Inner n xs → Passes n xs
many most one zero xs le h = passes_none xs
many most one (suc n) [] le h = absurd h
many most one (suc n) (b ∷ bytes) le h =
    let e : 1 + n ≡ suc n = omega arith in
    subst (λ (k : ℕ). Passes k (b ∷ bytes)) e (passes_more 1 n (b ∷ bytes) (one b bytes le h.0) (many most one n bytes (omega arith) h.1))

-- a piece of such bytes
alone_inner : (most : ℕ) → Shorter most → (b : ℕ) (bytes : List ℕ) (p : Piece) → length bytes ≤ most → 1 ≤ width_of p → Inner (width_of p - 1) bytes → Alone b bytes p
alone_inner most one b bytes p le some h f =
    let e : width_of p ≡ suc (width_of p - 1) = omega arith in
    first_alone (width_of p - 1) b bytes (subst (λ (k : ℕ). Passes k (b ∷ bytes)) e f) (many most one (width_of p - 1) bytes le h)

inner_behind : (n b : ℕ) (bytes : List ℕ) → Inner n (b ∷ bytes) → Inner (n - 1) bytes
inner_behind zero b bytes h = tt
inner_behind (suc n) b bytes h = let e : n ≡ suc n - 1 = omega arith in subst (λ (k : ℕ). Inner k bytes) e h.1

sign_some : (o : Option TokenKind) (k : TokenKind) → 1 ≤ width_of (sign_of o k)
sign_some None k = omega arith
sign_some (Some two) k = omega arith

either : (b : ℕ) (bytes : List ℕ) (t : Bool) (x y : Piece) → (t ≡ true → Alone b bytes x) → (t ≡ false → Alone b bytes y) → Alone b bytes (cond t x y)
either b bytes true x y f g = f refl
either b bytes false x y f g = g refl

-- no such byte
never : (b c : ℕ) (bytes : List ℕ) (p : Piece) → innocent b bytes ≡ true → is_plain c ≡ false → (c == 45) ≡ false → (b == c) ≡ true → Alone b bytes p
never b c bytes p ok quote minus h =
    let same : b ≡ c = grind (arith, nat_tests) in
    let no : innocent c bytes ≡ false = ap (λ t. t || (c == 45 && not (begins_with 45 bytes))) quote ∙ ap (λ t. t && not (begins_with 45 bytes)) minus in
    false_true (sym no ∙ ap (λ b. innocent b bytes) (sym same) ∙ ok)

no_line : (b : ℕ) (bytes : List ℕ) (p : Piece) → innocent b bytes ≡ true → (b == 45 && begins_with 45 bytes) ≡ true → Alone b bytes p
no_line b bytes p ok h = by (b == 45) refl (begins_with 45 bytes) ok h
  where
    by : (s : Bool) → (b == 45) ≡ s → (t : Bool) → (is_plain b || (s && not t)) ≡ true → (s && t) ≡ true → Alone b bytes p
    by false e t ok h = false_true h
    by true e false ok h = false_true h
    by true e true ok h = let no : is_plain b ≡ false = grind (arith, nat_tests) in false_true (sym (ap (λ t. t || false) no) ∙ ok)

no_comment : (b : ℕ) (bytes : List ℕ) (p : Piece) → innocent b bytes ≡ true → (b == 47 && begins_with 42 bytes) ≡ true → Alone b bytes p
no_comment b bytes p ok h = by (b == 47) refl h
  where
    by : (s : Bool) → (b == 47) ≡ s → (s && begins_with 42 bytes) ≡ true → Alone b bytes p
    by true e h = never b 47 bytes p ok refl refl e
    by false e h = false_true h

both_second : (a b : Bool) → (a && b) ≡ true → b ≡ true
both_second true b h = h
both_second false b h = false_true h

alone : (most : ℕ) → Shorter most → (b : ℕ) (bytes : List ℕ) → length bytes ≤ most → innocent b bytes ≡ true → Alone b bytes (piece b bytes)
alone most one b bytes le ok =
    either b bytes (is_space b) _ _ (λ h. alone_inner most one b bytes (Blank 1) le (omega arith) tt) (λ _.
    either b bytes (b == 45 && begins_with 45 bytes) _ _ (λ h. no_line b bytes (Blank (suc (line_width bytes))) ok h) (λ _.
    either b bytes (b == 47 && begins_with 42 bytes) _ _ (λ h. no_comment b bytes (Blank (2 + comment_width (drop 1 bytes))) ok h) (λ _.
    either b bytes (b == 39) _ _ (λ h. never b 39 bytes (closed kind.Text 1 (up_to_quote 39 bytes) bytes) ok refl refl h) (λ _.
    either b bytes (b == 34) _ _ (λ h. never b 34 bytes (closed kind.QuotedName 1 (up_to_quote 34 bytes) bytes) ok refl refl h) (λ _.
    either b bytes (b == 96) _ _ (λ h. never b 96 bytes (closed kind.QuotedName 1 (up_to_quote 96 bytes) bytes) ok refl refl h) (λ _.
    either b bytes (b == 91) _ _ (λ h. never b 91 bytes (closed kind.QuotedName 1 (up_to 93 bytes) bytes) ok refl refl h) (λ _.
    either b bytes (is_x b && begins_with 39 bytes) _ _ (λ h. blob_passes b bytes (both_second (is_x b) (begins_with 39 bytes) h)) (λ _.
    either b bytes (begins_word b) _ _ (λ h. alone_inner most one b bytes (word_piece (b ∷ bytes)) le (run_some is_word_byte b bytes (begins_word_byte b h)) (inner_behind (word_width (b ∷ bytes)) b bytes (inner_words (b ∷ bytes)))) (λ _.
    either b bytes (is_ascii_digit b) _ _ (λ h. alone_inner most one b bytes (number_piece (b ∷ bytes)) le (number_some b bytes h) (inner_behind (width_of (number_piece (b ∷ bytes))) b bytes (inner_number b bytes h))) (λ _.
    either b bytes (b == 63) _ _ (λ h. parameter_alone) (λ _. sign_alone)))))))))))
  where
    parameter_alone : Alone b bytes (parameter_piece (take_while is_ascii_digit bytes))
    parameter_alone =
        let w = parameter_width (take_while is_ascii_digit bytes) in
        let e : width_of (parameter_piece (take_while is_ascii_digit bytes)) - 1 ≡ digits_width bytes = omega (arith, w) in
        let some : 1 ≤ width_of (parameter_piece (take_while is_ascii_digit bytes)) = omega (arith, w) in
        alone_inner most one b bytes (parameter_piece (take_while is_ascii_digit bytes)) le some (subst (λ (n : ℕ). Inner n bytes) (sym e) (inner_digits bytes))

    sign_alone : Alone b bytes (sign_piece b bytes)
    sign_alone =
        let P : Piece → Type 0 = Alone b bytes in
        subst P (sym (sign_is b bytes)) (alone_inner most one b bytes (sign_of (double_kind b bytes) (single_kind b)) le (sign_some (double_kind b bytes) (single_kind b)) (inner_behind_sign bytes (double_kind b bytes) (single_kind b) (inner_double b bytes)))

-- ---- bytes that are passed over

innocent_none : (b : ℕ) (bytes : List ℕ) → innocent b bytes ≡ true → is_semicolon (piece b bytes) ≡ false
innocent_none b bytes ok = by (is_semicolon (piece b bytes)) refl
  where
    by : (t : Bool) → is_semicolon (piece b bytes) ≡ t → t ≡ false
    by false e = refl
    by true e = let same = semicolon_begins b bytes e in false_true (sym (ap (λ b. innocent b bytes) same) ∙ ok)

shorter : (most : ℕ) → Shorter most
shorter zero b bytes le ok = absurd (omega arith)
shorter (suc most) b bytes le ok = alone most (shorter most) b bytes (omega arith) ok (piece_passes b bytes (innocent_none b bytes ok))

-- plain bytes
pub plain_passes : (xs : List ℕ) → Passes (length (take_while is_plain xs)) xs
plain_passes xs = many (length xs) (shorter (length xs)) (length (take_while is_plain xs)) xs (omega arith) (inner_run is_plain (λ b h. h) xs)

-- ---- the loop

-- plain bytes, and then what is looked at
pub plain_behind : (n from : ℕ) (xs rest : List ℕ) → n ≡ length (take_while is_plain xs) → rest ≡ drop n xs → plain_end (from + n) rest ≡ plain_end from xs
plain_behind n from xs rest e at =
    ap (plain_end (from + n)) (at ∙ ap (λ k. drop k xs) e) ∙ ap (λ k. plain_end (from + k) (drop (length (take_while is_plain xs)) xs)) e ∙ sym (plain_passes xs from)

-- a byte that is no `;` begins a piece that is none
pub piece_behind : (b from : ℕ) (bytes text next : List ℕ) (p : Piece) (all : Option ℕ) → text ≡ b ∷ bytes → p ≡ piece b bytes → (b ≡ 59 → ⊥) → next ≡ drop (width_of p) text → plain_end from text ≡ all → plain_end (from + width_of p) next ≡ all
piece_behind b from bytes text next p all is e other at h =
    let none : is_semicolon (piece b bytes) ≡ false = not_one (is_semicolon (piece b bytes)) refl in
    ap (plain_end (from + width_of p)) (at ∙ ap (drop (width_of p)) is)
    ∙ ap (λ (p : Piece). plain_end (from + width_of p) (drop (width_of p) (b ∷ bytes))) e
    ∙ sym (piece_passes b bytes none from)
    ∙ ap (plain_end from) (sym is)
    ∙ h
  where
    not_one : (t : Bool) → is_semicolon (piece b bytes) ≡ t → t ≡ false
    not_one false e = refl
    not_one true e = absurd (other (semicolon_begins b bytes e))

-- the `;` itself
pub ended_by : (b from : ℕ) (bytes text : List ℕ) (all : Option ℕ) → text ≡ b ∷ bytes → b ≡ 59 → plain_end from text ≡ all → Some from ≡ all
ended_by b from bytes text all is e h =
    sym (end_at_more reading.Other from 59 bytes (Lexeme kind.Semicolon 1) refl (omega arith)) ∙ ap (λ b. plain_end from (b ∷ bytes)) (sym e) ∙ ap (plain_end from) (sym is) ∙ h

-- ---- a statement ends at a `;`

end_semicolon_at : (most from e : ℕ) (text xs : List ℕ) (read : Reading) → length xs ≤ most → drop from text ≡ xs → end_at read from xs ≡ Some e → (e < length text) × (get_or text e 0 ≡ 59)
end_semicolon_at most from e text [] read le at h = none_some e h
end_semicolon_at zero from e text (b ∷ bytes) read le at h = absurd (omega arith)
end_semicolon_at (suc most) from e text (b ∷ bytes) read le at h =
    let p = piece b bytes in
    let w = width_of p in
    let fits = piece_fits b bytes in
    let rest : List ℕ = drop w (b ∷ bytes) in
    let less : length rest ≤ most = omega (arith, length-drop w (b ∷ bytes), fits.some) in
    let further : drop (from + w) text ≡ rest = sym (drop-drop w from text) ∙ ap (drop w) at in
    by (is_end read p) refl (sym (end_at_more read from b bytes p refl fits.some) ∙ h) (end_semicolon_at most (from + w) e text rest (behind_piece read p) less further)
  where
    by : (t : Bool) → is_end read (piece b bytes) ≡ t
        → cond t (Some from) (end_at (behind_piece read (piece b bytes)) (from + width_of (piece b bytes)) (drop (width_of (piece b bytes)) (b ∷ bytes))) ≡ Some e
        → (end_at (behind_piece read (piece b bytes)) (from + width_of (piece b bytes)) (drop (width_of (piece b bytes)) (b ∷ bytes)) ≡ Some e → (e < length text) × (get_or text e 0 ≡ 59))
        → (e < length text) × (get_or text e 0 ≡ 59)
    by true ends is on =
        let same = some_is from e is in
        let byte = byte_at text from b bytes at in
        subst (λ (n : ℕ). (n < length text) × (get_or text n 0 ≡ 59)) same (byte.0, byte.1 ∙ end_byte read b bytes (piece b bytes) refl ends)
    by false ends is on = on is

pub ended_at : (text : List ℕ) (e : ℕ) → statement_end text ≡ Some e → (e < length text) × (get_or text e 0 ≡ 59)
ended_at text e h = end_semicolon_at (length text) 0 e text text reading.Start (omega arith) refl (end_at_start text ∙ h)

-- the same of an end that may be none, which is a place where the text may be cut
pub ended_behind : (text : List ℕ) (o : Option ℕ) → IsUtf8 text → o ≡ statement_end text
    → (IfSome o (λ e. e < length text)) × (IfSome o (λ e. get_or text e 0 ≡ 59)) × (IfSome o (λ e. IsCharBoundary text e)) × (IfSome o (λ e. IsCharBoundary text (e + 1)))
ended_behind text None utf8 is = (tt, tt, tt, tt)
ended_behind text (Some e) utf8 is =
    let byte = ended_at text e (sym is) in
    (byte.0, byte.1, IsCharBoundary-before_ascii text e byte.0 (omega (arith, byte.1)), IsCharBoundary-after_ascii text e utf8 byte.0 (omega (arith, byte.1)))
