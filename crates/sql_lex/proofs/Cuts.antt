-- Where pieces end: behind a byte of ASCII, or in front of one, or at the end of the text.
use Rattle.std.proofs.Common.{◌≡◌, ◌⊎◌, inl, inr, ℕ, suc, ◌+◌, ◌-◌, ◌<◌, ◌≤◌, Bool, true, false, cond, not, ◌&&◌, ◌||◌, ◌==◌, List, [], ◌∷◌, length, length-drop, get_or, drop, Option, Some, None, IfSome, option_map, refl, sym, ap, subst, arith}
use Rattle.std.specs.Prelude.{nat_eq, nat_le}
use Rattle.std.specs.Char.{is_ascii_digit, is_ascii_hexdigit}
use Rattle.std.specs.List.{take_while, prefix_len}
use Rattle.std.specs.Str.Parse.{digits_value}
use Rattle.std.proofs.lemmas.Bool.Decides.{nat_tests}
use Rattle.std.proofs.lemmas.List.{get_or-drop}
use Rattle.std.proofs.lemmas.List.Sums.{prefix_len_passes, prefix_len-le-length}
use Rattle.std.proofs.lemmas.List.Folds.{length-prefix_len}
use Rattle.sql_tree.specs.declared.token.TokenKind.{TokenKind}
use Rattle.sql_tree.specs.declared.token.TokenKind.TheVariants as kind
use Rattle.sql_lex.specs.declared.piece.Piece.{Piece}
use Rattle.sql_lex.specs.declared.piece.Piece.TheVariants.{Lexeme, Parameter}
use Rattle.sql_lex.specs.Pieces.{begins_with, begins_word, blob_up_to, closed, comment_width, decimal_width, digits_width, exponent_width, fraction_width, hex_digits, is_space, is_word_byte, is_x, line_width, number_by_digits, number_of_width, parameter_piece, piece, pointed_width, sign_width, up_to, up_to_quote, with_digits, without_zeros, word_width, is_parameter}
use Rattle.sql_lex.specs.Signs.{double_kind, single_kind}
use Rattle.sql_lex.specs.Tokens.{width_of}
use Rattle.sql_lex.proofs.Signing.{sign_is, sign_of}

-- the last of so many bytes is of ASCII
abbrev pub Closes : List ℕ → ℕ → Type 0
Closes xs w = (1 ≤ w) × (w ≤ length xs) × (get_or xs (w - 1) 0 < 128)

-- the next byte behind so many is of ASCII, if there is one
abbrev pub Stops : List ℕ → ℕ → Type 0
Stops xs w = (w ≤ length xs) × (get_or xs w 0 < 128)

pub record Fits (xs : List ℕ) (w : ℕ) : Type 0 where
  pub some : 1 ≤ w
  pub within : w ≤ length xs
  pub ends : (get_or xs (w - 1) 0 < 128) ⊎ (get_or xs w 0 < 128)

abbrev FitsPiece : List ℕ → Piece → Type 0
FitsPiece xs p = Fits xs (width_of p)

fits_closed : (xs : List ℕ) (w : ℕ) → Closes xs w → Fits xs w
fits_closed xs w h = record { some = h.0; within = h.1; ends = inl h.2 }

fits_stopped : (xs : List ℕ) (w : ℕ) → 1 ≤ w → Stops xs w → Fits xs w
fits_stopped xs w one h = record { some = one; within = h.0; ends = inr h.1 }

closes_behind : (n : ℕ) (xs : List ℕ) (w : ℕ) → Closes (drop n xs) w → Closes xs (n + w)
closes_behind n xs w h =
    let e : n + (w - 1) ≡ n + w - 1 = omega (arith, h.0) in
    let P : ℕ → Type 0 = λ i. get_or xs i 0 < 128 in
    let low : get_or xs (n + (w - 1)) 0 < 128 = rw get_or-drop at h.2 in
    (omega (arith, h.0), omega (arith, h.0, h.1, length-drop n xs), subst P e low)

stops_behind : (n : ℕ) (xs : List ℕ) (w : ℕ) → n ≤ length xs → Stops (drop n xs) w → Stops xs (n + w)
stops_behind n xs w le h =
    let low : get_or xs (n + w) 0 < 128 = rw get_or-drop at h.1 in
    (omega (arith, h.0, length-drop n xs), low)

past : (xs : List ℕ) → get_or xs (length xs) 0 < 128
past [] = omega arith
past (x ∷ xs) = past xs

at_end : (xs : List ℕ) → Stops xs (length xs)
at_end xs = (omega arith, past xs)

either : (xs : List ℕ) (t : Bool) (x y : Piece) → (t ≡ true → FitsPiece xs x) → (t ≡ false → FitsPiece xs y) → FitsPiece xs (cond t x y)
either xs true x y f g = f refl
either xs false x y f g = g refl

-- ---- runs of bytes

stops_at : (p : ℕ → Bool) (low : (b : ℕ) → p b ≡ false → b < 128) (xs : List ℕ) → get_or xs (prefix_len p xs) 0 < 128
stops_at p low [] = omega arith
stops_at p low (x ∷ xs) = by (p x) refl (stops_at p low xs)
  where
    by : (t : Bool) → p x ≡ t → get_or xs (prefix_len p xs) 0 < 128 → get_or (x ∷ xs) (cond t (1 + prefix_len p xs) 0) 0 < 128
    by true e h = let s : 1 + prefix_len p xs ≡ suc (prefix_len p xs) = omega arith in rw s h
    by false e h = low x e

run_stops : (p : ℕ → Bool) (low : (b : ℕ) → p b ≡ false → b < 128) (xs : List ℕ) → Stops xs (length (take_while p xs))
run_stops p low xs = rw (length-prefix_len p xs) (prefix_len-le-length p xs, stops_at p low xs)

pub run_within : (p : ℕ → Bool) (xs : List ℕ) → length (take_while p xs) ≤ length xs
run_within p xs = omega (arith, length-prefix_len p xs, prefix_len-le-length p xs)

pub run_some : (p : ℕ → Bool) (x : ℕ) (xs : List ℕ) → p x ≡ true → 1 ≤ length (take_while p (x ∷ xs))
run_some p x xs e =
    let n : prefix_len p (x ∷ xs) ≡ 1 + prefix_len p xs = ap (λ t. cond t (1 + prefix_len p xs) 0) e in
    omega (arith, length-prefix_len p (x ∷ xs))

run_closes : (p : ℕ → Bool) (low : (b : ℕ) → p b ≡ true → b < 128) (xs : List ℕ) → 1 ≤ length (take_while p xs) → Closes xs (length (take_while p xs))
run_closes p low xs one =
    let n : length (take_while p xs) ≡ prefix_len p xs = length-prefix_len p xs in
    let last : length (take_while p xs) - 1 < prefix_len p xs = omega arith in
    (one, run_within p xs, low _ (prefix_len_passes p xs (length (take_while p xs) - 1) 0 last))

-- ---- single bytes

space_low : (b : ℕ) → is_space b ≡ true → b < 128
space_low b h = grind (arith, nat_tests)

line_low : (b : ℕ) → not (b == 10) ≡ false → b < 128
line_low b h = grind (arith, nat_tests)

word_low : (b : ℕ) → is_word_byte b ≡ false → b < 128
word_low b h = grind (arith, nat_tests)

begins_low : (b : ℕ) → begins_word b ≡ false → b < 128
begins_low b h = grind (arith, nat_tests)

pub begins_word_byte : (b : ℕ) → begins_word b ≡ true → is_word_byte b ≡ true
begins_word_byte b h = grind (arith, nat_tests)

digit_low : (b : ℕ) → is_ascii_digit b ≡ true → b < 128
digit_low b h = grind (arith, nat_tests)

same_low : (b q : ℕ) → (b == q) ≡ true → q < 128 → b < 128
same_low b q h lt = grind (arith, nat_tests)

both-second : (a b : Bool) → (a && b) ≡ true → b ≡ true
both-second true b h = h
both-second false b h = absurd (cc)

begins_closes : (q : ℕ) (bytes : List ℕ) → q < 128 → begins_with q bytes ≡ true → Closes bytes 1
begins_closes q [] lt h = absurd (cc)
begins_closes q (b ∷ bytes) lt h = (omega arith, omega arith, same_low b q h lt)

-- ---- comments

comment_more : (b : ℕ) (ys : List ℕ) (w : ℕ) → (Closes ys w) ⊎ (Stops ys w) → (Closes (b ∷ ys) (1 + w)) ⊎ (Stops (b ∷ ys) (1 + w))
comment_more b ys w (inl h) = inl (closes_behind 1 (b ∷ ys) w h)
comment_more b ys w (inr h) = inr (stops_behind 1 (b ∷ ys) w (omega arith) h)

comment_ends : (xs : List ℕ) → (Closes xs (comment_width xs)) ⊎ (Stops xs (comment_width xs))
comment_ends [] = inr (omega arith, omega arith)
comment_ends (b ∷ []) = inr (omega arith, omega arith)
comment_ends (b ∷ c ∷ xs) = by (b == 42 && c == 47) refl (comment_ends (c ∷ xs))
  where
    by : (t : Bool) → (b == 42 && c == 47) ≡ t → (Closes (c ∷ xs) (comment_width (c ∷ xs))) ⊎ (Stops (c ∷ xs) (comment_width (c ∷ xs))) → (Closes (b ∷ c ∷ xs) (cond t 2 (suc (comment_width (c ∷ xs))))) ⊎ (Stops (b ∷ c ∷ xs) (cond t 2 (suc (comment_width (c ∷ xs)))))
    by true e h = inl (omega arith, omega arith, same_low c 47 (both-second (b == 42) (c == 47) e) (omega arith))
    by false e h =
        let s : 1 + comment_width (c ∷ xs) ≡ suc (comment_width (c ∷ xs)) = omega arith in
        let P : ℕ → Type 0 = λ w. (Closes (b ∷ c ∷ xs) w) ⊎ (Stops (b ∷ c ∷ xs) w) in
        subst P s (comment_more b (c ∷ xs) (comment_width (c ∷ xs)) h)

comment_fits : (b : ℕ) (bytes : List ℕ) → 1 ≤ length bytes → Fits (b ∷ bytes) (2 + comment_width (drop 1 bytes))
comment_fits b bytes one =
    elim (comment_ends (drop 1 bytes)) [
      | inl h ↦ fits_closed (b ∷ bytes) (2 + comment_width (drop 1 bytes)) (closes_behind 2 (b ∷ bytes) (comment_width (drop 1 bytes)) h)
      | inr h ↦ fits_stopped (b ∷ bytes) (2 + comment_width (drop 1 bytes)) (omega arith) (stops_behind 2 (b ∷ bytes) (comment_width (drop 1 bytes)) (omega arith) h)
    ]

-- ---- quotes

later : (b : ℕ) (bytes : List ℕ) (o : Option ℕ) → IfSome o (Closes bytes) → IfSome (option_map suc o) (Closes (b ∷ bytes))
later b bytes None h = tt
later b bytes (Some w) h = let P : ℕ → Type 0 = Closes (b ∷ bytes) in subst P (omega arith) (closes_behind 1 (b ∷ bytes) w h)

later_two : (b c : ℕ) (bytes : List ℕ) (o : Option ℕ) → IfSome o (Closes bytes) → IfSome (option_map (λ n. suc (suc n)) o) (Closes (b ∷ c ∷ bytes))
later_two b c bytes None h = tt
later_two b c bytes (Some w) h = let P : ℕ → Type 0 = Closes (b ∷ c ∷ bytes) in subst P (omega arith) (closes_behind 2 (b ∷ c ∷ bytes) w h)

whether : (P : Option ℕ → Type 0) (t : Bool) (x y : Option ℕ) → (t ≡ true → P x) → (t ≡ false → P y) → P (cond t x y)
whether P true x y f g = f refl
whether P false x y f g = g refl

up_to_closes : (q : ℕ) (xs : List ℕ) → q < 128 → IfSome (up_to q xs) (Closes xs)
up_to_closes q [] lt = tt
up_to_closes q (b ∷ bytes) lt =
    whether (λ o. IfSome o (Closes (b ∷ bytes))) (b == q) _ _
    (λ h. (omega arith, omega arith, same_low b q h lt))
    (λ h. later b bytes (up_to q bytes) (up_to_closes q bytes lt))

not-false : (t : Bool) → not t ≡ false → t ≡ true
not-false true h = refl
not-false false h = absurd (cc)

quote_closes : (q : ℕ) (xs : List ℕ) → q < 128 → IfSome (up_to_quote q xs) (Closes xs)
quote_closes q [] lt = tt
quote_closes q (b ∷ []) lt =
    whether (λ o. IfSome o (Closes (b ∷ []))) (b == q) _ _ (λ h. (omega arith, omega arith, same_low b q h lt)) (λ h. tt)
quote_closes q (b ∷ c ∷ bytes) lt =
    whether (λ o. IfSome o (Closes (b ∷ c ∷ bytes))) (not (b == q)) _ _
    (λ h. later b (c ∷ bytes) (up_to_quote q (c ∷ bytes)) (quote_closes q (c ∷ bytes) lt))
    (λ h. whether (λ o. IfSome o (Closes (b ∷ c ∷ bytes))) (c == q) _ _
    (λ g. later_two b c bytes (up_to_quote q bytes) (quote_closes q bytes lt))
    (λ g. (omega arith, omega arith, same_low b q (not-false (b == q) h) lt)))

closed_fits : (b : ℕ) (bytes : List ℕ) (k : TokenKind) (o : Option ℕ) → IfSome o (Closes bytes) → FitsPiece (b ∷ bytes) (closed k 1 o bytes)
closed_fits b bytes k None h = fits_stopped (b ∷ bytes) (1 + length bytes) (omega arith) (stops_behind 1 (b ∷ bytes) (length bytes) (omega arith) (at_end bytes))
closed_fits b bytes k (Some w) h = fits_closed (b ∷ bytes) (1 + w) (closes_behind 1 (b ∷ bytes) w h)

blob_fits : (b : ℕ) (bytes : List ℕ) (o : Option ℕ) → 1 ≤ length bytes → IfSome o (Closes (drop 1 bytes)) → FitsPiece (b ∷ bytes) (blob_up_to o (drop 1 bytes))
blob_fits b bytes None one h =
    fits_stopped (b ∷ bytes) (2 + length (drop 1 bytes)) (omega arith) (stops_behind 2 (b ∷ bytes) (length (drop 1 bytes)) (omega arith) (at_end (drop 1 bytes)))
blob_fits b bytes (Some w) one h = fits_closed (b ∷ bytes) (2 + w) (closes_behind 2 (b ∷ bytes) w h)

-- ---- numbers

number_fits : (w : ℕ) (xs : List ℕ) → 1 ≤ w → w ≤ length xs → FitsPiece xs (number_of_width w xs)
number_fits w xs one le =
    let h = run_stops is_word_byte word_low (drop w xs) in
    let all : Stops xs (w + word_width (drop w xs)) = stops_behind w xs (word_width (drop w xs)) le h in
    either xs (nat_eq (word_width (drop w xs)) 0) _ _
    (λ e. let none : w + word_width (drop w xs) ≡ w = grind (arith, nat_tests) in fits_stopped xs w one (subst (Stops xs) none all))
    (λ e. fits_stopped xs (w + word_width (drop w xs)) (omega arith) all)

fraction_within : (xs : List ℕ) → fraction_width xs ≤ length xs
fraction_within [] = omega arith
fraction_within (b ∷ bytes) = by (b == 46)
  where
    by : (t : Bool) → cond t (suc (digits_width bytes)) 0 ≤ suc (length bytes)
    by true = omega (arith, run_within is_ascii_digit bytes)
    by false = omega arith

sign_within : (xs : List ℕ) → sign_width xs ≤ length xs
sign_within [] = omega arith
sign_within (b ∷ bytes) = by (b == 43 || b == 45)
  where
    by : (t : Bool) → cond t 1 0 ≤ suc (length bytes)
    by true = omega arith
    by false = omega arith

with_digits_within : (n : ℕ) (xs : List ℕ) → with_digits n xs ≤ n + length xs
with_digits_within n xs = by (nat_eq (digits_width xs) 0)
  where
    by : (t : Bool) → cond t 0 (n + digits_width xs) ≤ n + length xs
    by true = omega arith
    by false = omega (arith, run_within is_ascii_digit xs)

exponent_within : (xs : List ℕ) → exponent_width xs ≤ length xs
exponent_within [] = omega arith
exponent_within (b ∷ bytes) = by (b == 101 || b == 69)
  where
    by : (t : Bool) → cond t (with_digits (suc (sign_width bytes)) (drop (sign_width bytes) bytes)) 0 ≤ suc (length bytes)
    by true = omega (arith, with_digits_within (suc (sign_width bytes)) (drop (sign_width bytes) bytes), length-drop (sign_width bytes) bytes, sign_within bytes)
    by false = omega arith

pub pointed_within : (xs : List ℕ) → pointed_width xs ≤ length xs
pointed_within xs = omega (arith, run_within is_ascii_digit xs, fraction_within (drop (digits_width xs) xs), length-drop (digits_width xs) xs)

pub decimal_within : (xs : List ℕ) → decimal_width xs ≤ length xs
decimal_within xs = omega (arith, pointed_within xs, exponent_within (drop (pointed_width xs) xs), length-drop (pointed_width xs) xs)

pub decimal_some : (b : ℕ) (bytes : List ℕ) → is_ascii_digit b ≡ true → 1 ≤ decimal_width (b ∷ bytes)
decimal_some b bytes h = omega (arith, run_some is_ascii_digit b bytes h)

pub hex_within : (xs : List ℕ) → length (hex_digits xs) ≤ length xs - 2
hex_within [] = omega arith
hex_within (z ∷ []) = omega arith
hex_within (z ∷ x ∷ bytes) = by (z == 48 && is_x x)
  where
    by : (t : Bool) → length (cond t (take_while is_ascii_hexdigit bytes) []) ≤ length (z ∷ x ∷ bytes) - 2
    by true = omega (arith, run_within is_ascii_hexdigit bytes)
    by false = omega arith

number_piece_fits : (b : ℕ) (bytes ds : List ℕ) → is_ascii_digit b ≡ true → length ds ≤ length (b ∷ bytes) - 2 → FitsPiece (b ∷ bytes) (number_by_digits ds (b ∷ bytes))
number_piece_fits b bytes [] h le = number_fits (decimal_width (b ∷ bytes)) (b ∷ bytes) (decimal_some b bytes h) (decimal_within (b ∷ bytes))
number_piece_fits b bytes (d ∷ ds) h le =
    let two : 2 ≤ length (b ∷ bytes) = omega arith in
    either (b ∷ bytes) (nat_le (length (without_zeros (d ∷ ds))) 16) _ _
    (λ e. number_fits (2 + length (d ∷ ds)) (b ∷ bytes) (omega arith) (omega arith))
    (λ e. fits_stopped (b ∷ bytes) (2 + word_width (drop 2 (b ∷ bytes))) (omega arith) (stops_behind 2 (b ∷ bytes) (word_width (drop 2 (b ∷ bytes))) two (run_stops is_word_byte word_low (drop 2 (b ∷ bytes)))))

pub number_some : (b : ℕ) (bytes : List ℕ) → is_ascii_digit b ≡ true → 1 ≤ width_of (number_by_digits (hex_digits (b ∷ bytes)) (b ∷ bytes))
number_some b bytes h = (number_piece_fits b bytes (hex_digits (b ∷ bytes)) h (hex_within (b ∷ bytes))).some

-- ---- parameters and signs

parameter_fits : (b : ℕ) (bytes ds : List ℕ) → b < 128 → ds ≡ take_while is_ascii_digit bytes → FitsPiece (b ∷ bytes) (parameter_piece ds)
parameter_fits b bytes [] lt e = fits_closed (b ∷ bytes) 1 (omega arith, omega arith, lt)
parameter_fits b bytes (d ∷ ds) lt e =
    let n : length (d ∷ ds) ≡ length (take_while is_ascii_digit bytes) = ap length e in
    let one : 1 ≤ length (take_while is_ascii_digit bytes) = omega arith in
    let run : Closes (b ∷ bytes) (1 + length (take_while is_ascii_digit bytes)) = closes_behind 1 (b ∷ bytes) (length (take_while is_ascii_digit bytes)) (run_closes is_ascii_digit digit_low bytes one) in
    let w : 1 + length (take_while is_ascii_digit bytes) ≡ suc (length (d ∷ ds)) = omega arith in
    let fits : Fits (b ∷ bytes) (suc (length (d ∷ ds))) = fits_closed (b ∷ bytes) (suc (length (d ∷ ds))) (subst (Closes (b ∷ bytes)) w run) in
    either (b ∷ bytes) (is_parameter (digits_value 10 (d ∷ ds))) (Parameter (Some (digits_value 10 (d ∷ ds))) (suc (length (d ∷ ds)))) (Lexeme kind.Illegal (suc (length (d ∷ ds)))) (λ h. fits) (λ h. fits)

eitherK : (bytes : List ℕ) (t : Bool) (k : TokenKind) (o : Option TokenKind) → (t ≡ true → Closes bytes 1) → IfSome o (λ k. Closes bytes 1) → IfSome (cond t (Some k) o) (λ k. Closes bytes 1)
eitherK bytes true k o f h = f refl
eitherK bytes false k o f h = h

second_closes : (a : Bool) (q : ℕ) (bytes : List ℕ) → q < 128 → (a && begins_with q bytes) ≡ true → Closes bytes 1
second_closes a q bytes lt h = begins_closes q bytes lt (both-second a (begins_with q bytes) h)

double_closes : (b : ℕ) (bytes : List ℕ) → IfSome (double_kind b bytes) (λ k. Closes bytes 1)
double_closes b bytes =
    eitherK bytes (b == 124 && begins_with 124 bytes) _ _ (second_closes (b == 124) 124 bytes (omega arith)) (
    eitherK bytes (b == 60 && begins_with 60 bytes) _ _ (second_closes (b == 60) 60 bytes (omega arith)) (
    eitherK bytes (b == 62 && begins_with 62 bytes) _ _ (second_closes (b == 62) 62 bytes (omega arith)) (
    eitherK bytes (b == 60 && begins_with 61 bytes) _ _ (second_closes (b == 60) 61 bytes (omega arith)) (
    eitherK bytes (b == 62 && begins_with 61 bytes) _ _ (second_closes (b == 62) 61 bytes (omega arith)) (
    eitherK bytes (b == 61 && begins_with 61 bytes) _ _ (second_closes (b == 61) 61 bytes (omega arith)) (
    eitherK bytes (b == 60 && begins_with 62 bytes) _ _ (second_closes (b == 60) 62 bytes (omega arith)) (
    eitherK bytes (b == 33 && begins_with 61 bytes) _ _ (second_closes (b == 33) 61 bytes (omega arith)) tt)))))))

sign_fits : (b : ℕ) (bytes : List ℕ) (o : Option TokenKind) (k : TokenKind) → b < 128 → IfSome o (λ k. Closes bytes 1) → FitsPiece (b ∷ bytes) (sign_of o k)
sign_fits b bytes None k lt h = fits_closed (b ∷ bytes) 1 (omega arith, omega arith, lt)
sign_fits b bytes (Some two) k lt h = fits_closed (b ∷ bytes) 2 (closes_behind 1 (b ∷ bytes) 1 h)

-- ---- each piece

pub piece_fits : (b : ℕ) (bytes : List ℕ) → FitsPiece (b ∷ bytes) (piece b bytes)
piece_fits b bytes =
    let xs = b ∷ bytes in
    either xs (is_space b) _ _ (λ h. fits_closed xs 1 (omega arith, omega arith, space_low b h)) (λ s.
    either xs (b == 45 && begins_with 45 bytes) _ _ (λ h. fits_stopped xs (suc (line_width bytes)) (omega arith) (line_stops b bytes)) (λ _.
    either xs (b == 47 && begins_with 42 bytes) _ _ (λ h. comment_fits b bytes (second_closes (b == 47) 42 bytes (omega arith) h).1) (λ _.
    either xs (b == 39) _ _ (λ h. closed_fits b bytes _ (up_to_quote 39 bytes) (quote_closes 39 bytes (omega arith))) (λ _.
    either xs (b == 34) _ _ (λ h. closed_fits b bytes _ (up_to_quote 34 bytes) (quote_closes 34 bytes (omega arith))) (λ _.
    either xs (b == 96) _ _ (λ h. closed_fits b bytes _ (up_to_quote 96 bytes) (quote_closes 96 bytes (omega arith))) (λ _.
    either xs (b == 91) _ _ (λ h. closed_fits b bytes _ (up_to 93 bytes) (up_to_closes 93 bytes (omega arith))) (λ _.
    either xs (is_x b && begins_with 39 bytes) _ _ (λ h. blob_fits b bytes (up_to 39 (drop 1 bytes)) (second_closes (is_x b) 39 bytes (omega arith) h).1 (up_to_closes 39 (drop 1 bytes) (omega arith))) (λ _.
    either xs (begins_word b) _ _ (λ h. fits_stopped xs (word_width xs) (run_some is_word_byte b bytes (begins_word_byte b h)) (run_stops is_word_byte word_low xs)) (λ w.
    either xs (is_ascii_digit b) _ _ (λ h. number_piece_fits b bytes (hex_digits xs) h (hex_within xs)) (λ _.
    either xs (b == 63) _ _ (λ h. parameter_fits b bytes (take_while is_ascii_digit bytes) (begins_low b w) refl) (λ _.
    subst (FitsPiece xs) (sym (sign_is b bytes)) (sign_fits b bytes (double_kind b bytes) (single_kind b) (begins_low b w) (double_closes b bytes)))))))))))))
  where
    line_stops : (b : ℕ) (bytes : List ℕ) → Stops (b ∷ bytes) (suc (line_width bytes))
    line_stops b bytes = let P : ℕ → Type 0 = Stops (b ∷ bytes) in subst P (omega arith) (stops_behind 1 (b ∷ bytes) (line_width bytes) (omega arith) (run_stops (λ b. not (b == 10)) line_low bytes))
