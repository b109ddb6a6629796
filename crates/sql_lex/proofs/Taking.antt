-- What is read at the front of a text stays as it is when the text is cut behind it.
use Rattle.std.proofs.Common.{◌≡◌, ℕ, suc, zero, ◌+◌, ◌-◌, ◌≤◌, Bool, true, false, cond, not, ◌&&◌, ◌||◌, ◌==◌, List, [], ◌∷◌, length, take, drop, Option, Some, None, option_map, if◌then◌else◌, refl, sym, ap, ◌∙◌, arith}
use Rattle.std.specs.Prelude.{nat_eq, nat_le}
use Rattle.std.specs.Char.{is_ascii_digit, is_ascii_hexdigit}
use Rattle.std.specs.List.{take_while}
use Rattle.std.proofs.lemmas.Bool.Decides.{nat_tests}
use Rattle.std.proofs.lemmas.List.{drop-take, nil_from_length, take-take, take_all}
use Rattle.std.proofs.lemmas.List.Sums.{take_while-cons}
use Rattle.sql_tree.specs.declared.token.TokenKind.{TokenKind}
use Rattle.sql_tree.specs.declared.token.TokenKind.TheVariants as kind
use Rattle.sql_lex.specs.declared.piece.Piece.{Piece}
use Rattle.sql_lex.specs.declared.piece.Piece.TheVariants.{Blank, Lexeme}
use Rattle.sql_lex.specs.Pieces.{begins_with, begins_word, blob_kind, blob_up_to, closed, comment_width, decimal_width, digits_width, exponent_width, fraction_width, hex_digits, is_space, is_word_byte, is_x, number_by_digits, number_of_width, number_piece, parameter_piece, piece, pointed_width, sign_piece, sign_width, up_to, up_to_quote, with_digits, without_zeros, word_kind, word_width}
use Rattle.sql_lex.specs.Tokens.{width_of}
use Rattle.sql_lex.proofs.Appending.{hex_digit_word, number_width, parameter_width, run_shorter}
use Rattle.sql_lex.proofs.Cuts.{run_some}

false_true : {X : Type 0} → false ≡ true → X
false_true e = absurd (cc)

-- ---- runs of bytes

run_taken : (p : ℕ → Bool) (n : ℕ) (xs : List ℕ) → length (take_while p xs) ≤ n → take_while p (take n xs) ≡ take_while p xs
run_taken p n [] le = ap (take_while p) (take_all n [] (omega arith))
run_taken p n (x ∷ xs) le = by n (p x) refl (rw (take_while-cons p x xs) at le) (λ m. run_taken p m xs)
  where
    by : (n : ℕ) (t : Bool) → p x ≡ t → length (cond t (x ∷ take_while p xs) []) ≤ n → ((m : ℕ) → length (take_while p xs) ≤ m → take_while p (take m xs) ≡ take_while p xs) → take_while p (take n (x ∷ xs)) ≡ take_while p (x ∷ xs)
    by zero true e le h = absurd (omega arith)
    by (suc n) true e le h =
        take_while-cons p x (take n xs)
        ∙ ap (λ ys. cond (p x) (x ∷ ys) []) (h n (omega arith))
        ∙ sym (take_while-cons p x xs)
    by zero false e le h = sym (take_while-cons p x xs ∙ ap (λ t. cond t (x ∷ take_while p xs) []) e)
    by (suc n) false e le h =
        take_while-cons p x (take n xs)
        ∙ ap (λ t. cond t (x ∷ take_while p (take n xs)) []) e
        ∙ sym (take_while-cons p x xs ∙ ap (λ t. cond t (x ∷ take_while p xs) []) e)

-- what stands behind so many bytes, where more are left
behind_taken : (k n : ℕ) (xs : List ℕ) → k ≤ n → drop k (take n xs) ≡ take (n - k) (drop k xs)
behind_taken k n xs le = let e : n ≡ k + (n - k) = omega arith in ap (λ m. drop k (take m xs)) e ∙ drop-take k (n - k) xs

run_behind_taken : (p : ℕ → Bool) (k n : ℕ) (xs : List ℕ) → k + length (take_while p (drop k xs)) ≤ n → take_while p (drop k (take n xs)) ≡ take_while p (drop k xs)
run_behind_taken p k n xs le = ap (take_while p) (behind_taken k n xs (omega arith)) ∙ run_taken p (n - k) (drop k xs) (omega arith)

-- ---- the next byte

begins_taken : (c n : ℕ) (bytes : List ℕ) → 1 ≤ n → begins_with c (take n bytes) ≡ begins_with c bytes
begins_taken c n [] le = ap (begins_with c) (take_all n [] (omega arith))
begins_taken c zero (b ∷ bytes) le = absurd (omega arith)
begins_taken c (suc n) (b ∷ bytes) le = refl

-- where the text does not go on so, it does not when it is cut
not_begun : (s : Bool) (c n : ℕ) (bytes : List ℕ) → (s && begins_with c bytes) ≡ false → (s && begins_with c (take n bytes)) ≡ false
not_begun false c n bytes e = refl
not_begun true c zero bytes e = refl
not_begun true c (suc n) bytes e = begins_taken c (suc n) bytes (omega arith) ∙ e

both-second : (a b : Bool) → (a && b) ≡ true → b ≡ true
both-second true b h = h
both-second false b h = false_true h

-- ---- comments

line_some : (bytes : List ℕ) → begins_with 45 bytes ≡ true → 1 ≤ length (take_while (λ b. not (b == 10)) bytes)
line_some [] e = false_true e
line_some (b ∷ bytes) e = let other : not (b == 10) ≡ true = grind (arith, nat_tests) in run_some (λ b. not (b == 10)) b bytes other

comment_some : (b : ℕ) (bytes : List ℕ) → 1 ≤ comment_width (b ∷ bytes)
comment_some b [] = omega arith
comment_some b (c ∷ bytes) = by (b == 42 && c == 47)
  where
    by : (t : Bool) → 1 ≤ cond t 2 (suc (comment_width (c ∷ bytes)))
    by true = omega arith
    by false = omega arith

comment_taken : (n : ℕ) (xs : List ℕ) → comment_width xs ≤ n → comment_width (take n xs) ≡ comment_width xs
comment_taken n [] le = ap comment_width (take_all n [] (omega arith))
comment_taken n (b ∷ []) le = ap comment_width (take_all n (b ∷ []) (omega arith))
comment_taken zero (b ∷ c ∷ xs) le = absurd (omega (arith, comment_some b (c ∷ xs), le))
comment_taken (suc zero) (b ∷ c ∷ xs) le = absurd (by (b == 42 && c == 47) le)
  where
    by : (t : Bool) → cond t 2 (suc (comment_width (c ∷ xs))) ≤ 1 → ⊥
    by true le = omega arith
    by false le = omega (arith, comment_some c xs, le)
comment_taken (suc (suc n)) (b ∷ c ∷ xs) le = by (b == 42 && c == 47) le (comment_taken (suc n) (c ∷ xs))
  where
    by : (t : Bool) → cond t 2 (suc (comment_width (c ∷ xs))) ≤ suc (suc n) → (comment_width (c ∷ xs) ≤ suc n → comment_width (c ∷ take n xs) ≡ comment_width (c ∷ xs)) → cond t 2 (suc (comment_width (c ∷ take n xs))) ≡ cond t 2 (suc (comment_width (c ∷ xs)))
    by true le h = refl
    by false le h = ap suc (h (omega arith))

-- ---- quotes

-- there is one, and it ends within so many bytes
abbrev Within : ℕ → Option ℕ → Type 0
Within n None = ⊥
Within n (Some w) = w ≤ n

none_within : (o : Option ℕ) → Within 0 (option_map suc o) → ⊥
none_within None h = h
none_within (Some w) h = omega (arith, h)

one_less : (n : ℕ) (o : Option ℕ) → Within (suc n) (option_map suc o) → Within n o
one_less n None h = h
one_less n (Some w) h = omega (arith, h)

none_in_one : (o : Option ℕ) → Within 1 (option_map (λ n. suc (suc n)) o) → ⊥
none_in_one None h = h
none_in_one (Some w) h = omega (arith, h)

two_less : (n : ℕ) (o : Option ℕ) → Within (suc (suc n)) (option_map (λ n. suc (suc n)) o) → Within n o
two_less n None h = h
two_less n (Some w) h = omega (arith, h)

up_to_taken : (q n : ℕ) (xs : List ℕ) → Within n (up_to q xs) → up_to q (take n xs) ≡ up_to q xs
up_to_taken q n [] h = absurd h
up_to_taken q zero (b ∷ bytes) h = absurd (by (b == q) h)
  where
    by : (t : Bool) → Within 0 (cond t (Some 1) (option_map suc (up_to q bytes))) → ⊥
    by true h = omega (arith, h)
    by false h = none_within (up_to q bytes) h
up_to_taken q (suc n) (b ∷ bytes) h = by (b == q) h (up_to_taken q n bytes)
  where
    by : (t : Bool) → Within (suc n) (cond t (Some 1) (option_map suc (up_to q bytes))) → (Within n (up_to q bytes) → up_to q (take n bytes) ≡ up_to q bytes) → cond t (Some 1) (option_map suc (up_to q (take n bytes))) ≡ cond t (Some 1) (option_map suc (up_to q bytes))
    by true h f = refl
    by false h f = ap (option_map suc) (f (one_less n (up_to q bytes) h))

quote_some : (q : ℕ) (xs : List ℕ) → Within 0 (up_to_quote q xs) → ⊥
quote_some q [] h = h
quote_some q (b ∷ []) h = by (b == q) h
  where
    by : (t : Bool) → Within 0 (cond t (Some 1) None) → ⊥
    by true h = omega (arith, h)
    by false h = h
quote_some q (b ∷ c ∷ bytes) h = by (not (b == q)) (c == q) h
  where
    by : (s t : Bool) → Within 0 (cond s (option_map suc (up_to_quote q (c ∷ bytes))) (cond t (option_map (λ n. suc (suc n)) (up_to_quote q bytes)) (Some 1))) → ⊥
    by true t h = none_within (up_to_quote q (c ∷ bytes)) h
    by false true h = two (up_to_quote q bytes) h
      where
        two : (o : Option ℕ) → Within 0 (option_map (λ n. suc (suc n)) o) → ⊥
        two None h = h
        two (Some w) h = omega (arith, h)
    by false false h = omega (arith, h)

quote_taken : (q n : ℕ) (xs : List ℕ) → Within n (up_to_quote q xs) → up_to_quote q (take n xs) ≡ up_to_quote q xs
quote_taken q n [] h = absurd h
quote_taken q zero (b ∷ bytes) h = absurd (quote_some q (b ∷ bytes) h)
quote_taken q (suc n) (b ∷ []) h = ap (up_to_quote q) (take_all (suc n) (b ∷ []) (omega arith))
quote_taken q (suc zero) (b ∷ c ∷ bytes) h = by (b == q) (c == q) h
  where
    by : (s t : Bool) → Within 1 (cond (not s) (option_map suc (up_to_quote q (c ∷ bytes))) (cond t (option_map (λ n. suc (suc n)) (up_to_quote q bytes)) (Some 1))) → cond s (Some 1) None ≡ cond (not s) (option_map suc (up_to_quote q (c ∷ bytes))) (cond t (option_map (λ n. suc (suc n)) (up_to_quote q bytes)) (Some 1))
    by false t h = absurd (quote_some q (c ∷ bytes) (one_less 0 (up_to_quote q (c ∷ bytes)) h))
    by true true h = absurd (none_in_one (up_to_quote q bytes) h)
    by true false h = refl
quote_taken q (suc (suc n)) (b ∷ c ∷ bytes) h = by (not (b == q)) (c == q) h (quote_taken q (suc n) (c ∷ bytes)) (quote_taken q n bytes)
  where
    by : (s t : Bool) → Within (suc (suc n)) (cond s (option_map suc (up_to_quote q (c ∷ bytes))) (cond t (option_map (λ n. suc (suc n)) (up_to_quote q bytes)) (Some 1)))
        → (Within (suc n) (up_to_quote q (c ∷ bytes)) → up_to_quote q (c ∷ take n bytes) ≡ up_to_quote q (c ∷ bytes))
        → (Within n (up_to_quote q bytes) → up_to_quote q (take n bytes) ≡ up_to_quote q bytes)
        → cond s (option_map suc (up_to_quote q (c ∷ take n bytes))) (cond t (option_map (λ n. suc (suc n)) (up_to_quote q (take n bytes))) (Some 1)) ≡ cond s (option_map suc (up_to_quote q (c ∷ bytes))) (cond t (option_map (λ n. suc (suc n)) (up_to_quote q bytes)) (Some 1))
    by true t h f g = ap (option_map suc) (f (one_less (suc n) (up_to_quote q (c ∷ bytes)) h))
    by false true h f g = ap (option_map (λ n. suc (suc n))) (g (two_less n (up_to_quote q bytes) h))
    by false false h f g = refl

closed_taken : (k : TokenKind) (n : ℕ) (o : Option ℕ) (reach : List ℕ → Option ℕ) (bytes : List ℕ) → reach bytes ≡ o → (Within n o → reach (take n bytes) ≡ o) → width_of (closed k 1 o bytes) ≤ suc n → closed k 1 (reach (take n bytes)) (take n bytes) ≡ closed k 1 o bytes
closed_taken k n None reach bytes e h le =
    let all : take n bytes ≡ bytes = take_all n bytes (omega arith) in
    ap (λ ys. closed k 1 (reach ys) ys) all ∙ ap (λ o. closed k 1 o bytes) e
closed_taken k n (Some w) reach bytes e h le = ap (λ o. closed k 1 o (take n bytes)) (h (omega arith))

blob_taken : (n : ℕ) (o : Option ℕ) (cs : List ℕ) → up_to 39 cs ≡ o → (Within n o → up_to 39 (take n cs) ≡ o) → width_of (blob_up_to o cs) ≤ suc (suc n) → blob_up_to (up_to 39 (take n cs)) (take n cs) ≡ blob_up_to o cs
blob_taken n None cs e h le =
    let all : take n cs ≡ cs = take_all n cs (omega arith) in
    ap (λ ys. blob_up_to (up_to 39 ys) ys) all ∙ ap (λ o. blob_up_to o cs) e
blob_taken n (Some w) cs e h le =
    let less : w - 1 ≤ n = omega arith in
    ap (λ o. blob_up_to o (take n cs)) (h (omega arith)) ∙ ap (λ ds. Lexeme (blob_kind ds) (2 + w)) (take-take (w - 1) n cs less)

-- ---- numbers

width_taken : (w n : ℕ) (xs : List ℕ) → w + word_width (drop w xs) ≤ n → number_of_width w (take n xs) ≡ number_of_width w xs
width_taken w n xs le =
    ap (λ ds. if nat_eq (length ds) 0 then Lexeme kind.Number w else Lexeme kind.Illegal (w + length ds)) (run_behind_taken is_word_byte w n xs le)

digits_taken : (n : ℕ) (xs : List ℕ) → digits_width xs ≤ n → digits_width (take n xs) ≡ digits_width xs
digits_taken n xs le = ap length (run_taken is_ascii_digit n xs le)

fraction_taken : (n : ℕ) (xs : List ℕ) → fraction_width xs ≤ n → fraction_width (take n xs) ≡ fraction_width xs
fraction_taken n [] le = ap fraction_width (take_all n [] (omega arith))
fraction_taken zero (b ∷ bytes) le = omega arith
fraction_taken (suc n) (b ∷ bytes) le = by (b == 46) le
  where
    by : (t : Bool) → cond t (suc (digits_width bytes)) 0 ≤ suc n → cond t (suc (digits_width (take n bytes))) 0 ≡ cond t (suc (digits_width bytes)) 0
    by true le = ap suc (digits_taken n bytes (omega arith))
    by false le = refl

pointed_taken : (n : ℕ) (xs : List ℕ) → pointed_width xs ≤ n → pointed_width (take n xs) ≡ pointed_width xs
pointed_taken n xs le =
    let d = digits_width xs in
    ap (λ m. m + fraction_width (drop m (take n xs))) (digits_taken n xs (omega arith))
    ∙ ap (λ ys. d + fraction_width ys) (behind_taken d n xs (omega arith))
    ∙ ap (λ m. d + m) (fraction_taken (n - d) (drop d xs) (omega arith))

with_digits_taken : (k n : ℕ) (xs : List ℕ) → with_digits k xs ≤ k + n → with_digits k (take n xs) ≡ with_digits k xs
with_digits_taken k n xs le = ap (λ d. if nat_eq d 0 then 0 else k + d) (digits_taken n xs (by (nat_eq (digits_width xs) 0) refl le))
  where
    by : (t : Bool) → nat_eq (digits_width xs) 0 ≡ t → cond t 0 (k + digits_width xs) ≤ k + n → digits_width xs ≤ n
    by true e le = grind (arith, nat_tests)
    by false e le = omega arith

-- digits behind a byte take more than that byte
no_digits : (k : ℕ) (xs : List ℕ) → with_digits (suc k) xs ≤ 1 → with_digits (suc k) xs ≡ 0
no_digits k xs le = by (nat_eq (digits_width xs) 0) refl le
  where
    by : (t : Bool) → nat_eq (digits_width xs) 0 ≡ t → cond t 0 (suc k + digits_width xs) ≤ 1 → cond t 0 (suc k + digits_width xs) ≡ 0
    by true e le = refl
    by false e le = grind (arith, nat_tests)

-- behind `e`
exponent_behind : (n : ℕ) (bytes : List ℕ) → with_digits (suc (sign_width bytes)) (drop (sign_width bytes) bytes) ≤ suc n → with_digits (suc (sign_width (take n bytes))) (drop (sign_width (take n bytes)) (take n bytes)) ≡ with_digits (suc (sign_width bytes)) (drop (sign_width bytes) bytes)
exponent_behind n [] le = ap (λ ys. with_digits (suc (sign_width ys)) (drop (sign_width ys) ys)) (take_all n [] (omega arith))
exponent_behind zero (c ∷ cs) le = sym (no_digits (sign_width (c ∷ cs)) (drop (sign_width (c ∷ cs)) (c ∷ cs)) le)
exponent_behind (suc n) (c ∷ cs) le = by (c == 43 || c == 45) le
  where
    by : (t : Bool) → with_digits (suc (cond t 1 0)) (drop (cond t 1 0) (c ∷ cs)) ≤ suc (suc n) → with_digits (suc (cond t 1 0)) (drop (cond t 1 0) (c ∷ take n cs)) ≡ with_digits (suc (cond t 1 0)) (drop (cond t 1 0) (c ∷ cs))
    by true le = with_digits_taken 2 n cs (omega arith)
    by false le = with_digits_taken 1 (suc n) (c ∷ cs) (omega arith)

exponent_taken : (n : ℕ) (xs : List ℕ) → exponent_width xs ≤ n → exponent_width (take n xs) ≡ exponent_width xs
exponent_taken n [] le = ap exponent_width (take_all n [] (omega arith))
exponent_taken zero (b ∷ bytes) le = omega arith
exponent_taken (suc n) (b ∷ bytes) le = by (b == 101 || b == 69) le
  where
    by : (t : Bool) → cond t (with_digits (suc (sign_width bytes)) (drop (sign_width bytes) bytes)) 0 ≤ suc n → cond t (with_digits (suc (sign_width (take n bytes))) (drop (sign_width (take n bytes)) (take n bytes))) 0 ≡ cond t (with_digits (suc (sign_width bytes)) (drop (sign_width bytes) bytes)) 0
    by true le = exponent_behind n bytes le
    by false le = refl

decimal_taken : (n : ℕ) (xs : List ℕ) → decimal_width xs ≤ n → decimal_width (take n xs) ≡ decimal_width xs
decimal_taken n xs le =
    let p = pointed_width xs in
    ap (λ m. m + exponent_width (drop m (take n xs))) (pointed_taken n xs (omega arith))
    ∙ ap (λ ys. p + exponent_width ys) (behind_taken p n xs (omega arith))
    ∙ ap (λ m. p + m) (exponent_taken (n - p) (drop p xs) (omega arith))

by_digits_taken : (n : ℕ) (ds xs : List ℕ) → width_of (number_by_digits ds xs) ≤ n → number_by_digits ds (take n xs) ≡ number_by_digits ds xs
by_digits_taken n [] xs le =
    let w = decimal_width xs in
    let whole : w + word_width (drop w xs) ≤ n = omega (arith, number_width w xs, le) in
    ap (λ m. number_of_width m (take n xs)) (decimal_taken n xs (omega arith)) ∙ width_taken w n xs whole
by_digits_taken n (d ∷ ds) xs le = by (nat_le (length (without_zeros (d ∷ ds))) 16) le
  where
    by : (t : Bool) → width_of (cond t (number_of_width (2 + length (d ∷ ds)) xs) (Lexeme kind.Illegal (2 + word_width (drop 2 xs)))) ≤ n → cond t (number_of_width (2 + length (d ∷ ds)) (take n xs)) (Lexeme kind.Illegal (2 + word_width (drop 2 (take n xs)))) ≡ cond t (number_of_width (2 + length (d ∷ ds)) xs) (Lexeme kind.Illegal (2 + word_width (drop 2 xs)))
    by true le = width_taken (2 + length (d ∷ ds)) n xs (omega (arith, number_width (2 + length (d ∷ ds)) xs, le))
    by false le = ap (λ ys. Lexeme kind.Illegal (2 + length ys)) (run_behind_taken is_word_byte 2 n xs (omega arith))

-- the hexadecimal digits stand within the number
hex_width : (n b c : ℕ) (cs ds : List ℕ) → ds ≡ take_while is_ascii_hexdigit cs → width_of (number_by_digits ds (b ∷ c ∷ cs)) ≤ suc n → length ds ≤ n - 1
hex_width n b c cs [] e le = omega arith
hex_width n b c cs (d ∷ ds) e le = by (nat_le (length (without_zeros (d ∷ ds))) 16) le
  where
    shorter : length (d ∷ ds) ≤ word_width cs
    shorter = omega (arith, ap length e, run_shorter is_ascii_hexdigit is_word_byte hex_digit_word cs)

    by : (t : Bool) → width_of (cond t (number_of_width (2 + length (d ∷ ds)) (b ∷ c ∷ cs)) (Lexeme kind.Illegal (2 + word_width cs))) ≤ suc n → length (d ∷ ds) ≤ n - 1
    by true le = omega (arith, number_width (2 + length (d ∷ ds)) (b ∷ c ∷ cs), le)
    by false le = omega (arith, shorter, le)

hex_taken : (n b : ℕ) (bytes : List ℕ) → width_of (number_piece (b ∷ bytes)) ≤ suc n → hex_digits (b ∷ take n bytes) ≡ hex_digits (b ∷ bytes)
hex_taken n b [] le = ap (λ ys. hex_digits (b ∷ ys)) (take_all n [] (omega arith))
hex_taken zero b (c ∷ cs) le = sym (by (b == 48 && is_x c) le)
  where
    by : (t : Bool) → width_of (number_by_digits (cond t (take_while is_ascii_hexdigit cs) []) (b ∷ c ∷ cs)) ≤ 1 → cond t (take_while is_ascii_hexdigit cs) [] ≡ []
    by true le = nil_from_length (take_while is_ascii_hexdigit cs) (omega (arith, hex_width 0 b c cs (take_while is_ascii_hexdigit cs) refl le))
    by false le = refl
hex_taken (suc n) b (c ∷ cs) le = by (b == 48 && is_x c) le
  where
    by : (t : Bool) → width_of (number_by_digits (cond t (take_while is_ascii_hexdigit cs) []) (b ∷ c ∷ cs)) ≤ suc (suc n) → cond t (take_while is_ascii_hexdigit (take n cs)) [] ≡ cond t (take_while is_ascii_hexdigit cs) []
    by true le = run_taken is_ascii_hexdigit n cs (omega (arith, hex_width (suc n) b c cs (take_while is_ascii_hexdigit cs) refl le))
    by false le = refl

number_taken : (n b : ℕ) (bytes : List ℕ) → width_of (number_piece (b ∷ bytes)) ≤ suc n → number_piece (b ∷ take n bytes) ≡ number_piece (b ∷ bytes)
number_taken n b bytes le =
    ap (λ ds. number_by_digits ds (b ∷ take n bytes)) (hex_taken n b bytes le)
    ∙ by_digits_taken (suc n) (hex_digits (b ∷ bytes)) (b ∷ bytes) le

-- ---- signs

-- one test more in front, of the byte and of the next one
either_sign : (b c d n : ℕ) (bytes : List ℕ) (k : TokenKind) (x y : Piece) → (width_of x ≤ suc n → y ≡ x) → width_of (cond (b == c && begins_with d bytes) (Lexeme k 2) x) ≤ suc n → cond (b == c && begins_with d (take n bytes)) (Lexeme k 2) y ≡ cond (b == c && begins_with d bytes) (Lexeme k 2) x
either_sign b c d n bytes k x y h le = by (b == c) (begins_with d bytes) refl le
  where
    by : (s t : Bool) → begins_with d bytes ≡ t → width_of (cond (s && t) (Lexeme k 2) x) ≤ suc n → cond (s && begins_with d (take n bytes)) (Lexeme k 2) y ≡ cond (s && t) (Lexeme k 2) x
    by false t e le = h le
    by true true e le = ap (λ t. cond t (Lexeme k 2) y) (begins_taken d n bytes (omega arith) ∙ e)
    by true false e le = ap (λ t. cond t (Lexeme k 2) y) (not_begun true d n bytes e) ∙ h le

sign_taken : (n b : ℕ) (bytes : List ℕ) → width_of (sign_piece b bytes) ≤ suc n → sign_piece b (take n bytes) ≡ sign_piece b bytes
sign_taken n b bytes =
    either_sign b 124 124 n bytes _ _ _ (either_sign b 60 60 n bytes _ _ _ (either_sign b 62 62 n bytes _ _ _ (
    either_sign b 60 61 n bytes _ _ _ (either_sign b 62 61 n bytes _ _ _ (either_sign b 61 61 n bytes _ _ _ (
    either_sign b 60 62 n bytes _ _ _ (either_sign b 33 61 n bytes _ _ _ (λ le. refl))))))))

-- ---- each piece

-- what the first test that passes gives: a test that fails goes on failing, and one that passes goes on so where its piece fits
first_taken : (n : ℕ) (t u : Bool) (x y x' y' : Piece) → (t ≡ false → u ≡ false) → (t ≡ true → width_of x ≤ suc n → (u ≡ true) × (x' ≡ x)) → (width_of y ≤ suc n → y' ≡ y) → width_of (cond t x y) ≤ suc n → cond u x' y' ≡ cond t x y
first_taken n true u x y x' y' fails f g le = let same = f refl le in ap (λ t. cond t x' y') same.0 ∙ same.1
first_taken n false u x y x' y' fails f g le = ap (λ t. cond t x' y') (fails refl) ∙ g le

-- the same where the test is one of the first byte alone
by_byte : (n : ℕ) (t : Bool) (x y x' y' : Piece) → (width_of x ≤ suc n → x' ≡ x) → (width_of y ≤ suc n → y' ≡ y) → width_of (cond t x y) ≤ suc n → cond t x' y' ≡ cond t x y
by_byte n true x y x' y' f g le = f le
by_byte n false x y x' y' f g le = g le

blob_of_bytes : (n : ℕ) (b : ℕ) (bytes : List ℕ) → (is_x b && begins_with 39 bytes) ≡ true → width_of (blob_up_to (up_to 39 (drop 1 bytes)) (drop 1 bytes)) ≤ suc n
    → ((is_x b && begins_with 39 (take n bytes)) ≡ true) × (blob_up_to (up_to 39 (drop 1 (take n bytes))) (drop 1 (take n bytes)) ≡ blob_up_to (up_to 39 (drop 1 bytes)) (drop 1 bytes))
blob_of_bytes n b [] e le = false_true (both-second (is_x b) false e)
blob_of_bytes zero b (c ∷ cs) e le = absurd (wide (up_to 39 cs) le)
  where
    wide : (o : Option ℕ) → width_of (blob_up_to o cs) ≤ 1 → ⊥
    wide None le = omega arith
    wide (Some w) le = omega arith
blob_of_bytes (suc n) b (c ∷ cs) e le = (e, blob_taken n (up_to 39 cs) cs refl (up_to_taken 39 n cs) le)

-- a comment up to the end of its line
line_of_bytes : (n b : ℕ) (bytes : List ℕ) → (b == 45 && begins_with 45 bytes) ≡ true → suc (length (take_while (λ b. not (b == 10)) bytes)) ≤ suc n
    → ((b == 45 && begins_with 45 (take n bytes)) ≡ true) × (Blank (suc (length (take_while (λ b. not (b == 10)) (take n bytes)))) ≡ Blank (suc (length (take_while (λ b. not (b == 10)) bytes))))
line_of_bytes n b bytes e le =
    let some = line_some bytes (both-second (b == 45) (begins_with 45 bytes) e) in (
      ap (λ t. b == 45 && t) (begins_taken 45 n bytes (omega arith)) ∙ e,
      ap (λ ys. Blank (suc (length ys))) (run_taken (λ b. not (b == 10)) n bytes (omega arith)),
    )

comment_of_bytes : (n b : ℕ) (bytes : List ℕ) → (b == 47 && begins_with 42 bytes) ≡ true → 2 + comment_width (drop 1 bytes) ≤ suc n
    → ((b == 47 && begins_with 42 (take n bytes)) ≡ true) × (Blank (2 + comment_width (drop 1 (take n bytes))) ≡ Blank (2 + comment_width (drop 1 bytes)))
comment_of_bytes n b bytes e le = (
  ap (λ t. b == 47 && t) (begins_taken 42 n bytes (omega arith)) ∙ e,
  ap (λ w. Blank (2 + w)) (ap comment_width (behind_taken 1 n bytes (omega arith)) ∙ comment_taken (n - 1) (drop 1 bytes) (omega arith)),
)

pub piece_taken : (n b : ℕ) (bytes : List ℕ) → width_of (piece b bytes) ≤ suc n → piece b (take n bytes) ≡ piece b bytes
piece_taken n b bytes =
    by_byte n (is_space b) _ _ _ _ (λ _. refl) (
    first_taken n (b == 45 && begins_with 45 bytes) (b == 45 && begins_with 45 (take n bytes)) _ _ _ _ (not_begun (b == 45) 45 n bytes) (line_of_bytes n b bytes) (
    first_taken n (b == 47 && begins_with 42 bytes) (b == 47 && begins_with 42 (take n bytes)) _ _ _ _ (not_begun (b == 47) 42 n bytes) (comment_of_bytes n b bytes) (
    by_byte n (b == 39) _ _ _ _ (closed_taken kind.Text n (up_to_quote 39 bytes) (up_to_quote 39) bytes refl (quote_taken 39 n bytes)) (
    by_byte n (b == 34) _ _ _ _ (closed_taken kind.QuotedName n (up_to_quote 34 bytes) (up_to_quote 34) bytes refl (quote_taken 34 n bytes)) (
    by_byte n (b == 96) _ _ _ _ (closed_taken kind.QuotedName n (up_to_quote 96 bytes) (up_to_quote 96) bytes refl (quote_taken 96 n bytes)) (
    by_byte n (b == 91) _ _ _ _ (closed_taken kind.QuotedName n (up_to 93 bytes) (up_to 93) bytes refl (up_to_taken 93 n bytes)) (
    first_taken n (is_x b && begins_with 39 bytes) (is_x b && begins_with 39 (take n bytes)) _ _ _ _ (not_begun (is_x b) 39 n bytes) (blob_of_bytes n b bytes) (
    by_byte n (begins_word b) _ _ _ _ (λ le. ap (λ ds. Lexeme (word_kind ds) (length ds)) (run_taken is_word_byte (suc n) (b ∷ bytes) le)) (
    by_byte n (is_ascii_digit b) _ _ _ _ (number_taken n b bytes) (
    by_byte n (b == 63) _ _ _ _ (λ le. ap parameter_piece (run_taken is_ascii_digit n bytes (omega (arith, parameter_width (take_while is_ascii_digit bytes), le)))) (
    sign_taken n b bytes)))))))))))
