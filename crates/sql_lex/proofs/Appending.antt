-- What is read at the front of a text stays as it is when bytes are appended, as soon as the text goes on behind it.
use Rattle.std.proofs.Common.{◌≡◌, ◌⊎◌, inl, inr, ℕ, suc, zero, ◌+◌, ◌-◌, ◌<◌, ◌≤◌, Bool, true, false, cond, not, ◌&&◌, ◌||◌, ◌==◌, List, [], ◌∷◌, ◌++◌, length, add_assoc, length-drop, get_or, drop, Option, Some, None, option_map, if◌then◌else◌, refl, sym, ap, ◌∙◌, subst, arith}
use Rattle.std.specs.Prelude.{nat_eq, nat_le}
use Rattle.std.specs.Char.{is_ascii_digit, is_ascii_hexdigit}
use Rattle.std.specs.List.{take_while}
use Rattle.std.specs.Str.Parse.{digits_value}
use Rattle.std.proofs.lemmas.Bool.Decides.{nat_tests}
use Rattle.std.proofs.lemmas.List.{drop-append-le, drop-drop, take-append-le, get_or-drop}
use Rattle.std.proofs.lemmas.List.Sums.{take_while-cons}
use Rattle.sql_tree.specs.declared.token.TokenKind.{TokenKind}
use Rattle.sql_tree.specs.declared.token.TokenKind.TheVariants as kind
use Rattle.sql_lex.specs.declared.piece.Piece.{Piece}
use Rattle.sql_lex.specs.declared.piece.Piece.TheVariants.{Blank, Lexeme, Parameter}
use Rattle.sql_lex.specs.Pieces.{begins_with, begins_word, blob_kind, blob_up_to, closed, comment_width, decimal_width, digits_width, exponent_width, fraction_width, hex_digits, is_parameter, is_space, is_word_byte, is_x, number_by_digits, number_of_width, number_piece, parameter_piece, piece, pointed_width, sign_width, up_to, up_to_quote, with_digits, without_zeros, word_kind, word_width}
use Rattle.sql_lex.specs.Tokens.{width_of}
use Rattle.sql_lex.proofs.Cuts.{decimal_some, piece_fits, pointed_within, run_some}

-- the text goes on behind so many bytes: with a `;`, or with two bytes at least
abbrev pub GoesOn : List ℕ → ℕ → Type 0
GoesOn xs w = (w < length xs) × ((get_or xs w 0 ≡ 59) ⊎ (suc w < length xs))

false_true : {X : Type 0} → false ≡ true → X
false_true e = absurd (cc)

-- ---- runs of bytes

pub run_stays : (p : ℕ → Bool) (xs more : List ℕ) → length (take_while p xs) < length xs → take_while p (xs ++ more) ≡ take_while p xs
run_stays p [] more lt = absurd (omega arith)
run_stays p (x ∷ xs) more lt =
    take_while-cons p x (xs ++ more)
    ∙ by (p x) (rw (take_while-cons p x xs) at lt) (run_stays p xs more)
    ∙ sym (take_while-cons p x xs)
  where
    by : (t : Bool) → length (cond t (x ∷ take_while p xs) []) < length (x ∷ xs) → (length (take_while p xs) < length xs → take_while p (xs ++ more) ≡ take_while p xs) → cond t (x ∷ take_while p (xs ++ more)) [] ≡ cond t (x ∷ take_while p xs) []
    by true lt h = ap (λ ys. x ∷ ys) (h (omega arith))
    by false lt h = refl

run_stays_behind : (p : ℕ → Bool) (n : ℕ) (xs more : List ℕ) → n + length (take_while p (drop n xs)) < length xs → take_while p (drop n (xs ++ more)) ≡ take_while p (drop n xs)
run_stays_behind p n xs more lt =
    ap (take_while p) (drop-append-le n xs more (omega arith))
    ∙ run_stays p (drop n xs) more (omega (arith, length-drop n xs))

-- what passes one test passes the other
pub run_shorter : (p q : ℕ → Bool) → ((b : ℕ) → p b ≡ true → q b ≡ true) → (xs : List ℕ) → length (take_while p xs) ≤ length (take_while q xs)
run_shorter p q both [] = omega arith
run_shorter p q both (x ∷ xs) = rw (take_while-cons p x xs, take_while-cons q x xs) (by (p x) (q x) (both x) (run_shorter p q both xs))
  where
    by : (s t : Bool) → (s ≡ true → t ≡ true) → length (take_while p xs) ≤ length (take_while q xs) → length (cond s (x ∷ take_while p xs) []) ≤ length (cond t (x ∷ take_while q xs) [])
    by true true f h = omega arith
    by true false f h = false_true (f refl)
    by false t f h = omega arith

pub comment_stays : (xs more : List ℕ) → comment_width xs < length xs → comment_width (xs ++ more) ≡ comment_width xs
comment_stays [] more lt = absurd (omega arith)
comment_stays (b ∷ []) more lt = absurd (omega arith)
comment_stays (b ∷ c ∷ xs) more lt = by (b == 42 && c == 47) lt (comment_stays (c ∷ xs) more)
  where
    by : (t : Bool) → cond t 2 (suc (comment_width (c ∷ xs))) < length (b ∷ c ∷ xs) → (comment_width (c ∷ xs) < length (c ∷ xs) → comment_width (c ∷ (xs ++ more)) ≡ comment_width (c ∷ xs)) → cond t 2 (suc (comment_width (c ∷ (xs ++ more)))) ≡ cond t 2 (suc (comment_width (c ∷ xs)))
    by true lt h = refl
    by false lt h = ap suc (h (omega arith))

-- ---- quotes

-- there is one, and it ends in front of so many bytes
abbrev Before : ℕ → Option ℕ → Type 0
Before n None = ⊥
Before n (Some w) = w < n

before_one : (n : ℕ) (o : Option ℕ) → Before (suc n) (option_map suc o) → Before n o
before_one n None h = h
before_one n (Some w) h = omega (arith, h)

before_two : (n : ℕ) (o : Option ℕ) → Before (suc (suc n)) (option_map (λ n. suc (suc n)) o) → Before n o
before_two n None h = h
before_two n (Some w) h = omega (arith, h)

up_to_stays : (q : ℕ) (xs more : List ℕ) → Before (length xs) (up_to q xs) → up_to q (xs ++ more) ≡ up_to q xs
up_to_stays q [] more h = absurd h
up_to_stays q (b ∷ bytes) more h = by (b == q) h (up_to_stays q bytes more)
  where
    by : (t : Bool) → Before (suc (length bytes)) (cond t (Some 1) (option_map suc (up_to q bytes))) → (Before (length bytes) (up_to q bytes) → up_to q (bytes ++ more) ≡ up_to q bytes) → cond t (Some 1) (option_map suc (up_to q (bytes ++ more))) ≡ cond t (Some 1) (option_map suc (up_to q bytes))
    by true h f = refl
    by false h f = ap (option_map suc) (f (before_one (length bytes) (up_to q bytes) h))

quote_stays : (q : ℕ) (xs more : List ℕ) → Before (length xs) (up_to_quote q xs) → up_to_quote q (xs ++ more) ≡ up_to_quote q xs
quote_stays q [] more h = absurd h
quote_stays q (b ∷ []) more h = absurd (by (b == q) h)
  where
    by : (t : Bool) → Before 1 (cond t (Some 1) None) → ⊥
    by true h = omega (arith, h)
    by false h = h
quote_stays q (b ∷ c ∷ bytes) more h = by (not (b == q)) (c == q) h (quote_stays q (c ∷ bytes) more) (quote_stays q bytes more)
  where
    by : (s t : Bool) → Before (suc (suc (length bytes))) (cond s (option_map suc (up_to_quote q (c ∷ bytes))) (cond t (option_map (λ n. suc (suc n)) (up_to_quote q bytes)) (Some 1)))
        → (Before (suc (length bytes)) (up_to_quote q (c ∷ bytes)) → up_to_quote q (c ∷ (bytes ++ more)) ≡ up_to_quote q (c ∷ bytes))
        → (Before (length bytes) (up_to_quote q bytes) → up_to_quote q (bytes ++ more) ≡ up_to_quote q bytes)
        → cond s (option_map suc (up_to_quote q (c ∷ (bytes ++ more)))) (cond t (option_map (λ n. suc (suc n)) (up_to_quote q (bytes ++ more))) (Some 1)) ≡ cond s (option_map suc (up_to_quote q (c ∷ bytes))) (cond t (option_map (λ n. suc (suc n)) (up_to_quote q bytes)) (Some 1))
    by true t h f g = ap (option_map suc) (f (before_one (suc (length bytes)) (up_to_quote q (c ∷ bytes)) h))
    by false true h f g = ap (option_map (λ n. suc (suc n))) (g (before_two (length bytes) (up_to_quote q bytes) h))
    by false false h f g = refl

closed_before : (k : TokenKind) (o : Option ℕ) (bytes : List ℕ) → width_of (closed k 1 o bytes) < suc (length bytes) → Before (length bytes) o
closed_before k None bytes lt = absurd (omega arith)
closed_before k (Some w) bytes lt = omega arith

closed_stays : (k : TokenKind) (o p : Option ℕ) (bytes more : List ℕ) → Before (length bytes) o → p ≡ o → closed k 1 p (bytes ++ more) ≡ closed k 1 o bytes
closed_stays k None p bytes more h e = absurd h
closed_stays k (Some w) p bytes more h e = ap (λ o. closed k 1 o (bytes ++ more)) e

blob_before : (o : Option ℕ) (bytes : List ℕ) → width_of (blob_up_to o bytes) < suc (suc (length bytes)) → Before (length bytes) o
blob_before None bytes lt = absurd (omega arith)
blob_before (Some w) bytes lt = omega arith

blob_stays : (o p : Option ℕ) (bytes more : List ℕ) → Before (length bytes) o → p ≡ o → blob_up_to p (bytes ++ more) ≡ blob_up_to o bytes
blob_stays None p bytes more h e = absurd h
blob_stays (Some w) p bytes more h e =
    let le : w - 1 ≤ length bytes = omega (arith, h) in
    ap (λ o. blob_up_to o (bytes ++ more)) e ∙ ap (λ ds. Lexeme (blob_kind ds) (2 + w)) (take-append-le (w - 1) bytes more le)

-- ---- numbers

pub number_width : (w : ℕ) (xs : List ℕ) → width_of (number_of_width w xs) ≡ w + word_width (drop w xs)
number_width w xs = by (nat_eq (word_width (drop w xs)) 0) refl
  where
    by : (t : Bool) → nat_eq (word_width (drop w xs)) 0 ≡ t → width_of (cond t (Lexeme kind.Number w) (Lexeme kind.Illegal (w + word_width (drop w xs)))) ≡ w + word_width (drop w xs)
    by true e = grind (arith, nat_tests)
    by false e = refl

width_stays : (w : ℕ) (xs more : List ℕ) → w + word_width (drop w xs) < length xs → number_of_width w (xs ++ more) ≡ number_of_width w xs
width_stays w xs more lt =
    ap (λ ds. if nat_eq (length ds) 0 then Lexeme kind.Number w else Lexeme kind.Illegal (w + length ds)) (run_stays_behind is_word_byte w xs more lt)

digits_stay : (xs more : List ℕ) → digits_width xs < length xs → digits_width (xs ++ more) ≡ digits_width xs
digits_stay xs more lt = ap length (run_stays is_ascii_digit xs more lt)

fraction_stays : (xs more : List ℕ) → fraction_width xs < length xs → fraction_width (xs ++ more) ≡ fraction_width xs
fraction_stays [] more lt = absurd (omega arith)
fraction_stays (b ∷ bytes) more lt = by (b == 46) lt
  where
    by : (t : Bool) → cond t (suc (digits_width bytes)) 0 < length (b ∷ bytes) → cond t (suc (digits_width (bytes ++ more))) 0 ≡ cond t (suc (digits_width bytes)) 0
    by true lt = ap suc (digits_stay bytes more (omega arith))
    by false lt = refl

pointed_stays : (xs more : List ℕ) → pointed_width xs < length xs → pointed_width (xs ++ more) ≡ pointed_width xs
pointed_stays xs more lt =
    let digits = digits_stay xs more (omega arith) in
    let le : digits_width xs ≤ length xs = omega arith in
    ap (λ n. n + fraction_width (drop n (xs ++ more))) digits
    ∙ ap (λ ys. digits_width xs + fraction_width ys) (drop-append-le (digits_width xs) xs more le)
    ∙ ap (λ n. digits_width xs + n) (fraction_stays (drop (digits_width xs) xs) more (omega (arith, length-drop (digits_width xs) xs)))

-- the digits of an exponent end in front of the end of the text
exponent_digits : (n : ℕ) (xs : List ℕ) → 1 ≤ length xs → with_digits n xs < n + length xs → digits_width xs < length xs
exponent_digits n xs one lt = by (nat_eq (digits_width xs) 0) refl lt
  where
    by : (t : Bool) → nat_eq (digits_width xs) 0 ≡ t → cond t 0 (n + digits_width xs) < n + length xs → digits_width xs < length xs
    by true e lt = grind (arith, nat_tests)
    by false e lt = omega arith

with_digits_stay : (n : ℕ) (xs more : List ℕ) → digits_width xs < length xs → with_digits n (xs ++ more) ≡ with_digits n xs
with_digits_stay n xs more lt = ap (λ d. if nat_eq d 0 then 0 else n + d) (digits_stay xs more lt)

exponent_byte : (b : ℕ) → (b == 101 || b == 69) ≡ true → is_word_byte b ≡ true
exponent_byte b h = grind (arith, nat_tests)

sign_byte : (c : ℕ) → (c == 43 || c == 45) ≡ true → c ≡ 59 → ⊥
sign_byte c h e = grind (arith, nat_tests)

behind_sign : (b c : ℕ) (cs : List ℕ) → (c == 43 || c == 45) ≡ true → GoesOn (b ∷ c ∷ cs) 1 → 1 ≤ length cs
behind_sign b c cs sign (lt, inl end) = absurd (sign_byte c sign end)
behind_sign b c cs sign (lt, inr more) = omega arith

-- `e` stands in front of a sign alone: it is a word of one byte
word_alone : (b c : ℕ) (cs : List ℕ) → (b == 101 || b == 69) ≡ true → (c == 43 || c == 45) ≡ true → word_width (b ∷ c ∷ cs) ≡ 1
word_alone b c cs e sign =
    let word : is_word_byte b ≡ true = exponent_byte b e in
    let none : is_word_byte c ≡ false = grind (arith, nat_tests) in
    ap length (take_while-cons is_word_byte b (c ∷ cs) ∙ ap (λ t. cond t (b ∷ take_while is_word_byte (c ∷ cs)) []) word ∙ ap (λ ys. b ∷ ys) (take_while-cons is_word_byte c cs ∙ ap (λ t. cond t (c ∷ take_while is_word_byte cs) []) none))

-- behind `e` and a sign
signed_stays : (b c : ℕ) (cs more : List ℕ) → (b == 101 || b == 69) ≡ true → (c == 43 || c == 45) ≡ true → GoesOn (b ∷ c ∷ cs) (with_digits 2 cs + word_width (drop (with_digits 2 cs) (b ∷ c ∷ cs))) → with_digits 2 (cs ++ more) ≡ with_digits 2 cs
signed_stays b c cs more e sign on = by (nat_eq (digits_width cs) 0) refl on
  where
    by : (t : Bool) → nat_eq (digits_width cs) 0 ≡ t → GoesOn (b ∷ c ∷ cs) (cond t 0 (2 + digits_width cs) + word_width (drop (cond t 0 (2 + digits_width cs)) (b ∷ c ∷ cs))) → with_digits 2 (cs ++ more) ≡ with_digits 2 cs
    by true none on =
        let one : 0 + word_width (b ∷ c ∷ cs) ≡ 1 = omega (arith, word_alone b c cs e sign) in
        let some : 1 ≤ length cs = behind_sign b c cs sign (subst (GoesOn (b ∷ c ∷ cs)) one on) in
        let zero_wide : digits_width cs ≡ 0 = grind (arith, nat_tests) in
        with_digits_stay 2 cs more (omega (arith, zero_wide, some))
    by false some on = with_digits_stay 2 cs more (omega (arith, on.0))

unsigned_stays : (b c : ℕ) (cs more : List ℕ) → with_digits 1 (c ∷ cs) < length (b ∷ c ∷ cs) → with_digits 1 (c ∷ (cs ++ more)) ≡ with_digits 1 (c ∷ cs)
unsigned_stays b c cs more lt = with_digits_stay 1 (c ∷ cs) more (exponent_digits 1 (c ∷ cs) (omega arith) (omega arith))

lone_exponent : (b : ℕ) → (b == 101 || b == 69) ≡ true → GoesOn (b ∷ []) (exponent_width (b ∷ []) + word_width (drop (exponent_width (b ∷ [])) (b ∷ []))) → ⊥
lone_exponent b e on =
    let none : exponent_width (b ∷ []) ≡ 0 = ap (λ t. cond t 0 0) e in
    let one : 1 ≤ word_width (b ∷ []) = run_some is_word_byte b [] (exponent_byte b e) in
    let lt : 0 + word_width (b ∷ []) < 1 = (subst (λ n. GoesOn (b ∷ []) (n + word_width (drop n (b ∷ [])))) none on).0 in
    omega (arith, one, lt)

exponent_stays : (xs more : List ℕ) → GoesOn xs (exponent_width xs + word_width (drop (exponent_width xs) xs)) → exponent_width (xs ++ more) ≡ exponent_width xs
exponent_stays [] more on = absurd (omega (arith, on.0))
exponent_stays (b ∷ []) more on = by (b == 101 || b == 69) refl
  where
    by : (t : Bool) → (b == 101 || b == 69) ≡ t → cond t (with_digits (suc (sign_width more)) (drop (sign_width more) more)) 0 ≡ cond t (with_digits 1 []) 0
    by true e = absurd (lone_exponent b e on)
    by false e = refl
exponent_stays (b ∷ c ∷ cs) more on = by (b == 101 || b == 69) refl (c == 43 || c == 45) refl on
  where
    by : (s : Bool) → (b == 101 || b == 69) ≡ s → (t : Bool) → (c == 43 || c == 45) ≡ t → GoesOn (b ∷ c ∷ cs) (cond s (with_digits (suc (cond t 1 0)) (drop (cond t 1 0) (c ∷ cs))) 0 + word_width (drop (cond s (with_digits (suc (cond t 1 0)) (drop (cond t 1 0) (c ∷ cs))) 0) (b ∷ c ∷ cs))) → cond s (with_digits (suc (cond t 1 0)) (drop (cond t 1 0) (c ∷ (cs ++ more)))) 0 ≡ cond s (with_digits (suc (cond t 1 0)) (drop (cond t 1 0) (c ∷ cs))) 0
    by true e true sign on = signed_stays b c cs more e sign on
    by true e false sign on = unsigned_stays b c cs more (omega (arith, on.0))
    by false e t sign on = refl

goes_on_behind : (xs : List ℕ) (n w : ℕ) → n ≤ length xs → GoesOn xs (n + w) → GoesOn (drop n xs) w
goes_on_behind xs n w le on = (omega (arith, on.0, length-drop n xs), by on.1)
  where
    by : (get_or xs (n + w) 0 ≡ 59) ⊎ (suc (n + w) < length xs) → (get_or (drop n xs) w 0 ≡ 59) ⊎ (suc w < length (drop n xs))
    by (inl end) = inl (get_or-drop n xs w 0 ∙ end)
    by (inr more) = inr (omega (arith, length-drop n xs))

decimal_stays : (xs more : List ℕ) → GoesOn xs (decimal_width xs + word_width (drop (decimal_width xs) xs)) → decimal_width (xs ++ more) ≡ decimal_width xs
decimal_stays xs more on =
    let p = pointed_width xs in
    let ys : List ℕ = drop p xs in
    let le : p ≤ length xs = pointed_within xs in
    let lt : p < length xs = omega (arith, on.0) in
    let same : p + (exponent_width ys + word_width (drop (exponent_width ys) ys)) ≡ decimal_width xs + word_width (drop (decimal_width xs) xs) =
    sym (add_assoc p (exponent_width ys) (word_width (drop (exponent_width ys) ys))) ∙ ap (λ zs. p + exponent_width ys + word_width zs) (drop-drop (exponent_width ys) p xs) in
    let behind : GoesOn ys (exponent_width ys + word_width (drop (exponent_width ys) ys)) = goes_on_behind xs p _ le (subst (GoesOn xs) (sym same) on) in
    ap (λ n. n + exponent_width (drop n (xs ++ more))) (pointed_stays xs more lt)
    ∙ ap (λ zs. p + exponent_width zs) (drop-append-le p xs more le)
    ∙ ap (λ n. p + n) (exponent_stays ys more behind)

decimal_number_stays : (xs more : List ℕ) → GoesOn xs (width_of (number_of_width (decimal_width xs) xs)) → number_of_width (decimal_width (xs ++ more)) (xs ++ more) ≡ number_of_width (decimal_width xs) xs
decimal_number_stays xs more on =
    let on_word : GoesOn xs (decimal_width xs + word_width (drop (decimal_width xs) xs)) = subst (GoesOn xs) (number_width (decimal_width xs) xs) on in
    ap (λ w. number_of_width w (xs ++ more)) (decimal_stays xs more on_word)
    ∙ width_stays (decimal_width xs) xs more on_word.0

by_digits_stays : (ds xs more : List ℕ) → GoesOn xs (width_of (number_by_digits ds xs)) → number_by_digits ds (xs ++ more) ≡ number_by_digits ds xs
by_digits_stays [] xs more on = decimal_number_stays xs more on
by_digits_stays (d ∷ ds) xs more on = by (nat_le (length (without_zeros (d ∷ ds))) 16) on
  where
    by : (t : Bool) → GoesOn xs (width_of (cond t (number_of_width (2 + length (d ∷ ds)) xs) (Lexeme kind.Illegal (2 + word_width (drop 2 xs))))) → cond t (number_of_width (2 + length (d ∷ ds)) (xs ++ more)) (Lexeme kind.Illegal (2 + word_width (drop 2 (xs ++ more)))) ≡ cond t (number_of_width (2 + length (d ∷ ds)) xs) (Lexeme kind.Illegal (2 + word_width (drop 2 xs)))
    by true on = width_stays (2 + length (d ∷ ds)) xs more (omega (arith, number_width (2 + length (d ∷ ds)) xs, on.0))
    by false on = ap (λ ys. Lexeme kind.Illegal (2 + length ys)) (run_stays_behind is_word_byte 2 xs more (omega (arith, on.0)))

pub hex_digit_word : (b : ℕ) → is_ascii_hexdigit b ≡ true → is_word_byte b ≡ true
hex_digit_word b h = grind (arith, nat_tests)

x_word : (b : ℕ) → is_x b ≡ true → is_word_byte b ≡ true
x_word b h = grind (arith, nat_tests)

-- `0x` alone is one piece
x_alone : (b c w : ℕ) → is_x c ≡ true → 1 ≤ w → w + word_width (drop w (b ∷ c ∷ [])) < 2 → ⊥
x_alone b c zero x one lt = omega arith
x_alone b c (suc zero) x one lt = omega (arith, run_some is_word_byte c [] (x_word c x), lt)
x_alone b c (suc (suc w)) x one lt = omega (arith, lt)

hex_in_front : (b c : ℕ) (cs ds : List ℕ) → is_ascii_digit b ≡ true → is_x c ≡ true → ds ≡ take_while is_ascii_hexdigit cs → width_of (number_by_digits ds (b ∷ c ∷ cs)) < length (b ∷ c ∷ cs) → length ds < length cs
hex_in_front b c [] [] digit x e lt =
    absurd (x_alone b c (decimal_width (b ∷ c ∷ [])) x (decimal_some b (c ∷ []) digit) (omega (arith, number_width (decimal_width (b ∷ c ∷ [])) (b ∷ c ∷ []), lt)))
hex_in_front b c (z ∷ zs) [] digit x e lt = omega arith
hex_in_front b c cs (d ∷ ds) digit x e lt = by (nat_le (length (without_zeros (d ∷ ds))) 16) lt
  where
    shorter : length (d ∷ ds) ≤ word_width cs
    shorter = omega (arith, ap length e, run_shorter is_ascii_hexdigit is_word_byte hex_digit_word cs)

    by : (t : Bool) → width_of (cond t (number_of_width (2 + length (d ∷ ds)) (b ∷ c ∷ cs)) (Lexeme kind.Illegal (2 + word_width cs))) < length (b ∷ c ∷ cs) → length (d ∷ ds) < length cs
    by true lt = omega (arith, number_width (2 + length (d ∷ ds)) (b ∷ c ∷ cs), lt)
    by false lt = omega (arith, shorter, lt)

hex_stays : (b c : ℕ) (cs more : List ℕ) → is_ascii_digit b ≡ true → width_of (number_piece (b ∷ c ∷ cs)) < length (b ∷ c ∷ cs) → hex_digits (b ∷ c ∷ (cs ++ more)) ≡ hex_digits (b ∷ c ∷ cs)
hex_stays b c cs more digit lt = by (b == 48) (is_x c) refl lt
  where
    by : (s t : Bool) → is_x c ≡ t → width_of (number_by_digits (cond (s && t) (take_while is_ascii_hexdigit cs) []) (b ∷ c ∷ cs)) < length (b ∷ c ∷ cs) → cond (s && t) (take_while is_ascii_hexdigit (cs ++ more)) [] ≡ cond (s && t) (take_while is_ascii_hexdigit cs) []
    by true true x lt = run_stays is_ascii_hexdigit cs more (hex_in_front b c cs (take_while is_ascii_hexdigit cs) digit x refl lt)
    by true false x lt = refl
    by false t x lt = refl

number_stays : (b c : ℕ) (cs more : List ℕ) → is_ascii_digit b ≡ true → GoesOn (b ∷ c ∷ cs) (width_of (number_piece (b ∷ c ∷ cs))) → number_piece (b ∷ c ∷ (cs ++ more)) ≡ number_piece (b ∷ c ∷ cs)
number_stays b c cs more digit on =
    ap (λ ds. number_by_digits ds (b ∷ c ∷ (cs ++ more))) (hex_stays b c cs more digit on.0)
    ∙ by_digits_stays (hex_digits (b ∷ c ∷ cs)) (b ∷ c ∷ cs) more on

-- ---- parameters

pub parameter_width : (ds : List ℕ) → width_of (parameter_piece ds) ≡ suc (length ds)
parameter_width [] = refl
parameter_width (d ∷ ds) = by (is_parameter (digits_value 10 (d ∷ ds)))
  where
    by : (t : Bool) → width_of (cond t (Parameter (Some (digits_value 10 (d ∷ ds))) (suc (length (d ∷ ds)))) (Lexeme kind.Illegal (suc (length (d ∷ ds))))) ≡ suc (length (d ∷ ds))
    by true = refl
    by false = refl

parameter_stays : (bytes more : List ℕ) → width_of (parameter_piece (take_while is_ascii_digit bytes)) < suc (length bytes) → parameter_piece (take_while is_ascii_digit (bytes ++ more)) ≡ parameter_piece (take_while is_ascii_digit bytes)
parameter_stays bytes more lt = ap parameter_piece (run_stays is_ascii_digit bytes more (omega (arith, parameter_width (take_while is_ascii_digit bytes), lt)))

-- ---- each piece

-- what the first test that passes gives
first_stays : (xs : List ℕ) (t : Bool) (x y x' y' : Piece) → (t ≡ true → GoesOn xs (width_of x) → x' ≡ x) → (t ≡ false → GoesOn xs (width_of y) → y' ≡ y) → GoesOn xs (width_of (cond t x y)) → cond t x' y' ≡ cond t x y
first_stays xs true x y x' y' f g on = f refl on
first_stays xs false x y x' y' f g on = g refl on

longer_stays : (b c : ℕ) (cs more : List ℕ) → GoesOn (b ∷ c ∷ cs) (width_of (piece b (c ∷ cs))) → piece b (c ∷ (cs ++ more)) ≡ piece b (c ∷ cs)
longer_stays b c cs more =
    let xs = b ∷ c ∷ cs in
    first_stays xs (is_space b) _ _ _ _ (λ _ on. refl) (λ _.
    first_stays xs (b == 45 && begins_with 45 (c ∷ cs)) _ _ _ _ (λ _ on. ap (λ ys. Blank (suc (length ys))) (run_stays (λ b. not (b == 10)) (c ∷ cs) more (omega (arith, on.0)))) (λ _.
    first_stays xs (b == 47 && begins_with 42 (c ∷ cs)) _ _ _ _ (λ _ on. ap (λ n. Blank (2 + n)) (comment_stays cs more (omega (arith, on.0)))) (λ _.
    first_stays xs (b == 39) _ _ _ _ (λ _ on. quoted 39 kind.Text on.0) (λ _.
    first_stays xs (b == 34) _ _ _ _ (λ _ on. quoted 34 kind.QuotedName on.0) (λ _.
    first_stays xs (b == 96) _ _ _ _ (λ _ on. quoted 96 kind.QuotedName on.0) (λ _.
    first_stays xs (b == 91) _ _ _ _ (λ _ on. bracketed on.0) (λ _.
    first_stays xs (is_x b && begins_with 39 (c ∷ cs)) _ _ _ _ (λ _ on. blob on.0) (λ _.
    first_stays xs (begins_word b) _ _ _ _ (λ _ on. ap (λ ds. Lexeme (word_kind ds) (length ds)) (run_stays is_word_byte xs more on.0)) (λ _.
    first_stays xs (is_ascii_digit b) _ _ _ _ (λ digit on. number_stays b c cs more digit on) (λ _.
    first_stays xs (b == 63) _ _ _ _ (λ _ on. parameter_stays (c ∷ cs) more on.0) (λ _ on. refl)))))))))))
  where
    quoted : (q : ℕ) (k : TokenKind) → width_of (closed k 1 (up_to_quote q (c ∷ cs)) (c ∷ cs)) < length (b ∷ c ∷ cs) → closed k 1 (up_to_quote q (c ∷ (cs ++ more))) (c ∷ (cs ++ more)) ≡ closed k 1 (up_to_quote q (c ∷ cs)) (c ∷ cs)
    quoted q k lt =
        let before = closed_before k (up_to_quote q (c ∷ cs)) (c ∷ cs) lt in
        closed_stays k (up_to_quote q (c ∷ cs)) (up_to_quote q (c ∷ (cs ++ more))) (c ∷ cs) more before (quote_stays q (c ∷ cs) more before)

    bracketed : width_of (closed kind.QuotedName 1 (up_to 93 (c ∷ cs)) (c ∷ cs)) < length (b ∷ c ∷ cs) → closed kind.QuotedName 1 (up_to 93 (c ∷ (cs ++ more))) (c ∷ (cs ++ more)) ≡ closed kind.QuotedName 1 (up_to 93 (c ∷ cs)) (c ∷ cs)
    bracketed lt =
        let before = closed_before kind.QuotedName (up_to 93 (c ∷ cs)) (c ∷ cs) lt in
        closed_stays kind.QuotedName (up_to 93 (c ∷ cs)) (up_to 93 (c ∷ (cs ++ more))) (c ∷ cs) more before (up_to_stays 93 (c ∷ cs) more before)

    blob : width_of (blob_up_to (up_to 39 cs) cs) < length (b ∷ c ∷ cs) → blob_up_to (up_to 39 (cs ++ more)) (cs ++ more) ≡ blob_up_to (up_to 39 cs) cs
    blob lt =
        let before = blob_before (up_to 39 cs) cs lt in
        blob_stays (up_to 39 cs) (up_to 39 (cs ++ more)) cs more before (up_to_stays 39 cs more before)

pub piece_stays : (b : ℕ) (bytes more : List ℕ) → GoesOn (b ∷ bytes) (width_of (piece b bytes)) → piece b (bytes ++ more) ≡ piece b bytes
piece_stays b [] more on = absurd (omega (arith, on.0, (piece_fits b []).some))
piece_stays b (c ∷ cs) more on = longer_stays b c cs more on
