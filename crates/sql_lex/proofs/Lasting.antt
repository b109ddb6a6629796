-- A statement that is ended stays so when bytes are appended, and so does a blank that ends in front of the end of the text.
use Rattle.std.proofs.Common.{◌≡◌, inl, inr, ℕ, suc, zero, ◌+◌, ◌<◌, ◌≤◌, Bool, true, false, cond, not, ◌&&◌, ◌==◌, List, [], ◌∷◌, ◌++◌, length, length-drop, drop, Option, Some, None, if◌then◌else◌, refl, sym, ap, subst, ◌∙◌, arith}
use Rattle.std.specs.Prelude.{nat_eq, nat_le}
use Rattle.std.specs.Char.{is_ascii_digit}
use Rattle.std.specs.List.{take_while}
use Rattle.std.specs.Str.Parse.{digits_value}
use Rattle.std.proofs.lemmas.List.{drop-append-le}
use Rattle.sql_tree.specs.declared.token.TokenKind.{TokenKind}
use Rattle.sql_tree.specs.declared.token.TokenKind.TheVariants as kind
use Rattle.sql_lex.specs.declared.piece.Piece.{Piece}
use Rattle.sql_lex.specs.declared.piece.Piece.TheVariants.{Lexeme, Parameter}
use Rattle.sql_lex.specs.declared.reading.Reading.{Reading}
use Rattle.sql_lex.specs.declared.reading.Reading.TheVariants as reading
use Rattle.sql_lex.specs.Cutting.{blank_of, blank_width, statement_end}
use Rattle.sql_lex.specs.Pieces.{begins_with, begins_word, blob_up_to, closed, hex_digits, is_parameter, is_space, is_x, number_by_digits, number_of_width, parameter_piece, piece, up_to, up_to_quote, without_zeros, word_width}
use Rattle.sql_lex.specs.Reading.{behind_piece, is_end}
use Rattle.sql_lex.specs.Tokens.{width_of}
use Rattle.sql_lex.proofs.Appending.{GoesOn, comment_stays, piece_stays, run_stays}
use Rattle.sql_lex.proofs.Cuts.{piece_fits}
use Rattle.sql_lex.specs.Plain.{end_at}
use Rattle.sql_lex.proofs.Readings.{byte_at, end_at_more, end_at_start, end_byte}

pub none_some : {X : Type 0} (e : ℕ) → None ≡ Some e → X
none_some e h = absurd (cc)

nothing_left : (w x : ℕ) → 1 ≤ w → drop w (x ∷ []) ≡ []
nothing_left zero x one = absurd (omega arith)
nothing_left (suc zero) x one = refl
nothing_left (suc (suc w)) x one = refl

-- one byte that ends the statement is a `;`
one_byte_left : (read : Reading) (from x e : ℕ) → end_at read from (x ∷ []) ≡ Some e → x ≡ 59
one_byte_left read from x e h = by (is_end read (piece x [])) refl (sym (end_at_more read from x [] (piece x []) refl (piece_fits x []).some) ∙ h)
  where
    by : (t : Bool) → is_end read (piece x []) ≡ t → cond t (Some from) (end_at (behind_piece read (piece x [])) (from + width_of (piece x [])) (drop (width_of (piece x [])) (x ∷ []))) ≡ Some e → x ≡ 59
    by true ends h = end_byte read x [] (piece x []) refl ends
    by false ends h = none_some e (ap (end_at (behind_piece read (piece x [])) (from + width_of (piece x []))) (sym (nothing_left (width_of (piece x [])) x (piece_fits x []).some)) ∙ h)

-- where the statement ends behind a piece, the text goes on there
goes_on_to : (read : Reading) (from e w : ℕ) (xs rest : List ℕ) → drop w xs ≡ rest → end_at read from rest ≡ Some e → GoesOn xs w
goes_on_to read from e w xs [] at h = none_some e h
goes_on_to read from e w xs (x ∷ []) at h =
    let byte = byte_at xs w x [] at in
    (byte.0, inl (byte.1 ∙ one_byte_left read from x e h))
goes_on_to read from e w xs (x ∷ y ∷ ys) at h =
    let long : length (drop w xs) ≡ suc (suc (length ys)) = ap length at in
    (omega (arith, length-drop w xs), inr (omega (arith, length-drop w xs)))

-- a piece that stays, with bytes appended
appended : (read : Reading) (from b : ℕ) (bytes more : List ℕ) → piece b (bytes ++ more) ≡ piece b bytes → end_at read from (b ∷ (bytes ++ more)) ≡ (if is_end read (piece b bytes) then Some from else end_at (behind_piece read (piece b bytes)) (from + width_of (piece b bytes)) (drop (width_of (piece b bytes)) (b ∷ bytes) ++ more))
appended read from b bytes more same =
    let p = piece b bytes in
    let fits = piece_fits b bytes in
    end_at_more read from b (bytes ++ more) p (sym same) fits.some
    ∙ ap (λ ys. cond (is_end read p) (Some from) (end_at (behind_piece read p) (from + width_of p) ys)) (drop-append-le (width_of p) (b ∷ bytes) more fits.within)

semicolon_stays : (b : ℕ) (bytes more : List ℕ) → b ≡ 59 → piece b (bytes ++ more) ≡ piece b bytes
semicolon_stays b bytes more is = ap (λ b. piece b (bytes ++ more)) is ∙ sym (ap (λ b. piece b bytes) is)

end_stays : (most from e : ℕ) (xs more : List ℕ) (read : Reading) → length xs ≤ most → end_at read from xs ≡ Some e → end_at read from (xs ++ more) ≡ Some e
end_stays most from e [] more read le h = none_some e h
end_stays zero from e (b ∷ bytes) more read le h = absurd (omega arith)
end_stays (suc most) from e (b ∷ bytes) more read le h =
    let p = piece b bytes in
    let fits = piece_fits b bytes in
    let less : length (drop (width_of p) (b ∷ bytes)) ≤ most = omega (arith, length-drop (width_of p) (b ∷ bytes), fits.some) in
    by (is_end read p) refl (sym (end_at_more read from b bytes p refl fits.some) ∙ h) (end_stays most (from + width_of p) e (drop (width_of p) (b ∷ bytes)) more (behind_piece read p) less)
  where
    by : (t : Bool) → is_end read (piece b bytes) ≡ t
        → cond t (Some from) (end_at (behind_piece read (piece b bytes)) (from + width_of (piece b bytes)) (drop (width_of (piece b bytes)) (b ∷ bytes))) ≡ Some e
        → (end_at (behind_piece read (piece b bytes)) (from + width_of (piece b bytes)) (drop (width_of (piece b bytes)) (b ∷ bytes)) ≡ Some e → end_at (behind_piece read (piece b bytes)) (from + width_of (piece b bytes)) (drop (width_of (piece b bytes)) (b ∷ bytes) ++ more) ≡ Some e)
        → end_at read from (b ∷ (bytes ++ more)) ≡ Some e
    by true ends h on =
        appended read from b bytes more (semicolon_stays b bytes more (end_byte read b bytes (piece b bytes) refl ends))
        ∙ ap (λ t. cond t (Some from) (end_at (behind_piece read (piece b bytes)) (from + width_of (piece b bytes)) (drop (width_of (piece b bytes)) (b ∷ bytes) ++ more))) ends
        ∙ h
    by false ends h on =
        appended read from b bytes more (piece_stays b bytes more (goes_on_to (behind_piece read (piece b bytes)) (from + width_of (piece b bytes)) e (width_of (piece b bytes)) (b ∷ bytes) _ refl h))
        ∙ ap (λ t. cond t (Some from) (end_at (behind_piece read (piece b bytes)) (from + width_of (piece b bytes)) (drop (width_of (piece b bytes)) (b ∷ bytes) ++ more))) ends
        ∙ on h

pub statement_end_stays : (text more : List ℕ) (e : ℕ) → statement_end text ≡ Some e → statement_end (text ++ more) ≡ Some e
statement_end_stays text more e h =
    sym (end_at_start (text ++ more)) ∙ end_stays (length text) 0 e text more reading.Start (omega arith) (end_at_start text ∙ h)

-- ---- blanks

both_none : {x y : ℕ} → x ≡ 0 → y ≡ 0 → x ≡ y
both_none e f = e ∙ sym f

closed_token : (k : TokenKind) (o : Option ℕ) (bytes : List ℕ) → blank_of (closed k 1 o bytes) ≡ 0
closed_token k None bytes = refl
closed_token k (Some width) bytes = refl

blob_token : (o : Option ℕ) (bytes : List ℕ) → blank_of (blob_up_to o bytes) ≡ 0
blob_token None bytes = refl
blob_token (Some width) bytes = refl

either_token : (t : Bool) (x y : Piece) → blank_of x ≡ 0 → blank_of y ≡ 0 → blank_of (cond t x y) ≡ 0
either_token true x y e f = e
either_token false x y e f = f

width_token : (width : ℕ) (bytes : List ℕ) → blank_of (number_of_width width bytes) ≡ 0
width_token width bytes = either_token (nat_eq (word_width (drop width bytes)) 0) (Lexeme kind.Number width) (Lexeme kind.Illegal (width + word_width (drop width bytes))) refl refl

number_token : (digits bytes : List ℕ) → blank_of (number_by_digits digits bytes) ≡ 0
number_token [] bytes = width_token _ bytes
number_token (d ∷ ds) bytes = either_token (nat_le (length (without_zeros (d ∷ ds))) 16) (number_of_width (2 + length (d ∷ ds)) bytes) (Lexeme kind.Illegal (2 + word_width (drop 2 bytes))) (width_token _ bytes) refl

parameter_token : (digits : List ℕ) → blank_of (parameter_piece digits) ≡ 0
parameter_token [] = refl
parameter_token (d ∷ ds) = either_token (is_parameter (digits_value 10 (d ∷ ds))) (Parameter (Some (digits_value 10 (d ∷ ds))) (suc (length (d ∷ ds)))) (Lexeme kind.Illegal (suc (length (d ∷ ds)))) refl refl

-- what the first test that passes gives
first_blank : (n : ℕ) (t : Bool) (x y x' y' : Piece) → (blank_of x < n → blank_of x' ≡ blank_of x) → (blank_of y < n → blank_of y' ≡ blank_of y) → blank_of (cond t x y) < n → blank_of (cond t x' y') ≡ blank_of (cond t x y)
first_blank n true x y x' y' f g lt = f lt
first_blank n false x y x' y' f g lt = g lt

longer_blank : (b c : ℕ) (cs more : List ℕ) → blank_of (piece b (c ∷ cs)) < length (b ∷ c ∷ cs) → blank_of (piece b (c ∷ (cs ++ more))) ≡ blank_of (piece b (c ∷ cs))
longer_blank b c cs more =
    let n = length (b ∷ c ∷ cs) in
    let ys = c ∷ cs in
    let zs = c ∷ (cs ++ more) in
    first_blank n (is_space b) _ _ _ _ (λ _. refl) (
    first_blank n (b == 45 && begins_with 45 ys) _ _ _ _ (λ lt. ap (λ xs. suc (length xs)) (run_stays (λ b. not (b == 10)) ys more (omega (arith, lt)))) (
    first_blank n (b == 47 && begins_with 42 ys) _ _ _ _ (λ lt. ap (λ n. 2 + n) (comment_stays cs more (omega (arith, lt)))) (
    first_blank n (b == 39) _ _ _ _ (λ _. both_none (closed_token kind.Text (up_to_quote 39 zs) zs) (closed_token kind.Text (up_to_quote 39 ys) ys)) (
    first_blank n (b == 34) _ _ _ _ (λ _. both_none (closed_token kind.QuotedName (up_to_quote 34 zs) zs) (closed_token kind.QuotedName (up_to_quote 34 ys) ys)) (
    first_blank n (b == 96) _ _ _ _ (λ _. both_none (closed_token kind.QuotedName (up_to_quote 96 zs) zs) (closed_token kind.QuotedName (up_to_quote 96 ys) ys)) (
    first_blank n (b == 91) _ _ _ _ (λ _. both_none (closed_token kind.QuotedName (up_to 93 zs) zs) (closed_token kind.QuotedName (up_to 93 ys) ys)) (
    first_blank n (is_x b && begins_with 39 ys) _ _ _ _ (λ _. both_none (blob_token (up_to 39 (cs ++ more)) (cs ++ more)) (blob_token (up_to 39 cs) cs)) (
    first_blank n (begins_word b) _ _ _ _ (λ _. refl) (
    first_blank n (is_ascii_digit b) _ _ _ _ (λ _. both_none (number_token (hex_digits (b ∷ zs)) (b ∷ zs)) (number_token (hex_digits (b ∷ ys)) (b ∷ ys))) (
    first_blank n (b == 63) _ _ _ _ (λ _. both_none (parameter_token (take_while is_ascii_digit zs)) (parameter_token (take_while is_ascii_digit ys))) (λ _. refl)))))))))))

pub blank_width_stays : (text more : List ℕ) → 2 ≤ length text → blank_width text < length text → blank_width (text ++ more) ≡ blank_width text
blank_width_stays [] more two lt = absurd (omega arith)
blank_width_stays (b ∷ []) more two lt = absurd (omega (arith, two))
blank_width_stays (b ∷ c ∷ cs) more two lt = longer_blank b c cs more lt

-- ---- where a statement ends, and how it begins

pub some_is : (k e : ℕ) → Some k ≡ Some e → k ≡ e
some_is k e h = ap (λ o. unwrap o) h
  where
    unwrap : Option ℕ → ℕ
    unwrap None = 0
    unwrap (Some n) = n

-- within the text
end_within : (most from e : ℕ) (text : List ℕ) (read : Reading) → length text ≤ most → end_at read from text ≡ Some e → e < from + length text
end_within most from e [] read le h = none_some e h
end_within zero from e (b ∷ bytes) read le h = absurd (omega arith)
end_within (suc most) from e (b ∷ bytes) read le h =
    let p = piece b bytes in
    let w = width_of p in
    let fits = piece_fits b bytes in
    let rest = drop w (b ∷ bytes) in
    let less : length rest ≤ most = omega (arith, length-drop w (b ∷ bytes), fits.some) in
    by (is_end read p) (sym (end_at_more read from b bytes p refl fits.some) ∙ h) (end_within most (from + w) e rest (behind_piece read p) less)
  where
    by : (t : Bool) → cond t (Some from) (end_at (behind_piece read (piece b bytes)) (from + width_of (piece b bytes)) (drop (width_of (piece b bytes)) (b ∷ bytes))) ≡ Some e
        → (end_at (behind_piece read (piece b bytes)) (from + width_of (piece b bytes)) (drop (width_of (piece b bytes)) (b ∷ bytes)) ≡ Some e → e < from + width_of (piece b bytes) + length (drop (width_of (piece b bytes)) (b ∷ bytes)))
        → e < from + length (b ∷ bytes)
    by true is on = let same = some_is from e is in omega (arith, same)
    by false is on =
        let lt = on is in
        let fits = piece_fits b bytes in
        omega (arith, lt, fits.within, length-drop (width_of (piece b bytes)) (b ∷ bytes))

pub statement_end-within : (text : List ℕ) (e : ℕ) → statement_end text ≡ Some e → e < length text
statement_end-within text e h =
    let within = end_within (length text) 0 e text reading.Start (omega arith) (end_at_start text ∙ h) in omega (arith, within)

-- one byte that ends a statement is a `;`, with which no blank begins
alone : (b e : ℕ) → statement_end (b ∷ []) ≡ Some e → b ≡ 59
alone b e h = by (is_end reading.Start (piece b [])) refl (sym (end_at_more reading.Start 0 b [] (piece b []) refl (piece_fits b []).some) ∙ (end_at_start (b ∷ []) ∙ h))
  where
    by : (t : Bool) → is_end reading.Start (piece b []) ≡ t → cond t (Some 0) (end_at (behind_piece reading.Start (piece b [])) (0 + width_of (piece b [])) (drop (width_of (piece b [])) (b ∷ []))) ≡ Some e → b ≡ 59
    by true ends is = end_byte reading.Start b [] (piece b []) refl ends
    by false ends is = none_some e (sym (ap (λ xs. end_at (behind_piece reading.Start (piece b [])) (0 + width_of (piece b [])) xs) (nothing_left (width_of (piece b [])) b (piece_fits b []).some)) ∙ is)

pub ended_token : (text more : List ℕ) (e : ℕ) → statement_end text ≡ Some e → blank_width text ≤ 0 → blank_width (text ++ more) ≤ 0
ended_token [] more e h none = absurd (omega (arith, statement_end-within [] e h))
ended_token (b ∷ []) more e h none = subst (λ c. blank_width (c ∷ more) ≤ 0) (sym (alone b e h)) (omega arith)
ended_token (b ∷ c ∷ cs) more e h none = let same = blank_width_stays (b ∷ c ∷ cs) more (omega arith) (omega (arith, none)) in omega (arith, same, none)
