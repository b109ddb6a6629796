-- The bytes of a token, alone, are that token.
use Rattle.std.proofs.Common.{◌≡◌, ◌⊎◌, inl, inr, ℕ, suc, zero, ◌+◌, ◌-◌, ◌≤◌, Bool, true, false, cond, ◌&&◌, ◌==◌, List, [], ◌∷◌, length, take, drop, All, Option, Some, None, IfSome, option_map, refl, sym, ap, ◌∙◌, subst, arith}
use Rattle.std.specs.Prelude.{nat_eq, nat_le}
use Rattle.std.specs.Char.{is_ascii_digit}
use Rattle.std.specs.List.{take_while}
use Rattle.std.specs.Str.Parse.{digits_value}
use Rattle.std.proofs.lemmas.Bool.Decides.{nat_tests}
use Rattle.std.proofs.lemmas.List.{drop_all, length-take-le}
use Rattle.std.proofs.lemmas.List.Elements.{All-cons, All-nil}
use Rattle.sql_tree.specs.declared.token.Token.{Token}
use Rattle.sql_tree.specs.declared.token.TokenKind.{TokenKind}
use Rattle.sql_tree.specs.declared.token.TokenKind.TheVariants as kind
use Rattle.sql_lex.specs.declared.piece.Piece.{Piece}
use Rattle.sql_lex.specs.declared.piece.Piece.TheVariants.{Blank, Lexeme, Parameter}
use Rattle.sql_lex.specs.Alone.{IsItself, at_front}
use Rattle.sql_lex.specs.Gaps.{MakeUp, StandsIn}
use Rattle.sql_lex.specs.Pieces.{begins_with, begins_word, blob_up_to, closed, hex_digits, is_parameter, is_space, is_x, number_by_digits, number_of_width, parameter_piece, piece, up_to, up_to_quote, without_zeros, word_width}
use Rattle.sql_lex.specs.Signs.{double_kind, single_kind}
use Rattle.sql_lex.specs.Tokens.{in_front, largest_in, lexed, number_behind, numbered, plain, slice_of, token_in, tokens_of, width_of}
use Rattle.sql_lex.proofs.Cuts.{piece_fits}
use Rattle.sql_lex.proofs.Following.{IsAt, lexed_more, token_at}
use Rattle.sql_lex.proofs.GapLaws.{tokens_make_up}
use Rattle.sql_lex.proofs.Signing.{sign_is, sign_of}
use Rattle.sql_lex.proofs.Taking.{piece_taken}

-- ---- parameters without a number

-- where the piece is a parameter without a number, it is `?`
abbrev Asks : ℕ → Piece → Type 0
Asks b (Blank width) = Unit {0}
Asks b (Lexeme k width) = Unit {0}
Asks b (Parameter (Some n) width) = Unit {0}
Asks b (Parameter None width) = (b ≡ 63) × (width ≡ 1)

whichever : (b : ℕ) (t : Bool) (x y : Piece) → Asks b x → Asks b y → Asks b (cond t x y)
whichever b true x y f g = f
whichever b false x y f g = g

closed_asks : (b : ℕ) (k : TokenKind) (o : Option ℕ) (bytes : List ℕ) → Asks b (closed k 1 o bytes)
closed_asks b k None bytes = tt
closed_asks b k (Some width) bytes = tt

blob_asks : (b : ℕ) (o : Option ℕ) (bytes : List ℕ) → Asks b (blob_up_to o bytes)
blob_asks b None bytes = tt
blob_asks b (Some width) bytes = tt

width_asks : (b width : ℕ) (bytes : List ℕ) → Asks b (number_of_width width bytes)
width_asks b width bytes = whichever b (nat_eq (word_width (drop width bytes)) 0) (Lexeme kind.Number width) (Lexeme kind.Illegal (width + word_width (drop width bytes))) tt tt

number_asks : (b : ℕ) (digits bytes : List ℕ) → Asks b (number_by_digits digits bytes)
number_asks b [] bytes = width_asks b _ bytes
number_asks b (d ∷ ds) bytes = whichever b (nat_le (length (without_zeros (d ∷ ds))) 16) _ (Lexeme kind.Illegal (2 + word_width (drop 2 bytes))) (width_asks b _ bytes) tt

question_asks : (b : ℕ) (digits : List ℕ) → b ≡ 63 → Asks b (parameter_piece digits)
question_asks b [] e = (e, refl)
question_asks b (d ∷ ds) e = whichever b (is_parameter (digits_value 10 (d ∷ ds))) (Parameter (Some (digits_value 10 (d ∷ ds))) (suc (length (d ∷ ds)))) (Lexeme kind.Illegal (suc (length (d ∷ ds)))) tt tt

sign_asks : (b : ℕ) (two : Option TokenKind) (one : TokenKind) → Asks b (sign_of two one)
sign_asks b None one = tt
sign_asks b (Some k) one = tt

last_asks : (b : ℕ) (digits : List ℕ) (y : Piece) → Asks b y → Asks b (cond (b == 63) (parameter_piece digits) y)
last_asks b digits y f = by (b == 63) refl
  where
    by : (t : Bool) → (b == 63) ≡ t → Asks b (cond t (parameter_piece digits) y)
    by true e = let same : b ≡ 63 = grind (arith, nat_tests) in question_asks b digits same
    by false e = f

piece_asks : (b : ℕ) (bytes : List ℕ) → Asks b (piece b bytes)
piece_asks b bytes =
    whichever b (is_space b) (Blank 1) _ tt (
    whichever b (b == 45 && begins_with 45 bytes) (Blank _) _ tt (
    whichever b (b == 47 && begins_with 42 bytes) (Blank _) _ tt (
    whichever b (b == 39) _ _ (closed_asks b kind.Text (up_to_quote 39 bytes) bytes) (
    whichever b (b == 34) _ _ (closed_asks b kind.QuotedName (up_to_quote 34 bytes) bytes) (
    whichever b (b == 96) _ _ (closed_asks b kind.QuotedName (up_to_quote 96 bytes) bytes) (
    whichever b (b == 91) _ _ (closed_asks b kind.QuotedName (up_to 93 bytes) bytes) (
    whichever b (is_x b && begins_with 39 bytes) _ _ (blob_asks b (up_to 39 (drop 1 bytes)) (drop 1 bytes)) (
    whichever b (begins_word b) (Lexeme _ _) _ tt (
    whichever b (is_ascii_digit b) _ _ (number_asks b (hex_digits (b ∷ bytes)) (b ∷ bytes)) (
    last_asks b (take_while is_ascii_digit bytes) _ (
    subst (Asks b) (sym (sign_is b bytes)) (sign_asks b (double_kind b bytes) (single_kind b)))))))))))))

-- ---- the token at the front

numbered_in_front : (n from width : ℕ) → at_front (numbered n from width) ≡ numbered n 0 width
numbered_in_front n from width = by (is_parameter n)
  where
    end : from + width - from ≡ 0 + width
    end = omega arith

    by : (test : Bool) → at_front (cond test (record { kind = kind.Parameter; span = record { start = from; end = from + width }; parameter = Some n }) (plain kind.Illegal from width)) ≡ cond test (record { kind = kind.Parameter; span = record { start = 0; end = 0 + width }; parameter = Some n }) (plain kind.Illegal 0 width)
    by true = ap (λ e. record { kind = kind.Parameter; span = record { start = 0; end = e }; parameter = Some n }) end
    by false = ap (λ e. record { kind = kind.Illegal; span = record { start = 0; end = e }; parameter = None }) end

token_in_front : (from largest : ℕ) (p : Piece) → option_map at_front (token_in from largest p) ≡ token_in 0 largest p
token_in_front from largest (Blank width) = refl
token_in_front from largest (Lexeme k width) = let end : from + width - from ≡ 0 + width = omega arith in ap (λ e. Some (record { kind = k; span = record { start = 0; end = e }; parameter = None })) end
token_in_front from largest (Parameter number width) = ap Some (numbered_in_front (number_behind largest number) from width)

-- the token is that of the piece alone, unless this is `?`
whose : (from largest b : ℕ) (p : Piece) (t : Token) → Asks b p → token_in from largest p ≡ Some t → (token_in 0 0 p ≡ Some (at_front t)) ⊎ ((b ≡ 63) × (width_of p ≡ 1) × (t ≡ numbered (suc largest) from 1))
whose from largest b (Blank width) t asks is = absurd (cc)
whose from largest b (Lexeme k width) t asks is = inl (sym (token_in_front from largest (Lexeme k width)) ∙ ap (option_map at_front) is)
whose from largest b (Parameter (Some n) width) t asks is = inl (sym (token_in_front from largest (Parameter (Some n) width)) ∙ ap (option_map at_front) is)
whose from largest b (Parameter None width) t asks is =
    let one : width ≡ 1 = asks.1 in
    let same : t ≡ numbered (suc largest) from width = (cc) in
    inr (asks.0, one, same ∙ ap (numbered (suc largest) from) one)

-- ---- its bytes

take_one_less : (w b : ℕ) (bytes : List ℕ) → 1 ≤ w → take w (b ∷ bytes) ≡ b ∷ take (w - 1) bytes
take_one_less zero b bytes one = absurd (omega arith)
take_one_less (suc w) b bytes one = let e : w ≡ suc w - 1 = omega arith in ap (λ n. b ∷ take n bytes) e

slice_is : (text bytes : List ℕ) (b w : ℕ) (t : Token) → drop t.span.start text ≡ b ∷ bytes → 1 ≤ w → IsAt t.span.start w t → slice_of text t ≡ b ∷ take (w - 1) bytes
slice_is text bytes b w t at one here =
    let width : t.span.end - t.span.start ≡ w = omega (arith, here.1) in
    ap (λ n. take n (drop t.span.start text)) width ∙ ap (take w) at ∙ take_one_less w b bytes one

-- a piece alone is all of its text
alone : (b : ℕ) (bytes : List ℕ) → lexed 0 0 0 (b ∷ take (width_of (piece b bytes) - 1) bytes) ≡ in_front (token_in 0 0 (piece b bytes)) []
alone b bytes =
    let p = piece b bytes in
    let w = width_of p in
    let fits = piece_fits b bytes in
    let own : List ℕ = take (w - 1) bytes in
    let same : piece b own ≡ p = piece_taken (w - 1) b bytes (omega arith) in
    let few : length (b ∷ own) ≤ w = omega (arith, length-take-le (w - 1) bytes, fits.some) in
    lexed_more 0 0 b own p (sym same) fits.some
    ∙ ap (λ ys. in_front (token_in 0 0 p) (lexed (0 + w) (largest_in 0 p) 0 ys)) (drop_all w (b ∷ own) few)

is_itself : (text : List ℕ) (t : Token) → StandsIn text t → IsItself text t
unfolding tokens_of
is_itself text t (largest, b, bytes, at, is) = by (whose t.span.start largest b (piece b bytes) t (piece_asks b bytes) is)
  where
    w : ℕ
    w = width_of (piece b bytes)

    here : IsAt t.span.start w t
    here = subst (λ o. IfSome o (IsAt t.span.start w)) is (token_at t.span.start largest (piece b bytes))

    own : slice_of text t ≡ b ∷ take (w - 1) bytes
    own = slice_is text bytes b w t at (piece_fits b bytes).some here

    by : (token_in 0 0 (piece b bytes) ≡ Some (at_front t)) ⊎ ((b ≡ 63) × (w ≡ 1) × (t ≡ numbered (suc largest) t.span.start 1)) → IsItself text t
    by (inl e) = inl (ap (lexed 0 0 0) own ∙ alone b bytes ∙ ap (λ o. in_front o []) e)
    by (inr e) = inr (largest, own ∙ ap (λ c. c ∷ take (w - 1) bytes) e.0 ∙ ap (λ n. 63 ∷ take (n - 1) bytes) e.1, e.2)

each_is_itself : (text : List ℕ) (from : ℕ) (tokens : List Token) → MakeUp text from tokens → All (IsItself text) tokens
each_is_itself text from [] made = All-nil (IsItself text)
each_is_itself text from (t ∷ tokens) made = All-cons (IsItself text) t tokens (is_itself text t made.1) (each_is_itself text t.span.end tokens made.2)

pub tokens_alone : (text : List ℕ) → All (IsItself text) (tokens_of text)
tokens_alone text = each_is_itself text 0 (tokens_of text) (tokens_make_up text)
