-- The tokens of a text, one piece further, and what holds of all of them.
use Rattle.std.proofs.Common.{◌≡◌, ◌⊎◌, inl, inr, ℕ, suc, zero, ◌+◌, ◌-◌, ◌<◌, ◌≤◌, Bool, true, false, cond, List, [], ◌∷◌, ◌++◌, append_assoc, append-nil, length, length-drop, get_or, take, drop, Option, Some, None, IfSome, All, IsUtf8, IsCharBoundary, refl, sym, ap, ◌∙◌, subst, arith}
use Rattle.std.specs.Str.{is_utf8}
use Rattle.std.proofs.lemmas.List.{drop-drop}
use Rattle.std.proofs.lemmas.List.Elements.{All-cons, All-nil}
use Rattle.std.proofs.lemmas.Str.{IsUtf8-take, IsUtf8-drop, is_utf8-from_IsUtf8, IsCharBoundary-after_ascii}
use Rattle.sql_tree.specs.declared.token.Token.{Token}
use Rattle.sql_tree.specs.declared.token.TokenKind.TheVariants as kind
use Rattle.sql_lex.specs.declared.piece.Piece.{Piece}
use Rattle.sql_lex.specs.declared.piece.Piece.TheVariants.{Blank, Lexeme, Parameter}
use Rattle.sql_lex.specs.Pieces.{piece, is_parameter}
use Rattle.sql_lex.specs.Tokens.{InOrder, in_front, largest_in, lexed, number_behind, numbered, plain, slice_of, token_in, tokens_of, width_of}
use Rattle.sql_lex.proofs.Cuts.{Fits, piece_fits}

-- behind the rest of a piece
pub lexed_behind : (skip from largest : ℕ) (bytes : List ℕ) → lexed from largest skip bytes ≡ lexed (from + skip) largest 0 (drop skip bytes)
lexed_behind zero from largest bytes = ap (λ n. lexed n largest 0 bytes) (omega arith)
lexed_behind (suc skip) from largest [] = refl
lexed_behind (suc skip) from largest (b ∷ bytes) =
    lexed_behind skip (suc from) largest bytes ∙ ap (λ n. lexed n largest 0 (drop skip bytes)) (omega arith)

drop_one_less : (w b : ℕ) (bytes : List ℕ) → 1 ≤ w → drop (w - 1) bytes ≡ drop w (b ∷ bytes)
drop_one_less zero b bytes one = absurd (omega arith)
drop_one_less (suc w) b bytes one = let e : suc w - 1 ≡ w = omega arith in ap (λ n. drop n bytes) e

-- the token of the first piece, and those behind it
pub lexed_more : (from largest b : ℕ) (bytes : List ℕ) (p : Piece) → p ≡ piece b bytes → 1 ≤ width_of p → lexed from largest 0 (b ∷ bytes) ≡ in_front (token_in from largest p) (lexed (from + width_of p) (largest_in largest p) 0 (drop (width_of p) (b ∷ bytes)))
lexed_more from largest b bytes p e one =
    ap (λ p. in_front (token_in from largest p) (lexed (suc from) (largest_in largest p) (width_of p - 1) bytes)) (sym e)
    ∙ ap (in_front (token_in from largest p)) (
    lexed_behind (width_of p - 1) (suc from) (largest_in largest p) bytes
    ∙ (let n : suc from + (width_of p - 1) ≡ from + width_of p = omega arith in ap (λ n. lexed n (largest_in largest p) 0 (drop (width_of p - 1) bytes)) n)
    ∙ ap (lexed (from + width_of p) (largest_in largest p) 0) (drop_one_less (width_of p) b bytes one))

in_front_append : (items : List Token) (o : Option Token) (rest : List Token) → (items ++ in_front o []) ++ rest ≡ items ++ in_front o rest
in_front_append items None rest = append_assoc items [] rest
in_front_append items (Some t) rest = append_assoc items (t ∷ []) rest

-- the loop, one piece further
pub loop_more : (items new all : List Token) (from largest b : ℕ) (bytes text : List ℕ) (p : Piece) → text ≡ b ∷ bytes → p ≡ piece b bytes → 1 ≤ width_of p
    → new ≡ items ++ in_front (token_in from largest p) []
    → items ++ lexed from largest 0 text ≡ all
    → new ++ lexed (from + width_of p) (largest_in largest p) 0 (drop (width_of p) text) ≡ all
loop_more items new all from largest b bytes text p is e one put h =
    ap (λ ts. ts ++ lexed (from + width_of p) (largest_in largest p) 0 (drop (width_of p) text)) put
    ∙ in_front_append items (token_in from largest p) (lexed (from + width_of p) (largest_in largest p) 0 (drop (width_of p) text))
    ∙ ap (λ xs. items ++ in_front (token_in from largest p) (lexed (from + width_of p) (largest_in largest p) 0 (drop (width_of p) xs))) is
    ∙ ap (λ ts. items ++ ts) (sym (lexed_more from largest b bytes p e one))
    ∙ ap (λ xs. items ++ lexed from largest 0 xs) (sym is)
    ∙ h

-- ---- where a token stands

abbrev pub IsAt : ℕ → ℕ → Token → Type 0
IsAt from width t = (t.span.start ≡ from) × (t.span.end ≡ from + width)

numbered_at : (n from width : ℕ) → IsAt from width (numbered n from width)
numbered_at n from width = by (is_parameter n)
  where
    by : (test : Bool) → IsAt from width (cond test (record { kind = kind.Parameter; span = record { start = from; end = from + width }; parameter = Some n }) (plain kind.Illegal from width))
    by true = (refl, refl)
    by false = (refl, refl)

pub token_at : (from largest : ℕ) (p : Piece) → IfSome (token_in from largest p) (IsAt from (width_of p))
token_at from largest (Blank width) = tt
token_at from largest (Lexeme k width) = (refl, refl)
token_at from largest (Parameter number width) = numbered_at (number_behind largest number) from width

-- ---- order

order_from : (early late end : ℕ) (tokens : List Token) → early ≤ late → InOrder late end tokens → InOrder early end tokens
order_from early late end [] le h = omega arith
order_from early late end (t ∷ tokens) le h = (omega (arith, h.0), h.1, h.2)

order_in_front : (from width end : ℕ) (o : Option Token) (tokens : List Token) → 1 ≤ width → IfSome o (IsAt from width) → InOrder (from + width) end tokens → InOrder from end (in_front o tokens)
order_in_front from width end None tokens one is h = order_from from (from + width) end tokens (omega arith) h
order_in_front from width end (Some t) tokens one is h = (omega (arith, is.0), omega (arith, is.0, is.1), subst (λ (n : ℕ). InOrder n end tokens) (sym is.1) h)

lexed_in_order : (most from largest end : ℕ) (bytes : List ℕ) → length bytes ≤ most → from + length bytes ≡ end → InOrder from end (lexed from largest 0 bytes)
lexed_in_order most from largest end [] le at = omega arith
lexed_in_order zero from largest end (b ∷ bytes) le at = absurd (omega arith)
lexed_in_order (suc most) from largest end (b ∷ bytes) le at =
    let p = piece b bytes in
    let fits = piece_fits b bytes in
    let rest : List ℕ = drop (width_of p) (b ∷ bytes) in
    let behind = length-drop (width_of p) (b ∷ bytes) in
    rw (lexed_more from largest b bytes p refl fits.some)
    (order_in_front from (width_of p) end (token_in from largest p) _ fits.some (token_at from largest p)
    (lexed_in_order most (from + width_of p) (largest_in largest p) end rest (omega (arith, behind, fits.some)) (omega (arith, behind, fits.within))))

pub tokens_in_order : (text : List ℕ) → InOrder 0 (length text) (tokens_of text)
unfolding tokens_of
tokens_in_order text = lexed_in_order (length text) 0 0 (length text) text (omega arith) (omega arith)

-- ---- characters

pub boundary : (xs : List ℕ) (w : ℕ) → IsUtf8 xs → Fits xs w → IsCharBoundary xs w
boundary xs w utf8 fits = by fits.ends
  where
    by : (get_or xs (w - 1) 0 < 128) ⊎ (get_or xs w 0 < 128) → IsCharBoundary xs w
    by (inl low) =
        let e : w - 1 + 1 ≡ w = omega (arith, fits.some) in
        let lt : w - 1 < length xs = omega (arith, fits.some, fits.within) in
        subst (λ (n : ℕ). IsCharBoundary xs n) e (IsCharBoundary-after_ascii xs (w - 1) utf8 lt low)
    by (inr low) = (fits.within, λ lt high. absurd (omega arith))

abbrev pub IsCut : List ℕ → Token → Type 0
IsCut text t = is_utf8 (slice_of text t) ≡ true

all_in_front : (text : List ℕ) (o : Option Token) (tokens : List Token) → IfSome o (IsCut text) → All (IsCut text) tokens → All (IsCut text) (in_front o tokens)
all_in_front text None tokens h all = all
all_in_front text (Some t) tokens h all = All-cons (IsCut text) t tokens h all

cut_at : (text bytes : List ℕ) (from width : ℕ) (o : Option Token) → IfSome o (IsAt from width) → drop from text ≡ bytes → is_utf8 (take width bytes) ≡ true → IfSome o (IsCut text)
cut_at text bytes from width None at is utf8 = tt
cut_at text bytes from width (Some t) at is utf8 =
    let w : t.span.end - t.span.start ≡ width = omega (arith, at.0, at.1) in
    ap is_utf8 (ap (λ n. take n (drop t.span.start text)) w ∙ ap (λ n. take width (drop n text)) at.0 ∙ ap (take width) is) ∙ utf8

lexed_cut : (most from largest : ℕ) (text bytes : List ℕ) → length bytes ≤ most → drop from text ≡ bytes → IsUtf8 bytes → All (IsCut text) (lexed from largest 0 bytes)
lexed_cut most from largest text [] le at utf8 = All-nil (IsCut text)
lexed_cut zero from largest text (b ∷ bytes) le at utf8 = absurd (omega arith)
lexed_cut (suc most) from largest text (b ∷ bytes) le at utf8 =
    let p = piece b bytes in
    let w = width_of p in
    let fits = piece_fits b bytes in
    let cut = boundary (b ∷ bytes) w utf8 fits in
    let rest : List ℕ = drop w (b ∷ bytes) in
    let on : drop (from + w) text ≡ rest = sym (drop-drop w from text) ∙ ap (drop w) at in
    let all = lexed_cut most (from + w) (largest_in largest p) text rest (omega (arith, length-drop w (b ∷ bytes), fits.some)) on (IsUtf8-drop (b ∷ bytes) w utf8 cut) in
    rw (lexed_more from largest b bytes p refl fits.some)
    (all_in_front text (token_in from largest p) _
    (cut_at text (b ∷ bytes) from w (token_in from largest p) (token_at from largest p) at (is_utf8-from_IsUtf8 (take w (b ∷ bytes)) (IsUtf8-take (b ∷ bytes) w utf8 cut)))
    all)

pub tokens_cut : (text : List ℕ) → IsUtf8 text → All (IsCut text) (tokens_of text)
unfolding tokens_of
tokens_cut text utf8 = lexed_cut (length text) 0 0 text text (omega arith) refl utf8

pub none_left : (items all : List Token) (from largest : ℕ) (rest : List ℕ) → rest ≡ [] → items ++ lexed from largest 0 rest ≡ all → items ≡ all
none_left items all from largest rest none h =
    sym (append-nil items) ∙ ap (λ xs. items ++ lexed from largest 0 xs) (sym none) ∙ h
