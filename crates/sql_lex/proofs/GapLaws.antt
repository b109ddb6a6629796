-- A text is made up of its tokens and of blanks.
use Rattle.std.proofs.Common.{◌≡◌, ℕ, suc, zero, ◌+◌, ◌≤◌, List, [], ◌∷◌, length, length-drop, drop, Option, Some, None, IfSome, refl, sym, ap, ◌∙◌, subst, arith}
use Rattle.std.proofs.lemmas.List.{drop-drop}
use Rattle.sql_tree.specs.declared.token.Token.{Token}
use Rattle.sql_lex.specs.declared.piece.Piece.{Piece}
use Rattle.sql_lex.specs.declared.piece.Piece.TheVariants.{Blank, Lexeme, Parameter}
use Rattle.sql_lex.specs.Cutting.{blank_of, blank_width}
use Rattle.sql_lex.specs.Gaps.{AreBlanks, MakeUp, none, one_more}
use Rattle.sql_lex.specs.Pieces.{piece}
use Rattle.sql_lex.specs.Tokens.{in_front, largest_in, lexed, token_in, tokens_of, width_of}
use Rattle.sql_lex.proofs.Cuts.{piece_fits}
use Rattle.sql_lex.proofs.Following.{IsAt, lexed_more, token_at}

-- what makes no token is a blank
blank_whole : (from largest : ℕ) (p : Piece) → token_in from largest p ≡ None → blank_of p ≡ width_of p
blank_whole from largest (Blank width) e = refl
blank_whole from largest (Lexeme k width) e = absurd (cc)
blank_whole from largest (Parameter number width) e = absurd (cc)

blanks_in_front : (text : List ℕ) (from width : ℕ) (tokens : List Token) → blank_width (drop from text) ≡ width → 1 ≤ width → MakeUp text (from + width) tokens → MakeUp text from tokens
blanks_in_front text from width [] is some rest =
    one_more from (length text) (omega (arith, is)) (subst (λ n. AreBlanks text (from + n) (length text)) (sym is) rest)
blanks_in_front text from width (t ∷ tokens) is some rest =
    (one_more from t.span.start (omega (arith, is)) (subst (λ n. AreBlanks text (from + n) t.span.start) (sym is) rest.0), rest.1, rest.2)

-- one piece more in front
piece_in_front : (text bytes : List ℕ) (from largest b : ℕ) (tokens : List Token) (o : Option Token) → token_in from largest (piece b bytes) ≡ o → drop from text ≡ b ∷ bytes → 1 ≤ width_of (piece b bytes) → IfSome o (IsAt from (width_of (piece b bytes)))
    → MakeUp text (from + width_of (piece b bytes)) tokens → MakeUp text from (in_front o tokens)
piece_in_front text bytes from largest b tokens None is at some here rest =
    blanks_in_front text from (width_of (piece b bytes)) tokens (ap blank_width at ∙ blank_whole from largest (piece b bytes) is) some rest
piece_in_front text bytes from largest b tokens (Some t) is at some here rest = (
  subst (AreBlanks text from) (sym here.0) (none from),
  (largest, b, bytes, ap (λ n. drop n text) here.0 ∙ at, ap (λ n. token_in n largest (piece b bytes)) here.0 ∙ is),
  subst (λ n. MakeUp text n tokens) (sym here.1) rest,
)

made_up : (most from largest : ℕ) (text bytes : List ℕ) → length bytes ≤ most → drop from text ≡ bytes → from + length bytes ≡ length text → MakeUp text from (lexed from largest 0 bytes)
made_up most from largest text [] le at whole = subst (AreBlanks text from) (let end : from ≡ length text = omega (arith, whole) in end) (none from)
made_up zero from largest text (b ∷ bytes) le at whole = absurd (omega arith)
made_up (suc most) from largest text (b ∷ bytes) le at whole =
    let p = piece b bytes in
    let w = width_of p in
    let fits = piece_fits b bytes in
    let rest : List ℕ = drop w (b ∷ bytes) in
    let on : drop (from + w) text ≡ rest = sym (drop-drop w from text) ∙ ap (drop w) at in
    let behind = length-drop w (b ∷ bytes) in
    rw (lexed_more from largest b bytes p refl fits.some)
    (piece_in_front text bytes from largest b _ (token_in from largest p) refl at fits.some (token_at from largest p)
    (made_up most (from + w) (largest_in largest p) text rest (omega (arith, behind, fits.some)) on (omega (arith, behind, fits.within, whole))))

pub tokens_make_up : (text : List ℕ) → MakeUp text 0 (tokens_of text)
unfolding tokens_of
tokens_make_up text = made_up (length text) 0 0 text text (omega arith) refl (omega arith)
