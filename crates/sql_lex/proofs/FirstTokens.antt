-- The tokens of a text from its first one on: as many as those of the text.
use Rattle.std.proofs.Common.{◌≡◌, ℕ, zero, suc, ◌+◌, ◌-◌, ◌≤◌, Bool, true, false, cond, List, [], ◌∷◌, length, drop, Some, refl, sym, ap, ◌∙◌, arith}
use Rattle.sql_tree.specs.declared.token.Token.{Token}
use Rattle.sql_lex.specs.declared.piece.Piece.{Piece}
use Rattle.sql_lex.specs.declared.piece.Piece.TheVariants.{Blank, Lexeme, Parameter}
use Rattle.sql_lex.specs.Pieces.{is_parameter, piece}
use Rattle.sql_tree.specs.declared.token.TokenKind.TheVariants as kind
use Rattle.sql_lex.specs.Tokens.{in_front, largest_in, lexed, number_behind, numbered, plain, token_in, tokens_of, width_of}

-- how many there are does not depend on where the text stands
as_many : (bytes : List ℕ) (from other largest skip : ℕ) → length (lexed from largest skip bytes) ≡ length (lexed other largest skip bytes)
as_many [] from other largest skip = refl
as_many (b ∷ bytes) from other largest (suc skip) = as_many bytes (suc from) (suc other) largest skip
as_many (b ∷ bytes) from other largest zero = by (piece b bytes) (as_many bytes (suc from) (suc other) (largest_in largest (piece b bytes)) (width_of (piece b bytes) - 1))
  where
    more : Piece → ℕ → List Token
    more p n = lexed n (largest_in largest (piece b bytes)) (width_of (piece b bytes) - 1) bytes

    by : (p : Piece) → length (more p (suc from)) ≡ length (more p (suc other)) → length (in_front (token_in from largest p) (more p (suc from))) ≡ length (in_front (token_in other largest p) (more p (suc other)))
    by (Blank width) same = same
    by (Lexeme k width) same = ap suc same
    by (Parameter number width) same = ap suc same

-- a token starts where its piece does
numbered_start : (n from width : ℕ) → (numbered n from width).span.start ≡ from
numbered_start n from width = by (is_parameter n)
  where
    by : (b : Bool) → (cond b (record { kind = kind.Parameter; span = record { start = from; end = from + width }; parameter = Some n }) (plain kind.Illegal from width)).span.start ≡ from
    by true = refl
    by false = refl

record Begins (from largest : ℕ) (bytes : List ℕ) (tokens : List Token) (t : Token) : Type 0 where
  behind : from ≤ t.span.start
  many : length (lexed 0 largest 0 (drop (t.span.start - from) bytes)) ≡ length tokens

begins_here : (from largest : ℕ) (bytes : List ℕ) (tokens : List Token) (t : Token) → lexed from largest 0 bytes ≡ tokens → t.span.start ≡ from → Begins from largest bytes tokens t
begins_here from largest bytes tokens t is at =
    let none : t.span.start - from ≡ 0 = omega (arith, at) in
    record {
      behind = omega (arith, at);
      many = ap (λ n. length (lexed 0 largest 0 (drop n bytes))) none ∙ as_many bytes 0 from largest 0 ∙ ap length is;
    }

begins_behind : (from largest b : ℕ) (bytes : List ℕ) (tokens : List Token) (t : Token) → Begins (suc from) largest bytes tokens t → Begins from largest (b ∷ bytes) tokens t
begins_behind from largest b bytes tokens t h =
    let one : t.span.start - from ≡ suc (t.span.start - suc from) = omega (arith, h.behind) in
    record {
      behind = omega (arith, h.behind);
      many = ap (λ n. length (lexed 0 largest 0 (drop n (b ∷ bytes)))) one ∙ h.many;
    }

begins : (bytes : List ℕ) (from largest skip : ℕ) (t : Token) (ts : List Token) → lexed from largest skip bytes ≡ t ∷ ts → Begins from largest bytes (t ∷ ts) t
begins [] from largest skip t ts is = absurd (cc)
begins (b ∷ bytes) from largest (suc skip) t ts is = begins_behind from largest b bytes (t ∷ ts) t (begins bytes (suc from) largest skip t ts is)
begins (b ∷ bytes) from largest zero t ts is = by (λ skip e. begins bytes (suc from) largest skip t ts e) (piece b bytes) is
  where
    by : ((skip : ℕ) → lexed (suc from) largest skip bytes ≡ t ∷ ts → Begins (suc from) largest bytes (t ∷ ts) t) → (p : Piece) → in_front (token_in from largest p) (lexed (suc from) (largest_in largest p) (width_of p - 1) bytes) ≡ t ∷ ts → Begins from largest (b ∷ bytes) (t ∷ ts) t
    by rest (Blank width) e = begins_behind from largest b bytes (t ∷ ts) t (rest (width - 1) e)
    by rest (Lexeme k width) e = let first : plain k from width ≡ t = cc in begins_here from largest (b ∷ bytes) (t ∷ ts) t is (ap (λ (u : Token). u.span.start) (sym first))
    by rest (Parameter number width) e =
        let first : numbered (number_behind largest number) from width ≡ t = cc in
        begins_here from largest (b ∷ bytes) (t ∷ ts) t is (ap (λ (u : Token). u.span.start) (sym first) ∙ numbered_start (number_behind largest number) from width)

pub as_many_from : (text : List ℕ) (t : Token) (ts : List Token) → tokens_of text ≡ t ∷ ts → length (tokens_of (drop t.span.start text)) ≡ length (tokens_of text)
unfolding tokens_of
as_many_from text t ts is =
    let same : t.span.start ≡ t.span.start - 0 = omega arith in
    ap (λ n. length (lexed 0 0 0 (drop n text))) same ∙ (begins text 0 0 0 t ts is).many ∙ ap length (sym is)
