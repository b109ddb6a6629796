-- The tokens of a text of SQL, in order, with the bytes where they stand.
use Rattle.std.specs.Prelude.{◌≡◌, ℕ, suc, zero, ◌+◌, ◌-◌, ◌<◌, ◌≤◌, max, List, [], ◌∷◌, take, drop, map, Option, Some, None, if◌then◌else◌, codes, refl}
use Rattle.sql_tree.specs.declared.token.Token.{Token}
use Rattle.sql_tree.specs.declared.token.TokenKind.{TokenKind}
use Rattle.sql_tree.specs.declared.token.TokenKind.TheVariants as kind
use Rattle.sql_lex.specs.declared.piece.Piece.{Piece}
use Rattle.sql_lex.specs.declared.piece.Piece.TheVariants.{Blank, Lexeme, Parameter}
use Rattle.sql_lex.specs.Pieces.{piece, is_parameter, word_kind}

abbrev pub width_of : Piece → ℕ
width_of (Blank width) = width
width_of (Lexeme k width) = width
width_of (Parameter number width) = width

abbrev pub plain : TokenKind → ℕ → ℕ → Token
plain k from width = record { kind = k; span = record { start = from; end = from + width }; parameter = None }

-- a parameter of this number; past 999 it stands in no statement
abbrev pub numbered : ℕ → ℕ → ℕ → Token
numbered n from width =
    if is_parameter n then record { kind = kind.Parameter; span = record { start = from; end = from + width }; parameter = Some n }
    else plain kind.Illegal from width

-- one without a number has the next one behind the largest so far
abbrev pub number_behind : ℕ → Option ℕ → ℕ
number_behind largest None = suc largest
number_behind largest (Some n) = n

abbrev pub token_in : ℕ → ℕ → Piece → Option Token
token_in from largest (Blank width) = None
token_in from largest (Lexeme k width) = Some (plain k from width)
token_in from largest (Parameter number width) = Some (numbered (number_behind largest number) from width)

abbrev pub within : ℕ → ℕ → ℕ
within largest n = if is_parameter n then max largest n else largest

-- the largest number of a parameter so far
abbrev pub largest_in : ℕ → Piece → ℕ
largest_in largest (Blank width) = largest
largest_in largest (Lexeme k width) = largest
largest_in largest (Parameter number width) = within largest (number_behind largest number)

abbrev pub in_front : Option Token → List Token → List Token
in_front None tokens = tokens
in_front (Some token) tokens = token ∷ tokens

-- the tokens from a place on, behind so many bytes of the piece there, with the largest parameter so far
abbrev pub lexed : ℕ → ℕ → ℕ → List ℕ → List Token
lexed from largest skip [] = []
lexed from largest (suc skip) (b ∷ bytes) = lexed (suc from) largest skip bytes
lexed from largest zero (b ∷ bytes) =
    in_front (token_in from largest (piece b bytes)) (lexed (suc from) (largest_in largest (piece b bytes)) (width_of (piece b bytes) - 1) bytes)

unfoldable pub tokens_of : List ℕ → List Token
tokens_of text = lexed 0 0 0 text

-- ---- what holds of them

-- each behind the one in front of it, and none is empty
abbrev pub InOrder : ℕ → ℕ → List Token → Type 0
InOrder from end [] = from ≤ end
InOrder from end (t ∷ tokens) = (from ≤ t.span.start) × (t.span.start < t.span.end) × InOrder t.span.end end tokens

-- the bytes of a token
abbrev pub slice_of : List ℕ → Token → List ℕ
slice_of text token = take (token.span.end - token.span.start) (drop token.span.start text)

-- ---- examples

abbrev kinds : List ℕ → List TokenKind
kinds text = map (λ (t : Token). t.kind) (tokens_of text)

abbrev slices : List ℕ → List (List ℕ)
slices text = map (slice_of text) (tokens_of text)

words : (kinds (codes "wHere a1>= 12") ≡ kind.Where ∷ kind.Word ∷ kind.GreaterEqual ∷ kind.Number ∷ []) × (slices (codes "wHere a1>= 12") ≡ codes "wHere" ∷ codes "a1" ∷ codes ">=" ∷ codes "12" ∷ [])
unfolding tokens_of word_kind
words = (refl, refl)

quotes : (slices (codes "'it''s' \"a\"\"b\"[c d]`e`") ≡ codes "'it''s'" ∷ codes "\"a\"\"b\"" ∷ codes "[c d]" ∷ codes "`e`" ∷ []) × (kinds (codes "'it''s' \"a\"\"b\"[c d]`e`") ≡ kind.Text ∷ kind.QuotedName ∷ kind.QuotedName ∷ kind.QuotedName ∷ []) × (kinds (codes "a 'x") ≡ kind.Word ∷ kind.Illegal ∷ [])
unfolding tokens_of word_kind
quotes = (refl, refl, refl)

blobs : (kinds (codes "x'0aF1' X'' x'0' x'0g'1") ≡ kind.Blob ∷ kind.Blob ∷ kind.Illegal ∷ kind.Illegal ∷ kind.Number ∷ []) × (kinds (codes "x 'a'") ≡ kind.Word ∷ kind.Text ∷ [])
unfolding tokens_of word_kind
blobs = (refl, refl)

numbers : (slices (codes "1.5e+7 5. 0x1F 1.e2") ≡ codes "1.5e+7" ∷ codes "5." ∷ codes "0x1F" ∷ codes "1.e2" ∷ []) × (kinds (codes "7up 2e 0x 1e+") ≡ kind.Illegal ∷ kind.Illegal ∷ kind.Illegal ∷ kind.Illegal ∷ kind.Plus ∷ []) × (kinds (codes "0x00ffffffffffffffff 0x1ffffffffffffffff .5") ≡ kind.Number ∷ kind.Illegal ∷ kind.Dot ∷ kind.Number ∷ [])
unfolding tokens_of word_kind
numbers = (refl, refl, refl)

comments : (kinds (codes "a--b\n-1/*c*/d/*e") ≡ kind.Word ∷ kind.Minus ∷ kind.Number ∷ kind.Word ∷ []) × (slices (codes "a--b\n-1/*c*/d/*e") ≡ codes "a" ∷ codes "-" ∷ codes "1" ∷ codes "d" ∷ []) × (kinds (codes "/*/ a") ≡ [])
unfolding tokens_of word_kind
comments = (refl, refl, refl)

parameters : (map (λ (t : Token). t.parameter) (tokens_of (codes "? ?7 ? ?3 ?")) ≡ Some 1 ∷ Some 7 ∷ Some 8 ∷ Some 3 ∷ Some 9 ∷ []) × (kinds (codes "?0 ?1000 ?999 ?") ≡ kind.Illegal ∷ kind.Illegal ∷ kind.Parameter ∷ kind.Illegal ∷ []) × (kinds (codes "?7x") ≡ kind.Parameter ∷ kind.Word ∷ [])
unfolding tokens_of word_kind
parameters = (refl, refl, refl)

signs : kinds (codes "a<>b!=c||d<<e>>f==g=h<=i!j") ≡ kind.Word ∷ kind.LessGreater ∷ kind.Word ∷ kind.BangEqual ∷ kind.Word ∷ kind.DoubleBar ∷ kind.Word ∷ kind.ShiftLeft ∷ kind.Word ∷ kind.ShiftRight ∷ kind.Word ∷ kind.DoubleEqual ∷ kind.Word ∷ kind.Equal ∷ kind.Word ∷ kind.LessEqual ∷ kind.Word ∷ kind.Illegal ∷ kind.Word ∷ []
unfolding tokens_of word_kind
signs = refl
