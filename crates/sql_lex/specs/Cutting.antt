-- Where a statement ends in a text of SQL (Command Line Shell For SQLite; SQL As Understood By SQLite, "CREATE TRIGGER"), and white
-- space and comments in front of it.
use Rattle.std.specs.Prelude.{◌≡◌, ℕ, zero, suc, ◌-◌, Bool, List, [], ◌∷◌, length, drop, map, Option, Some, None, if◌then◌else◌, codes, refl}
use Rattle.std.specs.Option.{option_map}
use Rattle.sql_tree.specs.Kinds.{begins}
use Rattle.sql_tree.specs.declared.token.Token.{Token}
use Rattle.sql_tree.specs.declared.token.TokenKind.{TokenKind}
use Rattle.sql_tree.specs.declared.token.TokenKind.TheVariants as kind
use Rattle.sql_lex.specs.declared.piece.Piece.{Piece}
use Rattle.sql_lex.specs.declared.piece.Piece.TheVariants.{Blank, Lexeme, Parameter}
use Rattle.sql_lex.specs.Pieces.{piece, word_kind}
use Rattle.sql_lex.specs.Tokens.{tokens_of}

abbrev pub kinds_of : List Token → List TokenKind
kinds_of tokens = map (λ (t : Token). t.kind) tokens

-- ---- statements that create triggers

-- what stands behind EXPLAIN or EXPLAIN QUERY PLAN, where the tokens begin so
abbrev pub explained : List TokenKind → List TokenKind
explained kinds =
    if begins kinds (kind.Explain ∷ kind.Query ∷ kind.Plan ∷ []) then drop 3 kinds
    else if begins kinds (kind.Explain ∷ []) then drop 1 kinds
    else kinds

-- its first words are CREATE TRIGGER, behind an optional EXPLAIN or EXPLAIN QUERY PLAN
abbrev pub creates_trigger : List TokenKind → Bool
creates_trigger kinds = begins (explained kinds) (kind.Create ∷ kind.Trigger ∷ [])

-- ---- the end

-- the token at this place is a `;` that ends the statement: any `;`, but only that of `;` `END` `;` in one that creates a trigger
abbrev pub is_end : List TokenKind → ℕ → Bool
is_end kinds place =
    if creates_trigger kinds then begins (drop (place - 2) kinds) (kind.Semicolon ∷ kind.End ∷ kind.Semicolon ∷ [])
    else begins (drop place kinds) (kind.Semicolon ∷ [])

-- the first of so many places, from this one on, that passes the test
abbrev pub first_place : (ℕ → Bool) → ℕ → ℕ → Option ℕ
first_place passes place zero = None
first_place passes place (suc more) = if passes place then Some place else first_place passes (suc place) more

-- which token ends the statement
abbrev pub end_among : List TokenKind → Option ℕ
end_among kinds = first_place (is_end kinds) 0 (length kinds)

-- the byte where the token at a place starts
abbrev pub start_of : List Token → ℕ → ℕ
start_of [] place = 0
start_of (t ∷ tokens) zero = t.span.start
start_of (t ∷ tokens) (suc place) = start_of tokens place

abbrev pub end_in : List Token → Option ℕ
end_in tokens = option_map (start_of tokens) (end_among (kinds_of tokens))

-- the byte of the first `;` that ends the statement with which the text begins; none where it goes on behind the text
unfoldable pub statement_end : List ℕ → Option ℕ
statement_end text = end_in (tokens_of text)

-- ---- white space and comments

abbrev pub blank_of : Piece → ℕ
blank_of (Blank width) = width
blank_of (Lexeme k width) = 0
blank_of (Parameter number width) = 0

-- how many bytes of white space or of a comment the text begins with, 0 where it begins with a token
abbrev pub blank_width : List ℕ → ℕ
blank_width [] = 0
blank_width (b ∷ bytes) = blank_of (piece b bytes)

-- ---- examples

plain_ends : (statement_end (codes "SELECT 1; SELECT 2;") ≡ Some 8) × (statement_end (codes ";") ≡ Some 0) × (statement_end (codes "SELECT 1 ") ≡ None) × (statement_end [] ≡ None)
unfolding statement_end tokens_of word_kind
plain_ends = (refl, refl, refl, refl)

-- a `;` in a text, a name or a comment ends nothing
hidden : (statement_end (codes "'a;b' \";\" [;] /*;*/ x;") ≡ Some 21) × (statement_end (codes "/* ;") ≡ None) × (statement_end (codes "' ;") ≡ None) × (statement_end (codes "1 --;") ≡ None)
unfolding statement_end tokens_of word_kind
hidden = (refl, refl, refl, refl)

triggers : (statement_end (codes "CREATE TRIGGER g BEGIN a; b; END; c") ≡ Some 32) × (statement_end (codes "explain create /**/ trigger x; y; end ; z") ≡ Some 38) × (statement_end (codes "EXPLAIN QUERY PLAN CREATE TRIGGER x;END;") ≡ Some 39)
unfolding statement_end tokens_of word_kind
triggers = (refl, refl, refl)

no_triggers : (statement_end (codes "CREATE TABLE trigger; END;") ≡ Some 20) × (statement_end (codes "EXPLAIN QUERY CREATE TRIGGER x; END;") ≡ Some 30) × (statement_end (codes "CREATE TRIGGER x; y END;") ≡ None)
unfolding statement_end tokens_of word_kind
no_triggers = (refl, refl, refl)

blanks : (blank_width (codes " x") ≡ 1) × (blank_width (codes "/* */x") ≡ 5) × (blank_width (codes "-- x") ≡ 4) × (blank_width (codes "/* ") ≡ 3) × (blank_width (codes ";") ≡ 0) × (blank_width (codes "?1") ≡ 0) × (blank_width [] ≡ 0)
unfolding word_kind
blanks = (refl, refl, refl, refl, refl, refl, refl)
