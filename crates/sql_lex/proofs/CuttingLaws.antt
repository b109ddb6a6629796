-- The laws of cutting, for whoever cuts a text.
use Rattle.std.proofs.Common.{◌≡◌, ◌<◌, ◌≤◌, ℕ, List, [], ◌∷◌, ◌++◌, length, Some, arith}
use Rattle.sql_lex.specs.declared.piece.Piece.{Piece}
use Rattle.sql_lex.specs.declared.piece.Piece.TheVariants.{Blank, Lexeme, Parameter}
use Rattle.sql_lex.specs.Cutting.{blank_of, blank_width, statement_end}
use Rattle.sql_lex.specs.Pieces.{piece}
use Rattle.sql_lex.specs.Tokens.{width_of}
use Rattle.sql_lex.proofs.Cuts.{piece_fits}
use Rattle.sql_lex.proofs.Lasting as lasting

-- a statement that is ended stays so
pub statement_end-stays : (text more : List ℕ) (end : ℕ) → statement_end text ≡ Some end → statement_end (text ++ more) ≡ Some end
statement_end-stays text more end h = lasting.statement_end_stays text more end h

-- it ends within the text
pub statement_end-within : (text : List ℕ) (end : ℕ) → statement_end text ≡ Some end → end < length text
statement_end-within text end h = lasting.statement_end-within text end h

-- and goes on to begin with a token
pub blank_width-ended : (text more : List ℕ) (end : ℕ) → statement_end text ≡ Some end → blank_width text ≤ 0 → blank_width (text ++ more) ≤ 0
blank_width-ended text more end h none = lasting.ended_token text more end h none

-- a blank that ends in front of the end of the text stays
pub blank_width-stays : (text more : List ℕ) → 2 ≤ length text → blank_width text < length text → blank_width (text ++ more) ≡ blank_width text
blank_width-stays text more two within = lasting.blank_width_stays text more two within

-- a blank is no longer than the text
pub blank_width-within : (text : List ℕ) → blank_width text ≤ length text
blank_width-within [] = omega arith
blank_width-within (b ∷ bytes) = by (piece b bytes) (piece_fits b bytes).within
  where
    by : (p : Piece) → width_of p ≤ length (b ∷ bytes) → blank_of p ≤ length (b ∷ bytes)
    by (Blank width) le = le
    by (Lexeme k width) le = omega arith
    by (Parameter number width) le = omega arith
