-- How far a statement has been read, as far as that says where it ends.
use Rattle.std.specs.Prelude.{Bool, true, false, ◌&&◌, if◌then◌else◌}
use Rattle.sql_tree.specs.Kinds.{same_kind}
use Rattle.sql_tree.specs.declared.token.TokenKind.{TokenKind}
use Rattle.sql_tree.specs.declared.token.TokenKind.TheVariants as kind
use Rattle.sql_lex.specs.declared.piece.Piece.{Piece}
use Rattle.sql_lex.specs.declared.piece.Piece.TheVariants.{Blank, Lexeme, Parameter}
use Rattle.sql_lex.specs.declared.reading.Reading.{Reading}
use Rattle.sql_lex.specs.declared.reading.Reading.TheVariants as reading

-- a `;` here ends the statement
abbrev pub ends_at_semicolon : Reading → Bool
ends_at_semicolon reading.Body = false
ends_at_semicolon reading.Semicolon = false
ends_at_semicolon read = true

-- one more token, that does not end the statement
abbrev pub after : Reading → TokenKind → Reading
after reading.Start k = if same_kind k kind.Explain then reading.Explain else if same_kind k kind.Create then reading.Create else reading.Other
after reading.Explain k = if same_kind k kind.Query then reading.Query else if same_kind k kind.Create then reading.Create else reading.Other
after reading.Query k = if same_kind k kind.Plan then reading.Plan else reading.Other
after reading.Plan k = if same_kind k kind.Create then reading.Create else reading.Other
after reading.Create k = if same_kind k kind.Trigger then reading.Body else reading.Other
after reading.Other k = reading.Other
after reading.Body k = if same_kind k kind.Semicolon then reading.Semicolon else reading.Body
after reading.Semicolon k = if same_kind k kind.Semicolon then reading.Semicolon else if same_kind k kind.End then reading.End else reading.Body
after reading.End k = reading.Body

-- the token ends the statement
abbrev pub ends : Reading → TokenKind → Bool
ends read k = same_kind k kind.Semicolon && ends_at_semicolon read

abbrev pub is_end : Reading → Piece → Bool
is_end read (Blank width) = false
is_end read (Lexeme k width) = ends read k
is_end read (Parameter number width) = false

abbrev pub behind_piece : Reading → Piece → Reading
behind_piece read (Blank width) = read
behind_piece read (Lexeme k width) = after read k
behind_piece read (Parameter number width) = after read kind.Parameter
