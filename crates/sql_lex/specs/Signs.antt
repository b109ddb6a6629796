-- Signs of two bytes, and of one.
use Rattle.std.specs.Prelude.{ℕ, ◌&&◌, ◌==◌, List, Option, Some, None, if◌then◌else◌}
use Rattle.sql_tree.specs.declared.token.TokenKind.{TokenKind}
use Rattle.sql_tree.specs.declared.token.TokenKind.TheVariants as kind
use Rattle.sql_lex.specs.Pieces.{begins_with}

abbrev pub double_kind : ℕ → List ℕ → Option TokenKind
double_kind b bytes =
    if b == 124 && begins_with 124 bytes then Some kind.DoubleBar
    else if b == 60 && begins_with 60 bytes then Some kind.ShiftLeft
    else if b == 62 && begins_with 62 bytes then Some kind.ShiftRight
    else if b == 60 && begins_with 61 bytes then Some kind.LessEqual
    else if b == 62 && begins_with 61 bytes then Some kind.GreaterEqual
    else if b == 61 && begins_with 61 bytes then Some kind.DoubleEqual
    else if b == 60 && begins_with 62 bytes then Some kind.LessGreater
    else if b == 33 && begins_with 61 bytes then Some kind.BangEqual
    else None

abbrev pub single_kind : ℕ → TokenKind
single_kind b =
    if b == 40 then kind.LeftParen
    else if b == 41 then kind.RightParen
    else if b == 44 then kind.Comma
    else if b == 59 then kind.Semicolon
    else if b == 46 then kind.Dot
    else if b == 42 then kind.Star
    else if b == 43 then kind.Plus
    else if b == 45 then kind.Minus
    else if b == 47 then kind.Slash
    else if b == 37 then kind.Percent
    else if b == 38 then kind.Ampersand
    else if b == 124 then kind.Bar
    else if b == 126 then kind.Tilde
    else if b == 60 then kind.Less
    else if b == 62 then kind.Greater
    else if b == 61 then kind.Equal
    else kind.Illegal
