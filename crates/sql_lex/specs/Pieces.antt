-- What a text of SQL begins with (SQL As Understood By SQLite, "SQLite Keywords"; "Comment Syntax"; SQL Language Expressions,
-- "Literal Values" and "Parameters"). A byte from 128 on is part of a character above U+007F.
use Rattle.std.specs.Prelude.{ℕ, suc, ◌+◌, ◌-◌, ◌%◌, nat_eq, nat_le, Bool, false, not, ◌&&◌, ◌||◌, ◌==◌, List, [], ◌∷◌, length, take, drop, Option, Some, None, if◌then◌else◌}
use Rattle.std.specs.Char.{is_ascii_digit, is_ascii_alphabetic, is_ascii_hexdigit}
use Rattle.std.specs.List.{take_while, list_all}
use Rattle.std.specs.Option.{option_map}
use Rattle.std.specs.Str.{str_eq_ignore_ascii_case}
use Rattle.std.specs.Str.Parse.{digits_value}
use Rattle.sql_tree.specs.declared.token.TokenKind.{TokenKind}
use Rattle.sql_tree.specs.declared.token.TokenKind.TheVariants as kind
use Rattle.sql_lex.specs.declared.piece.Piece.{Piece}
use Rattle.sql_lex.specs.declared.piece.Piece.TheVariants.{Blank, Lexeme, Parameter}
use Rattle.sql_lex.specs.declared.keywords.TheConstants.{KEYWORDS}

-- ---- bytes

-- space, tab, LF, FF, CR
abbrev pub is_space : ℕ → Bool
is_space b = b == 32 || b == 9 || b == 10 || b == 12 || b == 13

abbrev pub begins_word : ℕ → Bool
begins_word b = is_ascii_alphabetic b || b == 95 || nat_le 128 b

abbrev pub is_word_byte : ℕ → Bool
is_word_byte b = begins_word b || is_ascii_digit b || b == 36

-- the text goes on with this byte
abbrev pub begins_with : ℕ → List ℕ → Bool
begins_with c [] = false
begins_with c (b ∷ bytes) = b == c

-- ---- how many bytes

-- up to and with the first of these bytes; none where there is none
abbrev pub up_to : ℕ → List ℕ → Option ℕ
up_to c [] = None
up_to c (b ∷ bytes) = if b == c then Some 1 else option_map suc (up_to c bytes)

-- up to and with the closing quote, where two of them stand for one; none where it is missing
abbrev pub up_to_quote : ℕ → List ℕ → Option ℕ
up_to_quote q [] = None
up_to_quote q (b ∷ []) = if b == q then Some 1 else None
up_to_quote q (b ∷ c ∷ bytes) =
    if not (b == q) then option_map suc (up_to_quote q (c ∷ bytes)) else if c == q then option_map (λ n. suc (suc n)) (up_to_quote q bytes) else Some 1

-- up to and with `*/`, or the end
abbrev pub comment_width : List ℕ → ℕ
comment_width [] = 0
comment_width (b ∷ []) = 1
comment_width (b ∷ c ∷ bytes) = if b == 42 && c == 47 then 2 else suc (comment_width (c ∷ bytes))

abbrev pub line_width : List ℕ → ℕ
line_width bytes = length (take_while (λ b. not (b == 10)) bytes)

abbrev pub word_width : List ℕ → ℕ
word_width bytes = length (take_while is_word_byte bytes)

abbrev pub digits_width : List ℕ → ℕ
digits_width bytes = length (take_while is_ascii_digit bytes)

-- a point and digits, if any
abbrev pub fraction_width : List ℕ → ℕ
fraction_width [] = 0
fraction_width (b ∷ bytes) = if b == 46 then suc (digits_width bytes) else 0

abbrev pub sign_width : List ℕ → ℕ
sign_width [] = 0
sign_width (b ∷ bytes) = if b == 43 || b == 45 then 1 else 0

-- so many bytes and digits behind them; none where there are no digits
abbrev pub with_digits : ℕ → List ℕ → ℕ
with_digits n bytes = if nat_eq (digits_width bytes) 0 then 0 else n + digits_width bytes

-- `e`, an optional sign and digits
abbrev pub exponent_width : List ℕ → ℕ
exponent_width [] = 0
exponent_width (b ∷ bytes) = if b == 101 || b == 69 then with_digits (suc (sign_width bytes)) (drop (sign_width bytes) bytes) else 0

-- digits, an optional fraction and an optional exponent
abbrev pub pointed_width : List ℕ → ℕ
pointed_width bytes = digits_width bytes + fraction_width (drop (digits_width bytes) bytes)

abbrev pub decimal_width : List ℕ → ℕ
decimal_width bytes = pointed_width bytes + exponent_width (drop (pointed_width bytes) bytes)

-- ---- pieces

-- what closes, behind so many bytes that open it; or what stands in no statement, up to the end
abbrev pub closed : TokenKind → ℕ → Option ℕ → List ℕ → Piece
closed k n (Some width) bytes = Lexeme k (n + width)
closed k n None bytes = Lexeme kind.Illegal (n + length bytes)

-- a number of so many bytes, unless a word goes on at once
abbrev pub number_of_width : ℕ → List ℕ → Piece
number_of_width width bytes =
    if nat_eq (word_width (drop width bytes)) 0 then Lexeme kind.Number width else Lexeme kind.Illegal (width + word_width (drop width bytes))

abbrev pub without_zeros : List ℕ → List ℕ
without_zeros [] = []
without_zeros (b ∷ bytes) = if b == 48 then without_zeros bytes else b ∷ bytes

-- behind `0x`: hexadecimal digits, 16 at most behind leading zeros
abbrev pub hex_number : List ℕ → List ℕ → Piece
hex_number digits bytes =
    if nat_le (length (without_zeros digits)) 16 then number_of_width (2 + length digits) bytes else Lexeme kind.Illegal (2 + word_width (drop 2 bytes))

abbrev pub is_x : ℕ → Bool
is_x b = b == 120 || b == 88

-- the hexadecimal digits behind `0x`, none where the text does not begin so
abbrev pub hex_digits : List ℕ → List ℕ
hex_digits (z ∷ x ∷ bytes) = if z == 48 && is_x x then take_while is_ascii_hexdigit bytes else []
hex_digits bytes = []

abbrev pub number_by_digits : List ℕ → List ℕ → Piece
number_by_digits [] bytes = number_of_width (decimal_width bytes) bytes
number_by_digits (d ∷ ds) bytes = hex_number (d ∷ ds) bytes

abbrev pub number_piece : List ℕ → Piece
number_piece bytes = number_by_digits (hex_digits bytes) bytes

-- pairs of hexadecimal digits between the quotes, else what stands in no statement
abbrev pub blob_kind : List ℕ → TokenKind
blob_kind digits = if list_all is_ascii_hexdigit digits && nat_eq (length digits % 2) 0 then kind.Blob else kind.Illegal

-- behind `x'`
abbrev pub blob_up_to : Option ℕ → List ℕ → Piece
blob_up_to (Some width) bytes = Lexeme (blob_kind (take (width - 1) bytes)) (2 + width)
blob_up_to None bytes = Lexeme kind.Illegal (2 + length bytes)

-- the kind of the first keyword that is the word
abbrev pub kind_where : {K : Type 0} → (K → Bool) → (K → TokenKind) → List K → TokenKind
kind_where is_word kind_of [] = kind.Word
kind_where is_word kind_of (k ∷ ks) = if is_word k then kind_of k else kind_where is_word kind_of ks

unfoldable pub word_kind : List ℕ → TokenKind
word_kind word = kind_where (λ k. str_eq_ignore_ascii_case k.0.now word) (λ k. k.1) KEYWORDS

abbrev pub word_piece : List ℕ → Piece
word_piece bytes = Lexeme (word_kind (take_while is_word_byte bytes)) (word_width bytes)

-- a number from 1 to 999
abbrev pub is_parameter : ℕ → Bool
is_parameter n = nat_le 1 n && nat_le n 999

-- behind `?`
abbrev pub parameter_piece : List ℕ → Piece
parameter_piece [] = Parameter None 1
parameter_piece (d ∷ ds) = if is_parameter (digits_value 10 (d ∷ ds)) then Parameter (Some (digits_value 10 (d ∷ ds))) (suc (length (d ∷ ds))) else Lexeme kind.Illegal (suc (length (d ∷ ds)))

-- the sign that b begins, two bytes before one
abbrev pub sign_piece : ℕ → List ℕ → Piece
sign_piece b bytes =
    if b == 124 && begins_with 124 bytes then Lexeme kind.DoubleBar 2
    else if b == 60 && begins_with 60 bytes then Lexeme kind.ShiftLeft 2
    else if b == 62 && begins_with 62 bytes then Lexeme kind.ShiftRight 2
    else if b == 60 && begins_with 61 bytes then Lexeme kind.LessEqual 2
    else if b == 62 && begins_with 61 bytes then Lexeme kind.GreaterEqual 2
    else if b == 61 && begins_with 61 bytes then Lexeme kind.DoubleEqual 2
    else if b == 60 && begins_with 62 bytes then Lexeme kind.LessGreater 2
    else if b == 33 && begins_with 61 bytes then Lexeme kind.BangEqual 2
    else if b == 40 then Lexeme kind.LeftParen 1
    else if b == 41 then Lexeme kind.RightParen 1
    else if b == 44 then Lexeme kind.Comma 1
    else if b == 59 then Lexeme kind.Semicolon 1
    else if b == 46 then Lexeme kind.Dot 1
    else if b == 42 then Lexeme kind.Star 1
    else if b == 43 then Lexeme kind.Plus 1
    else if b == 45 then Lexeme kind.Minus 1
    else if b == 47 then Lexeme kind.Slash 1
    else if b == 37 then Lexeme kind.Percent 1
    else if b == 38 then Lexeme kind.Ampersand 1
    else if b == 124 then Lexeme kind.Bar 1
    else if b == 126 then Lexeme kind.Tilde 1
    else if b == 60 then Lexeme kind.Less 1
    else if b == 62 then Lexeme kind.Greater 1
    else if b == 61 then Lexeme kind.Equal 1
    else Lexeme kind.Illegal 1

-- what b begins, where these bytes follow
abbrev pub piece : ℕ → List ℕ → Piece
piece b bytes =
    if is_space b then Blank 1
    else if b == 45 && begins_with 45 bytes then Blank (suc (line_width bytes))
    else if b == 47 && begins_with 42 bytes then Blank (2 + comment_width (drop 1 bytes))
    else if b == 39 then closed kind.Text 1 (up_to_quote 39 bytes) bytes
    else if b == 34 then closed kind.QuotedName 1 (up_to_quote 34 bytes) bytes
    else if b == 96 then closed kind.QuotedName 1 (up_to_quote 96 bytes) bytes
    else if b == 91 then closed kind.QuotedName 1 (up_to 93 bytes) bytes
    else if is_x b && begins_with 39 bytes then blob_up_to (up_to 39 (drop 1 bytes)) (drop 1 bytes)
    else if begins_word b then word_piece (b ∷ bytes)
    else if is_ascii_digit b then number_piece (b ∷ bytes)
    else if b == 63 then parameter_piece (take_while is_ascii_digit bytes)
    else sign_piece b bytes
