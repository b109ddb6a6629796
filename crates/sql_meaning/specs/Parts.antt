-- How a script is cut: into statements, each up to its `;`, and dot lines where no statement is pending (Command Line Shell For SQLite).
use Rattle.std.specs.Prelude.{◌≡◌, ℕ, zero, suc, ◌-◌, nat_lt, Bool, true, false, not, ◌&&◌, ◌==◌, List, [], ◌∷◌, ◌++◌, take, drop, length, Option, Some, None, is_some, if◌then◌else◌, codes, refl}
use Rattle.std.specs.Option.{option_map}
use Rattle.std.specs.Char.{encode_utf8}
use Rattle.std.specs.Str.{chars, is_utf8}
use Rattle.std.specs.Str.Lossy.{utf8_valid_len, utf8_error_len}
use Rattle.eng_value.specs.declared.limits.TheConstants.{MAX_SCRIPT_BYTES}
use Rattle.sql_lex.specs.Cutting.{blank_width, statement_end}
use Rattle.sql_lex.specs.Pieces.{word_kind}
use Rattle.sql_lex.specs.Tokens.{tokens_of}
use Rattle.sql_meaning.specs.declared.script.Ending.{Ending}
use Rattle.sql_meaning.specs.declared.script.Ending.TheVariants.{End, ReadFault, TooLong}

-- what a script is made of: texts of statements, each from its first token on; dot lines, each without the end of its line; and a
-- character at this byte that is not whole UTF-8
pub data Part : Type 0 where
  Statement : List ℕ → Part
  DotLine : List ℕ → Part
  BadCharacter : ℕ → Part

-- ---- dot lines

-- where the line with which the bytes begin ends: at its line feed
abbrev pub line_end : List ℕ → Option ℕ
line_end [] = None
line_end (b ∷ bytes) = if b == 10 then Some 0 else option_map suc (line_end bytes)

-- a line without the carriage return at its end, if it has one
abbrev pub without_return : List ℕ → List ℕ
without_return [] = []
without_return (b ∷ []) = if b == 13 then [] else b ∷ []
without_return (b ∷ c ∷ line) = b ∷ without_return (c ∷ line)

-- ---- the part that begins here, a dot line or a statement

abbrev pub end_of : Bool → List ℕ → Option ℕ
end_of is_line bytes = if is_line then line_end bytes else statement_end bytes

abbrev pub statements : List ℕ → List Part
statements [] = []
statements (b ∷ bytes) = Statement (b ∷ bytes) ∷ []

-- the part that these bytes in front of its end are; a statement without a token is none
abbrev pub part_of : Bool → List ℕ → List Part
part_of is_line bytes = if is_line then DotLine (without_return bytes) ∷ [] else statements bytes

-- what has no end is pending, and counts only where pending parts run
abbrev pub part_up_to : Bool → Bool → Option ℕ → List ℕ → List Part
part_up_to pending_runs is_line (Some end) bytes = part_of is_line (take end bytes)
part_up_to pending_runs is_line None bytes = if pending_runs then part_of is_line bytes else []

abbrev pub width_up_to : Option ℕ → List ℕ → ℕ
width_up_to (Some end) bytes = suc end
width_up_to None bytes = length bytes

-- white space and comments are no part
abbrev pub part_here : Bool → Bool → List ℕ → List Part
part_here pending_runs is_line bytes =
    if nat_lt 0 (blank_width bytes) then [] else part_up_to pending_runs is_line (end_of is_line bytes) bytes

abbrev pub width_here : Bool → List ℕ → ℕ
width_here is_line bytes = if nat_lt 0 (blank_width bytes) then blank_width bytes else width_up_to (end_of is_line bytes) bytes

-- ---- the parts of a script

-- the parts from a place on where no statement is pending, behind so many bytes of what stands there; `is_fresh` says that a line
-- begins there
abbrev pub parts_from : Bool → Bool → ℕ → List ℕ → List Part
parts_from pending_runs is_fresh skip [] = []
parts_from pending_runs is_fresh (suc skip) (b ∷ bytes) = parts_from pending_runs (b == 10) skip bytes
parts_from pending_runs is_fresh zero (b ∷ bytes) =
    let is_line = is_fresh && b == 46 in
    part_here pending_runs is_line (b ∷ bytes) ++ parts_from pending_runs (b == 10) (width_here is_line (b ∷ bytes) - 1) bytes

-- a byte past the limit is not looked at
abbrev pub looked_at : Ending → List ℕ → List ℕ
looked_at End bytes = bytes
looked_at ReadFault bytes = bytes
looked_at TooLong bytes = take MAX_SCRIPT_BYTES bytes

-- the longest front that is whole UTF-8
abbrev pub characters : List ℕ → List ℕ
characters bytes = take (utf8_valid_len bytes) bytes

-- behind it nothing stands, or bytes with which a character may begin, unless the end of the script cuts it
abbrev pub may_go_on : Ending → List ℕ → Bool
may_go_on ending [] = true
may_go_on End (b ∷ bytes) = false
may_go_on ReadFault (b ∷ bytes) = not (is_some (utf8_error_len (b ∷ bytes)))
may_go_on TooLong (b ∷ bytes) = not (is_some (utf8_error_len (b ∷ bytes)))

-- the first byte of the first character that is not whole UTF-8
abbrev pub bad_character : Ending → List ℕ → Option ℕ
bad_character ending bytes = if may_go_on ending (drop (utf8_valid_len bytes) bytes) then None else Some (utf8_valid_len bytes)

-- what is pending runs only at the end of a script
abbrev pub runs_pending : Ending → Option ℕ → Bool
runs_pending End None = true
runs_pending End (Some place) = false
runs_pending ReadFault bad = false
runs_pending TooLong bad = false

abbrev pub bad_parts : Option ℕ → List Part
bad_parts None = []
bad_parts (Some place) = BadCharacter place ∷ []

-- a bad character ends a script
abbrev pub parts_in : Ending → List ℕ → List Part
parts_in ending bytes =
    let bad = bad_character ending bytes in
    parts_from (runs_pending ending bad) true 0 (characters bytes) ++ bad_parts bad

-- the parts that run, one after another, of a script with this ending
unfoldable pub parts_of : List ℕ → Ending → List Part
parts_of bytes ending = parts_in ending (looked_at ending bytes)

-- ---- examples

cut_at_semicolons : parts_of (codes "a;\n ; b") End ≡ Statement (codes "a") ∷ Statement (codes "b") ∷ []
unfolding parts_of utf8_valid_len utf8_error_len is_utf8 chars encode_utf8 statement_end tokens_of word_kind
cut_at_semicolons = refl

comments : parts_of (codes "/*;*/ --;\n /* ;") End ≡ []
unfolding parts_of utf8_valid_len utf8_error_len is_utf8 chars encode_utf8 statement_end tokens_of word_kind
comments = refl

-- a line that begins with a dot inside of a statement is none, nor is a dot in the middle of a line
dot_lines : parts_of (codes ".a" ++ 13 ∷ codes "\nb\n.c; .d\n;\n.e") End ≡ DotLine (codes ".a") ∷ Statement (codes "b\n.c") ∷ Statement (codes ".d\n") ∷ DotLine (codes ".e") ∷ []
unfolding parts_of utf8_valid_len utf8_error_len is_utf8 chars encode_utf8 statement_end tokens_of word_kind
dot_lines = refl

-- the end cuts a character, and a read fault leaves it open
cut_characters : (parts_of (codes "a;b" ++ 226 ∷ 130 ∷ []) End ≡ Statement (codes "a") ∷ BadCharacter 3 ∷ []) × (parts_of (codes "a;b" ++ 226 ∷ 130 ∷ []) ReadFault ≡ Statement (codes "a") ∷ []) × (parts_of (codes "a;b" ++ 192 ∷ []) ReadFault ≡ Statement (codes "a") ∷ BadCharacter 3 ∷ [])
unfolding parts_of utf8_valid_len utf8_error_len is_utf8 chars encode_utf8 statement_end tokens_of word_kind
cut_characters = (refl, refl, refl)
