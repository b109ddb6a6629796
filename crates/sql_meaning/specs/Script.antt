-- What a script writes, and its status.
use Rattle.std.specs.Prelude.{◌≡◌, ◌≤◌, ◌<◌, ◌+◌, ℕ, List, [], ◌∷◌, ◌++◌, Bool, true, false, ◌&&◌, ◌||◌, if◌then◌else◌, map, sum_by, is_some, ℤ, pos, Some, None, codes}
use Rattle.std.specs.List.{flat_map, list_any, join_with_byte}
use Rattle.std.specs.Fmt.{decimal, signed_decimal}
use Rattle.std.specs.Str.{bytes_eq}
use Rattle.std.specs.declared.option.Option.{Option}
use Rattle.eng_value.specs.CauseText.{code_of, text_of}
use Rattle.eng_value.specs.HostMeanings.{HostMeanings}
use Rattle.eng_value.specs.declared.cause.Cause.{Cause}
use Rattle.eng_value.specs.declared.cause.Cause.TheVariants.{Interrupted}
use Rattle.eng_value.specs.declared.value.Value.{Value}
use Rattle.eng_value.specs.declared.value.Value.TheVariants.{Null, Integer, Text, Blob}
use Rattle.sql_meaning.specs.declared.script.Ending.{Ending}
use Rattle.sql_meaning.specs.declared.script.Ending.TheVariants.{End, ReadFault, TooLong}
use Rattle.sql_meaning.specs.declared.script.Failure.{Failure}
use Rattle.sql_meaning.specs.declared.script.Failure.TheVariants.{Refused, UnknownDotLine, NotUtf8}
use Rattle.sql_meaning.specs.declared.script.Options.{Options}
use Rattle.sql_meaning.specs.Parts.{Part, Statement, DotLine, BadCharacter, parts_of}
use Rattle.sql_meaning.specs.Named.{TextIsTold}
use Rattle.sql_meaning.specs.Statement.{IsNamed, MayGive, Outcome, text_outcome}
use Rattle.sql_meaning.specs.Work.{instruction_bound}
use Rattle.sql_meaning.specs.World.{Context, State, context, new_state}

-- ---- what a part of a script comes to

-- why it has an error line, if it has one; the rows that it gave; how many instructions it ran; and what the connection then holds
pub record Came : Type 0 where
  pub failure : Option Failure
  pub given : List (List Value)
  pub ran : ℕ
  pub next : State

abbrev pub as_named : Outcome → Option Cause → List (List Value) → ℕ → Came
as_named o None rows ran = record { failure = None; given = rows; ran = ran; next = o.next }
as_named o (Some why) rows ran = record { failure = Some (Refused why); given = rows; ran = ran; next = o.next }

-- a statement that used its budget up gave a front of its rows, and changed nothing
abbrev pub interrupted : State → ℕ → List (List Value) → ℕ → Came
interrupted state budget front ran = record { failure = Some (Refused (Interrupted budget)); given = front; ran = ran; next = state }

-- nothing but an error line
abbrev pub failed : State → Failure → Came
failed state why = record { failure = Some why; given = []; ran = 0; next = state }

-- a statement comes to what it means, within its budget and within what its size and its work need, counted from its opening, when `before` instructions had been run; or the budget is reached, which is less than they need: then it is interrupted behind a front of its rows
pub data Comes (budget before : ℕ) (ctx : Context) (text : List ℕ) : Came → Type 0 where
  as_meant : (why : Option Cause) (rows : List (List Value)) (ran : ℕ) → IsNamed (text_outcome ctx text).refusal why → MayGive (text_outcome ctx text) rows
      → before + ran ≤ budget → before + ran ≤ instruction_bound ctx text → Comes budget before ctx text (as_named (text_outcome ctx text) why rows ran)
  cut_off : (rows front rest : List (List Value)) (ran : ℕ) → MayGive (text_outcome ctx text) rows → front ++ rest ≡ rows
      → before + ran ≡ budget → budget < instruction_bound ctx text → Comes budget before ctx text (interrupted ctx.state budget front ran)

-- ---- dot lines

-- the number that a dot line asks for: how many rows the last write changed, or the rowid of the last row that was put
abbrev pub number_asked : State → List ℕ → Option ℤ
number_asked state line = if bytes_eq line (codes ".changes") then Some (pos state.changes) else if bytes_eq line (codes ".rowid") then Some state.last_rowid else None

-- it is printed as a row; any other dot line is unknown
abbrev pub row_of_number : State → Option ℤ → Came
row_of_number state None = failed state UnknownDotLine
row_of_number state (Some n) = record { failure = None; given = (Integer n ∷ []) ∷ []; ran = 0; next = state }

abbrev pub dot_line_came : State → List ℕ → Came
dot_line_came state line = row_of_number state (number_asked state line)

-- ---- any part

-- a statement that names only hosts that tell comes to something
abbrev pub PartComes : HostMeanings → ℕ → State → Part → Came → Type 0
PartComes hosts budget state (Statement text) o = TextIsTold (context hosts state []) text → Comes budget 0 (context hosts state []) text o
PartComes hosts budget state (DotLine line) o = o ≡ dot_line_came state line
PartComes hosts budget state (BadCharacter place) o = o ≡ failed state (NotUtf8 place)

-- ---- what a script comes to

abbrev pub is_failed : Came → Bool
is_failed o = is_some o.failure

abbrev pub is_bad_character : Option Failure → Bool
is_bad_character None = false
is_bad_character (Some (Refused why)) = false
is_bad_character (Some UnknownDotLine) = false
is_bad_character (Some (NotUtf8 place)) = true

-- the script ends here: at its first error line where that is asked for, and at a character that is not whole UTF-8
abbrev pub ends : Options → Came → Bool
ends options o = (options.bail && is_failed o) || is_bad_character o.failure

-- what follows an outcome: nothing where the script ends there
abbrev pub Follow : Bool → List Came → Type 0 → Type 0
Follow true os Others = os ≡ []
Follow false os Others = Others

-- the parts come to these, one after another, up to one at which the script ends
abbrev pub Come : HostMeanings → Options → State → List Part → List Came → Type 0
Come hosts options state [] os = os ≡ []
Come hosts options state (part ∷ parts) [] = ⊥
Come hosts options state (part ∷ parts) (o ∷ os) =
    PartComes hosts options.budget state part o × Follow (ends options o) os (Come hosts options o.next parts os)

-- the parts of a script come to these, from no tables on
unfoldable pub AreOutcomes : HostMeanings → Options → List ℕ → Ending → List Came → Type 0
AreOutcomes hosts options bytes ending os = Come hosts options new_state (parts_of bytes ending) os

-- how many instructions were run
abbrev pub instructions : List Came → ℕ
instructions os = sum_by (λ (o : Came). o.ran) os

-- ---- what is written

-- what stands between two values of a row
abbrev pub bar : ℕ
bar = 124

abbrev pub line_feed : ℕ
line_feed = 10

-- NULL as nothing, a text and a blob as their bytes
abbrev pub printed : Value → List ℕ
printed Null = []
printed (Integer n) = signed_decimal n
printed (Text text) = text
printed (Blob bytes) = bytes

-- the values joined by `|`, and LF (Command Line Shell For SQLite, the output mode "list")
abbrev pub row_line : List Value → List ℕ
row_line row = join_with_byte bar (map printed row) ++ line_feed ∷ []

abbrev pub failure_code : Failure → ℕ
failure_code (Refused why) = code_of why
failure_code UnknownDotLine = 1
failure_code (NotUtf8 place) = 1

abbrev pub failure_text : Failure → List ℕ
failure_text (Refused why) = text_of why
failure_text UnknownDotLine = codes "unknown dot line"
failure_text (NotUtf8 place) = codes "not UTF-8 at byte " ++ decimal place

abbrev pub error_line : Failure → List ℕ
error_line why = codes "Error " ++ decimal (failure_code why) ++ codes ": " ++ failure_text why ++ line_feed ∷ []

abbrev pub error_lines : Option Failure → List ℕ
error_lines None = []
error_lines (Some why) = error_line why

-- a line for each row that is given, and then the error line
abbrev pub came_lines : Came → List ℕ
came_lines o = flat_map row_line o.given ++ error_lines o.failure

-- the lines of outcomes
unfoldable pub lines_of : List Came → List ℕ
lines_of os = flat_map came_lines os

-- ---- the status

abbrev pub status_of : Ending → Bool → ℕ
status_of End is_failed = if is_failed then 1 else 0
status_of ReadFault is_failed = 3
status_of TooLong is_failed = 5

-- the exit status: that of the ending, with 1 for the end of a script that has an error line; and 1 where an error line ended the script
unfoldable pub status_by : Options → Ending → List Came → ℕ
status_by options ending os = if list_any (ends options) os then 1 else status_of ending (list_any is_failed os)

abbrev pub usage_line : List ℕ
usage_line = codes "usage: sqlsh [--budget N] [--bail] [--make N]" ++ line_feed ∷ []
