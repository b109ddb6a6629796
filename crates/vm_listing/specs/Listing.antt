-- EXPLAIN's listing of a program: a row of eight columns for each instruction, addr, opcode, p1, p2, p3, p4, p5 and comment.
use Rattle.std.specs.Prelude.{ℕ, ◌+◌, Bool, true, false, List, [], ◌∷◌, ◌++◌, ℤ, pos, fold, length, is_some, codes}
use Rattle.std.specs.Fmt.{decimal, signed_decimal}
use Rattle.std.specs.List.{concat, join_by}
use Rattle.std.specs.declared.option.Option.{Option}
use Rattle.std.specs.declared.option.Option.TheVariants.{Some, None}
use Rattle.eng_index.specs.declared.key_term.KeyTerm.{KeyTerm}
use Rattle.eng_index.specs.declared.range.Bounds.{Bounds}
use Rattle.eng_value.specs.Shown.{said}
use Rattle.eng_value.specs.declared.operators.BinaryOperator.{BinaryOperator}
use Rattle.eng_value.specs.declared.operators.BinaryOperator.TheVariants as binary
use Rattle.eng_value.specs.declared.operators.UnaryOperator.{UnaryOperator}
use Rattle.eng_value.specs.declared.operators.UnaryOperator.TheVariants as unary
use Rattle.eng_value.specs.declared.value.Value.{Value}
use Rattle.eng_value.specs.declared.value.Value.TheVariants.{Null, Integer, Text}
use Rattle.table_labels.specs.declared.TableLabel.{TableLabel}
use Rattle.vm_code.specs.declared.op.Op.{Op}
use Rattle.vm_code.specs.declared.op.Op.TheVariants as op
use Rattle.vm_code.specs.declared.operand.Operand.{Operand}
use Rattle.vm_code.specs.declared.program.Program.{Program}
use Rattle.vm_code.specs.declared.program.Unit.{Unit}
use Rattle.vm_code.specs.declared.schema_change.SchemaChange.{SchemaChange}
use Rattle.vm_code.specs.declared.schema_change.SchemaChange.TheVariants.{AddTable, DropTable}
use Rattle.vm_listing.specs.Words.{unary_name, unary_sign, binary_name, binary_sign, comparison, function_name, affinity_word, affinities_word, sides_word, terms_word, keys_word, bounds_word}
use Rattle.vm_listing.specs.Pieces.{register, registers, table_name, cursor, column, rowid, text_literal, blob_literal, first_side, second_side, operand_text, operand_register, first_register}

-- ---- the names and places of instructions

-- the opcode, p1, p2, p3, p4 and p5
pub record Line : Type 0 where
  pub name : List ℕ
  pub p1 : ℤ
  pub p2 : ℤ
  pub p3 : ℤ
  pub p4 : Value
  pub p5 : ℤ

-- all places are used
abbrev pub whole : List ℕ → ℤ → ℕ → ℕ → Value → ℕ → Line
whole name p1 p2 p3 p4 p5 = record { name = name; p1 = p1; p2 = pos p2; p3 = pos p3; p4 = p4; p5 = pos p5 }

-- p1, p2 and p3, and no other place
abbrev pub line : List ℕ → ℕ → ℕ → ℕ → Line
line name p1 p2 p3 = whole name (pos p1) p2 p3 Null 0

abbrev pub flag : Bool → ℕ
flag true = 1
flag false = 0

-- the affinity of a cast
abbrev pub unary_fourth : UnaryOperator → Value
unary_fourth (unary.Cast to) = Text (affinity_word to)
unary_fourth other = Null

-- the collation and the affinities of a comparison
abbrev pub binary_fourth : BinaryOperator → Value
binary_fourth (binary.Compare op sides) = Text (sides_word sides)
binary_fourth (binary.Is sides) = Text (sides_word sides)
binary_fourth other = Null

abbrev pub change_number : SchemaChange → ℕ
change_number AddTable = 0
change_number (DropTable table) = table

abbrev pub change_word : SchemaChange → List ℕ
change_word AddTable = codes "add table"
change_word (DropTable table) = codes "drop table"

-- what stands in the columns for an instruction of a unit whose first instruction has this addr: a jump's target is an addr of the listing
abbrev pub line_of : ℕ → Op → Line
line_of base (op.Goto target) = line (codes "Goto") 0 (base + target) 0
line_of base (op.If r target on_null) = line (codes "If") r (base + target) (flag on_null)
line_of base (op.IfNot r target on_null) = line (codes "IfNot") r (base + target) (flag on_null)
line_of base (op.IsNull r target) = line (codes "IsNull") r (base + target) 0
line_of base (op.NotNull r target) = line (codes "NotNull") r (base + target) 0
line_of base (op.IsBad r target) = line (codes "IsBad") r (base + target) 0
line_of base op.Halt = line (codes "Halt") 0 0 0
line_of base (op.HaltBad r) = line (codes "HaltBad") r 0 0
line_of base (op.Call u first n to) = whole (codes "Call") (pos u) first to Null n
line_of base (op.Ret first n) = line (codes "Ret") first n 0
line_of base (op.Argument n to) = line (codes "Argument") n to 0
line_of base (op.ResultRow first n) = line (codes "ResultRow") first n 0
line_of base (op.Null to) = line (codes "Null") 0 to 0
line_of base (op.Integer value to) = whole (codes "Integer") value to 0 Null 0
line_of base (op.String8 text to) = whole (codes "String8") (pos 0) to 0 (Text text) 0
line_of base (op.Blob blob to) = whole (codes "Blob") (pos 0) to 0 (Text (blob_literal blob)) 0
line_of base (op.Bad cause to) = whole (codes "Bad") (pos 0) to 0 (Text (said cause)) 0
line_of base (op.Variable n to) = line (codes "Variable") n to 0
line_of base (op.Copy from to) = line (codes "Copy") from to 0
line_of base (op.Affinity r affinity) = whole (codes "Affinity") (pos r) 0 0 (Text (affinity_word affinity)) 0
line_of base (op.Beside r other own) = whole (codes "Beside") (pos r) 0 0 (Text (affinities_word own other)) 0
line_of base (op.MustBeInt r) = line (codes "MustBeInt") r 0 0
line_of base (op.Unary operator a to) = whole (unary_name operator) (pos (operand_register a)) to 0 (unary_fourth operator) 0
line_of base (op.Binary operator a b to) = whole (binary_name operator) (pos (operand_register (first_side operator a b))) (operand_register (second_side operator a b)) to (binary_fourth operator) (comparison operator)
line_of base (op.LikeEscaped a b c to) = whole (codes "Function") (pos 0) (operand_register a) to (Text (codes "like")) 3
line_of base (op.Function function collation args to) = whole (codes "Function") (pos 0) (first_register args) to (Text (function_name function)) (length args)
line_of base (op.Merge from to) = line (codes "Merge") from to 0
line_of base (op.OpenRead c table) = line (codes "OpenRead") c table 0
line_of base (op.OpenWrite c table) = line (codes "OpenWrite") c table 0
line_of base (op.RowOf c r first n) = whole (codes "RowOf") (pos c) r first Null n
line_of base (op.Close c) = line (codes "Close") c 0 0
line_of base (op.CloseFrom c) = line (codes "CloseFrom") c 0 0
line_of base (op.Rewind c target) = line (codes "Rewind") c (base + target) 0
line_of base (op.Next c target) = line (codes "Next") c (base + target) 0
line_of base (op.Search c terms bounds first target) = whole (codes "Search") (pos c) (base + target) first (Text (terms_word terms)) bounds.equal
line_of base (op.SeekRowid c r) = line (codes "SeekRowid") c 0 r
line_of base (op.SorterOpen c) = line (codes "SorterOpen") c 0 0
line_of base (op.SorterInsert first n) = line (codes "SorterInsert") 0 first n
line_of base (op.SorterSort c terms target) = whole (codes "SorterSort") (pos c) (base + target) 0 (Text (terms_word terms)) 0
line_of base (op.SorterData c first n) = line (codes "SorterData") c first n
line_of base (op.SorterNext c target) = line (codes "SorterNext") c (base + target) 0
line_of base (op.Column c k to) = line (codes "Column") c k to
line_of base (op.Rowid c to) = line (codes "Rowid") c to 0
line_of base (op.NotExists c r target) = line (codes "NotExists") c (base + target) r
line_of base (op.NoConflict c r first n keys target) = whole (codes "NoConflict") (pos c) (base + target) first (Text (keys_word keys)) n
line_of base (op.NewRowid c to table) = whole (codes "NewRowid") (pos c) to 0 (Text table) 0
line_of base (op.Insert c r first n) = whole (codes "Insert") (pos c) first r Null n
line_of base (op.BuildIndex c terms unique) = whole (codes "BuildIndex") (pos c) 0 0 (Text (terms_word terms)) (flag (is_some unique))
line_of base (op.Schema change) = whole (codes "Schema") (pos (change_number change)) 0 0 (Text (change_word change)) 0

-- ---- comments

-- a register gets what stands behind the =
abbrev pub gets : ℕ → List ℕ → List ℕ
gets to what = concat (register to ∷ codes "=" ∷ what ∷ [])

abbrev pub goes : ℕ → List ℕ
goes target = concat (codes "goto " ∷ decimal target ∷ [])

-- a jump where a register is so
abbrev pub goes_if : List ℕ → ℕ → List ℕ → ℕ → List ℕ
goes_if before r behind target = concat (codes "if " ∷ before ∷ register r ∷ behind ∷ codes " goto " ∷ decimal target ∷ [])

abbrev pub or_null : Bool → List ℕ
or_null true = codes " or NULL"
or_null false = []

-- a word and what it goes with
abbrev pub says : List ℕ → List ℕ → List ℕ
says word what = concat (word ∷ what ∷ [])

-- two things with a word between them
abbrev pub joins : List ℕ → List ℕ → List ℕ → List ℕ
joins left word right = concat (left ∷ word ∷ right ∷ [])

-- something, and where the run goes on if there is none
abbrev pub or_goes : List ℕ → List ℕ → ℕ → List ℕ
or_goes word what target = concat (word ∷ what ∷ codes ", goto " ∷ decimal target ∷ [])

abbrev pub searches : List ℕ → List KeyTerm → Bounds → ℕ → ℕ → List ℕ
searches on terms bounds first target = concat (codes "first of " ∷ on ∷ codes " by " ∷ terms_word terms ∷ codes ": " ∷ bounds_word bounds
    ∷ codes " from " ∷ register first ∷ codes ", else goto " ∷ decimal target ∷ [])

abbrev pub unique_mark : Option (List ℕ) → List ℕ
unique_mark None = []
unique_mark (Some table) = concat (codes " unique in " ∷ table ∷ [])

-- what an operator or a function of operands gives, where `shown` writes an operand
abbrev pub calls : (Operand → List ℕ) → List ℕ → List Operand → List ℕ
calls shown name args = concat (name ∷ codes "(" ∷ join_by shown (codes ", ") args ∷ codes ")" ∷ [])

abbrev pub schema_says : List TableLabel → SchemaChange → List ℕ
schema_says tables AddTable = codes "add a table"
schema_says tables (DropTable table) = says (codes "drop ") (table_name tables table)

-- what an instruction does, where these are the tables, the code of its unit and the addr of its first instruction
abbrev pub comment_of : List TableLabel → List Op → ℕ → Op → List ℕ
comment_of tables code base (op.Goto target) = goes (base + target)
comment_of tables code base (op.If r target on_null) = goes_if [] r (or_null on_null) (base + target)
comment_of tables code base (op.IfNot r target on_null) = goes_if (codes "not ") r (or_null on_null) (base + target)
comment_of tables code base (op.IsNull r target) = goes_if [] r (codes "=NULL") (base + target)
comment_of tables code base (op.NotNull r target) = goes_if [] r (codes "!=NULL") (base + target)
comment_of tables code base (op.IsBad r target) = goes_if [] r (codes " is bad") (base + target)
comment_of tables code base op.Halt = codes "end"
comment_of tables code base (op.HaltBad r) = joins (codes "fail if ") (register r) (codes " is bad")
comment_of tables code base (op.Call u first n to) = gets to (concat (codes "unit " ∷ decimal u ∷ codes "(" ∷ registers first n ∷ codes ")" ∷ []))
comment_of tables code base (op.Ret first n) = says (codes "result=") (registers first n)
comment_of tables code base (op.Argument n to) = gets to (joins (codes "argument[") (decimal n) (codes "]"))
comment_of tables code base (op.ResultRow first n) = says (codes "output=") (registers first n)
comment_of tables code base (op.Null to) = gets to (codes "NULL")
comment_of tables code base (op.Integer value to) = gets to (signed_decimal value)
comment_of tables code base (op.String8 text to) = gets to (text_literal text)
comment_of tables code base (op.Blob blob to) = gets to (blob_literal blob)
comment_of tables code base (op.Bad cause to) = gets to (codes "bad")
comment_of tables code base (op.Variable n to) = gets to (says (codes "?") (decimal n))
comment_of tables code base (op.Copy from to) = gets to (register from)
comment_of tables code base (op.Affinity r affinity) = says (codes "affinity of ") (register r)
comment_of tables code base (op.Beside r other own) = joins (codes "affinity of ") (register r) (codes " to compare")
comment_of tables code base (op.MustBeInt r) = joins (codes "fail if ") (register r) (codes " is no integer")
comment_of tables code base (op.Unary operator a to) = gets to (says (unary_sign operator) (operand_text tables code a))
comment_of tables code base (op.Binary operator a b to) = gets to (joins (operand_text tables code a) (binary_sign operator) (operand_text tables code b))
comment_of tables code base (op.LikeEscaped a b c to) = gets to (concat (operand_text tables code a ∷ codes " like " ∷ operand_text tables code b ∷ codes " escape " ∷ operand_text tables code c ∷ []))
comment_of tables code base (op.Function function collation args to) = gets to (calls (operand_text tables code) (function_name function) args)
comment_of tables code base (op.Merge from to) = gets to (joins (codes "bad if ") (register from) (codes " is bad"))
comment_of tables code base (op.OpenRead c table) = concat (codes "c" ∷ decimal c ∷ codes " on " ∷ table_name tables table ∷ [] ∷ [])
comment_of tables code base (op.OpenWrite c table) = concat (codes "c" ∷ decimal c ∷ codes " on " ∷ table_name tables table ∷ codes " for writing" ∷ [])
comment_of tables code base (op.RowOf c r first n) = concat (codes "c" ∷ decimal c ∷ codes " on row " ∷ register r ∷ codes ": " ∷ registers first n ∷ [])
comment_of tables code base (op.Close c) = says (codes "close ") (cursor tables code c)
comment_of tables code base (op.CloseFrom c) = says (codes "close all from c") (decimal c)
comment_of tables code base (op.Rewind c target) = or_goes (codes "first of ") (cursor tables code c) (base + target)
comment_of tables code base (op.Next c target) = joins (codes "next of ") (cursor tables code c) (says (codes ", ") (goes (base + target)))
comment_of tables code base (op.Search c terms bounds first target) = searches (cursor tables code c) terms bounds first (base + target)
comment_of tables code base (op.SeekRowid c r) = concat (codes "row " ∷ register r ∷ codes " of " ∷ cursor tables code c ∷ [])
comment_of tables code base (op.SorterOpen c) = joins (codes "c") (decimal c) (codes " on a sorter")
comment_of tables code base (op.SorterInsert first n) = says (codes "sorter gets ") (registers first n)
comment_of tables code base (op.SorterSort c terms target) = concat (codes "sort c" ∷ decimal c ∷ codes " by " ∷ terms_word terms ∷ codes ", if empty goto " ∷ decimal (base + target) ∷ [])
comment_of tables code base (op.SorterData c first n) = concat (registers first n ∷ codes "=c" ∷ decimal c ∷ [])
comment_of tables code base (op.SorterNext c target) = concat (codes "next of c" ∷ decimal c ∷ codes ", goto " ∷ decimal (base + target) ∷ [])
comment_of tables code base (op.Column c k to) = gets to (column tables code c k)
comment_of tables code base (op.Rowid c to) = gets to (rowid tables code c)
comment_of tables code base (op.NotExists c r target) = concat (codes "if no row " ∷ register r ∷ codes " in " ∷ cursor tables code c ∷ codes " goto " ∷ decimal (base + target) ∷ [])
comment_of tables code base (op.NoConflict c r first n keys target) = concat (codes "if row " ∷ register r ∷ codes ": " ∷ registers first n ∷ codes " fits in " ∷ cursor tables code c ∷ codes " goto " ∷ decimal (base + target) ∷ [])
comment_of tables code base (op.NewRowid c to table) = gets to (says (codes "new rowid of ") (cursor tables code c))
comment_of tables code base (op.Insert c r first n) = concat (cursor tables code c ∷ codes " gets row " ∷ register r ∷ codes ": " ∷ registers first n ∷ [])
comment_of tables code base (op.BuildIndex c terms unique) = concat (codes "index of " ∷ cursor tables code c ∷ codes " by " ∷ terms_word terms ∷ unique_mark unique ∷ [])
comment_of tables code base (op.Schema change) = schema_says tables change

-- ---- rows

-- the columns up to p3
abbrev pub row_front : ℤ → Line → List Value
row_front addr l = Integer addr ∷ Text l.name ∷ Integer l.p1 ∷ Integer l.p2 ∷ Integer l.p3 ∷ []

-- the eight columns of a row
abbrev pub row_of : ℕ → Line → List ℕ → List Value
row_of addr l comment = row_front (pos addr) l ++ l.p4 ∷ Integer l.p5 ∷ Text comment ∷ []

-- one row more; addr counts the rows from 0, through all units
abbrev pub with_op : List TableLabel → List Op → ℕ → List (List Value) → Op → List (List Value)
with_op tables code base rows op = rows ++ row_of (length rows) (line_of base op) (comment_of tables code base op) ∷ []

-- the rows of a unit behind those in front of it, whose number is the addr of its first instruction
abbrev pub with_code : List TableLabel → List (List Value) → List Op → List (List Value)
with_code tables rows code = fold (with_op tables code (length rows)) rows code

-- those of a called unit; a number without a unit has none
abbrev pub with_unit : List TableLabel → List (List Value) → Option Unit → List (List Value)
with_unit tables rows None = rows
with_unit tables rows (Some unit) = with_code tables rows unit.code

-- the main unit first, then each called unit
abbrev pub listing_of : Program → List TableLabel → List (List Value)
listing_of program tables = fold (with_unit tables) (with_code tables [] program.main.code) program.units
