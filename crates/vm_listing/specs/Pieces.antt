-- The pieces of comments: registers, cursors, columns, constants and operands.
use Rattle.std.specs.Prelude.{ℕ, zero, suc, ◌+◌, ◌-◌, ◌==◌, ◌||◌, Bool, false, List, [], ◌∷◌, length, take, nat_lt, nat_le, slice_get, slice_index, codes, if◌then◌else◌}
use Rattle.std.specs.Fmt.{decimal, signed_decimal}
use Rattle.std.specs.List.{concat, find}
use Rattle.std.specs.declared.option.Option.{Option}
use Rattle.std.specs.declared.option.Option.TheVariants.{Some, None}
use Rattle.eng_value.specs.Functions.{quoted}
use Rattle.eng_value.specs.declared.operators.BinaryOperator.{BinaryOperator}
use Rattle.eng_value.specs.declared.operators.BinaryOperator.TheVariants as binary
use Rattle.eng_value.specs.declared.out.Out.{Out}
use Rattle.eng_value.specs.declared.out.Out.TheVariants.{Good, Bad}
use Rattle.eng_value.specs.declared.value.Value.{Value}
use Rattle.eng_value.specs.declared.value.Value.TheVariants.{Null, Integer, Text, Blob}
use Rattle.table_labels.specs.declared.TableLabel.{TableLabel}
use Rattle.vm_code.specs.declared.op.Op.{Op}
use Rattle.vm_code.specs.declared.op.Op.TheVariants as op
use Rattle.vm_code.specs.declared.operand.Operand.{Operand}
use Rattle.vm_code.specs.declared.operand.Operand.TheVariants as operand

-- ---- registers

abbrev pub register : ℕ → List ℕ
register r = concat (codes "r[" ∷ decimal r ∷ codes "]" ∷ [])

-- so many registers from the first on
abbrev pub registers : ℕ → ℕ → List ℕ
registers first count = if count == 0 then codes "nothing" else (if count == 1 then register first
    else concat (codes "r[" ∷ decimal first ∷ codes ".." ∷ decimal (first + count - 1) ∷ codes "]" ∷ []))

-- ---- cursors and columns

-- the name of the table of this number
abbrev pub name_or : ℕ → Option TableLabel → List ℕ
name_or n None = concat (codes "table " ∷ decimal n ∷ [])
name_or n (Some label) = label.name

abbrev pub table_name : List TableLabel → ℕ → List ℕ
table_name tables n = name_or n (slice_get tables n)

abbrev pub columns_or_none : Option TableLabel → List (List ℕ)
columns_or_none None = []
columns_or_none (Some label) = label.columns

-- the instruction opens the cursor
abbrev pub opens : ℕ → Op → Bool
opens c (op.OpenRead d table) = d == c
opens c (op.OpenWrite d table) = d == c
opens c (op.RowOf d rowid first n) = d == c
opens c (op.SorterOpen d) = d == c
opens c other = false

-- the table that it opens a cursor on
abbrev pub table_opened : Option Op → Option ℕ
table_opened (Some (op.OpenRead d table)) = Some table
table_opened (Some (op.OpenWrite d table)) = Some table
table_opened other = None

-- the table of a cursor: that of the first instruction of the unit that opens it
abbrev pub cursor_table : List Op → ℕ → Option ℕ
cursor_table code c = table_opened (find (opens c) code)

-- the cursor's table, or the cursor's number where it has none
abbrev pub cursor_name : List TableLabel → ℕ → Option ℕ → List ℕ
cursor_name tables c (Some n) = table_name tables n
cursor_name tables c None = concat (codes "c" ∷ decimal c ∷ [])

abbrev pub cursor : List TableLabel → List Op → ℕ → List ℕ
cursor tables code c = cursor_name tables c (cursor_table code c)

-- the names of the columns of a cursor's table
abbrev pub cursor_columns : List TableLabel → Option ℕ → List (List ℕ)
cursor_columns tables (Some n) = columns_or_none (slice_get tables n)
cursor_columns tables None = []

abbrev pub column_or : ℕ → Option (List ℕ) → List ℕ
column_or k (Some name) = name
column_or k None = concat (codes "column " ∷ decimal k ∷ [])

-- the column of a cursor's row
abbrev pub column : List TableLabel → List Op → ℕ → ℕ → List ℕ
column tables code c k = concat (cursor tables code c ∷ codes "." ∷ column_or k (slice_get (cursor_columns tables (cursor_table code c)) k) ∷ [])

abbrev pub rowid : List TableLabel → List Op → ℕ → List ℕ
rowid tables code c = concat (cursor tables code c ∷ codes ".rowid" ∷ [])

-- ---- constants

-- a character begins with the byte in this place
abbrev pub begins : List ℕ → ℕ → Bool
begins text place = nat_lt (slice_index text place) 128 || nat_le 192 (slice_index text place)

-- the front of a text with as many bytes as this at most, which ends between two characters
unfoldable pub front : List ℕ → ℕ → List ℕ
front text zero = []
front text (suc n) = if begins text (suc n) then take (suc n) text else front text n

-- a text of more than 40 bytes is cut
abbrev pub shortened : List ℕ → List ℕ
shortened text = if nat_le (length text) 40 then text else front text 40

abbrev pub text_literal : List ℕ → List ℕ
text_literal text = concat (codes "'" ∷ shortened text ∷ codes "'" ∷ [])

abbrev pub blob_literal : List ℕ → List ℕ
blob_literal bytes = quoted (Blob (take 40 bytes))

abbrev pub literal : Value → List ℕ
literal Null = codes "NULL"
literal (Integer n) = signed_decimal n
literal (Text text) = text_literal text
literal (Blob bytes) = blob_literal bytes

abbrev pub constant : Out → List ℕ
constant (Good value) = literal value
constant (Bad causes) = codes "bad"

-- ---- operands

abbrev pub operand_text : List TableLabel → List Op → Operand → List ℕ
operand_text tables code (operand.Register r) = register r
operand_text tables code (operand.Constant out) = constant out
operand_text tables code (operand.Parameter n) = concat (codes "?" ∷ decimal n ∷ [])
operand_text tables code (operand.Argument n) = concat (codes "argument[" ∷ decimal n ∷ codes "]" ∷ [])
operand_text tables code (operand.Column c k) = column tables code c k
operand_text tables code (operand.Rowid c) = rowid tables code c

-- p1 and p2 of an operator: the left operand and the right one of a comparison, and the right one and the left one of any other, as SQLite has them
abbrev pub first_side : BinaryOperator → Operand → Operand → Operand
first_side (binary.Compare operator sides) a b = a
first_side (binary.Is sides) a b = a
first_side binary.Like a b = a
first_side binary.Glob a b = a
first_side other a b = b

abbrev pub second_side : BinaryOperator → Operand → Operand → Operand
second_side (binary.Compare operator sides) a b = b
second_side (binary.Is sides) a b = b
second_side binary.Like a b = b
second_side binary.Glob a b = b
second_side other a b = a

-- the number of an operand's register; 0 where it is none
abbrev pub operand_register : Operand → ℕ
operand_register (operand.Register r) = r
operand_register other = 0

-- that of the first operand
abbrev pub first_register : List Operand → ℕ
first_register [] = 0
first_register (a ∷ rest) = operand_register a
