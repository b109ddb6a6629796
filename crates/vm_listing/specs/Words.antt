-- The words of a listing for what has no name of its own in SQL's text: operators, functions, affinities, collations and terms of keys.
use Rattle.std.specs.Prelude.{ℕ, Bool, true, false, List, [], ◌∷◌, flat_map, codes}
use Rattle.std.specs.Fmt.{decimal}
use Rattle.std.specs.List.{concat}
use Rattle.std.specs.declared.option.Option.{Option}
use Rattle.std.specs.declared.option.Option.TheVariants.{Some, None}
use Rattle.eng_index.specs.declared.key_term.KeyTerm.{KeyTerm}
use Rattle.eng_index.specs.declared.key_term.TermSource.{TermSource}
use Rattle.eng_index.specs.declared.key_term.TermSource.TheVariants as source
use Rattle.eng_index.specs.declared.range.Bounds.{Bounds}
use Rattle.eng_index.specs.declared.range.Edge.{Edge}
use Rattle.eng_index.specs.declared.range.Edge.TheVariants as edge
use Rattle.eng_value.specs.declared.affinity.Affinity.{Affinity}
use Rattle.eng_value.specs.declared.affinity.Affinity.TheVariants as affinity
use Rattle.eng_value.specs.declared.built.Built.{Built}
use Rattle.eng_value.specs.declared.built.Built.TheVariants as built
use Rattle.eng_value.specs.declared.builtin.Builtin.{Builtin}
use Rattle.eng_value.specs.declared.builtin.Builtin.TheVariants as builtin
use Rattle.eng_value.specs.declared.collation.Collation.{Collation}
use Rattle.eng_value.specs.declared.collation.Collation.TheVariants as collation
use Rattle.eng_value.specs.declared.compare_op.CompareOp.{CompareOp}
use Rattle.eng_value.specs.declared.compare_op.CompareOp.TheVariants as compare
use Rattle.eng_value.specs.declared.operators.ArithmeticOp.{ArithmeticOp}
use Rattle.eng_value.specs.declared.operators.ArithmeticOp.TheVariants as arithmetic
use Rattle.eng_value.specs.declared.operators.BinaryOperator.{BinaryOperator}
use Rattle.eng_value.specs.declared.operators.BinaryOperator.TheVariants as binary
use Rattle.eng_value.specs.declared.operators.IntegerOp.{IntegerOp}
use Rattle.eng_value.specs.declared.operators.IntegerOp.TheVariants as integers
use Rattle.eng_value.specs.declared.operators.Sides.{Sides}
use Rattle.eng_value.specs.declared.operators.UnaryOperator.{UnaryOperator}
use Rattle.eng_value.specs.declared.operators.UnaryOperator.TheVariants as unary

-- ---- operators

-- the opcodes that one instruction with one operand stands for
abbrev pub unary_name : UnaryOperator → List ℕ
unary_name unary.Truth = codes "Truth"
unary_name unary.Negative = codes "Negative"
unary_name unary.BitNot = codes "BitNot"
unary_name unary.Not = codes "Not"
unary_name unary.IsNull = codes "TestNull"
unary_name unary.NotNull = codes "TestNotNull"
unary_name (unary.IsTruth truth) = codes "IsTruth"
unary_name (unary.Cast to) = codes "Cast"

-- what stands in front of the operand
abbrev pub unary_sign : UnaryOperator → List ℕ
unary_sign unary.Truth = codes "truth of "
unary_sign unary.Negative = codes "-"
unary_sign unary.BitNot = codes "~"
unary_sign unary.Not = codes "not "
unary_sign unary.IsNull = codes "is NULL "
unary_sign unary.NotNull = codes "is not NULL "
unary_sign (unary.IsTruth true) = codes "is true "
unary_sign (unary.IsTruth false) = codes "is false "
unary_sign (unary.Cast to) = codes "cast "

-- the opcodes of arithmetic
abbrev pub arithmetic_name : ArithmeticOp → List ℕ
arithmetic_name arithmetic.Add = codes "Add"
arithmetic_name arithmetic.Subtract = codes "Subtract"
arithmetic_name arithmetic.Multiply = codes "Multiply"
arithmetic_name arithmetic.Divide = codes "Divide"

abbrev pub arithmetic_sign : ArithmeticOp → List ℕ
arithmetic_sign arithmetic.Add = codes "+"
arithmetic_sign arithmetic.Subtract = codes "-"
arithmetic_sign arithmetic.Multiply = codes "*"
arithmetic_sign arithmetic.Divide = codes "/"

-- the opcodes of operators on integers
abbrev pub integer_name : IntegerOp → List ℕ
integer_name integers.Remainder = codes "Remainder"
integer_name integers.And = codes "BitAnd"
integer_name integers.Or = codes "BitOr"
integer_name integers.ShiftLeft = codes "ShiftLeft"
integer_name integers.ShiftRight = codes "ShiftRight"

abbrev pub integer_sign : IntegerOp → List ℕ
integer_sign integers.Remainder = codes "%"
integer_sign integers.And = codes "&"
integer_sign integers.Or = codes "|"
integer_sign integers.ShiftLeft = codes "<<"
integer_sign integers.ShiftRight = codes ">>"

-- the opcodes that one instruction with two operands stands for; the eight comparisons are one opcode
abbrev pub binary_name : BinaryOperator → List ℕ
binary_name (binary.Arithmetic op) = arithmetic_name op
binary_name (binary.Integers op) = integer_name op
binary_name binary.Concatenate = codes "Concat"
binary_name binary.And = codes "And"
binary_name binary.Or = codes "Or"
binary_name (binary.Compare op sides) = codes "Compare"
binary_name (binary.Is sides) = codes "Compare"
binary_name binary.Like = codes "Compare"
binary_name binary.Glob = codes "Compare"

abbrev pub compare_sign : CompareOp → List ℕ
compare_sign compare.Eq = codes "="
compare_sign compare.Lt = codes "<"
compare_sign compare.Le = codes "<="
compare_sign compare.Gt = codes ">"
compare_sign compare.Ge = codes ">="

-- what stands between the operands
abbrev pub binary_sign : BinaryOperator → List ℕ
binary_sign (binary.Arithmetic op) = arithmetic_sign op
binary_sign (binary.Integers op) = integer_sign op
binary_sign binary.Concatenate = codes "||"
binary_sign binary.And = codes " and "
binary_sign binary.Or = codes " or "
binary_sign (binary.Compare op sides) = compare_sign op
binary_sign (binary.Is sides) = codes " is "
binary_sign binary.Like = codes " like "
binary_sign binary.Glob = codes " glob "

-- the numbers of =, <, <=, > and >=
abbrev pub compare_number : CompareOp → ℕ
compare_number compare.Eq = 1
compare_number compare.Lt = 2
compare_number compare.Le = 3
compare_number compare.Gt = 4
compare_number compare.Ge = 5

-- the number of a comparison, from 1 to 8: IS, LIKE and GLOB are 6, 7 and 8; 0 for the other operators
abbrev pub comparison : BinaryOperator → ℕ
comparison (binary.Compare op sides) = compare_number op
comparison (binary.Is sides) = 6
comparison binary.Like = 7
comparison binary.Glob = 8
comparison other = 0

-- ---- functions, affinities, collations

abbrev pub function_name : Builtin → List ℕ
function_name builtin.Abs = codes "abs"
function_name builtin.Char = codes "char"
function_name builtin.Coalesce = codes "coalesce"
function_name builtin.IfNull = codes "ifnull"
function_name builtin.Iif = codes "iif"
function_name builtin.Hex = codes "hex"
function_name builtin.Instr = codes "instr"
function_name builtin.Length = codes "length"
function_name builtin.Lower = codes "lower"
function_name builtin.Upper = codes "upper"
function_name builtin.Trim = codes "trim"
function_name builtin.TrimLeft = codes "ltrim"
function_name builtin.TrimRight = codes "rtrim"
function_name builtin.Max = codes "max"
function_name builtin.Min = codes "min"
function_name builtin.NullIf = codes "nullif"
function_name builtin.Quote = codes "quote"
function_name builtin.Replace = codes "replace"
function_name builtin.Substr = codes "substr"
function_name builtin.TypeOf = codes "typeof"
function_name builtin.Unicode = codes "unicode"
function_name builtin.ZeroBlob = codes "zeroblob"

abbrev pub affinity_word : Affinity → List ℕ
affinity_word affinity.Integer = codes "INTEGER"
affinity_word affinity.Numeric = codes "NUMERIC"
affinity_word affinity.Real = codes "REAL"
affinity_word affinity.Text = codes "TEXT"
affinity_word affinity.Blob = codes "BLOB"
affinity_word affinity.None = codes "NONE"

-- the collation of a term, which is not told where it is BINARY
abbrev pub collation_mark : Built → List ℕ
collation_mark built.Binary = []
collation_mark built.NoCase = codes " NOCASE"
collation_mark built.Rtrim = codes " RTRIM"

-- a collation; one of a host by its place
abbrev pub collation_word : Collation → List ℕ
collation_word (collation.Built built.Binary) = codes "BINARY"
collation_word (collation.Built built.NoCase) = codes "NOCASE"
collation_word (collation.Built built.Rtrim) = codes "RTRIM"
collation_word (collation.Host place) = concat (codes "host " ∷ decimal place ∷ [])

-- the collation of a comparison and the affinities of its sides
abbrev pub sides_word : Sides → List ℕ
sides_word s = concat (collation_word s.collation ∷ codes " " ∷ affinity_word s.left ∷ codes " " ∷ affinity_word s.right ∷ [])

-- two affinities
abbrev pub affinities_word : Affinity → Affinity → List ℕ
affinities_word a b = concat (affinity_word a ∷ codes " " ∷ affinity_word b ∷ [])

-- ---- keys

abbrev pub source_word : TermSource → List ℕ
source_word source.Rowid = codes "rowid"
source_word (source.Column k) = decimal k

abbrev pub order_mark : Bool → List ℕ
order_mark true = codes " DESC"
order_mark false = []

-- a term: the number of its column or rowid, its collation and its order
abbrev pub term_word : KeyTerm → List ℕ
term_word t = concat (codes "(" ∷ source_word t.source ∷ collation_mark t.collation ∷ order_mark t.descending ∷ codes ")" ∷ [])

abbrev pub terms_word : List KeyTerm → List ℕ
terms_word terms = flat_map term_word terms

abbrev pub key_word : List KeyTerm → List ℕ
key_word terms = concat (codes "[" ∷ terms_word terms ∷ codes "]" ∷ [])

abbrev pub keys_word : List (List KeyTerm) → List ℕ
keys_word keys = flat_map key_word keys

-- the lower and the upper limit of a search
abbrev pub lower_word : Option Edge → List ℕ
lower_word None = []
lower_word (Some edge.Included) = codes " >="
lower_word (Some edge.Excluded) = codes " >"

abbrev pub upper_word : Option Edge → List ℕ
upper_word None = []
upper_word (Some edge.Included) = codes " <="
upper_word (Some edge.Excluded) = codes " <"

-- how many terms are equal to a key, and the limits of the next one
abbrev pub bounds_word : Bounds → List ℕ
bounds_word bounds = concat (decimal bounds.equal ∷ codes " equal" ∷ lower_word bounds.lower ∷ upper_word bounds.upper ∷ [])
