-- What operators, calls and CASE make of operands (SQL Language Expressions; Datatypes In SQLite, sections 4.2 and 7.1).
use Rattle.std.specs.Prelude.{ℕ, Bool, true, false, ◌-◌, ◌^◌, List, [], ◌∷◌, ◌++◌, map, negsuc, Option, Some, None, unwrap_or}
use Rattle.eng_value.specs.Functions.{FunctionKind, FirstKnown, Choice, kind_of}
use Rattle.eng_value.specs.declared.affinity.Affinity.TheVariants as affinity
use Rattle.eng_value.specs.declared.affinity.Affinity.{Affinity}
use Rattle.eng_value.specs.declared.builtin.Builtin.{Builtin}
use Rattle.eng_value.specs.declared.collation.Collation.{Collation}
use Rattle.eng_value.specs.declared.compare_op.CompareOp.TheVariants as compare
use Rattle.eng_value.specs.declared.compare_op.CompareOp.{CompareOp}
use Rattle.eng_value.specs.declared.operators.ArithmeticOp.TheVariants as arithmetic
use Rattle.eng_value.specs.declared.operators.BinaryOperator.TheVariants as binary
use Rattle.eng_value.specs.declared.operators.BinaryOperator.{BinaryOperator}
use Rattle.eng_value.specs.declared.operators.IntegerOp.TheVariants as integer
use Rattle.eng_value.specs.declared.operators.Sides.{Sides}
use Rattle.eng_value.specs.declared.operators.UnaryOperator.TheVariants as unary
use Rattle.eng_value.specs.declared.value.Value.TheVariants as value
use Rattle.sql_lex.specs.Tokens.{slice_of}
use Rattle.sql_tree.specs.declared.expr.BinaryOp.TheVariants as op
use Rattle.sql_tree.specs.declared.expr.BinaryOp.{BinaryOp}
use Rattle.sql_tree.specs.declared.expr.UnaryOp.TheVariants as sign
use Rattle.sql_tree.specs.declared.expr.UnaryOp.{UnaryOp}
use Rattle.sql_tree.specs.declared.token.Token.{Token}
use Rattle.sql_tree.specs.declared.token.TokenKind.TheVariants as token
use Rattle.sql_tree.specs.declared.token.TokenKind.{TokenKind}
use Rattle.sql_words.specs.Collations.{by_bytes}
use Rattle.sql_words.specs.Refusals.{or_else}
use Rattle.sql_words.specs.Spelled.{is_least_magnitude, literal_at}
use Rattle.sql_words.specs.declared.literal.Literal.TheVariants as literal
use Rattle.bound_tree.specs.Exprs as e
use Rattle.bound_tree.specs.Exprs.{BoundArm, BoundExpr, BoundMatch}
use Rattle.sql_bound.specs.declared.scopes.ArmOperands.{ArmOperands}
use Rattle.sql_bound.specs.declared.scopes.Form.TheVariants.{LeastMagnitude, Plain, Truth}
use Rattle.sql_bound.specs.declared.scopes.Form.{Form}
use Rattle.sql_bound.specs.declared.scopes.Operand.{Operand}
use Rattle.sql_bound.specs.declared.scopes.ResultColumn.{ResultColumn}
use Rattle.sql_bound.specs.declared.scopes.ScopeColumn.{ScopeColumn}

-- ---- affinity and collation

-- the collation of the leftmost COLLATE in some
abbrev pub first_explicit : List Operand → Option Collation
first_explicit [] = None
first_explicit (a ∷ rest) = or_else a.explicit (first_explicit rest)

-- the collation of an operand: that of its COLLATE, else that of the column that it is
abbrev pub collation_of : Operand → Option Collation
collation_of a = or_else a.explicit a.column

-- of a column of a query: BINARY where it has none
abbrev pub collation_of_result : ResultColumn → Collation
collation_of_result c = unwrap_or (or_else c.explicit c.column) by_bytes

-- the collation of the first that has one
abbrev pub first_collation : List Operand → Option Collation
first_collation [] = None
first_collation (a ∷ rest) = or_else (collation_of a) (first_collation rest)

-- over these operands, without an affinity and no column
abbrev pub over : List Operand → BoundExpr → Operand
over operands tree =
    record { tree = tree; affinity = affinity.None; explicit = first_explicit operands; column = None; form = Plain; name = None }

abbrev pub tree_of : Operand → BoundExpr
tree_of a = a.tree

abbrev pub trees_of : List Operand → List BoundExpr
trees_of operands = map tree_of operands

-- a COLLATE comes before a column's collation, and of each the left side's first; else it is BINARY
abbrev pub collation_between : Operand → Operand → Collation
collation_between a b = unwrap_or (or_else (or_else a.explicit b.explicit) (or_else a.column b.column)) by_bytes

abbrev pub sides_of : Operand → Operand → Sides
sides_of a b = record { left = a.affinity; right = b.affinity; collation = collation_between a b }

-- ---- literals, columns

abbrev pub form_by : TokenKind → Bool → Form
form_by token.True least = Truth true
form_by token.False least = Truth false
form_by token.Number true = LeastMagnitude
form_by other least = Plain

abbrev pub form_of : List ℕ → Token → Form
form_of text t = form_by t.kind (is_least_magnitude (slice_of text t))

abbrev pub literal_operand : List ℕ → Token → Operand
literal_operand text t = record (over [] (e.Literal (literal_at text t))) { form = form_of text t }

-- a column, as it is brought
abbrev pub column_operand : ScopeColumn → BoundExpr → Operand
column_operand c tree = record (over [] tree) { affinity = c.affinity; column = Some c.collation; name = Some c.name }

-- what a query's column is to that with which it is compared
abbrev pub result_operand : BoundExpr → ResultColumn → Operand
result_operand tree c = record (over [] tree) { affinity = c.affinity; explicit = c.explicit; column = c.column }

-- ---- operators

-- minus in front of 9223372036854775808 makes the least integer
abbrev pub negative_of : Form → Operand → Operand
negative_of LeastMagnitude a = over [] (e.Literal (literal.Value (value.Integer (negsuc (2 ^ 63 - 1)))))
negative_of _ a = over (a ∷ []) (e.Unary unary.Negative a.tree)

abbrev pub negated : Operand → Operand
negated a = over (a ∷ []) (e.Unary unary.Not a.tree)

-- plus takes an affinity off, and leaves the value and its column's collation
abbrev pub unary_of : UnaryOp → Operand → Operand
unary_of sign.Negative a = negative_of a.form a
unary_of sign.Positive a = record (over (a ∷ []) a.tree) { column = a.column }
unary_of sign.BitNot a = over (a ∷ []) (e.Unary unary.BitNot a.tree)
unary_of sign.Not a = negated a
unary_of sign.IsNull a = over (a ∷ []) (e.Unary unary.IsNull a.tree)
unary_of sign.NotNull a = over (a ∷ []) (e.Unary unary.NotNull a.tree)

abbrev pub both : BinaryOperator → Operand → Operand → Operand
both o a b = over (a ∷ b ∷ []) (e.Binary o a.tree b.tree)

abbrev pub compared : CompareOp → Operand → Operand → Operand
compared o a b = both (binary.Compare o (sides_of a b)) a b

-- `IS TRUE` and `IS FALSE` ask for the truth
abbrev pub is_of : Form → Operand → Operand → Operand
is_of (Truth wanted) a b = over (a ∷ b ∷ []) (e.Unary (unary.IsTruth wanted) a.tree)
is_of _ a b = both (binary.Is (sides_of a b)) a b

abbrev pub binary_of : BinaryOp → Operand → Operand → Operand
binary_of op.Or a b = both binary.Or a b
binary_of op.And a b = both binary.And a b
binary_of op.Equal a b = compared compare.Eq a b
binary_of op.NotEqual a b = negated (compared compare.Eq a b)
binary_of op.Is a b = is_of b.form a b
binary_of op.IsNot a b = negated (is_of b.form a b)
binary_of op.Glob a b = both binary.Glob a b
binary_of op.Less a b = compared compare.Lt a b
binary_of op.LessEqual a b = compared compare.Le a b
binary_of op.Greater a b = compared compare.Gt a b
binary_of op.GreaterEqual a b = compared compare.Ge a b
binary_of op.BitAnd a b = both (binary.Integers integer.And) a b
binary_of op.BitOr a b = both (binary.Integers integer.Or) a b
binary_of op.ShiftLeft a b = both (binary.Integers integer.ShiftLeft) a b
binary_of op.ShiftRight a b = both (binary.Integers integer.ShiftRight) a b
binary_of op.Add a b = both (binary.Arithmetic arithmetic.Add) a b
binary_of op.Subtract a b = both (binary.Arithmetic arithmetic.Subtract) a b
binary_of op.Multiply a b = both (binary.Arithmetic arithmetic.Multiply) a b
binary_of op.Divide a b = both (binary.Arithmetic arithmetic.Divide) a b
binary_of op.Remainder a b = both (binary.Integers integer.Remainder) a b
binary_of op.Concatenate a b = both binary.Concatenate a b

-- `a BETWEEN b AND c` is `a >= b AND a <= c`; where it stands at the top of a WHERE its meaning splits it
abbrev pub between_of : Operand → Operand → Operand → Operand
between_of a low high = over (a ∷ low ∷ high ∷ []) (e.Between (sides_of a low) (sides_of a high) a.tree low.tree high.tree)

abbrev pub like_of : Operand → Operand → Option Operand → Operand
like_of a b None = both binary.Like a b
like_of a b (Some c) = over (a ∷ b ∷ c ∷ []) (e.LikeEscaped a.tree b.tree c.tree)

-- the others have no affinity and no collation
abbrev pub member_sides : Operand → Sides
member_sides a = record { left = a.affinity; right = affinity.None; collation = unwrap_or (collation_of a) by_bytes }

abbrev pub in_of : Operand → List Operand → Operand
in_of a others = over (a ∷ others) (e.In (member_sides a) a.tree (trees_of others))

-- ---- COLLATE and CAST: COLLATE keeps the value and the affinity

abbrev pub collated : Collation → Operand → Operand
collated c a = record a { explicit = Some c; form = Plain; name = None }

abbrev pub cast_of : Affinity → Operand → Operand
cast_of to a = record (over (a ∷ []) (e.Unary (unary.Cast to) a.tree)) { affinity = to; column = a.column }

-- ---- CASE

abbrev pub null : BoundExpr
null = e.Literal (literal.Value value.Null)

abbrev pub or_null : Option Operand → BoundExpr
or_null None = null
or_null (Some a) = a.tree

abbrev pub option_list : Option Operand → List Operand
option_list None = []
option_list (Some a) = a ∷ []

abbrev pub chosen_arm : ArmOperands → BoundArm
chosen_arm arm = record { condition = arm.condition.tree; value = arm.value.tree }

abbrev pub matched_arm : Operand → ArmOperands → BoundMatch
matched_arm a arm = record { sides = sides_of a arm.condition; operand = arm.condition.tree; value = arm.value.tree }

abbrev pub arm_parts : List ArmOperands → List Operand
arm_parts [] = []
arm_parts (arm ∷ arms) = arm.condition ∷ arm.value ∷ arm_parts arms

abbrev pub case_of : Option Operand → List ArmOperands → Option Operand → Operand
case_of None arms otherwise = over (arm_parts arms ++ option_list otherwise) (e.Choose (map chosen_arm arms) (or_null otherwise))
case_of (Some a) arms otherwise = over (a ∷ arm_parts arms ++ option_list otherwise) (e.Match a.tree (map (matched_arm a) arms) (or_null otherwise))

-- ---- calls

-- coalesce, ifnull and iif look at their arguments in order
abbrev pub call_by : FunctionKind → Builtin → Collation → List BoundExpr → BoundExpr
call_by FirstKnown f collation args = e.Coalesce f args
call_by Choice f collation (a ∷ b ∷ c ∷ []) = e.Iif a b c
call_by other f collation args = e.Call f collation args

abbrev pub collation_of_arguments : List Operand → Collation
collation_of_arguments args = unwrap_or (first_collation args) by_bytes

abbrev pub call_of : Builtin → List Operand → Operand
call_of f args = over args (call_by (kind_of f) f (collation_of_arguments args) (trees_of args))

abbrev pub host_call_of : List ℕ → List Operand → Operand
host_call_of name args = over args (e.HostCall name (trees_of args))
