-- What operators, calls and CASE make of operands adds a node or two.
use Rattle.std.proofs.Common.{◌≡◌, ◌≤◌, ℕ, ◌+◌, List, [], ◌∷◌, map, Option, Some, None, refl, arith}
use Rattle.eng_value.specs.Functions.{ByKeys, Choice, FirstKnown, FunctionKind, OfText, OfValues, kind_of}
use Rattle.eng_value.specs.declared.affinity.Affinity.{Affinity}
use Rattle.eng_value.specs.declared.builtin.Builtin.{Builtin}
use Rattle.eng_value.specs.declared.collation.Collation.{Collation}
use Rattle.sql_tree.specs.Sizes.{total}
use Rattle.sql_tree.specs.declared.expr.BinaryOp.TheVariants as op
use Rattle.sql_tree.specs.declared.expr.BinaryOp.{BinaryOp}
use Rattle.sql_tree.specs.declared.expr.UnaryOp.TheVariants as sign
use Rattle.sql_tree.specs.declared.expr.UnaryOp.{UnaryOp}
use Rattle.bound_tree.specs.Exprs.{BoundExpr}
use Rattle.sql_bound.specs.Operands.{between_of, binary_of, call_by, call_of, case_of, cast_of, chosen_arm, collation_of_arguments, host_call_of, in_of, is_of, like_of, matched_arm, member_sides, negated, negative_of, or_null, trees_of, unary_of}
use Rattle.sql_bound.specs.declared.scopes.ArmOperands.{ArmOperands}
use Rattle.sql_bound.specs.declared.scopes.Form.TheVariants.{LeastMagnitude, Plain, Truth}
use Rattle.sql_bound.specs.declared.scopes.Form.{Form}
use Rattle.sql_bound.specs.declared.scopes.Operand.{Operand}
use Rattle.bound_size.specs.Counts.{nodes_of_arm, nodes_of_match}
use Rattle.bound_size.specs.Sizes.{all_nodes, nodes_of}
use Rattle.bound_size.proofs.NodeLaws.{nodes-Call, nodes-Choose, nodes-Coalesce, nodes-HostCall, nodes-In, nodes-Match}

-- ---- operators

negative_nodes : (form : Form) (a : Operand) → nodes_of (negative_of form a).tree ≤ 1 + nodes_of a.tree
negative_nodes LeastMagnitude a = omega arith
negative_nodes Plain a = omega arith
negative_nodes (Truth wanted) a = omega arith

pub unary_nodes : (o : UnaryOp) (a : Operand) → nodes_of (unary_of o a).tree ≤ 1 + nodes_of a.tree
unary_nodes sign.Negative a = negative_nodes a.form a
unary_nodes sign.Positive a = omega arith
unary_nodes sign.BitNot a = omega arith
unary_nodes sign.Not a = omega arith
unary_nodes sign.IsNull a = omega arith
unary_nodes sign.NotNull a = omega arith

is_nodes : (form : Form) (a b : Operand) → nodes_of (is_of form a b).tree ≤ 1 + nodes_of a.tree + nodes_of b.tree
is_nodes (Truth wanted) a b = omega arith
is_nodes Plain a b = omega arith
is_nodes LeastMagnitude a b = omega arith

is_not_nodes : (a b : Operand) (x : Operand) → nodes_of x.tree ≤ 1 + nodes_of a.tree + nodes_of b.tree → nodes_of (negated x).tree ≤ 2 + nodes_of a.tree + nodes_of b.tree
is_not_nodes a b x h = omega (arith, h)

pub binary_nodes : (o : BinaryOp) (a b : Operand) → nodes_of (binary_of o a b).tree ≤ 2 + nodes_of a.tree + nodes_of b.tree
binary_nodes op.Or a b = omega arith
binary_nodes op.And a b = omega arith
binary_nodes op.Equal a b = omega arith
binary_nodes op.NotEqual a b = omega arith
binary_nodes op.Is a b = omega (arith, is_nodes b.form a b)
binary_nodes op.IsNot a b = is_not_nodes a b (is_of b.form a b) (is_nodes b.form a b)
binary_nodes op.Glob a b = omega arith
binary_nodes op.Less a b = omega arith
binary_nodes op.LessEqual a b = omega arith
binary_nodes op.Greater a b = omega arith
binary_nodes op.GreaterEqual a b = omega arith
binary_nodes op.BitAnd a b = omega arith
binary_nodes op.BitOr a b = omega arith
binary_nodes op.ShiftLeft a b = omega arith
binary_nodes op.ShiftRight a b = omega arith
binary_nodes op.Add a b = omega arith
binary_nodes op.Subtract a b = omega arith
binary_nodes op.Multiply a b = omega arith
binary_nodes op.Divide a b = omega arith
binary_nodes op.Remainder a b = omega arith
binary_nodes op.Concatenate a b = omega arith

pub between_nodes : (a low high : Operand) → nodes_of (between_of a low high).tree ≡ 1 + nodes_of a.tree + nodes_of low.tree + nodes_of high.tree
between_nodes a low high = refl

abbrev pub option_nodes : Option Operand → ℕ
option_nodes None = 0
option_nodes (Some a) = nodes_of a.tree

pub like_nodes : (a b : Operand) (c : Option Operand) → nodes_of (like_of a b c).tree ≤ 1 + nodes_of a.tree + nodes_of b.tree + option_nodes c
like_nodes a b None = omega arith
like_nodes a b (Some c) = omega arith

pub in_nodes : (a : Operand) (others : List Operand) → nodes_of (in_of a others).tree ≡ 1 + nodes_of a.tree + all_nodes (trees_of others)
in_nodes a others = nodes-In (member_sides a) a.tree (trees_of others)

pub cast_nodes : (to : Affinity) (a : Operand) → nodes_of (cast_of to a).tree ≡ 1 + nodes_of a.tree
cast_nodes to a = refl

-- ---- calls

kind_nodes : (k : FunctionKind) (f : Builtin) (collation : Collation) (args : List BoundExpr) → nodes_of (call_by k f collation args) ≤ 1 + all_nodes args
kind_nodes FirstKnown f c args = omega (arith, nodes-Coalesce f args)
kind_nodes Choice f c [] = omega (arith, nodes-Call f c [])
kind_nodes Choice f c (x ∷ []) = omega (arith, nodes-Call f c (x ∷ []))
kind_nodes Choice f c (x ∷ y ∷ []) = omega (arith, nodes-Call f c (x ∷ y ∷ []))
kind_nodes Choice f c (x ∷ y ∷ z ∷ []) = omega arith
kind_nodes Choice f c (x ∷ y ∷ z ∷ w ∷ more) = omega (arith, nodes-Call f c (x ∷ y ∷ z ∷ w ∷ more))
kind_nodes (ByKeys g) f c args = omega (arith, nodes-Call f c args)
kind_nodes (OfText g) f c args = omega (arith, nodes-Call f c args)
kind_nodes (OfValues g) f c args = omega (arith, nodes-Call f c args)

pub call_nodes : (f : Builtin) (args : List Operand) → nodes_of (call_of f args).tree ≤ 1 + all_nodes (trees_of args)
call_nodes f args = kind_nodes (kind_of f) f (collation_of_arguments args) (trees_of args)

pub host_call_nodes : (name : List ℕ) (args : List Operand) → nodes_of (host_call_of name args).tree ≤ 1 + all_nodes (trees_of args)
host_call_nodes name args = omega (arith, nodes-HostCall name (trees_of args))

-- ---- CASE

null_nodes : (o : Option Operand) → nodes_of (or_null o) ≤ 1 + option_nodes o
null_nodes None = omega arith
null_nodes (Some a) = omega arith

abbrev pub arms_nodes : List ArmOperands → ℕ
arms_nodes [] = 0
arms_nodes (arm ∷ arms) = 1 + nodes_of arm.condition.tree + nodes_of arm.value.tree + arms_nodes arms

chosen_nodes : (arms : List ArmOperands) → total (map nodes_of_arm (map chosen_arm arms)) ≡ arms_nodes arms
chosen_nodes [] = refl
chosen_nodes (arm ∷ arms) = omega (arith, chosen_nodes arms)

matched_nodes : (a : Operand) (arms : List ArmOperands) → total (map nodes_of_match (map (matched_arm a) arms)) ≡ arms_nodes arms
matched_nodes a [] = refl
matched_nodes a (arm ∷ arms) = omega (arith, matched_nodes a arms)

pub case_nodes : (a : Option Operand) (arms : List ArmOperands) (otherwise : Option Operand) → nodes_of (case_of a arms otherwise).tree ≤ 2 + option_nodes a + arms_nodes arms + option_nodes otherwise
case_nodes None arms otherwise = omega (arith, nodes-Choose (map chosen_arm arms) (or_null otherwise), chosen_nodes arms, null_nodes otherwise)
case_nodes (Some a) arms otherwise = omega (arith, nodes-Match a.tree (map (matched_arm a) arms) (or_null otherwise), matched_nodes a arms, null_nodes otherwise)
