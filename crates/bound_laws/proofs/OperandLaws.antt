-- What operators, calls and CASE make of operands is within what the operands are within.
use Rattle.std.proofs.Common.{ℕ, List, [], ◌∷◌, map, Option, Some, None}
use Rattle.std.specs.List.{AllByRecursion}
use Rattle.eng_value.specs.Functions.{ByKeys, Choice, FirstKnown, FunctionKind, OfText, OfValues, kind_of}
use Rattle.eng_value.specs.declared.builtin.Builtin.{Builtin}
use Rattle.eng_value.specs.declared.collation.Collation.{Collation}
use Rattle.sql_tree.specs.declared.expr.BinaryOp.TheVariants as op
use Rattle.sql_tree.specs.declared.expr.BinaryOp.{BinaryOp}
use Rattle.sql_tree.specs.declared.expr.UnaryOp.TheVariants as sign
use Rattle.sql_tree.specs.declared.expr.UnaryOp.{UnaryOp}
use Rattle.bound_tree.specs.Exprs.{BoundExpr, arms, exprs, matches}
use Rattle.sql_bound.specs.Operands.{between_of, binary_of, call_by, call_of, case_of, chosen_arm, collation_of_arguments, host_call_of, in_of, is_of, like_of, matched_arm, negative_of, or_null, trees_of, unary_of}
use Rattle.sql_bound.specs.declared.scopes.ArmOperands.{ArmOperands}
use Rattle.sql_bound.specs.declared.scopes.Form.TheVariants.{LeastMagnitude, Plain, Truth}
use Rattle.sql_bound.specs.declared.scopes.Form.{Form}
use Rattle.sql_bound.specs.declared.scopes.Operand.{Operand}
use Rattle.bound_laws.specs.Reach.{AreWithin, ArmsAreWithin, EachIsWithin, IsWithin, MatchesAreWithin, Reach}
use Rattle.bound_laws.proofs.Lists.{IfThere, exprs_within}
use Rattle.bound_laws.proofs.States.{From}

module _ (r : Reach) (from : From) where
  abbrev pub OperandIs : Operand → Type 0
  OperandIs a = IsWithin r from a.tree

  abbrev pub OperandsAre : List Operand → Type 0
  OperandsAre xs = AllByRecursion OperandIs xs

  abbrev pub OptionIs : Option Operand → Type 0
  OptionIs o = IfThere OperandIs o

  pub record ArmIs (arm : ArmOperands) : Type 0 where
    pub condition : OperandIs arm.condition
    pub value : OperandIs arm.value

  abbrev pub ArmsAre : List ArmOperands → Type 0
  ArmsAre those = AllByRecursion ArmIs those

  pub trees_within : (xs : List Operand) → OperandsAre xs → EachIsWithin r from (trees_of xs)
  trees_within [] all = tt
  trees_within (x ∷ xs) all = (all.0, trees_within xs all.1)

  operands_within : (xs : List Operand) → OperandsAre xs → AreWithin r from (exprs (trees_of xs))
  operands_within xs all = exprs_within r from (trees_of xs) (trees_within xs all)

  -- ---- operators

  negative_within : (form : Form) (a : Operand) → OperandIs a → OperandIs (negative_of form a)
  negative_within LeastMagnitude a h = tt
  negative_within Plain a h = h
  negative_within (Truth wanted) a h = h

  pub unary_within : (o : UnaryOp) (a : Operand) → OperandIs a → OperandIs (unary_of o a)
  unary_within sign.Negative a h = negative_within a.form a h
  unary_within sign.Positive a h = h
  unary_within sign.BitNot a h = h
  unary_within sign.Not a h = h
  unary_within sign.IsNull a h = h
  unary_within sign.NotNull a h = h

  is_within : (form : Form) (a b : Operand) → OperandIs a → OperandIs b → OperandIs (is_of form a b)
  is_within (Truth wanted) a b h k = h
  is_within Plain a b h k = (h, k)
  is_within LeastMagnitude a b h k = (h, k)

  pub binary_within : (o : BinaryOp) (a b : Operand) → OperandIs a → OperandIs b → OperandIs (binary_of o a b)
  binary_within op.Is a b h k = is_within b.form a b h k
  binary_within op.IsNot a b h k = is_within b.form a b h k
  binary_within other a b h k = (h, k)

  pub between_within : (a low high : Operand) → OperandIs a → OperandIs low → OperandIs high → OperandIs (between_of a low high)
  between_within a low high h k l = (h, k, l)

  pub like_within : (a b : Operand) (c : Option Operand) → OperandIs a → OperandIs b → OptionIs c → OperandIs (like_of a b c)
  like_within a b None h k l = (h, k)
  like_within a b (Some c) h k l = (h, k, l)

  pub in_within : (a : Operand) (others : List Operand) → OperandIs a → OperandsAre others → OperandIs (in_of a others)
  in_within a others h all = (h, operands_within others all)

  -- ---- calls

  kind_within : (k : FunctionKind) (f : Builtin) (collation : Collation) (args : List BoundExpr) → EachIsWithin r from args → IsWithin r from (call_by k f collation args)
  kind_within FirstKnown f c args all = exprs_within r from args all
  kind_within Choice f c [] all = tt
  kind_within Choice f c (x ∷ []) all = exprs_within r from (x ∷ []) all
  kind_within Choice f c (x ∷ y ∷ []) all = exprs_within r from (x ∷ y ∷ []) all
  kind_within Choice f c (x ∷ y ∷ z ∷ []) all = (all.0, all.1.0, all.1.1.0)
  kind_within Choice f c (x ∷ y ∷ z ∷ w ∷ more) all = exprs_within r from (x ∷ y ∷ z ∷ w ∷ more) all
  kind_within (ByKeys g) f c args all = exprs_within r from args all
  kind_within (OfText g) f c args all = exprs_within r from args all
  kind_within (OfValues g) f c args all = exprs_within r from args all

  pub call_within : (f : Builtin) (args : List Operand) → OperandsAre args → OperandIs (call_of f args)
  call_within f args all = kind_within (kind_of f) f (collation_of_arguments args) (trees_of args) (trees_within args all)

  pub host_call_within : (name : List ℕ) (args : List Operand) → OperandsAre args → OperandIs (host_call_of name args)
  host_call_within name args all = operands_within args all

  -- ---- CASE

  null_within : (o : Option Operand) → OptionIs o → IsWithin r from (or_null o)
  null_within None h = tt
  null_within (Some a) h = h

  chosen_within : (those : List ArmOperands) → ArmsAre those → ArmsAreWithin r from (arms (map chosen_arm those))
  chosen_within [] all = tt
  chosen_within (arm ∷ those) all = (all.0.condition, all.0.value, chosen_within those all.1)

  matched_within : (a : Operand) (those : List ArmOperands) → ArmsAre those → MatchesAreWithin r from (matches (map (matched_arm a) those))
  matched_within a [] all = tt
  matched_within a (arm ∷ those) all = (all.0.condition, all.0.value, matched_within a those all.1)

  pub case_within : (a : Option Operand) (those : List ArmOperands) (otherwise : Option Operand) → OptionIs a → ArmsAre those → OptionIs otherwise → OperandIs (case_of a those otherwise)
  case_within None those otherwise h all k = (chosen_within those all, null_within otherwise k)
  case_within (Some a) those otherwise h all k = (h, matched_within a those all, null_within otherwise k)
