-- Operators and functions by what they are told apart by. An operand is what it came to: a value, or a set of causes.
use Rattle.std.specs.Prelude.{◌≡◌, ℕ, List, [], ◌∷◌, false, not, ℤ, pos, map, fold, refl}
use Rattle.std.specs.FinSet as set
use Rattle.eng_value.specs.Causes.{CauseSet}
use Rattle.eng_value.specs.declared.affinity.Affinity.TheVariants as affinity
use Rattle.eng_value.specs.declared.built.Built.TheVariants as built
use Rattle.eng_value.specs.declared.builtin.Builtin.{Builtin}
use Rattle.eng_value.specs.declared.cause.Cause.TheVariants as cause
use Rattle.eng_value.specs.declared.collation.Collation.{Collation}
use Rattle.eng_value.specs.declared.collation.Collation.TheVariants as collation
use Rattle.eng_value.specs.declared.compare_op.CompareOp.TheVariants as compares
use Rattle.eng_value.specs.declared.operators.BinaryOperator.{BinaryOperator}
use Rattle.eng_value.specs.declared.operators.BinaryOperator.TheVariants as binary
use Rattle.eng_value.specs.declared.operators.Sides.{Sides}
use Rattle.eng_value.specs.declared.operators.UnaryOperator.{UnaryOperator}
use Rattle.eng_value.specs.declared.operators.UnaryOperator.TheVariants as unary
use Rattle.eng_value.specs.declared.out.Out.{Out}
use Rattle.eng_value.specs.declared.out.Out.TheVariants.{Good, Bad}
use Rattle.eng_value.specs.declared.value.Value.{Value}
use Rattle.eng_value.specs.declared.value.Value.TheVariants.{Null, Integer}
use Rattle.eng_value.specs.Casts.{cast, beside}
use Rattle.eng_value.specs.Collations.{Keys, own_keys}
use Rattle.eng_value.specs.Comparisons.{comparison_of, is_of, like_of, glob_of}
use Rattle.eng_value.specs.Functions.{call_of, is_null}
use Rattle.eng_value.specs.Operators.{arithmetic_of, integers_of, negative_of, inverse_of, concatenation_of}
use Rattle.eng_value.specs.Outs.{bad, turned, truth_value, causes_in}
use Rattle.eng_value.specs.Truths.{and_of, or_of, not_of, is_truth_of, truth_of}

-- ---- operators

abbrev pub is_null_of : Out → Out
is_null_of a = turned (λ v. Good (truth_value (is_null v))) a

abbrev pub not_null_of : Out → Out
not_null_of a = turned (λ v. Good (truth_value (not (is_null v)))) a

abbrev pub unary_of : UnaryOperator → Out → Out
unary_of unary.Truth a = truth_of a
unary_of unary.Negative a = negative_of a
unary_of unary.BitNot a = inverse_of a
unary_of unary.Not a = not_of a
unary_of unary.IsNull a = is_null_of a
unary_of unary.NotNull a = not_null_of a
unary_of (unary.IsTruth wanted) a = is_truth_of wanted a
unary_of (unary.Cast to) a = turned (cast to) a

abbrev pub binary_of : Keys → BinaryOperator → Out → Out → Out
binary_of keys (binary.Arithmetic op) a b = arithmetic_of op a b
binary_of keys (binary.Integers op) a b = integers_of op a b
binary_of keys binary.Concatenate a b = concatenation_of a b
binary_of keys binary.And a b = and_of a b
binary_of keys binary.Or a b = or_of a b
binary_of keys (binary.Compare op sides) a b = comparison_of keys op sides a b
binary_of keys (binary.Is sides) a b = is_of keys sides a b
binary_of keys binary.Like a b = like_of a b
binary_of keys binary.Glob a b = glob_of a b

-- ---- IN: one of the others is equal, by OR from the first on; over none it is false

abbrev pub falsehood_of : Out → Out
falsehood_of a = turned (λ v. Good (truth_value false)) a

abbrev pub or_equal : Keys → Sides → Out → Out → Out → Out
or_equal keys sides a found b = or_of found (comparison_of keys compares.Eq sides a b)

abbrev pub member_of : Keys → Sides → Out → List Out → Out
member_of keys sides a others = fold (or_equal keys sides a) (falsehood_of a) others

-- ---- the first that is not NULL; one that is bad decides too

abbrev pub or_else : Out → Out → Out
or_else (Good Null) b = b
or_else a b = a

-- ---- causes that come together: what is good adds none

abbrev pub merged : Out → Out → Out
merged (Good v) b = b
merged (Bad c) (Good v) = Bad c
merged (Bad c) (Bad d) = Bad (set.union c d)

-- ---- functions: bad where an argument is, with the causes of all

abbrev pub causes_of_all : List Out → CauseSet
causes_of_all [] = set.empty
causes_of_all (a ∷ rest) = set.union (causes_in a) (causes_of_all rest)

abbrev pub on_all : (List Value → Out) → List Out → Out
on_all f [] = f []
on_all f (Good v ∷ rest) = on_all (λ vs. f (v ∷ vs)) rest
on_all f (Bad causes ∷ rest) = Bad (set.union causes (causes_of_all rest))

module _ (key : Collation → Value → List ℕ) where
  -- by the arguments' keys under the collation
  abbrev pub function_by : Builtin → Collation → List Out → Out
  function_by f collation args = on_all (λ vs. call_of f vs (map (key collation) vs)) args

-- ---- examples

abbrev number : ℤ → Out
number n = Good (Integer n)

abbrev pub plain : Sides
plain = record { left = affinity.None; right = affinity.None; collation = collation.Built built.Binary }

members : (member_of own_keys plain (number (pos 2)) (Good Null ∷ bad cause.Real ∷ number (pos 2) ∷ []) ≡ number (pos 1)) × (member_of own_keys plain (number (pos 2)) (number (pos 1) ∷ Good Null ∷ []) ≡ Good Null) × (member_of own_keys plain (Good Null) [] ≡ number (pos 0)) × (member_of own_keys plain (bad cause.Real) [] ≡ bad cause.Real)
unfolding or_of comparison_of beside truth_of
members = (refl, refl, refl, refl)

first_of_two : (or_else (Good Null) (number (pos 1)) ≡ number (pos 1)) × (or_else (bad cause.Real) (number (pos 1)) ≡ bad cause.Real) × (or_else (number (pos 2)) (bad cause.Real) ≡ number (pos 2))
first_of_two = (refl, refl, refl)
