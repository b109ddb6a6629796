-- The truth of operands: AND, OR, NOT, CASE's choice, IS TRUE (SQL Language Expressions, sections 2, 8 and 9).
use Rattle.std.specs.Prelude.{◌≡◌, Bool, true, false, not, ℤ, pos, if◌then◌else◌, codes, refl}
use Rattle.std.specs.FinSet as set
use Rattle.std.specs.Ordering.{int_eq, is_eq}
use Rattle.eng_value.specs.declared.cause.Cause.TheVariants as cause
use Rattle.eng_value.specs.declared.out.Out.{Out}
use Rattle.eng_value.specs.declared.out.Out.TheVariants.{Good, Bad}
use Rattle.eng_value.specs.declared.truth.Truth.{Truth}
use Rattle.eng_value.specs.declared.truth.Truth.TheVariants.{True, False, Unknown, Failed}
use Rattle.eng_value.specs.declared.value.Value.{Value}
use Rattle.eng_value.specs.declared.value.Value.TheVariants.{Null, Integer, Text, Blob}
use Rattle.eng_number.specs.Numbers.{number_prefix}
use Rattle.eng_value.specs.Casts.{to_number}
use Rattle.eng_value.specs.Compare.{value_cmp}
use Rattle.eng_value.specs.Outs.{bad, turned, truth_value}

-- NULL, 1 or 0
abbrev pub truth_of_number : Value → Value
truth_of_number Null = Null
truth_of_number (Integer n) = truth_value (not (int_eq n (pos 0)))
truth_of_number (Text text) = Null
truth_of_number (Blob bytes) = Null

unfoldable pub truth_of : Out → Out
truth_of a = turned (λ v. Good (truth_of_number v)) (turned to_number a)

abbrev pub truth_in : Out → Truth
truth_in (Good (Integer n)) = if int_eq n (pos 0) then False else True
truth_in (Good v) = Unknown
truth_in (Bad causes) = Failed causes

abbrev pub out_of : Truth → Out
out_of True = Good (Integer (pos 1))
out_of False = Good (Integer (pos 0))
out_of Unknown = Good Null
out_of (Failed causes) = Bad causes

-- a false side decides, even beside one that is bad
abbrev pub both : Truth → Truth → Truth
both False b = False
both True b = b
both Unknown False = False
both Unknown True = Unknown
both Unknown Unknown = Unknown
both Unknown (Failed d) = Failed d
both (Failed c) False = False
both (Failed c) True = Failed c
both (Failed c) Unknown = Failed c
both (Failed c) (Failed d) = Failed (set.union c d)

abbrev pub opposite : Truth → Truth
opposite True = False
opposite False = True
opposite Unknown = Unknown
opposite (Failed causes) = Failed causes

-- a true side decides
abbrev pub one_of_both : Truth → Truth → Truth
one_of_both a b = opposite (both (opposite a) (opposite b))

unfoldable pub and_of : Out → Out → Out
and_of a b = out_of (both (truth_in (truth_of a)) (truth_in (truth_of b)))

unfoldable pub or_of : Out → Out → Out
or_of a b = out_of (one_of_both (truth_in (truth_of a)) (truth_in (truth_of b)))

unfoldable pub not_of : Out → Out
not_of a = out_of (opposite (truth_in (truth_of a)))

-- the one where the condition is true, else the other; a condition that is bad decides for neither
abbrev pub chosen : Truth → Out → Out → Out
chosen True a b = a
chosen False a b = b
chosen Unknown a b = b
chosen (Failed causes) a b = Bad causes

unfoldable pub choice_of : Out → Out → Out → Out
choice_of condition a b = chosen (truth_in (truth_of condition)) a b

-- `IS TRUE` and `IS FALSE`: whether the operand has this truth; NULL has neither
unfoldable pub is_truth_of : Bool → Out → Out
is_truth_of wanted a = turned (λ v. Good (truth_value (is_eq (value_cmp v (truth_value wanted))))) (truth_of a)

-- ---- examples

abbrev number : ℤ → Out
number n = Good (Integer n)

truths : (and_of (number (pos 0)) (bad cause.Real) ≡ number (pos 0)) × (or_of (bad cause.Real) (number (pos 1)) ≡ number (pos 1)) × (not_of (Good Null) ≡ Good Null) × (and_of (number (pos 1)) (Good Null) ≡ Good Null)
unfolding and_of or_of not_of truth_of
truths = (refl, refl, refl, refl)

wanted_truths : (is_truth_of true (number (pos 7)) ≡ number (pos 1)) × (is_truth_of true (Good Null) ≡ number (pos 0)) × (is_truth_of false (Good (Text (codes "0x7"))) ≡ number (pos 1)) × (is_truth_of false (bad cause.Real) ≡ bad cause.Real)
unfolding is_truth_of truth_of number_prefix
wanted_truths = (refl, refl, refl, refl)
