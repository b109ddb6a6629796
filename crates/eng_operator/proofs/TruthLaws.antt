-- What the truth of an operand says of it.
use Rattle.std.proofs.Common.{◌≡◌, Bool, true, false, not, pos, refl}
use Rattle.std.specs.Ordering.{int_eq, is_eq}
use Rattle.eng_value.specs.declared.out.Out.{Out}
use Rattle.eng_value.specs.declared.out.Out.TheVariants.{Good, Bad}
use Rattle.eng_value.specs.declared.truth.Truth.{Truth}
use Rattle.eng_value.specs.declared.truth.Truth.TheVariants.{True, False, Unknown, Failed}
use Rattle.eng_value.specs.declared.value.Value.TheVariants.{Null, Integer, Text, Blob}
use Rattle.eng_value.specs.Compare.{value_cmp}
use Rattle.eng_value.specs.Casts.{to_number}
use Rattle.eng_value.specs.Outs.{turned, truth_value}
use Rattle.eng_value.specs.Truths.{is_truth_of, out_of, truth_in, truth_of, truth_of_number}

-- what IS TRUE or IS FALSE gives for a truth
abbrev pub told : Bool → Truth → Out
told wanted True = Good (truth_value wanted)
told wanted False = Good (truth_value (not wanted))
told wanted Unknown = Good (truth_value false)
told wanted (Failed causes) = Bad causes

told-truth_value : (wanted zero : Bool) → Good (truth_value (is_eq (value_cmp (truth_value (not zero)) (truth_value wanted)))) ≡ told wanted (truth_in (Good (truth_value (not zero))))
told-truth_value true true = refl
told-truth_value true false = refl
told-truth_value false true = refl
told-truth_value false false = refl

told-null : (wanted : Bool) → Good (truth_value (is_eq (value_cmp Null (truth_value wanted)))) ≡ told wanted Unknown
told-null true = refl
told-null false = refl

told-number : (wanted : Bool) (number : Out) → turned (λ v. Good (truth_value (is_eq (value_cmp v (truth_value wanted))))) (turned (λ v. Good (truth_of_number v)) number) ≡ told wanted (truth_in (turned (λ v. Good (truth_of_number v)) number))
told-number wanted (Good Null) = told-null wanted
told-number wanted (Good (Integer n)) = told-truth_value wanted (int_eq n (pos 0))
told-number wanted (Good (Text text)) = told-null wanted
told-number wanted (Good (Blob bytes)) = told-null wanted
told-number wanted (Bad causes) = refl

pub told_by_truth : (wanted : Bool) (a : Out) → is_truth_of wanted a ≡ told wanted (truth_in (truth_of a))
unfolding is_truth_of truth_of
told_by_truth wanted a = told-number wanted (turned to_number a)

-- ---- a truth, spelled as a value

out_of-truth_value : (zero : Bool) → out_of (truth_in (Good (truth_value (not zero)))) ≡ Good (truth_value (not zero))
out_of-truth_value true = refl
out_of-truth_value false = refl

out_of-number : (number : Out) → let truth = turned (λ v. Good (truth_of_number v)) number in out_of (truth_in truth) ≡ truth
out_of-number (Good Null) = refl
out_of-number (Good (Integer n)) = out_of-truth_value (int_eq n (pos 0))
out_of-number (Good (Text text)) = refl
out_of-number (Good (Blob bytes)) = refl
out_of-number (Bad causes) = refl

pub truth_spelled : (a : Out) → out_of (truth_in (truth_of a)) ≡ truth_of a
unfolding truth_of
truth_spelled a = out_of-number (turned to_number a)
