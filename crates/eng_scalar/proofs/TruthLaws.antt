-- A value and the number at its front have the same truth.
use Rattle.std.proofs.Common.{◌≡◌, ℤ, Option, Some, None, refl, ap}
use Rattle.eng_value.specs.declared.out.Out.TheVariants.{Good}
use Rattle.eng_value.specs.declared.value.Value.{Value}
use Rattle.eng_value.specs.declared.value.Value.TheVariants.{Null, Integer, Text, Blob}
use Rattle.eng_value.specs.Casts.{integer_or_real, to_number}
use Rattle.eng_value.specs.Outs.{turned}
use Rattle.eng_value.specs.Truths.{truth_of, truth_of_number}

again : (number : Option ℤ) → turned to_number (integer_or_real number) ≡ integer_or_real number
again (Some n) = refl
again None = refl

twice : (v : Value) → turned to_number (to_number v) ≡ to_number v
twice Null = refl
twice (Integer n) = refl
twice (Text text) = again _
twice (Blob bytes) = again _

pub truth_of-to_number : (v : Value) → truth_of (to_number v) ≡ truth_of (Good v)
unfolding truth_of
truth_of-to_number v = ap (turned (λ w. Good (truth_of_number w))) (twice v)
