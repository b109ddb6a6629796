-- Operators on two integers.
use Rattle.std.proofs.Common.{◌≡◌, ℤ, pos, Bool, true, false, not, ◌&&◌, ◌||◌, refl}
use Rattle.std.specs.Ordering.{int_eq}
use Rattle.eng_value.specs.declared.affinity.Affinity.{Affinity}
use Rattle.eng_value.specs.declared.affinity.Affinity.TheVariants as affinity
use Rattle.eng_value.specs.declared.out.Out.TheVariants.{Good}
use Rattle.eng_value.specs.declared.value.Value.TheVariants.{Integer}
use Rattle.eng_value.specs.Casts.{beside}
use Rattle.eng_value.specs.Outs.{truth_value}
use Rattle.eng_operator.specs.Plain.{is_text}
use Rattle.eng_value.specs.Truths.{and_of, both, one_of_both, or_of, out_of, truth_in, truth_of}

-- an integer stays beside all but TEXT
pub kept_beside : (other own : Affinity) → is_text other ≡ false → (n : ℤ) → beside other own (Integer n) ≡ Integer n
unfolding beside
kept_beside affinity.Integer affinity.Integer e n = refl
kept_beside affinity.Integer affinity.Numeric e n = refl
kept_beside affinity.Integer affinity.Real e n = refl
kept_beside affinity.Integer affinity.Text e n = refl
kept_beside affinity.Integer affinity.Blob e n = refl
kept_beside affinity.Integer affinity.None e n = refl
kept_beside affinity.Numeric affinity.Integer e n = refl
kept_beside affinity.Numeric affinity.Numeric e n = refl
kept_beside affinity.Numeric affinity.Real e n = refl
kept_beside affinity.Numeric affinity.Text e n = refl
kept_beside affinity.Numeric affinity.Blob e n = refl
kept_beside affinity.Numeric affinity.None e n = refl
kept_beside affinity.Real own e n = refl
kept_beside affinity.Text own e n = absurd (cc)
kept_beside affinity.Blob own e n = refl
kept_beside affinity.None own e n = refl

and_flags : (x y : Bool) → out_of (both (truth_in (Good (truth_value (not x)))) (truth_in (Good (truth_value (not y))))) ≡ Good (truth_value (not x && not y))
and_flags true true = refl
and_flags true false = refl
and_flags false true = refl
and_flags false false = refl

or_flags : (x y : Bool) → out_of (one_of_both (truth_in (Good (truth_value (not x)))) (truth_in (Good (truth_value (not y))))) ≡ Good (truth_value (not x || not y))
or_flags true true = refl
or_flags true false = refl
or_flags false true = refl
or_flags false false = refl

-- a number is true where it is not 0
pub and_integers : (a b : ℤ) → and_of (Good (Integer a)) (Good (Integer b)) ≡ Good (truth_value (not (int_eq a (pos 0)) && not (int_eq b (pos 0))))
unfolding and_of truth_of
and_integers a b = and_flags (int_eq a (pos 0)) (int_eq b (pos 0))

pub or_integers : (a b : ℤ) → or_of (Good (Integer a)) (Good (Integer b)) ≡ Good (truth_value (not (int_eq a (pos 0)) || not (int_eq b (pos 0))))
unfolding or_of truth_of
or_integers a b = or_flags (int_eq a (pos 0)) (int_eq b (pos 0))
