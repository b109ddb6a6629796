-- What comes of an accumulator is what the aggregate gives for its rows.
use Rattle.std.proofs.Common.{◌≡◌, ◌∙◌, ℕ, Bool, true, false, if◌then◌else◌, List, [], ◌∷◌, length, nat_eq, nat_lt, ℤ, refl, ap}
use Rattle.std.specs.List.{flat_map, list_all}
use Rattle.std.proofs.Math.Dec.{eqb-suc-zero}
use Rattle.eng_aggr.specs.Accumulators.{after, finished, joined_after, joined_out, so_far_after, sum_after, sum_out, text_or_too_big}
use Rattle.eng_aggr.specs.Aggregates.{aggregate_of, is_integer, is_text, joined, known, pieces, sum_of, text_of, total, values}
use Rattle.eng_aggr.specs.Totals.{integer_total}
use Rattle.eng_aggr.specs.declared.accumulator.Accumulator.{Accumulator}
use Rattle.eng_aggr.specs.declared.aggregate.Aggregate.{Aggregate}
use Rattle.eng_aggr.specs.declared.aggregate.Aggregate.TheVariants as aggregate
use Rattle.eng_aggr.specs.declared.joining.Joined.TheVariants as kept
use Rattle.eng_aggr.specs.declared.summing.Sum.TheVariants as sum
use Rattle.eng_value.specs.declared.cause.Cause.TheVariants as cause
use Rattle.eng_value.specs.declared.collation.Collation.{Collation}
use Rattle.eng_value.specs.declared.limits.TheConstants.{MAX_VALUE_BYTES}
use Rattle.eng_value.specs.declared.out.Out.TheVariants.{Good}
use Rattle.eng_value.specs.declared.value.Value.{Value}
use Rattle.eng_value.specs.declared.value.Value.TheVariants.{Null, Text}
use Rattle.eng_value.specs.Operators.{integer_in_range, made}
use Rattle.eng_value.specs.Outs.{bad}

-- ---- sums

some_sum : (b : Bool) (n : ℕ) (t : ℤ) → nat_eq n 0 ≡ false → sum_out (if b then sum.Exact (integer_total n t) else sum.Real) ≡ (if b then integer_in_range t else bad cause.Real)
some_sum true n t e = ap (λ b. if b then Good Null else integer_in_range t) e
some_sum false n t e = refl

sum-out : (vs : List Value) → sum_out (sum_after vs) ≡ sum_of vs
sum-out [] = refl
sum-out (v ∷ vs) = some_sum (list_all is_integer (v ∷ vs)) (length (v ∷ vs)) (total (v ∷ vs)) (eqb-suc-zero (length vs))

-- ---- texts

made_case : (big : Bool) (text : List ℕ) → joined_out (if big then kept.TooBig else kept.Text text) ≡ (if big then bad cause.TooBig else Good (Text text))
made_case true text = refl
made_case false text = refl

text_case : (b : Bool) (text : List ℕ) → joined_out (if b then text_or_too_big text else kept.NotText) ≡ (if b then made (Text text) else bad cause.NotText)
text_case true text = made_case (nat_lt MAX_VALUE_BYTES (length text)) text
text_case false text = refl

joined-out : (ps : List Value) → joined_out (joined_after ps) ≡ joined ps
joined-out [] = refl
joined-out (p ∷ ps) = text_case (list_all is_text (p ∷ ps)) (flat_map text_of (p ∷ ps))

-- ---- all of them

finished_case : (f : Aggregate) (c : Collation) (rows : List (List Value)) → finished (so_far_after f c rows) ≡ aggregate_of f c rows
finished_case aggregate.CountRows c rows = refl
finished_case aggregate.Count c rows = refl
finished_case aggregate.Sum c rows = sum-out (values rows)
finished_case aggregate.Min c rows = refl
finished_case aggregate.Max c rows = refl
finished_case aggregate.GroupConcat c rows = joined-out (pieces (known rows))

pub finished_after : (held : Accumulator) (f : Aggregate) (c : Collation) (rows : List (List Value)) → held ≡ after f c rows → finished held.so_far ≡ aggregate_of f c rows
unfolding after
finished_after held f c rows is = ap (λ (h : Accumulator). finished h.so_far) is ∙ finished_case f c rows
