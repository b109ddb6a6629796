-- How the comparison of two values stands to what a search asks of them.
use Rattle.std.proofs.Common.{◌≡◌, ℕ, Bool, true, false, not, List, None, if◌then◌else◌, refl, sym, ap, ap₂, ◌∙◌}
use Rattle.std.specs.Ordering.{ordering_reverse}
use Rattle.std.specs.declared.cmp.Ordering.{Ordering}
use Rattle.std.specs.declared.cmp.Ordering.TheVariants.{Less, Equal, Greater}
use Rattle.eng_index.proofs.Lists.{differ}
use Rattle.eng_index.proofs.WithinFronts.{known, null_is, unknown}
use Rattle.eng_index.specs.Keys.{is_known_so}
use Rattle.eng_index.specs.Stored.{is_null}
use Rattle.eng_index.specs.declared.key_term.KeyTerm.{KeyTerm}
use Rattle.eng_number.specs.Numbers.{text_kind}
use Rattle.eng_number.specs.declared.numbers.TextKind.{TextKind}
use Rattle.eng_number.specs.declared.numbers.TextKind.TheVariants as kind
use Rattle.eng_value.proofs.CauseLaws.{union-comm}
use Rattle.eng_value.proofs.CollationLaws.{compare_total}
use Rattle.eng_value.specs.Casts.{as_number, as_text_beside, beside, integer_as_text, is_numeric, whole_text}
use Rattle.eng_value.specs.Collations.{Keys, compare, compare_by, keys_of}
use Rattle.eng_value.specs.Comparisons.{compare_sides, comparison, comparison_of}
use Rattle.eng_value.specs.HostMeanings.{HostMeanings}
use Rattle.eng_value.specs.Outs.{passes, truth_value}
use Rattle.eng_value.specs.Truths.{truth_in, truth_of}
use Rattle.eng_value.specs.declared.affinity.Affinity.{Affinity}
use Rattle.eng_value.specs.declared.affinity.Affinity.TheVariants as affinity
use Rattle.eng_value.specs.declared.compare_op.CompareOp.{CompareOp}
use Rattle.eng_value.specs.declared.compare_op.CompareOp.TheVariants as op
use Rattle.eng_value.specs.declared.operators.Sides.{Sides}
use Rattle.eng_value.specs.declared.out.Out.{Out}
use Rattle.eng_value.specs.declared.out.Out.TheVariants.{Good, Bad}
use Rattle.eng_value.specs.declared.truth.Truth.{Truth}
use Rattle.eng_value.specs.declared.truth.Truth.TheVariants.{True}
use Rattle.eng_value.specs.declared.value.Value.{Value}
use Rattle.eng_value.specs.declared.value.Value.TheVariants.{Null, Integer, Text, Blob}
use Rattle.plan_best.specs.Comparing.{stands_so}
use Rattle.plan_best.specs.Sides.{is_kept_beside, op_round, sides_round}
use Rattle.sql_meaning.specs.Products.{after_conjunct}
use Rattle.sql_meaning.specs.Searches.{has_none}

-- ---- values beside others

as_it_is : (own : Affinity) (v w : Value) → is_numeric own ≡ true → (if is_numeric own then v else w) ≡ v
as_it_is own v w is = ap (λ b. if b then v else w) is

as_text : (own : Affinity) (v : Value) → not (has_none own) ≡ true → as_text_beside affinity.Text own v ≡ v
as_text affinity.Integer v is = refl
as_text affinity.Numeric v is = refl
as_text affinity.Real v is = refl
as_text affinity.Text v is = refl
as_text affinity.Blob v is = refl
as_text affinity.None v is = absurd (differ (sym is))

pub kept_beside : (other own : Affinity) (v : Value) → is_kept_beside other own ≡ true → beside other own v ≡ v
unfolding beside
kept_beside affinity.Integer own v is = as_it_is own v (as_number v) is
kept_beside affinity.Numeric own v is = as_it_is own v (as_number v) is
kept_beside affinity.Text own v is = as_text own v is
kept_beside affinity.Real own v is = refl
kept_beside affinity.Blob own v is = refl
kept_beside affinity.None own v is = refl

whole-null : (text : List ℕ) (k : TextKind) → is_null (whole_text text k) ≡ false
whole-null text kind.NoNumber = refl
whole-null text (kind.Whole n) = refl
whole-null text kind.Real = refl

number-null : (v : Value) → is_null (as_number v) ≡ is_null v
number-null Null = refl
number-null (Integer n) = refl
number-null (Text text) = whole-null text (text_kind text)
number-null (Blob bytes) = refl

integer-null : (v : Value) → is_null (integer_as_text v) ≡ is_null v
integer-null Null = refl
integer-null (Integer n) = refl
integer-null (Text text) = refl
integer-null (Blob bytes) = refl

text-null : (other own : Affinity) (v : Value) → is_null (as_text_beside other own v) ≡ is_null v
text-null affinity.Integer own v = refl
text-null affinity.Numeric own v = refl
text-null affinity.Real own v = refl
text-null affinity.Text affinity.Integer v = refl
text-null affinity.Text affinity.Numeric v = refl
text-null affinity.Text affinity.Real v = refl
text-null affinity.Text affinity.Text v = refl
text-null affinity.Text affinity.Blob v = refl
text-null affinity.Text affinity.None v = integer-null v
text-null affinity.Blob own v = refl
text-null affinity.None own v = refl

-- only NULL becomes NULL
pub beside-null : (other own : Affinity) (v : Value) → is_null (beside other own v) ≡ is_null v
unfolding beside
beside-null other own v = by (is_numeric other) (is_numeric own)
  where
    by : (a b : Bool) → is_null (if a then (if b then v else as_number v) else as_text_beside other own v) ≡ is_null v
    by true true = refl
    by true false = number-null v
    by false b = text-null other own v

-- ---- comparisons of values

module _ (keys : Keys) (o : CompareOp) (sides : Sides) where
  compared : (v w : Value) → is_null v ≡ false → is_null w ≡ false → comparison keys o sides v w ≡ truth_value (passes o (compare_sides keys sides v w))
  compared Null w v_is w_is = absurd (differ v_is)
  compared (Integer m) Null v_is w_is = absurd (differ w_is)
  compared (Integer m) (Integer n) v_is w_is = refl
  compared (Integer m) (Text b) v_is w_is = refl
  compared (Integer m) (Blob b) v_is w_is = refl
  compared (Text a) Null v_is w_is = absurd (differ w_is)
  compared (Text a) (Integer n) v_is w_is = refl
  compared (Text a) (Text b) v_is w_is = refl
  compared (Text a) (Blob b) v_is w_is = refl
  compared (Blob a) Null v_is w_is = absurd (differ w_is)
  compared (Blob a) (Integer n) v_is w_is = refl
  compared (Blob a) (Text b) v_is w_is = refl
  compared (Blob a) (Blob b) v_is w_is = refl

  compared_to_null : (v w : Value) → is_null w ≡ true → comparison keys o sides v w ≡ Null
  compared_to_null Null w w_is = refl
  compared_to_null (Integer m) w w_is = ap (comparison keys o sides (Integer m)) (null_is w w_is)
  compared_to_null (Text a) w w_is = ap (comparison keys o sides (Text a)) (null_is w w_is)
  compared_to_null (Blob a) w w_is = ap (comparison keys o sides (Blob a)) (null_is w w_is)

  compared_null : (v w : Value) → is_null v ≡ true → comparison keys o sides v w ≡ Null
  compared_null v w v_is = ap (λ u. comparison keys o sides u w) (null_is v v_is)

-- ---- what that says of a search

-- true where it is so, and else what rejects
abbrev pub IsTruthBy : Bool → Truth → Type 0
IsTruthBy true t = t ≡ True
IsTruthBy false t = (causes : Out) → after_conjunct causes t ≡ None

pub truth_met : (b : Bool) (t : Truth) → IsTruthBy b t → b ≡ true → t ≡ True
truth_met true t by is = by
truth_met false t by is = absurd (differ (sym is))

pub truth_rejected : (b : Bool) (t : Truth) → IsTruthBy b t → b ≡ false → (causes : Out) → after_conjunct causes t ≡ None
truth_rejected true t by is = absurd (differ is)
truth_rejected false t by is = by

truth_by_value : (b : Bool) → IsTruthBy b (truth_in (truth_of (Good (truth_value b))))
unfolding truth_of
truth_by_value true = refl
truth_by_value false = λ causes. refl

truth_by_null : IsTruthBy false (truth_in (truth_of (Good Null)))
unfolding truth_of
truth_by_null = λ causes. refl

stands-passes : (o : CompareOp) (is : Ordering) → stands_so o is ≡ passes o is
stands-passes op.Eq is = refl
stands-passes op.Lt is = refl
stands-passes op.Le is = refl
stands-passes op.Gt is = refl
stands-passes op.Ge is = refl

known_not : (so : Ordering → Bool) (t : KeyTerm) (v w : Value) → is_null v ≡ true → is_known_so so t v w ≡ false
known_not so t v w is = ap (λ u. is_known_so so t u w) (null_is v is)

module _ (keys : Keys) (o : CompareOp) (sides : Sides) (t : KeyTerm) (own key v : Value) (kept : beside sides.right sides.left own ≡ own) (becomes : beside sides.left sides.right key ≡ v) (alike : compare t.collation own v ≡ compare_by (keys sides.collation) own v) where
  abbrev is_so : Bool
  is_so = is_known_so (stands_so o) t own v

  abbrev as_truth : Value → Truth
  as_truth u = truth_in (truth_of (Good u))

  key_null : is_null v ≡ is_null key
  key_null = ap is_null (sym becomes) ∙ beside-null sides.left sides.right key

  sides-are : compare_sides keys sides own key ≡ compare t.collation own v
  sides-are = ap₂ (compare_by (keys sides.collation)) kept becomes ∙ sym alike

  -- both have a value
  both_known : is_null own ≡ false → is_null key ≡ false → IsTruthBy is_so (as_truth (comparison keys o sides own key))
  both_known own_is key_is =
      let so : is_so ≡ passes o (compare_sides keys sides own key) = known (stands_so o) t own v own_is (key_null ∙ key_is) ∙ stands-passes o (compare t.collation own v) ∙ ap (passes o) (sym sides-are) in
      let value : comparison keys o sides own key ≡ truth_value (passes o (compare_sides keys sides own key)) = compared keys o sides own key own_is key_is in
      rw (so, value) (truth_by_value (passes o (compare_sides keys sides own key)))

  one_null : is_so ≡ false → comparison keys o sides own key ≡ Null → IsTruthBy is_so (as_truth (comparison keys o sides own key))
  one_null so value = rw (so, value) truth_by_null

  pub truth_by_search : IsTruthBy is_so (as_truth (comparison keys o sides own key))
  truth_by_search = by (is_null own) (is_null key) refl refl
    where
      by : (a b : Bool) → is_null own ≡ a → is_null key ≡ b → IsTruthBy is_so (as_truth (comparison keys o sides own key))
      by true b own_is key_is = one_null (known_not (stands_so o) t own v own_is) (compared_null keys o sides own key own_is)
      by false true own_is key_is = one_null (unknown (stands_so o) t own v (key_null ∙ key_is)) (compared_to_null keys o sides own key key_is)
      by false false own_is key_is = both_known own_is key_is

-- ---- the other way round

round-passes : (o : CompareOp) (is : Ordering) → passes o is ≡ passes (op_round o) (ordering_reverse is)
round-passes op.Eq Less = refl
round-passes op.Eq Equal = refl
round-passes op.Eq Greater = refl
round-passes op.Lt Less = refl
round-passes op.Lt Equal = refl
round-passes op.Lt Greater = refl
round-passes op.Le Less = refl
round-passes op.Le Equal = refl
round-passes op.Le Greater = refl
round-passes op.Gt Less = refl
round-passes op.Gt Equal = refl
round-passes op.Gt Greater = refl
round-passes op.Ge Less = refl
round-passes op.Ge Equal = refl
round-passes op.Ge Greater = refl

module _ (hosts : HostMeanings) (o : CompareOp) (sides : Sides) where
  sides-round : (v w : Value) → ordering_reverse (compare_sides (keys_of hosts) sides v w) ≡ compare_sides (keys_of hosts) (sides_round sides) w v
  sides-round v w = sym ((compare_total hosts sides.collation).antisymm (beside sides.left sides.right w) (beside sides.right sides.left v))

  values-round : (v w : Value) → comparison (keys_of hosts) o sides v w ≡ comparison (keys_of hosts) (op_round o) (sides_round sides) w v
  values-round v w = by (is_null v) (is_null w) refl refl
    where
      by : (a b : Bool) → is_null v ≡ a → is_null w ≡ b → comparison (keys_of hosts) o sides v w ≡ comparison (keys_of hosts) (op_round o) (sides_round sides) w v
      by true b v_is w_is = compared_null (keys_of hosts) o sides v w v_is ∙ sym (compared_to_null (keys_of hosts) (op_round o) (sides_round sides) w v v_is)
      by false true v_is w_is = compared_to_null (keys_of hosts) o sides v w w_is ∙ sym (compared_null (keys_of hosts) (op_round o) (sides_round sides) w v w_is)
      by false false v_is w_is =
          compared (keys_of hosts) o sides v w v_is w_is
          ∙ ap truth_value (round-passes o (compare_sides (keys_of hosts) sides v w) ∙ ap (passes (op_round o)) (sides-round v w))
          ∙ sym (compared (keys_of hosts) (op_round o) (sides_round sides) w v w_is v_is)

  pub comparison-round : (a b : Out) → comparison_of (keys_of hosts) o sides a b ≡ comparison_of (keys_of hosts) (op_round o) (sides_round sides) b a
  unfolding comparison_of
  comparison-round (Good v) (Good w) = ap Good (values-round v w)
  comparison-round (Good v) (Bad d) = refl
  comparison-round (Bad c) (Good w) = refl
  comparison-round (Bad c) (Bad d) = ap Bad (union-comm c d)
