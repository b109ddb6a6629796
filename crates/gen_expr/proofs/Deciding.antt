-- What conditions and operands decide, as the machine's tests see them.
use Rattle.std.proofs.Common.{◌≡◌, ◌∙◌, cond, List, [], ◌∷◌, ◌++◌, Bool, true, false, not, Option, Some, None, map, pos, refl, ap, sym}
use Rattle.std.specs.Ordering.{int_eq}
use Rattle.eng_value.specs.Applied.{or_else}
use Rattle.eng_value.specs.Casts.{to_number}
use Rattle.eng_value.specs.Causes.{CauseSet}
use Rattle.eng_value.specs.Collations.{keys_of}
use Rattle.eng_value.specs.Comparisons.{comparison_of}
use Rattle.eng_value.specs.Environments.{Environment}
use Rattle.eng_value.specs.Outs.{turned, truth_value}
use Rattle.eng_value.specs.Truths.{and_of, both, chosen, choice_of, one_of_both, or_of, out_of, truth_in, truth_of, truth_of_number}
use Rattle.eng_value.specs.declared.compare_op.CompareOp.TheVariants as compare
use Rattle.eng_value.specs.declared.operators.BinaryOperator.TheVariants as binary
use Rattle.eng_value.specs.declared.out.Out.{Out}
use Rattle.eng_value.specs.declared.out.Out.TheVariants.{Good, Bad}
use Rattle.eng_value.specs.declared.truth.Truth.{Truth}
use Rattle.eng_value.specs.declared.truth.Truth.TheVariants as truth
use Rattle.eng_value.specs.declared.value.Value.{Value}
use Rattle.eng_value.specs.declared.value.Value.TheVariants.{Null, Integer, Text, Blob}
use Rattle.gen_expr.specs.Parts.{IsDecidedBy, decided_by, decided_arm, decided_match, decided_known, first_of, first_in, out_or}
use Rattle.sql_meaning.specs.Expression.{Arm, MatchArm, chosen_in, matched_in, first_known, in_all}
use Rattle.vm_code.specs.Machine.{is_bad, is_null, is_false, is_true, is_rejected}

-- ---- the truth of a truth

truth_of-truth_value : (zero : Bool) → truth_of (Good (truth_value (not zero))) ≡ Good (truth_value (not zero))
unfolding truth_of
truth_of-truth_value true = refl
truth_of-truth_value false = refl

truth_of-number : (number : Out) → let t = turned (λ v. Good (truth_of_number v)) number in truth_of t ≡ t
unfolding truth_of
truth_of-number (Good Null) = refl
truth_of-number (Good (Integer n)) = truth_of-truth_value (int_eq n (pos 0))
truth_of-number (Good (Text text)) = refl
truth_of-number (Good (Blob bytes)) = refl
truth_of-number (Bad causes) = refl

truth_of-twice : (a : Out) → truth_of (truth_of a) ≡ truth_of a
unfolding truth_of
truth_of-twice a = truth_of-number (turned to_number a)

-- ---- a truth is what it is told by

out_of-truth_value : (zero : Bool) → out_of (truth_in (Good (truth_value (not zero)))) ≡ Good (truth_value (not zero))
out_of-truth_value true = refl
out_of-truth_value false = refl

out_of-known : (v : Value) → out_of (truth_in (Good (truth_of_number v))) ≡ Good (truth_of_number v)
out_of-known Null = refl
out_of-known (Integer n) = out_of-truth_value (int_eq n (pos 0))
out_of-known (Text text) = refl
out_of-known (Blob bytes) = refl

out_of-number : (number : Out) → let t = turned (λ v. Good (truth_of_number v)) number in out_of (truth_in t) ≡ t
out_of-number (Good v) = out_of-known v
out_of-number (Bad causes) = refl

out_of-truth : (a : Out) → out_of (truth_in (truth_of a)) ≡ truth_of a
unfolding truth_of
out_of-truth a = out_of-number (turned to_number a)

-- ---- a left side that decides

false_side : (s t : Truth) → is_false false s ≡ true → s ≡ both s t
false_side truth.True t is = cc
false_side truth.False t is = refl
false_side truth.Unknown t is = cc
false_side (truth.Failed causes) t is = cc

true_side : (s t : Truth) → is_true false s ≡ true → s ≡ one_of_both s t
true_side truth.True t is = refl
true_side truth.False t is = cc
true_side truth.Unknown t is = cc
true_side (truth.Failed causes) t is = cc

pub and_decided : IsDecidedBy binary.And false
unfolding and_of
and_decided keys a b = (
  ap (λ t. out_of (both (truth_in t) (truth_in (truth_of b)))) (truth_of-twice a),
  λ is. sym (out_of-truth a) ∙ ap out_of (false_side (truth_in (truth_of a)) (truth_in (truth_of b)) (ap (λ t. is_false false (truth_in t)) (sym (truth_of-twice a)) ∙ is)),
)

pub or_decided : IsDecidedBy binary.Or true
unfolding or_of
or_decided keys a b = (
  ap (λ t. out_of (one_of_both (truth_in t) (truth_in (truth_of b)))) (truth_of-twice a),
  λ is. sym (out_of-truth a) ∙ ap out_of (true_side (truth_in (truth_of a)) (truth_in (truth_of b)) (ap (λ t. is_true false (truth_in t)) (sym (truth_of-twice a)) ∙ is)),
)

-- ---- tests of a condition's truth

pub decided_bad : (t v : Out) → is_bad t ≡ true → decided_by (truth_in t) v ≡ Some t
decided_bad (Good w) v is = cc
decided_bad (Bad causes) v is = refl

rejected_truth : (t : Truth) (v : Out) → is_false true t ≡ true → decided_by t v ≡ None
rejected_truth truth.True v is = cc
rejected_truth truth.False v is = refl
rejected_truth truth.Unknown v is = refl
rejected_truth (truth.Failed causes) v is = cc

pub decided_rejected : (a v : Out) → is_rejected true (truth_of a) ≡ true → decided_by (truth_in (truth_of a)) v ≡ None
decided_rejected a v is = rejected_truth (truth_in (truth_of a)) v (ap (λ t. is_false true (truth_in t)) (sym (truth_of-twice a)) ∙ is)

accepted_known : (t : Truth) (v : Out) (w : Out) → t ≡ truth_in w → is_bad w ≡ false → is_false true t ≡ false → decided_by t v ≡ Some v
accepted_known truth.True v w is good not_false = refl
accepted_known truth.False v w is good not_false = cc
accepted_known truth.Unknown v w is good not_false = cc
accepted_known (truth.Failed causes) v w is good not_false = absurd (never_failed w causes good (sym is))
  where
    by_zero : (zero : Bool) (causes : CauseSet) → cond zero truth.False truth.True ≡ truth.Failed causes → ⊥
    by_zero true causes e = cc
    by_zero false causes e = cc

    never_failed : (w : Out) (causes : CauseSet) → is_bad w ≡ false → truth_in w ≡ truth.Failed causes → ⊥
    never_failed (Good Null) causes good e = cc
    never_failed (Good (Integer n)) causes good e = by_zero (int_eq n (pos 0)) causes e
    never_failed (Good (Text text)) causes good e = cc
    never_failed (Good (Blob bytes)) causes good e = cc
    never_failed (Bad others) causes good e = cc

pub decided_accepted : (a v : Out) → is_bad (truth_of a) ≡ false → is_rejected true (truth_of a) ≡ false → decided_by (truth_in (truth_of a)) v ≡ Some v
decided_accepted a v good is = accepted_known (truth_in (truth_of a)) v (truth_of a) refl good (ap (λ t. is_false true (truth_in t)) (sym (truth_of-twice a)) ∙ is)

-- ---- tests for NULL

pub known_null : (a : Out) → is_null a ≡ true → decided_known a ≡ None
known_null (Good Null) is = refl
known_null (Good (Integer n)) is = cc
known_null (Good (Text text)) is = cc
known_null (Good (Blob bytes)) is = cc
known_null (Bad causes) is = cc

pub known_other : (a : Out) → is_null a ≡ false → decided_known a ≡ Some a
known_other (Good Null) is = cc
known_other (Good (Integer n)) is = refl
known_other (Good (Text text)) is = refl
known_other (Good (Blob bytes)) is = refl
known_other (Bad causes) is = refl

-- ---- the first that decides

first_of-none : (a : Option Out) → first_of a None ≡ a
first_of-none None = refl
first_of-none (Some v) = refl

first_of-assoc : (a b c : Option Out) → first_of a (first_of b c) ≡ first_of (first_of a b) c
first_of-assoc None b c = refl
first_of-assoc (Some v) b c = refl

pub first_in-last : {A : Type 0} (f : A → Option Out) (xs : List A) (x : A) → first_in f (xs ++ x ∷ []) ≡ first_of (first_in f xs) (f x)
first_in-last f [] x = first_of-none (f x)
first_in-last f (y ∷ ys) x = ap (first_of (f y)) (first_in-last f ys x) ∙ first_of-assoc (f y) (first_in f ys) (f x)

out_or-first : (a b : Option Out) (other : Out) → out_or (first_of a b) other ≡ out_or a (out_or b other)
out_or-first None b other = refl
out_or-first (Some v) b other = refl

chosen-decided : (t : Truth) (v other : Out) → chosen t v other ≡ out_or (decided_by t v) other
chosen-decided truth.True v other = refl
chosen-decided truth.False v other = refl
chosen-decided truth.Unknown v other = refl
chosen-decided (truth.Failed causes) v other = refl

choice_of-decided : (a v other : Out) → choice_of a v other ≡ out_or (decided_by (truth_in (truth_of a)) v) other
unfolding choice_of
choice_of-decided a v other = chosen-decided (truth_in (truth_of a)) v other

pub chosen_in-first : {A : Type 0} (arm_of : A → Arm) (arms : List A) (env : Environment) (other : Out) → chosen_in env (map arm_of arms) other ≡ out_or (first_in (λ arm. decided_arm env (arm_of arm)) arms) other
chosen_in-first arm_of [] env other = refl
chosen_in-first arm_of (arm ∷ arms) env other =
    choice_of-decided ((arm_of arm).condition env) ((arm_of arm).value env) (chosen_in env (map arm_of arms) other)
    ∙ ap (out_or (decided_arm env (arm_of arm))) (chosen_in-first arm_of arms env other)
    ∙ sym (out_or-first (decided_arm env (arm_of arm)) (first_in (λ x. decided_arm env (arm_of x)) arms) other)

pub matched_in-first : {A : Type 0} (match_of : A → MatchArm) (arms : List A) (env : Environment) (a other : Out) → matched_in env a (map match_of arms) other ≡ out_or (first_in (λ arm. decided_match env a (match_of arm)) arms) other
matched_in-first match_of [] env a other = refl
matched_in-first match_of (arm ∷ arms) env a other =
    choice_of-decided (comparison_of (keys_of env.hosts) compare.Eq (match_of arm).sides a ((match_of arm).operand env)) ((match_of arm).value env) (matched_in env a (map match_of arms) other)
    ∙ ap (out_or (decided_match env a (match_of arm))) (matched_in-first match_of arms env a other)
    ∙ sym (out_or-first (decided_match env a (match_of arm)) (first_in (λ x. decided_match env a (match_of x)) arms) other)

or_else-decided : (a other : Out) → or_else a other ≡ out_or (decided_known a) other
or_else-decided (Good Null) other = refl
or_else-decided (Good (Integer n)) other = refl
or_else-decided (Good (Text text)) other = refl
or_else-decided (Good (Blob bytes)) other = refl
or_else-decided (Bad causes) other = refl

pub first_known-first : {A : Type 0} (value_of : A → Environment → Out) (es : List A) (env : Environment) → first_known (in_all (map value_of es) env) ≡ out_or (first_in (λ e. decided_known (value_of e env)) es) (Good Null)
first_known-first value_of [] env = refl
first_known-first value_of (e ∷ es) env =
    or_else-decided (value_of e env) (first_known (in_all (map value_of es) env))
    ∙ ap (out_or (decided_known (value_of e env))) (first_known-first value_of es env)
    ∙ sym (out_or-first (decided_known (value_of e env)) (first_in (λ x. decided_known (value_of x env)) es) (Good Null))
