-- What a function reads of its arguments.
use Rattle.std.proofs.Common.{◌≡◌, ◌∙◌, ℕ, List, [], ◌∷◌, false, map, Option, Some, None, refl, sym, ap}
use Rattle.std.proofs.Common.{◌||◌}
use Rattle.std.proofs.Math.Bool.{or-false}
use Rattle.std.specs.Cmp.Lexicographic.{slice_cmp, nat_list_cmp_total}
use Rattle.std.specs.FinSet as set
use Rattle.std.specs.Ordering.{nat_cmp}
use Rattle.eng_value.proofs.CauseLaws.{same_causes}
use Rattle.eng_key.specs.Values.{value_keys}
use Rattle.eng_scalar.specs.Called.{bad_in, beside_causes, function_of, looks_at_keys, value_in}
use Rattle.eng_value.specs.Applied.{causes_of_all, on_all}
use Rattle.eng_value.specs.Causes.{CauseSet}
use Rattle.eng_value.specs.Collations.{own_keys}
use Rattle.eng_value.specs.Functions.{FunctionKind, FirstKnown, Choice, ByKeys, OfText, OfValues, call_by, call_of, kind_of}
use Rattle.eng_value.specs.declared.collation.Collation.{Collation}
use Rattle.eng_value.specs.declared.builtin.Builtin.{Builtin}
use Rattle.eng_value.specs.declared.out.Out.{Out}
use Rattle.eng_value.specs.declared.out.Out.TheVariants.{Good, Bad}
use Rattle.eng_value.specs.declared.value.Value.{Value}
use Rattle.eng_value.specs.declared.value.Value.TheVariants.{Null}

-- only some kinds look at the keys
by_no_keys : (k : FunctionKind) (vs : List Value) (keys : List (List ℕ)) → looks_at_keys k ≡ false → call_by k vs [] ≡ call_by k vs keys
by_no_keys FirstKnown vs keys is = refl
by_no_keys Choice vs keys is = refl
by_no_keys (ByKeys f) vs keys is = absurd (cc)
by_no_keys (OfText f) vs keys is = refl
by_no_keys (OfValues f) vs keys is = refl

pub without_keys : (f : Builtin) (vs : List Value) (keys : List (List ℕ)) → looks_at_keys (kind_of f) ≡ false → call_of f vs [] ≡ call_of f vs keys
unfolding call_of
without_keys f vs keys is = by_no_keys (kind_of f) vs keys is

-- ---- arguments that are bad

union_none : (s : CauseSet) → set.union s set.empty ≡ s
union_none s = same_causes _ _ (λ q. set.contains-union nat_list_cmp_total s set.empty q ∙ ap (λ b. set.contains s q || b) (set.contains-empty (slice_cmp nat_cmp) q) ∙ or-false (set.contains s q))

none_union : (s : CauseSet) → set.union set.empty s ≡ s
none_union s = same_causes _ _ (λ q. set.contains-union nat_list_cmp_total set.empty s q ∙ ap (λ b. b || set.contains s q) (set.contains-empty (slice_cmp nat_cmp) q))

-- the causes that were found, and what comes of the values where there are none
abbrev causes_or_none : Option CauseSet → CauseSet
causes_or_none None = set.empty
causes_or_none (Some causes) = causes

abbrev bad_or : Option CauseSet → Out → Out
bad_or None out = out
bad_or (Some causes) out = Bad causes

bad_beside : (causes : CauseSet) (found : Option CauseSet) → set.union causes (causes_or_none found) ≡ causes_or_none (beside_causes (Bad causes) found)
bad_beside causes None = union_none causes
bad_beside causes (Some others) = refl

causes_of_all-bad_in : (args : List Out) → causes_of_all args ≡ causes_or_none (bad_in args)
causes_of_all-bad_in [] = refl
causes_of_all-bad_in (Good v ∷ rest) = none_union (causes_of_all rest) ∙ causes_of_all-bad_in rest
causes_of_all-bad_in (Bad causes ∷ rest) = ap (set.union causes) (causes_of_all-bad_in rest) ∙ bad_beside causes (bad_in rest)

bad_whatever : (causes : CauseSet) (found : Option CauseSet) (out : Out) → Bad (causes_or_none (beside_causes (Bad causes) found)) ≡ bad_or (beside_causes (Bad causes) found) out
bad_whatever causes None out = refl
bad_whatever causes (Some others) out = refl

on_all-bad_in : (f : List Value → Out) (args : List Out) → on_all f args ≡ bad_or (bad_in args) (f (map value_in args))
on_all-bad_in f [] = refl
on_all-bad_in f (Good v ∷ rest) = on_all-bad_in (λ vs. f (v ∷ vs)) rest
on_all-bad_in f (Bad causes ∷ rest) = ap Bad (causes_of_all-bad_in (Bad causes ∷ rest)) ∙ bad_whatever causes (bad_in rest) (f (Null ∷ map value_in rest))

-- bad for the causes of all, and else what the values give
pub function_of-bad : (f : Builtin) (collation : Collation) (args : List Out) (causes : CauseSet) → bad_in args ≡ Some causes → Bad causes ≡ function_of f collation args
function_of-bad f collation args causes is = sym (on_all-bad_in (λ vs. call_of f vs (map (value_keys own_keys collation) vs)) args ∙ rw is refl)

pub function_of-good : (f : Builtin) (collation : Collation) (args : List Out) → bad_in args ≡ None → call_of f (map value_in args) (map (value_keys own_keys collation) (map value_in args)) ≡ function_of f collation args
function_of-good f collation args is = sym (on_all-bad_in (λ vs. call_of f vs (map (value_keys own_keys collation) vs)) args ∙ rw is refl)

never_none : (causes : CauseSet) (found : Option CauseSet) → beside_causes (Bad causes) found ≡ None → ⊥
never_none causes None is = cc
never_none causes (Some others) is = cc

-- values come back to where they were
pub good_again : (args : List Out) → bad_in args ≡ None → map Good (map value_in args) ≡ args
good_again [] is = refl
good_again (Good v ∷ rest) is = ap (λ r. Good v ∷ r) (good_again rest is)
good_again (Bad causes ∷ rest) is = absurd (never_none causes (bad_in rest) is)
