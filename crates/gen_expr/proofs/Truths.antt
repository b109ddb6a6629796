-- Operators that give truths.
use Rattle.std.proofs.Common.{◌≡◌, Bool, true, false, not, pos, List, [], ◌∷◌, fold, refl}
use Rattle.std.specs.Ordering.{int_eq, is_eq}
use Rattle.eng_value.specs.Applied.{is_null_of, not_null_of, falsehood_of, member_of, or_equal}
use Rattle.eng_value.specs.Casts.{to_number, to_text}
use Rattle.eng_value.specs.Collations.{Keys, keys_of}
use Rattle.eng_value.specs.Comparisons.{comparison, comparison_of, glob_of, globbed, is_of, like_escaped_of, like_of, liked, liked_beside, compare_sides, to_escape}
use Rattle.eng_value.specs.Functions.{is_null}
use Rattle.eng_value.specs.Outs.{on_both, on_three, passes, truth_value, turned}
use Rattle.eng_value.specs.Compare.{value_cmp}
use Rattle.eng_value.specs.Truths.{and_of, both, is_truth_of, not_of, one_of_both, opposite, or_of, out_of, truth_in, truth_of, truth_of_number}
use Rattle.eng_value.specs.declared.compare_op.CompareOp.{CompareOp}
use Rattle.eng_value.specs.declared.operators.Sides.{Sides}
use Rattle.eng_value.specs.declared.out.Out.{Out}
use Rattle.eng_value.specs.declared.out.Out.TheVariants.{Good, Bad}
use Rattle.eng_value.specs.declared.truth.Truth.{Truth}
use Rattle.eng_value.specs.declared.truth.Truth.TheVariants.{True, False, Unknown, Failed}
use Rattle.eng_value.specs.declared.value.Value.{Value}
use Rattle.eng_value.specs.declared.value.Value.TheVariants.{Null, Integer, Text, Blob}
use Rattle.gen_expr.specs.Truths.{GivesTruth, IsTruth}
use Rattle.bound_tree.specs.Exprs as e
use Rattle.bound_tree.specs.Exprs.{BoundExpr, BoundExprs}
use Rattle.sql_meaning.specs.Expression.{value_of, values_of}

-- ---- what a truth is

spelled : (t : Truth) → IsTruth (out_of t)
unfolding truth_of
spelled True = refl
spelled False = refl
spelled Unknown = refl
spelled (Failed causes) = refl

flag : (b : Bool) → IsTruth (Good (truth_value b))
unfolding truth_of
flag true = refl
flag false = refl

null : IsTruth (Good Null)
unfolding truth_of
null = refl

bad_one : (a : Out) (f : Value → Out) → ((v : Value) → IsTruth (f v)) → IsTruth (turned f a)
unfolding truth_of
bad_one (Good v) f e = e v
bad_one (Bad causes) f e = refl

of_both : (f : Value → Value → Out) → ((v w : Value) → IsTruth (f v w)) → (a b : Out) → IsTruth (on_both f a b)
unfolding truth_of
of_both f e (Good v) (Good w) = e v w
of_both f e (Good v) (Bad d) = refl
of_both f e (Bad c) (Good w) = refl
of_both f e (Bad c) (Bad d) = refl

of_three : (f : Value → Value → Value → Out) → ((u v w : Value) → IsTruth (f u v w)) → (a b c : Out) → IsTruth (on_three f a b c)
unfolding truth_of
of_three f e (Good u) b c = of_both (f u) (e u) b c
of_three f e (Bad causes) b c = refl

-- ---- operators with one operand

number_known : (v : Value) → IsTruth (Good (truth_of_number v))
number_known Null = null
number_known (Integer n) = flag (not (int_eq n (pos 0)))
number_known (Text text) = null
number_known (Blob bytes) = null

truth_is : (a : Out) → truth_of a ≡ turned (λ v. Good (truth_of_number v)) (turned to_number a)
unfolding truth_of
truth_is a = refl

pub truth_truth : (a : Out) → IsTruth (truth_of a)
truth_truth a = rw (truth_is a) (bad_one (turned to_number a) (λ v. Good (truth_of_number v)) number_known)

pub not_truth : (a : Out) → IsTruth (not_of a)
unfolding not_of
not_truth a = spelled (opposite (truth_in (truth_of a)))

pub is_null_truth : (a : Out) → IsTruth (is_null_of a)
is_null_truth a = bad_one a (λ v. Good (truth_value (is_null v))) (λ v. flag (is_null v))

pub not_null_truth : (a : Out) → IsTruth (not_null_of a)
not_null_truth a = bad_one a (λ v. Good (truth_value (not (is_null v)))) (λ v. flag (not (is_null v)))

pub is_truth_truth : (wanted : Bool) (a : Out) → IsTruth (is_truth_of wanted a)
unfolding is_truth_of
is_truth_truth wanted a = bad_one (truth_of a) (λ v. Good (truth_value (is_eq (value_cmp v (truth_value wanted))))) (λ v. flag (is_eq (value_cmp v (truth_value wanted))))

-- ---- operators with two

pub and_truth : (a b : Out) → IsTruth (and_of a b)
unfolding and_of
and_truth a b = spelled (both (truth_in (truth_of a)) (truth_in (truth_of b)))

pub or_truth : (a b : Out) → IsTruth (or_of a b)
unfolding or_of
or_truth a b = spelled (one_of_both (truth_in (truth_of a)) (truth_in (truth_of b)))

compared : (keys : Keys) (op : CompareOp) (sides : Sides) (v w : Value) → IsTruth (Good (comparison keys op sides v w))
compared keys op sides Null w = null
compared keys op sides (Integer n) Null = null
compared keys op sides (Integer n) (Integer m) = flag (passes op (compare_sides keys sides (Integer n) (Integer m)))
compared keys op sides (Integer n) (Text t) = flag (passes op (compare_sides keys sides (Integer n) (Text t)))
compared keys op sides (Integer n) (Blob t) = flag (passes op (compare_sides keys sides (Integer n) (Blob t)))
compared keys op sides (Text s) Null = null
compared keys op sides (Text s) (Integer m) = flag (passes op (compare_sides keys sides (Text s) (Integer m)))
compared keys op sides (Text s) (Text t) = flag (passes op (compare_sides keys sides (Text s) (Text t)))
compared keys op sides (Text s) (Blob t) = flag (passes op (compare_sides keys sides (Text s) (Blob t)))
compared keys op sides (Blob s) Null = null
compared keys op sides (Blob s) (Integer m) = flag (passes op (compare_sides keys sides (Blob s) (Integer m)))
compared keys op sides (Blob s) (Text t) = flag (passes op (compare_sides keys sides (Blob s) (Text t)))
compared keys op sides (Blob s) (Blob t) = flag (passes op (compare_sides keys sides (Blob s) (Blob t)))

pub comparison_truth : (keys : Keys) (op : CompareOp) (sides : Sides) (a b : Out) → IsTruth (comparison_of keys op sides a b)
unfolding comparison_of
comparison_truth keys op sides a b = of_both (λ v w. Good (comparison keys op sides v w)) (compared keys op sides) a b

pub is_truth : (keys : Keys) (sides : Sides) (a b : Out) → IsTruth (is_of keys sides a b)
unfolding is_of
is_truth keys sides a b = of_both (λ v w. Good (truth_value (is_eq (compare_sides keys sides v w)))) (λ v w. flag (is_eq (compare_sides keys sides v w))) a b

liked_known : (t p : Value) → IsTruth (Good (liked t p))
liked_known Null p = null
liked_known (Integer n) p = null
liked_known (Text s) Null = null
liked_known (Text s) (Integer n) = null
liked_known (Text s) (Text t) = flag _
liked_known (Text s) (Blob t) = null
liked_known (Blob s) p = null

pub like_truth : (a b : Out) → IsTruth (like_of a b)
unfolding like_of
like_truth a b = of_both (λ t p. Good (liked t p)) liked_known (turned to_text a) (turned to_text b)

globbed_known : (t p : Value) → IsTruth (Good (globbed t p))
globbed_known Null p = null
globbed_known (Integer n) p = null
globbed_known (Text s) Null = null
globbed_known (Text s) (Integer n) = null
globbed_known (Text s) (Text t) = flag _
globbed_known (Text s) (Blob t) = null
globbed_known (Blob s) p = null

pub glob_truth : (a b : Out) → IsTruth (glob_of a b)
unfolding glob_of
glob_truth a b = of_both (λ t p. Good (globbed t p)) globbed_known (turned to_text a) (turned to_text b)

-- ---- LIKE with an ESCAPE, and IN

escaped_known : (t p e : Value) → IsTruth (Good (liked_beside t p e))
escaped_known Null p e = null
escaped_known (Integer n) p e = null
escaped_known (Text s) Null e = null
escaped_known (Text s) (Integer n) e = null
escaped_known (Text s) (Text t) Null = null
escaped_known (Text s) (Text t) (Integer n) = flag _
escaped_known (Text s) (Text t) (Text u) = null
escaped_known (Text s) (Text t) (Blob u) = null
escaped_known (Text s) (Blob t) e = null
escaped_known (Blob s) p e = null

pub like_escaped_truth : (a b c : Out) → IsTruth (like_escaped_of a b c)
unfolding like_escaped_of
like_escaped_truth a b c = of_three (λ t p e. Good (liked_beside t p e)) escaped_known (turned to_text a) (turned to_text b) (to_escape c)

found_truth : (keys : Keys) (sides : Sides) (a found : Out) (others : List Out) → IsTruth found → IsTruth (fold (or_equal keys sides a) found others)
found_truth keys sides a found [] e = e
found_truth keys sides a found (b ∷ others) e = found_truth keys sides a (or_equal keys sides a found b) others (or_truth found _)

pub member_truth : (keys : Keys) (sides : Sides) (a : Out) (others : List Out) → IsTruth (member_of keys sides a others)
member_truth keys sides a others = found_truth keys sides a (falsehood_of a) others (bad_one a (λ v. Good (truth_value false)) (λ v. flag false))

-- ---- the expressions of these operators

pub like_escaped_gives : (x y z : BoundExpr) → GivesTruth (e.LikeEscaped x y z)
like_escaped_gives x y z env = like_escaped_truth _ _ _

pub between_gives : (above below : Sides) (x y z : BoundExpr) → GivesTruth (e.Between above below x y z)
between_gives above below x y z env = and_truth _ _

pub in_gives : (sides : Sides) (x : BoundExpr) (es : BoundExprs) → GivesTruth (e.InList sides x es)
in_gives sides x es env = member_truth (keys_of env.hosts) sides (value_of x env) (values_of es env)
