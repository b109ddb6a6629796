-- What an operator or a function finds bad has a cause, where its operands have one.
use Rattle.std.proofs.Common.{◌≡◌, ◌⊎◌, inl, inr, ℕ, List, [], ◌∷◌, Bool, true, false, ◌||◌, ℤ, pos, int_eq, nat_cmp, Some, None, fold, refl, sym, ◌∙◌, ap, ap₂, subst, if◌then◌else◌}
use Rattle.std.specs.Bool.{⊤}
use Rattle.std.specs.FinSet as set
use Rattle.std.specs.Cmp.{Equal-is}
use Rattle.std.specs.Cmp.Lexicographic.{nat_list_cmp_total, slice_cmp, texts_ties}
use Rattle.std.specs.Prelude.{◌++◌, ◌+ℤ◌, ◌-ℤ◌, ◌*ℤ◌, int_div, neg_ℤ}
use Rattle.std.specs.Str.{chars}
use Rattle.std.specs.declared.option.Option.{Option}
use Rattle.std.proofs.Math.Bool.{or-false, or_self}
use Rattle.eng_number.specs.Numbers.{fits_integer, number_prefix, text_kind}
use Rattle.eng_number.specs.declared.numbers.TextKind.{TextKind}
use Rattle.eng_number.specs.declared.numbers.TextKind.TheVariants as kind
use Rattle.eng_value.specs.Applied.{unary_of, binary_of, falsehood_of, or_equal, member_of, or_else, merged, causes_of_all, on_all, function_by}
use Rattle.eng_value.specs.Casts.{cast, integer_or_real, numeric_text, store_as, store_number, to_number, to_text}
use Rattle.eng_value.specs.Causes.{CauseSet, cause_key, has_cause, is_same_cause, only}
use Rattle.eng_value.proofs.CauseLaws.{cause_key-injective, has_cause-only, same_causes, union-comm}
use Rattle.eng_value.specs.Comparisons.{comparison_of, escape_char, glob_of, is_of, like_escaped_of, like_of, one_char}
use Rattle.eng_value.specs.Functions as f
use Rattle.eng_value.specs.Functions.{call_of}
use Rattle.eng_value.specs.Operators.{arithmetic_of, concatenation_of, integer_in_range, integers_of, inverse_of, joined, made, negated, negative_of, of_integers, of_numbers, of_whole_numbers}
use Rattle.eng_value.specs.Outs.{bad, causes_in, on_both, on_three, turned}
use Rattle.eng_value.specs.Truths.{and_of, both, choice_of, chosen, is_truth_of, not_of, one_of_both, opposite, or_of, out_of, truth_in, truth_of}
use Rattle.eng_value.specs.declared.affinity.Affinity.{Affinity}
use Rattle.eng_value.specs.declared.affinity.Affinity.TheVariants as affinity
use Rattle.eng_value.specs.declared.builtin.Builtin.{Builtin}
use Rattle.eng_value.specs.declared.cause.Cause.{Cause}
use Rattle.eng_value.specs.declared.cause.Cause.TheVariants as cause
use Rattle.eng_value.specs.Collations.{Keys}
use Rattle.eng_value.specs.declared.collation.Collation.{Collation}
use Rattle.eng_value.specs.declared.compare_op.CompareOp.{CompareOp}
use Rattle.eng_value.specs.declared.compare_op.CompareOp.TheVariants as compares
use Rattle.eng_value.specs.declared.operators.ArithmeticOp.{ArithmeticOp}
use Rattle.eng_value.specs.declared.operators.ArithmeticOp.TheVariants as arithmetic
use Rattle.eng_value.specs.declared.operators.BinaryOperator.{BinaryOperator}
use Rattle.eng_value.specs.declared.operators.BinaryOperator.TheVariants as binary
use Rattle.eng_value.specs.declared.operators.IntegerOp.{IntegerOp}
use Rattle.eng_value.specs.declared.operators.Sides.{Sides}
use Rattle.eng_value.specs.declared.operators.UnaryOperator.{UnaryOperator}
use Rattle.eng_value.specs.declared.operators.UnaryOperator.TheVariants as unary
use Rattle.eng_value.specs.declared.out.Out.{Out}
use Rattle.eng_value.specs.declared.out.Out.TheVariants.{Good, Bad}
use Rattle.eng_value.specs.declared.truth.Truth.{Truth}
use Rattle.eng_value.specs.declared.truth.Truth.TheVariants as truth
use Rattle.eng_value.specs.declared.value.Value.{Value}
use Rattle.eng_value.specs.declared.value.Value.TheVariants.{Null, Integer, Text, Blob}

-- ---- sets that hold a cause

-- one of the causes says more than that the row is left
abbrev pub HasOther : CauseSet → Type 0
HasOther causes = (why : Cause) × (is_same_cause why cause.Skip ≡ false) × (has_cause causes why ≡ true)

-- so it is, or that the row is left is the only one; so some cause may be named
abbrev pub IsCausedSet : CauseSet → Type 0
IsCausedSet causes = HasOther causes ⊎ (causes ≡ only cause.Skip)

-- so it is, or there is none
abbrev pub IsClear : CauseSet → Type 0
IsClear causes = IsCausedSet causes ⊎ (causes ≡ set.empty)

skip_by : (why : Cause) → is_same_cause why cause.Skip ≡ true → why ≡ cause.Skip
skip_by why is =
    cause_key-injective why cause.Skip (set.slice_cmp-IsAntisymmetric set.nat_cmp-IsAntisymmetric (cause_key why) (cause_key cause.Skip)
    ((Equal-is (slice_cmp nat_cmp (cause_key why) (cause_key cause.Skip))).0 (sym (texts_ties (cause_key why) (cause_key cause.Skip)) ∙ is)))

pub only-caused : (why : Cause) → IsCausedSet (only why)
only-caused why = by (is_same_cause why cause.Skip) refl
  where
    by : (b : Bool) → is_same_cause why cause.Skip ≡ b → IsCausedSet (only why)
    by true is = inr (ap only (skip_by why is))
    by false is = inl (why, is, has_cause-only why)

union-same : (s : CauseSet) → set.union s s ≡ s
union-same s = same_causes _ _ (λ q. set.contains-union nat_list_cmp_total s s q ∙ or_self (set.contains s q))

union-empty : (s : CauseSet) → set.union s set.empty ≡ s
union-empty s = same_causes _ _ (λ q. set.contains-union nat_list_cmp_total s set.empty q ∙ ap (λ b. set.contains s q || b) (set.contains-empty (slice_cmp nat_cmp) q) ∙ or-false (set.contains s q))

other_left : (s t : CauseSet) → HasOther s → HasOther (set.union s t)
other_left s t h = (h.0, h.1, set.contains-union nat_list_cmp_total s t (cause_key h.0) ∙ ap (λ b. b || has_cause t h.0) h.2)

other_right : (s t : CauseSet) → HasOther t → HasOther (set.union s t)
other_right s t h = subst HasOther (union-comm t s) (other_left t s h)

-- what joins them has a cause as well
pub union-caused : (s t : CauseSet) → IsCausedSet s → IsClear t → IsCausedSet (set.union s t)
union-caused s t (inl h) c = inl (other_left s t h)
union-caused s t (inr is) (inl (inl h)) = inl (other_right s t h)
union-caused s t (inr is) (inl (inr same)) = inr (ap₂ (λ (a b : CauseSet). set.union a b) is same ∙ union-same (only cause.Skip))
union-caused s t (inr is) (inr none) = inr (ap (λ (b : CauseSet). set.union s b) none ∙ union-empty s ∙ is)

pub union-clear : (s t : CauseSet) → IsClear s → IsClear t → IsClear (set.union s t)
union-clear s t (inl c) d = inl (union-caused s t c d)
union-clear s t (inr none) d = subst IsClear (sym (ap (λ (a : CauseSet). set.union a t) none ∙ union-comm set.empty t ∙ union-empty t)) d

-- ---- what is bad has a cause

abbrev pub Told : Out → Type 0
Told (Good v) = ⊤
Told (Bad causes) = IsCausedSet causes

pub record IsCaused (o : Out) : Type 0 where
  pub told : Told o

pub good : (v : Value) → IsCaused (Good v)
good v = record { told = tt }

pub bad-caused : (why : Cause) → IsCaused (bad why)
bad-caused why = record { told = only-caused why }

pub if-caused : (b : Bool) (o p : Out) → IsCaused o → IsCaused p → IsCaused (if b then o else p)
if-caused true o p c d = c
if-caused false o p c d = d

pub turned-caused : (g : Value → Out) (a : Out) → ((v : Value) → IsCaused (g v)) → IsCaused a → IsCaused (turned g a)
turned-caused g (Good v) h c = h v
turned-caused g (Bad causes) h c = record { told = c.told }

pub on_both-caused : (g : Value → Value → Out) (a b : Out) → ((v w : Value) → IsCaused (g v w)) → IsCaused a → IsCaused b → IsCaused (on_both g a b)
on_both-caused g (Good v) (Good w) h c d = h v w
on_both-caused g (Good v) (Bad t) h c d = record { told = d.told }
on_both-caused g (Bad s) (Good w) h c d = record { told = c.told }
on_both-caused g (Bad s) (Bad t) h c d = record { told = union-caused s t c.told (inl d.told) }

causes_in-clear : (a : Out) → IsCaused a → IsClear (causes_in a)
causes_in-clear (Good v) c = inr refl
causes_in-clear (Bad causes) c = inl c.told

on_three-caused : (g : Value → Value → Value → Out) (a b e : Out) → ((u v w : Value) → IsCaused (g u v w)) → IsCaused a → IsCaused b → IsCaused e → IsCaused (on_three g a b e)
on_three-caused g (Good v) b e h c d k = on_both-caused (g v) b e (h v) d k
on_three-caused g (Bad s) b e h c d k = record { told = union-caused s (set.union (causes_in b) (causes_in e)) c.told (union-clear (causes_in b) (causes_in e) (causes_in-clear b d) (causes_in-clear e k)) }

-- ---- truths

abbrev ToldTruth : Truth → Type 0
ToldTruth truth.True = ⊤
ToldTruth truth.False = ⊤
ToldTruth truth.Unknown = ⊤
ToldTruth (truth.Failed causes) = IsCausedSet causes

pub record IsCausedTruth (t : Truth) : Type 0 where
  pub told : ToldTruth t

if-told : (b : Bool) → IsCausedTruth (if b then truth.False else truth.True)
if-told true = record { told = tt }
if-told false = record { told = tt }

pub truth_in-caused : (a : Out) → IsCaused a → IsCausedTruth (truth_in a)
truth_in-caused (Good Null) c = record { told = tt }
truth_in-caused (Good (Integer n)) c = if-told (int_eq n (pos 0))
truth_in-caused (Good (Text text)) c = record { told = tt }
truth_in-caused (Good (Blob bytes)) c = record { told = tt }
truth_in-caused (Bad causes) c = record { told = c.told }

out_of-caused : (t : Truth) → IsCausedTruth t → IsCaused (out_of t)
out_of-caused truth.True c = record { told = tt }
out_of-caused truth.False c = record { told = tt }
out_of-caused truth.Unknown c = record { told = tt }
out_of-caused (truth.Failed causes) c = record { told = c.told }

both-caused : (a b : Truth) → IsCausedTruth a → IsCausedTruth b → IsCausedTruth (both a b)
both-caused truth.False b c d = record { told = tt }
both-caused truth.True b c d = d
both-caused truth.Unknown truth.False c d = record { told = tt }
both-caused truth.Unknown truth.True c d = record { told = tt }
both-caused truth.Unknown truth.Unknown c d = record { told = tt }
both-caused truth.Unknown (truth.Failed t) c d = record { told = d.told }
both-caused (truth.Failed s) truth.False c d = record { told = tt }
both-caused (truth.Failed s) truth.True c d = record { told = c.told }
both-caused (truth.Failed s) truth.Unknown c d = record { told = c.told }
both-caused (truth.Failed s) (truth.Failed t) c d = record { told = union-caused s t c.told (inl d.told) }

opposite-caused : (t : Truth) → IsCausedTruth t → IsCausedTruth (opposite t)
opposite-caused truth.True c = record { told = tt }
opposite-caused truth.False c = record { told = tt }
opposite-caused truth.Unknown c = record { told = tt }
opposite-caused (truth.Failed causes) c = record { told = c.told }

number_or_real : (n : Option ℤ) → IsCaused (integer_or_real n)
number_or_real None = bad-caused cause.Real
number_or_real (Some n) = good (Integer n)

to_number-caused : (v : Value) → IsCaused (to_number v)
to_number-caused Null = good Null
to_number-caused (Integer n) = good (Integer n)
to_number-caused (Text text) = number_or_real (number_prefix text)
to_number-caused (Blob bytes) = number_or_real (number_prefix bytes)

in_number : (a : Out) → IsCaused a → IsCaused (turned to_number a)
in_number a c = turned-caused to_number a to_number-caused c

pub truth_of-caused : (a : Out) → IsCaused a → IsCaused (truth_of a)
unfolding truth_of
truth_of-caused a c = turned-caused _ (turned to_number a) (λ v. good _) (in_number a c)

truth_caused : (a : Out) → IsCaused a → IsCausedTruth (truth_in (truth_of a))
truth_caused a c = truth_in-caused (truth_of a) (truth_of-caused a c)

pub and_of-caused : (a b : Out) → IsCaused a → IsCaused b → IsCaused (and_of a b)
unfolding and_of
and_of-caused a b c d = out_of-caused (both (truth_in (truth_of a)) (truth_in (truth_of b))) (both-caused (truth_in (truth_of a)) (truth_in (truth_of b)) (truth_caused a c) (truth_caused b d))

or_of-caused : (a b : Out) → IsCaused a → IsCaused b → IsCaused (or_of a b)
unfolding or_of
or_of-caused a b c d =
    let s = truth_in (truth_of a) in
    let t = truth_in (truth_of b) in
    out_of-caused (one_of_both s t) (opposite-caused (both (opposite s) (opposite t)) (both-caused (opposite s) (opposite t) (opposite-caused s (truth_caused a c)) (opposite-caused t (truth_caused b d))))

not_of-caused : (a : Out) → IsCaused a → IsCaused (not_of a)
unfolding not_of
not_of-caused a c = out_of-caused (opposite (truth_in (truth_of a))) (opposite-caused (truth_in (truth_of a)) (truth_caused a c))

chosen-caused : (t : Truth) (a b : Out) → IsCausedTruth t → IsCaused a → IsCaused b → IsCaused (chosen t a b)
chosen-caused truth.True a b h c d = c
chosen-caused truth.False a b h c d = d
chosen-caused truth.Unknown a b h c d = d
chosen-caused (truth.Failed causes) a b h c d = record { told = h.told }

pub choice_of-caused : (condition a b : Out) → IsCaused condition → IsCaused a → IsCaused b → IsCaused (choice_of condition a b)
unfolding choice_of
choice_of-caused condition a b h c d = chosen-caused (truth_in (truth_of condition)) a b (truth_caused condition h) c d

is_truth_of-caused : (wanted : Bool) (a : Out) → IsCaused a → IsCaused (is_truth_of wanted a)
unfolding is_truth_of
is_truth_of-caused wanted a c = turned-caused _ (truth_of a) (λ v. good _) (truth_of-caused a c)

-- ---- casts

to_text-caused : (v : Value) → IsCaused (to_text v)
to_text-caused Null = good Null
to_text-caused (Integer n) = good _
to_text-caused (Text text) = good (Text text)
to_text-caused (Blob bytes) = if-caused _ _ _ (good (Text bytes)) (bad-caused cause.NotText)

in_text : (a : Out) → IsCaused a → IsCaused (turned to_text a)
in_text a c = turned-caused to_text a to_text-caused c

cast-caused : (to : Affinity) (v : Value) → IsCaused (cast to v)
unfolding cast
cast-caused affinity.Integer v = good _
cast-caused affinity.Numeric v = to_number-caused v
cast-caused affinity.Real v = bad-caused cause.Real
cast-caused affinity.Text v = to_text-caused v
cast-caused affinity.Blob v = good _
cast-caused affinity.None v = good v

numeric_text-caused : (text : List ℕ) (k : TextKind) → IsCaused (numeric_text text k)
numeric_text-caused text kind.NoNumber = good (Text text)
numeric_text-caused text (kind.Whole n) = good (Integer n)
numeric_text-caused text kind.Real = bad-caused cause.Real

store_number-caused : (v : Value) → IsCaused (store_number v)
store_number-caused Null = good Null
store_number-caused (Integer n) = good (Integer n)
store_number-caused (Text text) = numeric_text-caused text (text_kind text)
store_number-caused (Blob bytes) = good (Blob bytes)

pub store_as-caused : (a : Affinity) (v : Value) → IsCaused (store_as a v)
unfolding store_as
store_as-caused affinity.Integer v = store_number-caused v
store_as-caused affinity.Numeric v = store_number-caused v
store_as-caused affinity.Real v = bad-caused cause.Real
store_as-caused affinity.Text v = good _
store_as-caused affinity.Blob v = good v
store_as-caused affinity.None v = good v

-- ---- operators

in_range-caused : (n : ℤ) → IsCaused (integer_in_range n)
in_range-caused n = if-caused (fits_integer n) _ _ (good (Integer n)) (bad-caused cause.Overflow)

of_integers-caused : (op : ArithmeticOp) (a b : ℤ) → IsCaused (of_integers op a b)
of_integers-caused arithmetic.Add a b = in_range-caused (a +ℤ b)
of_integers-caused arithmetic.Subtract a b = in_range-caused (a -ℤ b)
of_integers-caused arithmetic.Multiply a b = in_range-caused (a *ℤ b)
of_integers-caused arithmetic.Divide a b = if-caused (int_eq b (pos 0)) _ _ (good Null) (in_range-caused (int_div a b))

of_numbers-caused : (op : ArithmeticOp) (a b : Value) → IsCaused (of_numbers op a b)
of_numbers-caused op (Integer a) (Integer b) = of_integers-caused op a b
of_numbers-caused op (Integer a) Null = good Null
of_numbers-caused op (Integer a) (Text b) = good Null
of_numbers-caused op (Integer a) (Blob b) = good Null
of_numbers-caused op Null b = good Null
of_numbers-caused op (Text a) b = good Null
of_numbers-caused op (Blob a) b = good Null

arithmetic_of-caused : (op : ArithmeticOp) (a b : Out) → IsCaused a → IsCaused b → IsCaused (arithmetic_of op a b)
unfolding arithmetic_of
arithmetic_of-caused op a b c d = on_both-caused (of_numbers op) (turned to_number a) (turned to_number b) (of_numbers-caused op) (in_number a c) (in_number b d)

negated-caused : (v : Value) → IsCaused (negated v)
negated-caused Null = good Null
negated-caused (Integer n) = in_range-caused (neg_ℤ n)
negated-caused (Text text) = good Null
negated-caused (Blob bytes) = good Null

negative_of-caused : (a : Out) → IsCaused a → IsCaused (negative_of a)
unfolding negative_of
negative_of-caused a c = turned-caused negated (turned to_number a) negated-caused (in_number a c)

whole_numbers-caused : (op : IntegerOp) (a b : Value) → IsCaused (of_whole_numbers op a b)
whole_numbers-caused op (Integer a) (Integer b) = good _
whole_numbers-caused op (Integer a) Null = good Null
whole_numbers-caused op (Integer a) (Text b) = good Null
whole_numbers-caused op (Integer a) (Blob b) = good Null
whole_numbers-caused op Null b = good Null
whole_numbers-caused op (Text a) b = good Null
whole_numbers-caused op (Blob a) b = good Null

integers_of-caused : (op : IntegerOp) (a b : Out) → IsCaused a → IsCaused b → IsCaused (integers_of op a b)
unfolding integers_of
integers_of-caused op a b c d = on_both-caused (of_whole_numbers op) _ _ (whole_numbers-caused op) (turned-caused _ a (λ v. good _) c) (turned-caused _ b (λ v. good _) d)

inverse_of-caused : (a : Out) → IsCaused a → IsCaused (inverse_of a)
unfolding inverse_of
inverse_of-caused a c = turned-caused _ a (λ v. good _) c

pub made-caused : (v : Value) → IsCaused (made v)
made-caused v = if-caused _ _ _ (bad-caused cause.TooBig) (good v)

joined-caused : (a b : Value) → IsCaused (joined a b)
joined-caused (Text a) (Text b) = made-caused (Text (a ++ b))
joined-caused (Text a) Null = good Null
joined-caused (Text a) (Integer b) = good Null
joined-caused (Text a) (Blob b) = good Null
joined-caused Null b = good Null
joined-caused (Integer a) b = good Null
joined-caused (Blob a) b = good Null

concatenation_of-caused : (a b : Out) → IsCaused a → IsCaused b → IsCaused (concatenation_of a b)
unfolding concatenation_of
concatenation_of-caused a b c d = on_both-caused joined _ _ joined-caused (in_text a c) (in_text b d)

pub comparison_of-caused : (keys : Keys) (op : CompareOp) (sides : Sides) (a b : Out) → IsCaused a → IsCaused b → IsCaused (comparison_of keys op sides a b)
unfolding comparison_of
comparison_of-caused keys op sides a b c d = on_both-caused _ a b (λ v w. good _) c d

is_of-caused : (keys : Keys) (sides : Sides) (a b : Out) → IsCaused a → IsCaused b → IsCaused (is_of keys sides a b)
unfolding is_of
is_of-caused keys sides a b c d = on_both-caused _ a b (λ v w. good _) c d

like_of-caused : (a b : Out) → IsCaused a → IsCaused b → IsCaused (like_of a b)
unfolding like_of
like_of-caused a b c d = on_both-caused _ _ _ (λ v w. good _) (in_text a c) (in_text b d)

glob_of-caused : (a b : Out) → IsCaused a → IsCaused b → IsCaused (glob_of a b)
unfolding glob_of
glob_of-caused a b c d = on_both-caused _ _ _ (λ v w. good _) (in_text a c) (in_text b d)

one_char-caused : (cs : List ℕ) → IsCaused (one_char cs)
one_char-caused [] = bad-caused cause.Escape
one_char-caused (c ∷ []) = good _
one_char-caused (c ∷ d ∷ cs) = bad-caused cause.Escape

escape_char-caused : (v : Value) → IsCaused (escape_char v)
escape_char-caused Null = good Null
escape_char-caused (Integer n) = good Null
escape_char-caused (Text text) = one_char-caused (chars text)
escape_char-caused (Blob bytes) = good Null

pub like_escaped_of-caused : (a b e : Out) → IsCaused a → IsCaused b → IsCaused e → IsCaused (like_escaped_of a b e)
unfolding like_escaped_of
like_escaped_of-caused a b e c d h =
    on_three-caused _ _ _ _ (λ u v w. good _) (in_text a c) (in_text b d) (turned-caused escape_char (turned to_text e) escape_char-caused (in_text e h))

pub unary_of-caused : (op : UnaryOperator) (a : Out) → IsCaused a → IsCaused (unary_of op a)
unary_of-caused unary.Truth a c = truth_of-caused a c
unary_of-caused unary.Negative a c = negative_of-caused a c
unary_of-caused unary.BitNot a c = inverse_of-caused a c
unary_of-caused unary.Not a c = not_of-caused a c
unary_of-caused unary.IsNull a c = turned-caused _ a (λ v. good _) c
unary_of-caused unary.NotNull a c = turned-caused _ a (λ v. good _) c
unary_of-caused (unary.IsTruth wanted) a c = is_truth_of-caused wanted a c
unary_of-caused (unary.Cast to) a c = turned-caused (cast to) a (cast-caused to) c

pub binary_of-caused : (keys : Keys) (op : BinaryOperator) (a b : Out) → IsCaused a → IsCaused b → IsCaused (binary_of keys op a b)
binary_of-caused keys (binary.Arithmetic op) a b c d = arithmetic_of-caused op a b c d
binary_of-caused keys (binary.Integers op) a b c d = integers_of-caused op a b c d
binary_of-caused keys binary.Concatenate a b c d = concatenation_of-caused a b c d
binary_of-caused keys binary.And a b c d = and_of-caused a b c d
binary_of-caused keys binary.Or a b c d = or_of-caused a b c d
binary_of-caused keys (binary.Compare op sides) a b c d = comparison_of-caused keys op sides a b c d
binary_of-caused keys (binary.Is sides) a b c d = is_of-caused keys sides a b c d
binary_of-caused keys binary.Like a b c d = like_of-caused a b c d
binary_of-caused keys binary.Glob a b c d = glob_of-caused a b c d

-- ---- functions

on_bytes-caused : (g : List ℕ → Out) (v : Value) → ((t : List ℕ) → IsCaused (g t)) → IsCaused (f.on_bytes g v)
on_bytes-caused g Null h = good Null
on_bytes-caused g (Integer n) h = h _
on_bytes-caused g (Text text) h = h _
on_bytes-caused g (Blob bytes) h = h _

on_text-caused : (g : List ℕ → Out) (v : Value) → ((t : List ℕ) → IsCaused (g t)) → IsCaused (f.on_text g v)
on_text-caused g v h = turned-caused (f.on_bytes g) (to_text v) (λ w. on_bytes-caused g w h) (to_text-caused v)

on_texts-caused : (g : List ℕ → List ℕ → Out) (v w : Value) → ((s t : List ℕ) → IsCaused (g s t)) → IsCaused (f.on_texts g v w)
on_texts-caused g v w h = on_both-caused _ (to_text v) (to_text w) (λ s t. h _ _) (to_text-caused v) (to_text-caused w)

-- whatever a function gives
given-caused : (g : f.FunctionResult) → IsCaused (f.given g)
given-caused (f.value v) = good v
given-caused (f.limited v) = made-caused v
given-caused (f.refused why) = bad-caused why
given-caused (f.either test g h) = if-caused test (f.given g) (f.given h) (given-caused g) (given-caused h)
given-caused (f.with_text v g) = on_text-caused (λ t. f.given (g t)) v (λ t. given-caused (g t))
given-caused (f.with_texts v w g) = on_texts-caused (λ s t. f.given (g s t)) v w (λ s t. given-caused (g s t))

iif-caused : (args : List Value) → IsCaused (f.iif_of args)
iif-caused [] = good Null
iif-caused (x ∷ []) = good Null
iif-caused (x ∷ y ∷ []) = good Null
iif-caused (x ∷ y ∷ z ∷ rest) = chosen-caused (truth_in (truth_of (Good x))) (Good y) (Good z) (truth_caused (Good x) (good x)) (good y) (good z)

call_by-caused : (k : f.FunctionKind) (args : List Value) (keys : List (List ℕ)) → IsCaused (f.call_by k args keys)
call_by-caused f.FirstKnown args keys = good (f.first_known args)
call_by-caused f.Choice args keys = iif-caused args
call_by-caused (f.ByKeys g) args keys = given-caused (g args keys)
call_by-caused (f.OfText g) args keys = given-caused (f.on_one (λ v. f.with_text v (λ t. f.value (g t))) args)
call_by-caused (f.OfValues g) args keys = given-caused (g args)

call_of-caused : (b : Builtin) (args : List Value) (keys : List (List ℕ)) → IsCaused (call_of b args keys)
unfolding call_of
call_of-caused b args keys = call_by-caused (f.kind_of b) args keys

-- ---- lists of operands

-- each has a cause where it is bad
abbrev pub AreCaused : List Out → Type 0
AreCaused [] = ⊤
AreCaused (a ∷ rest) = IsCaused a × AreCaused rest

pub or_else-caused : (a b : Out) → IsCaused a → IsCaused b → IsCaused (or_else a b)
or_else-caused (Good Null) b c d = d
or_else-caused (Good (Integer n)) b c d = good _
or_else-caused (Good (Text text)) b c d = good _
or_else-caused (Good (Blob bytes)) b c d = good _
or_else-caused (Bad causes) b c d = record { told = c.told }

found-caused : (keys : Keys) (sides : Sides) (a found : Out) (others : List Out) → IsCaused a → IsCaused found → AreCaused others → IsCaused (fold (or_equal keys sides a) found others)
found-caused keys sides a found [] c d h = d
found-caused keys sides a found (b ∷ others) c d h =
    found-caused keys sides a (or_equal keys sides a found b) others c (or_of-caused found (comparison_of keys compares.Eq sides a b) d (comparison_of-caused keys compares.Eq sides a b c h.0)) h.1

pub member_of-caused : (keys : Keys) (sides : Sides) (a : Out) (others : List Out) → IsCaused a → AreCaused others → IsCaused (member_of keys sides a others)
member_of-caused keys sides a others c h = found-caused keys sides a (falsehood_of a) others c (turned-caused _ a (λ v. good _) c) h

pub merged-caused : (a b : Out) → IsCaused a → IsCaused b → IsCaused (merged a b)
merged-caused (Good v) b c d = d
merged-caused (Bad s) (Good w) c d = record { told = c.told }
merged-caused (Bad s) (Bad t) c d = record { told = union-caused s t c.told (inl d.told) }

all-clear : (args : List Out) → AreCaused args → IsClear (causes_of_all args)
all-clear [] c = inr refl
all-clear (a ∷ rest) c = union-clear (causes_in a) (causes_of_all rest) (causes_in-clear a c.0) (all-clear rest c.1)

on_all-caused : (g : List Value → Out) (args : List Out) → ((vs : List Value) → IsCaused (g vs)) → AreCaused args → IsCaused (on_all g args)
on_all-caused g [] h c = h []
on_all-caused g (Good v ∷ rest) h c = on_all-caused (λ vs. g (v ∷ vs)) rest (λ vs. h (v ∷ vs)) c.1
on_all-caused g (Bad causes ∷ rest) h c = record { told = union-caused causes (causes_of_all rest) c.0.told (all-clear rest c.1) }

pub function_by-caused : (key : Collation → Value → List ℕ) (b : Builtin) (collation : Collation) (args : List Out) → AreCaused args → IsCaused (function_by key b collation args)
function_by-caused key b collation args c = on_all-caused _ args (λ vs. call_of-caused b vs _) c
