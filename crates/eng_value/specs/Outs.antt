-- What an evaluation gives: a value, or what went wrong.
use Rattle.std.specs.Prelude.{◌≡◌, pos, Bool, true, false, not, Some, None, codes, refl}
use Rattle.std.specs.declared.option.Option.{Option}
use Rattle.std.specs.FinSet as set
use Rattle.std.specs.Ordering.{int_eq, is_lt, is_le, is_gt, is_ge, is_eq}
use Rattle.std.specs.declared.cmp.Ordering.{Ordering}
use Rattle.eng_value.specs.declared.value.Value.{Value}
use Rattle.eng_value.specs.declared.value.Value.TheVariants.{Null, Integer, Text, Blob}
use Rattle.eng_value.specs.declared.compare_op.CompareOp.{CompareOp}
use Rattle.eng_value.specs.declared.compare_op.CompareOp.TheVariants as compare
use Rattle.eng_value.specs.declared.out.Out.{Out}
use Rattle.eng_value.specs.declared.out.Out.TheVariants.{Good, Bad}
use Rattle.eng_value.specs.Compare.{value_cmp}
use Rattle.eng_value.specs.Causes.{CauseSet, only}
use Rattle.eng_value.specs.declared.cause.Cause.{Cause}

-- bad for one cause
abbrev pub bad : Cause → Out
bad c = Bad (only c)

-- the truth of a value: NULL has none, and a number is true where it is not 0. Numbers are not read from texts and blobs yet.
abbrev pub truth_of : Value → Option Bool
truth_of Null = None
truth_of (Integer n) = Some (not (int_eq n (pos 0)))
truth_of (Text text) = Some false
truth_of (Blob bytes) = Some false

-- true is 1, and false is 0
abbrev pub truth_value : Bool → Value
truth_value true = Integer (pos 1)
truth_value false = Integer (pos 0)

-- whether two values that stand so to one another pass the comparison
abbrev pub passes : CompareOp → Ordering → Bool
passes compare.Eq o = is_eq o
passes compare.Lt o = is_lt o
passes compare.Le o = is_le o
passes compare.Gt o = is_gt o
passes compare.Ge o = is_ge o

-- a comparison with NULL is NULL
abbrev pub compare_values : CompareOp → Value → Value → Value
compare_values op Null b = Null
compare_values op a Null = Null
compare_values op a b = truth_value (passes op (value_cmp a b))

-- an operand that is turned into another value first
abbrev pub turned : (Value → Out) → Out → Out
turned f (Good v) = f v
turned f (Bad causes) = Bad causes

-- an operator whose result is bad where an operand is, with the causes of both
abbrev pub on_both : (Value → Value → Out) → Out → Out → Out
on_both f (Good a) (Good b) = f a b
on_both f (Good a) (Bad d) = Bad d
on_both f (Bad c) (Good b) = Bad c
on_both f (Bad c) (Bad d) = Bad (set.union c d)

-- the causes, none where it is good
abbrev pub causes_in : Out → CauseSet
causes_in (Good v) = set.empty
causes_in (Bad causes) = causes

abbrev pub on_three : (Value → Value → Value → Out) → Out → Out → Out → Out
on_three f (Good a) b c = on_both (f a) b c
on_three f (Bad causes) b c = Bad (set.union causes (set.union (causes_in b) (causes_in c)))

-- a comparison of what two operands gave
abbrev pub compare_outs : CompareOp → Out → Out → Out
compare_outs op a b = on_both (λ v w. Good (compare_values op v w)) a b

seven_is_above_three : compare_values compare.Gt (Integer (pos 7)) (Integer (pos 3)) ≡ Integer (pos 1)
seven_is_above_three = refl

nothing_is_above_null : compare_values compare.Gt (Text (codes "x")) Null ≡ Null
nothing_is_above_null = refl
