-- What an accumulator holds after some rows.
use Rattle.std.specs.Prelude.{◌≡◌, ℕ, ◌+◌, ◌-◌, ◌^◌, ◌<◌, nat_eq, nat_lt, Bool, ◌&&◌, List, [], ◌∷◌, ◌++◌, length, Option, Some, None, if◌then◌else◌, ⊤}
use Rattle.std.specs.List.{flat_map, list_all, reduce}
use Rattle.std.specs.Option.{unwrap_or}
use Rattle.eng_aggr.specs.Aggregates.{argument, count_of, is_integer, is_known, is_text, known, larger, pieces, separator, smaller, text_of, total, values}
use Rattle.eng_aggr.specs.Totals.{IntegerTotal, integer_total, with_integer}
use Rattle.eng_aggr.specs.declared.accumulator.Accumulator.{Accumulator}
use Rattle.eng_aggr.specs.declared.accumulator.SoFar.{SoFar}
use Rattle.eng_aggr.specs.declared.accumulator.SoFar.TheVariants as so_far
use Rattle.eng_aggr.specs.declared.aggregate.Aggregate.{Aggregate}
use Rattle.eng_aggr.specs.declared.aggregate.Aggregate.TheVariants as aggregate
use Rattle.eng_aggr.specs.declared.best.Best.{Best}
use Rattle.eng_aggr.specs.declared.best.Extreme.{Extreme}
use Rattle.eng_aggr.specs.declared.best.Extreme.TheVariants.{Largest, Smallest}
use Rattle.eng_aggr.specs.declared.joining.Joined.{Joined}
use Rattle.eng_aggr.specs.declared.joining.Joined.TheVariants as joined
use Rattle.eng_aggr.specs.declared.summing.Sum.{Sum}
use Rattle.eng_aggr.specs.declared.summing.Sum.TheVariants as sum
use Rattle.eng_value.specs.declared.cause.Cause.TheVariants as cause
use Rattle.eng_value.specs.declared.collation.Collation.{Collation}
use Rattle.eng_value.specs.declared.limits.TheConstants.{MAX_VALUE_BYTES}
use Rattle.eng_value.specs.declared.out.Out.{Out}
use Rattle.eng_value.specs.declared.out.Out.TheVariants.{Good}
use Rattle.eng_value.specs.declared.value.Value.{Value}
use Rattle.eng_value.specs.declared.value.Value.TheVariants as sql
use Rattle.eng_value.specs.Collations.{own_keys}
use Rattle.eng_value.specs.Functions.{integer_in}
use Rattle.eng_value.specs.Operators.{integer_in_range}
use Rattle.eng_value.specs.Outs.{bad}

-- ---- after all rows

-- the exact sum, unless there is a text or a blob among the values
abbrev pub sum_after : List Value → Sum
sum_after vs = if list_all is_integer vs then sum.Exact (integer_total (length vs) (total vs)) else sum.Real

-- which of two values is wanted, the first where they are equal
abbrev pub better : Extreme → Collation → Value → Value → Value
better Largest c = larger (own_keys c)
better Smallest c = smaller (own_keys c)

abbrev pub best_after : Extreme → Collation → List Value → Best
best_after extreme c vs = record { extreme = extreme; collation = c; value = reduce (better extreme c) vs }

-- a text that is too long is not kept
abbrev pub text_or_too_big : List ℕ → Joined
text_or_too_big text = if nat_lt MAX_VALUE_BYTES (length text) then joined.TooBig else joined.Text text

abbrev pub joined_after : List Value → Joined
joined_after [] = joined.Nothing
joined_after (v ∷ vs) = if list_all is_text (v ∷ vs) then text_or_too_big (flat_map text_of (v ∷ vs)) else joined.NotText

abbrev pub so_far_after : Aggregate → Collation → List (List Value) → SoFar
so_far_after aggregate.CountRows c rows = so_far.Rows (length rows)
so_far_after aggregate.Count c rows = so_far.Known (length (known rows))
so_far_after aggregate.Sum c rows = so_far.Sum (sum_after (values rows))
so_far_after aggregate.Min c rows = so_far.Best (best_after Smallest c (values rows))
so_far_after aggregate.Max c rows = so_far.Best (best_after Largest c (values rows))
so_far_after aggregate.GroupConcat c rows = so_far.Joined (joined_after (pieces (known rows)))

-- the accumulator of an aggregate under a collation that was given these rows, one by one
unfoldable pub after : Aggregate → Collation → List (List Value) → Accumulator
after f c rows = record { so_far = so_far_after f c rows }

-- it was given so few rows that a count of 64 bits holds one more
abbrev pub WasGivenFew : Accumulator → Type 0
WasGivenFew held = (f : Aggregate) × (c : Collation) × (rows : List (List Value)) × (held ≡ after f c rows) × (length rows < 2 ^ 64 - 1)

-- ---- one row more

abbrev pub added : Value → Sum → Sum
added v (sum.Exact t) = if is_integer v then sum.Exact (with_integer (integer_in v) t) else sum.Real
added v sum.Real = sum.Real

abbrev pub better_value : Extreme → Collation → Option Value → Value → Value
better_value extreme c None v = v
better_value extreme c (Some best) v = better extreme c best v

abbrev pub seen : Value → Best → Best
seen v best = record best { value = Some (better_value best.extreme best.collation best.value v) }

-- a separator and a text behind the text so far
abbrev pub appended : List ℕ → List ℕ → Joined → Joined
appended s t joined.Nothing = joined.Nothing
appended s t (joined.Text text) = text_or_too_big (text ++ s ++ t)
appended s t joined.TooBig = joined.TooBig
appended s t joined.NotText = joined.NotText

-- both are texts
abbrev pub are_texts : Value → Value → Bool
are_texts s v = is_text s && is_text v

abbrev pub joined_with : Value → Value → Joined → Joined
joined_with s v joined.Nothing = if is_text v then text_or_too_big (text_of v) else joined.NotText
joined_with s v (joined.Text text) = if are_texts s v then text_or_too_big (text ++ text_of s ++ text_of v) else joined.NotText
joined_with s v joined.TooBig = if are_texts s v then joined.TooBig else joined.NotText
joined_with s v joined.NotText = joined.NotText

-- a row whose argument is NULL counts for count(*) alone
abbrev pub passed : SoFar → SoFar
passed (so_far.Rows n) = so_far.Rows (n + 1)
passed (so_far.Known n) = so_far.Known n
passed (so_far.Sum s) = so_far.Sum s
passed (so_far.Best b) = so_far.Best b
passed (so_far.Joined j) = so_far.Joined j

abbrev pub taken : Value → Value → SoFar → SoFar
taken s v (so_far.Rows n) = so_far.Rows (n + 1)
taken s v (so_far.Known n) = so_far.Known (n + 1)
taken s v (so_far.Sum t) = so_far.Sum (added v t)
taken s v (so_far.Best b) = so_far.Best (seen v b)
taken s v (so_far.Joined j) = so_far.Joined (joined_with s v j)

abbrev pub stepped : List Value → SoFar → SoFar
stepped row held = if is_known row then taken (separator row) (argument row) held else passed held

-- ---- room for one row more

abbrev pub HasRoomInSum : Sum → Type 0
HasRoomInSum (sum.Exact t) = t.count < 2 ^ 64 - 1
HasRoomInSum sum.Real = ⊤

abbrev pub HasRoom : SoFar → Type 0
HasRoom (so_far.Rows n) = n < 2 ^ 64 - 1
HasRoom (so_far.Known n) = n < 2 ^ 64 - 1
HasRoom (so_far.Sum s) = HasRoomInSum s
HasRoom (so_far.Best b) = ⊤
HasRoom (so_far.Joined j) = ⊤

-- ---- what comes of it

-- of no integer it is NULL
abbrev pub total_out : IntegerTotal → Out
total_out t = if nat_eq t.count 0 then Good sql.Null else integer_in_range t.total

abbrev pub sum_out : Sum → Out
sum_out (sum.Exact t) = total_out t
sum_out sum.Real = bad cause.Real

abbrev pub joined_out : Joined → Out
joined_out joined.Nothing = Good sql.Null
joined_out (joined.Text text) = Good (sql.Text text)
joined_out joined.TooBig = bad cause.TooBig
joined_out joined.NotText = bad cause.NotText

abbrev pub finished : SoFar → Out
finished (so_far.Rows n) = count_of n
finished (so_far.Known n) = count_of n
finished (so_far.Sum s) = sum_out s
finished (so_far.Best b) = Good (unwrap_or b.value sql.Null)
finished (so_far.Joined j) = joined_out j
