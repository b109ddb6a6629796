-- What the aggregates that are built in give for a group (Built-in Aggregate Functions). A group is the list of its rows, in their order,
-- and a row is the values of the arguments.
use Rattle.std.specs.Prelude.{◌≡◌, ℕ, ◌-◌, ◌^◌, Bool, true, false, not, List, [], ◌∷◌, length, map, filter, fold, ℤ, pos, negsuc, ◌+ℤ◌, if◌then◌else◌, codes, refl}
use Rattle.std.specs.List.{flat_map, list_all, reduce}
use Rattle.std.specs.Option.{unwrap_or}
use Rattle.std.specs.Char.{encode_utf8}
use Rattle.std.specs.Str.{chars, is_utf8}
use Rattle.std.specs.Fmt.{digits}
use Rattle.std.specs.Ordering.{is_lt, is_gt}
use Rattle.eng_aggr.specs.declared.aggregate.Aggregate.{Aggregate}
use Rattle.eng_aggr.specs.declared.aggregate.Aggregate.TheVariants.{CountRows, Count, Sum, Min, Max, GroupConcat}
use Rattle.eng_value.specs.declared.built.Built.TheVariants as built
use Rattle.eng_value.specs.declared.cause.Cause.TheVariants as cause
use Rattle.eng_value.specs.declared.collation.Collation.{Collation}
use Rattle.eng_value.specs.declared.collation.Collation.TheVariants as collation
use Rattle.eng_value.specs.declared.out.Out.{Out}
use Rattle.eng_value.specs.declared.out.Out.TheVariants.{Good, Bad}
use Rattle.eng_value.specs.declared.value.Value.{Value}
use Rattle.eng_value.specs.declared.value.Value.TheVariants.{Null, Integer, Text, Blob}
use Rattle.eng_value.specs.Casts.{to_text}
use Rattle.eng_value.specs.Collations.{Keys, compare_by, own_keys}
use Rattle.eng_value.specs.Functions.{bytes_of, integer_in, is_null}
use Rattle.eng_value.specs.Operators.{integer_in_range, made}
use Rattle.eng_value.specs.Outs.{bad}

-- ---- rows

-- what is aggregated of a row: its first argument
abbrev pub argument : List Value → Value
argument [] = Null
argument (v ∷ rest) = v

abbrev pub is_known : List Value → Bool
is_known row = not (is_null (argument row))

-- the rows whose argument is not NULL
abbrev pub known : List (List Value) → List (List Value)
known rows = filter is_known rows

-- the values that are not NULL
abbrev pub values : List (List Value) → List Value
values rows = map argument (known rows)

-- ---- count and sum: no more than 64 bits hold

abbrev pub count_of : ℕ → Out
count_of n = integer_in_range (pos n)

abbrev pub is_integer : Value → Bool
is_integer Null = false
is_integer (Integer n) = true
is_integer (Text text) = false
is_integer (Blob bytes) = false

abbrev pub total : List Value → ℤ
total vs = fold (λ sum v. sum +ℤ integer_in v) (pos 0) vs

-- of nothing it is NULL. Only the whole sum has to be of 64 bits, and a text or a blob would make it a REAL
abbrev pub sum_of : List Value → Out
sum_of [] = Good Null
sum_of (v ∷ vs) = if list_all is_integer (v ∷ vs) then integer_in_range (total (v ∷ vs)) else bad cause.Real

-- ---- min and max: the first of those that are equal

abbrev pub smaller : (List ℕ → List ℕ) → Value → Value → Value
smaller key a b = if is_lt (compare_by key b a) then b else a

abbrev pub larger : (List ℕ → List ℕ) → Value → Value → Value
larger key a b = if is_gt (compare_by key b a) then b else a

-- of nothing it is NULL
abbrev pub best_of : (Value → Value → Value) → List Value → Out
best_of better vs = Good (unwrap_or (reduce better vs) Null)

-- ---- group_concat

-- what stands in front of the text of a row
abbrev pub separator : List Value → Value
separator (x ∷ y ∷ rest) = y
separator row = Text (codes ",")

abbrev pub separated : List Value → List Value
separated row = separator row ∷ argument row ∷ []

-- the first row has no separator
abbrev pub pieces : List (List Value) → List Value
pieces [] = []
pieces (row ∷ rows) = argument row ∷ flat_map separated rows

abbrev pub is_good : Out → Bool
is_good (Good v) = true
is_good (Bad causes) = false

abbrev pub bytes_in : Out → List ℕ
bytes_in (Good v) = bytes_of v
bytes_in (Bad causes) = []

abbrev pub is_text : Value → Bool
is_text v = is_good (to_text v)

-- the text of a value, which is empty for NULL
abbrev pub text_of : Value → List ℕ
text_of v = bytes_in (to_text v)

-- of nothing it is NULL
abbrev pub joined : List Value → Out
joined [] = Good Null
joined (v ∷ vs) = if list_all is_text (v ∷ vs) then made (Text (flat_map text_of (v ∷ vs))) else bad cause.NotText

-- ---- all of them

module _ (keys : Keys) where
  abbrev pub aggregate_by : Aggregate → Collation → List (List Value) → Out
  aggregate_by CountRows collation rows = count_of (length rows)
  aggregate_by Count collation rows = count_of (length (known rows))
  aggregate_by Sum collation rows = sum_of (values rows)
  aggregate_by Min collation rows = best_of (smaller (keys collation)) (values rows)
  aggregate_by Max collation rows = best_of (larger (keys collation)) (values rows)
  aggregate_by GroupConcat collation rows = joined (pieces (known rows))

-- where no host has a collation
abbrev pub aggregate_of : Aggregate → Collation → List (List Value) → Out
aggregate_of = aggregate_by own_keys

-- ---- examples

abbrev binary : Collation
binary = collation.Built built.Binary

abbrev nocase : Collation
nocase = collation.Built built.NoCase

abbrev number : ℤ → List Value
number n = Integer n ∷ []

abbrev text : List ℕ → List Value
text t = Text t ∷ []

abbrev null : List Value
null = Null ∷ []

nothing : (aggregate_of CountRows binary [] ≡ Good (Integer (pos 0))) × (aggregate_of Sum binary [] ≡ Good Null) × (aggregate_of Max binary (null ∷ []) ≡ Good Null) × (aggregate_of GroupConcat binary (null ∷ []) ≡ Good Null)
nothing = (refl, refl, refl, refl)

counts : (aggregate_of CountRows binary ([] ∷ [] ∷ []) ≡ Good (Integer (pos 2))) × (aggregate_of Count binary (null ∷ number (pos 7) ∷ null ∷ []) ≡ Good (Integer (pos 1))) × (count_of (2 ^ 63 - 1) ≡ Good (Integer (pos (2 ^ 63 - 1)))) × (count_of (2 ^ 63) ≡ bad cause.Overflow)
counts = (refl, refl, refl, refl)

sums : (aggregate_of Sum binary (number (pos (2 ^ 63 - 1)) ∷ number (pos 1) ∷ null ∷ number (negsuc 0) ∷ []) ≡ Good (Integer (pos (2 ^ 63 - 1)))) × (aggregate_of Sum binary (number (pos (2 ^ 63 - 1)) ∷ number (pos 1) ∷ []) ≡ bad cause.Overflow) × (aggregate_of Sum binary (number (pos 1) ∷ text (codes "1") ∷ []) ≡ bad cause.Real)
sums = (refl, refl, refl)

extremes : (aggregate_of Max nocase (text (codes "a") ∷ text (codes "B") ∷ text (codes "b") ∷ null ∷ []) ≡ Good (Text (codes "B"))) × (aggregate_of Max binary (text (codes "a") ∷ text (codes "B") ∷ []) ≡ Good (Text (codes "a"))) × (aggregate_of Min binary (text (codes "0") ∷ null ∷ number (pos 7) ∷ []) ≡ Good (Integer (pos 7)))
extremes = (refl, refl, refl)

texts : (aggregate_of GroupConcat binary (null ∷ text (codes "a") ∷ number (negsuc 1) ∷ []) ≡ Good (Text (codes "a,-2"))) × (aggregate_of GroupConcat binary ((Text (codes "a") ∷ Text (codes "1") ∷ []) ∷ (Text (codes "b") ∷ Text (codes "2") ∷ []) ∷ (Text (codes "c") ∷ Null ∷ []) ∷ []) ≡ Good (Text (codes "a2bc"))) × (aggregate_of GroupConcat binary ((Blob (255 ∷ []) ∷ []) ∷ []) ≡ bad cause.NotText)
unfolding digits is_utf8 chars encode_utf8
texts = (refl, refl, refl)
