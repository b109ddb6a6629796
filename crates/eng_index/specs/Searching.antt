-- What a search is bounded by: a range, made of values of which some may be bad.
use Rattle.std.specs.Prelude.{◌≡◌, ℕ, ◌+◌, List, [], ◌∷◌, false, pos, take, Some, None, refl, slice_get}
use Rattle.std.specs.declared.option.Option.{Option}
use Rattle.eng_index.specs.Keys.{found}
use Rattle.eng_index.specs.declared.key_term.KeyTerm.{KeyTerm}
use Rattle.eng_index.specs.declared.key_term.TermSource.TheVariants.{Column}
use Rattle.eng_index.specs.declared.range.Bounds.{Bounds}
use Rattle.eng_index.specs.declared.range.Edge.{Edge}
use Rattle.eng_index.specs.declared.range.Edge.TheVariants.{Included, Excluded}
use Rattle.eng_index.specs.declared.range.Limit.{Limit}
use Rattle.eng_index.specs.declared.range.Range.{Range}
use Rattle.eng_value.specs.Causes.{CauseSet}
use Rattle.eng_value.specs.StoredRows.{StoredRow}
use Rattle.eng_value.specs.declared.built.Built.TheVariants.{Binary}
use Rattle.eng_value.specs.declared.out.Out.{Out}
use Rattle.eng_value.specs.declared.out.Out.TheVariants.{Good, Bad}
use Rattle.eng_value.specs.declared.value.Value.{Value}
use Rattle.eng_value.specs.declared.value.Value.TheVariants.{Null, Integer}

-- the values in front of the first bad one
abbrev pub front_values : List Out → List Value
front_values [] = []
front_values (Good v ∷ outs) = v ∷ front_values outs
front_values (Bad causes ∷ outs) = []

-- a limit takes a register, where there is one
abbrev pub limit_count : Option Edge → ℕ
limit_count None = 0
limit_count (Some edge) = 1

-- the registers of the values that rows must have, of the lower limit, and of the upper one
abbrev pub bound_count : Bounds → ℕ
bound_count bounds = bounds.equal + limit_count bounds.lower + limit_count bounds.upper

-- there is a limit where it is wanted and has a value
abbrev pub limit_of : Option Edge → Option Value → Option Limit
limit_of None v = None
limit_of (Some edge) None = None
limit_of (Some edge) (Some v) = Some (record { value = v; edge = edge })

-- the range that values make: first those that rows must have, then the lower limit, then the upper one
abbrev pub bounded_by : Bounds → List Value → Range
bounded_by bounds values = record {
  equal = take bounds.equal values;
  lower = limit_of bounds.lower (slice_get values bounds.equal);
  upper = limit_of bounds.upper (slice_get values (bounds.equal + limit_count bounds.lower));
}

-- the first bad one, and what stands behind it, bounds nothing
abbrev pub range_of : Bounds → List Out → Range
range_of bounds outs = bounded_by bounds (front_values outs)

-- ---- examples

abbrev limit : ℕ → Edge → Option Limit
limit n edge = Some (record { value = Integer (pos n); edge = edge })

abbrev known : ℕ → Out
known n = Good (Integer (pos n))

-- a value, a limit below and one above
abbrev both : Bounds
both = record { equal = 1; lower = Some Included; upper = Some Excluded }

abbrev only_upper : Bounds
only_upper = record { equal = 0; lower = None; upper = Some Included }

abbrev two_values : Bounds
two_values = record { equal = 2; lower = None; upper = None }

-- what is bad bounds nothing, nor does what stands behind it; NULL is a value
ranges : (c : CauseSet)
    → (range_of both (known 4 ∷ known 5 ∷ known 9 ∷ []) ≡ record { equal = Integer (pos 4) ∷ []; lower = limit 5 Included; upper = limit 9 Excluded })
    × (range_of both (known 4 ∷ known 5 ∷ Bad c ∷ []) ≡ record { equal = Integer (pos 4) ∷ []; lower = limit 5 Included; upper = None })
    × (range_of both (known 4 ∷ Bad c ∷ known 9 ∷ []) ≡ record { equal = Integer (pos 4) ∷ []; lower = None; upper = None })
    × (range_of both (Bad c ∷ known 5 ∷ known 9 ∷ []) ≡ record { equal = []; lower = None; upper = None })
    × (range_of only_upper (known 9 ∷ []) ≡ record { equal = []; lower = None; upper = limit 9 Included })
    × (range_of two_values (Good Null ∷ Bad c ∷ []) ≡ record { equal = Null ∷ []; lower = None; upper = None })
ranges c = (refl, refl, refl, refl, refl, refl)

abbrev row : ℕ → ℕ → StoredRow
row rowid value = record { rowid = pos rowid; values = Integer (pos value) ∷ [] }

abbrev table : List StoredRow
table = row 1 5 ∷ row 2 6 ∷ row 3 5 ∷ []

abbrev by_column : List KeyTerm
by_column = record { source = Column 0; collation = Binary; descending = false } ∷ []

abbrev one_value : Bounds
one_value = record { equal = 1; lower = None; upper = None }

-- a bad key finds every row, and NULL none
finds : (c : CauseSet)
    → (found by_column (range_of one_value (known 5 ∷ [])) table ≡ row 1 5 ∷ row 3 5 ∷ [])
    × (found by_column (range_of one_value (Bad c ∷ [])) table ≡ table)
    × (found by_column (range_of one_value (Good Null ∷ [])) table ≡ [])
finds c = (refl, refl, refl)
