-- The keys between which the entries of a range lie.
use Rattle.std.specs.Prelude.{◌≡◌, Bool, true, false, not, ◌&&◌, ◌||◌, List, [], ◌∷◌, ◌++◌, ⊤, Option, Some, None, ℤ, drop, if◌then◌else◌}
use Rattle.std.specs.List.{filter}
use Rattle.std.specs.Ordering.{is_lt}
use Rattle.eng_cursor.specs.Places.{Place}
use Rattle.eng_key.specs.RowKeys.{IsSoundRow, behind_front, row_key}
use Rattle.eng_tree.specs.Map.{Bytes, Pair, order}
use Rattle.eng_value.specs.StoredRows.{StoredRow}
use Rattle.eng_value.specs.declared.value.Value.TheVariants.{Null}
use Rattle.eng_index.specs.declared.fronts.Fronts.{Fronts}
use Rattle.eng_index.specs.declared.key_term.KeyTerm.{KeyTerm}
use Rattle.eng_index.specs.declared.range.Edge.{Edge}
use Rattle.eng_index.specs.declared.range.Edge.TheVariants as edge
use Rattle.eng_index.specs.declared.range.Limit.{Limit}
use Rattle.eng_index.specs.declared.range.Range.{Range}
use Rattle.eng_index.specs.Keys.{is_within}
use Rattle.eng_index.specs.Stored.{IsSoundEntry, entry_key, is_null, rowid_in, term_part}

-- a key lies between the fronts; none does where nothing can be found
abbrev pub lies_in : Option Fronts → Bytes → Bool
lies_in None key = false
lies_in (Some fronts) key = not (is_lt (order key fronts.from)) && is_lt (order key fronts.to)

-- the pairs whose keys lie between
abbrev pub pairs_between : Fronts → List Pair → List Pair
pairs_between fronts pairs = filter (λ (p : Pair). lies_in (Some fronts) p.0) pairs

-- just the keys of rows within the range lie between
abbrev pub BoundsRange : List KeyTerm → Range → Option Fronts → Type 0
BoundsRange terms range fronts =
    (r : StoredRow) → IsSoundEntry terms r → lies_in fronts (entry_key terms r) ≡ is_within terms range.equal range.lower range.upper r

-- ---- limits

abbrev pub limit_is_null : Option Limit → Bool
limit_is_null None = false
limit_is_null (Some limit) = is_null limit.value

abbrev pub has_null_limit : Range → Bool
has_null_limit range = limit_is_null range.lower || limit_is_null range.upper

abbrev pub not_null : Limit
not_null = record { value = Null; edge = edge.Excluded }

-- values up to a limit are not NULL either
abbrev pub lower_limit : Option Limit → Option Limit → Option Limit
lower_limit None None = None
lower_limit None (Some upper) = Some not_null
lower_limit (Some lower) upper = Some lower

-- the limit at which the entries of a range begin, and the one at which they end: a term that descends begins above
abbrev pub first_limit : KeyTerm → Option Limit → Option Limit → Option Limit
first_limit t lower upper = if t.descending then upper else lower

abbrev pub last_limit : KeyTerm → Option Limit → Option Limit → Option Limit
last_limit t lower upper = if t.descending then lower else upper

-- ---- the keys of limits

abbrev pub is_excluded : Edge → Bool
is_excluded edge.Included = false
is_excluded edge.Excluded = true

-- entries begin behind what is excluded, and end behind what is included
abbrev pub begins_behind : Option Limit → Bool
begins_behind None = false
begins_behind (Some limit) = is_excluded limit.edge

abbrev pub ends_behind : Option Limit → Bool
ends_behind None = true
ends_behind (Some limit) = not (is_excluded limit.edge)

-- what a limit adds to a front
abbrev pub limit_key : KeyTerm → Option Limit → Bytes
limit_key t None = []
limit_key t (Some limit) = row_key (limit.value ∷ []) (term_part t ∷ [])

abbrev pub IsSoundLimit : KeyTerm → Option Limit → Type 0
IsSoundLimit t None = ⊤
IsSoundLimit t (Some limit) = IsSoundRow (limit.value ∷ []) (term_part t ∷ [])

abbrev pub edge_key : Bool → Bytes → Bytes
edge_key behind key = if behind then behind_front key else key

-- the fronts of the keys that begin with this one, and go on within the limits
abbrev pub fronts_within : Bytes → KeyTerm → Option Limit → Option Limit → Fronts
fronts_within front t first last = record {
  from = edge_key (begins_behind first) (front ++ limit_key t first);
  to = edge_key (ends_behind last) (front ++ limit_key t last);
}

-- the fronts of limits that are sound and not NULL
pub record AreFronts (front : Bytes) (t : KeyTerm) (first last : Option Limit) (fronts : Fronts) : Type 0 where
  pub keys : fronts ≡ fronts_within front t first last
  pub sound_first : IsSoundLimit t first
  pub sound_last : IsSoundLimit t last

-- these are the fronts of the keys that begin with this one and go on within the limits of a range; there are none where a limit is NULL
abbrev pub LimitsFront : Bytes → KeyTerm → Range → Option Fronts → Type 0
LimitsFront front t range None = has_null_limit range ≡ true
LimitsFront front t range (Some fronts) =
    (has_null_limit range ≡ false) × AreFronts front t (first_limit t (lower_limit range.lower range.upper) range.upper) (last_limit t (lower_limit range.lower range.upper) range.upper) fronts

-- ---- the walk

-- the pairs from a place on
abbrev pub pairs_at : List Pair → Place → List Pair
pairs_at pairs None = []
pairs_at pairs (Some at) = drop at pairs

-- the rowid of an entry below a key
abbrev pub rowid_below : Bytes → Option Pair → Option ℤ
rowid_below to None = None
rowid_below to (Some p) = if is_lt (order p.0 to) then rowid_in p.0 else None

-- the rowids of entries up to the first that is not below
abbrev pub and_behind : Option ℤ → List ℤ → List ℤ
and_behind None rowids = []
and_behind (Some rowid) rowids = rowid ∷ rowids

abbrev pub rowids_below : Bytes → List Pair → List ℤ
rowids_below to [] = []
rowids_below to (p ∷ pairs) = and_behind (rowid_below to (Some p)) (rowids_below to pairs)
