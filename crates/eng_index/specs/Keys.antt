-- The keys of rows by the terms of an index, what a search finds by them, and what an index keeps (CREATE INDEX; SQLite Query Optimizer Overview, section 2).
use Rattle.std.specs.Prelude.{◌≡◌, ℕ, Bool, true, false, ◌&&◌, ◌||◌, List, [], ◌∷◌, ℤ, pos, map, codes, Option, Some, None, refl, if◌then◌else◌, slice_get, slice_index_or}
use Rattle.std.specs.List.{filter, flat_map, list_any}
use Rattle.std.specs.Ordering.{ordering_then, int_eq, is_eq, is_le, is_lt, is_ge, is_gt}
use Rattle.std.specs.declared.cmp.Ordering.{Ordering}
use Rattle.std.specs.declared.cmp.Ordering.TheVariants.{Equal}
use Rattle.eng_value.specs.Arrangements.{arranged}
use Rattle.eng_value.specs.Collations.{compare}
use Rattle.eng_value.specs.StoredRows.{StoredRow}
use Rattle.eng_value.specs.declared.built.Built.TheVariants as built
use Rattle.eng_value.specs.declared.value.Value.{Value}
use Rattle.eng_value.specs.declared.value.Value.TheVariants.{Null, Integer, Text}
use Rattle.eng_index.specs.declared.key_term.KeyTerm.{KeyTerm}
use Rattle.eng_index.specs.declared.key_term.TermSource.{TermSource}
use Rattle.eng_index.specs.declared.key_term.TermSource.TheVariants as source
use Rattle.eng_index.specs.declared.range.Edge.{Edge}
use Rattle.eng_index.specs.declared.range.Edge.TheVariants as edge
use Rattle.eng_index.specs.declared.range.Limit.{Limit}
use Rattle.eng_index.specs.declared.range.Range.{Range}

-- ---- what a key reads

-- the value of a term's column, and NULL where the row has none
abbrev pub source_value : TermSource → StoredRow → Value
source_value source.Rowid r = Integer r.rowid
source_value (source.Column c) r = slice_index_or r.values c Null

abbrev pub term_value : KeyTerm → StoredRow → Value
term_value t r = source_value t.source r

-- the values of all terms
abbrev pub key_values : List KeyTerm → StoredRow → List Value
key_values terms r = map (λ t. term_value t r) terms

-- ---- the order of rows by a key

-- how two values stand to one another in a term; NULL comes first, and last in one that descends
abbrev pub term_cmp : KeyTerm → Value → Value → Ordering
term_cmp t v w = if t.descending then compare t.collation w v else compare t.collation v w

-- by the first term in which they differ
abbrev pub key_cmp : List KeyTerm → StoredRow → StoredRow → Ordering
key_cmp [] a b = Equal
key_cmp (t ∷ terms) a b = ordering_then (term_cmp t (term_value t a) (term_value t b)) (key_cmp terms a b)

-- the rows of a table in the order of a key; rows that are equal there stay in the order of their rowids
abbrev pub walk : List KeyTerm → List StoredRow → List StoredRow
walk terms rows = arranged (λ a b. is_lt (key_cmp terms a b)) rows

-- ---- what a search finds

-- neither is NULL, and the one stands so to the other
abbrev pub is_known_so : (Ordering → Bool) → KeyTerm → Value → Value → Bool
is_known_so so t Null w = false
is_known_so so t v Null = false
is_known_so so t v w = so (compare t.collation v w)

abbrev pub is_equal : KeyTerm → Value → Value → Bool
is_equal = is_known_so is_eq

-- how a value stands to a limit below it, and to one above it
abbrev pub passes_below : Edge → Ordering → Bool
passes_below edge.Included = is_ge
passes_below edge.Excluded = is_gt

abbrev pub passes_above : Edge → Ordering → Bool
passes_above edge.Included = is_le
passes_above edge.Excluded = is_lt

abbrev pub is_from : Option Limit → KeyTerm → Value → Bool
is_from None t v = true
is_from (Some limit) t v = is_known_so (passes_below limit.edge) t v limit.value

abbrev pub is_up_to : Option Limit → KeyTerm → Value → Bool
is_up_to None t v = true
is_up_to (Some limit) t v = is_known_so (passes_above limit.edge) t v limit.value

-- the row has these values in the first terms, and in the next one a value within the limits; a value or a limit without a term says nothing
abbrev pub is_within : List KeyTerm → List Value → Option Limit → Option Limit → StoredRow → Bool
is_within [] equal lower upper r = true
is_within (t ∷ terms) [] lower upper r = is_from lower t (term_value t r) && is_up_to upper t (term_value t r)
is_within (t ∷ terms) (v ∷ equal) lower upper r = is_equal t (term_value t r) v && is_within terms equal lower upper r

-- the rows within a range, in the order of their rowids
abbrev pub found : List KeyTerm → Range → List StoredRow → List StoredRow
found terms range rows = filter (is_within terms range.equal range.lower range.upper) rows

-- ---- doubles

-- two rows that have the same value in each term, of which none is NULL
abbrev pub is_double : List KeyTerm → StoredRow → StoredRow → Bool
is_double [] a b = true
is_double (t ∷ terms) a b = is_equal t (term_value t a) (term_value t b) && is_double terms a b

-- some row is the double of one behind it
abbrev pub has_doubles : List KeyTerm → List StoredRow → Bool
has_doubles terms [] = false
has_doubles terms (r ∷ rows) = list_any (is_double terms r) rows || has_doubles terms rows

-- ---- the place of a row

-- two rows of one rowid
abbrev pub has_same_rowid : StoredRow → StoredRow → Bool
has_same_rowid a b = int_eq b.rowid a.rowid

-- what a row may share with no other row of its table: its rowid, and then each key, oldest first
abbrev pub place_tests : List (List KeyTerm) → List (StoredRow → StoredRow → Bool)
place_tests keys = has_same_rowid ∷ map is_double keys

-- the rows in its way, test by test
abbrev pub standing : List (List KeyTerm) → List StoredRow → StoredRow → List StoredRow
standing keys rows row = flat_map (λ test. filter (test row) rows) (place_tests keys)

-- the first of them
abbrev pub row_in_way : List (List KeyTerm) → List StoredRow → StoredRow → Option StoredRow
row_in_way keys rows row = slice_get (standing keys rows row) 0

-- ---- examples

abbrev term : TermSource → Bool → KeyTerm
term from descending = record { source = from; collation = built.NoCase; descending = descending }

abbrev row : ℕ → List Value → StoredRow
row rowid values = record { rowid = pos rowid; values = values }

abbrev table : List StoredRow
table = row 1 (Text (codes "b") ∷ Integer (pos 5) ∷ []) ∷ row 2 (Null ∷ Integer (pos 6) ∷ []) ∷ row 3 (Text (codes "a") ∷ Null ∷ []) ∷ row 4 (Text (codes "B") ∷ Integer (pos 7) ∷ []) ∷ []

abbrev rowids : List StoredRow → List ℤ
rowids rows = map (λ (r : StoredRow). r.rowid) rows

abbrev by_both : List KeyTerm
by_both = term (source.Column 0) false ∷ term (source.Column 1) true ∷ []

in_order : rowids (walk by_both table) ≡ pos 2 ∷ pos 3 ∷ pos 4 ∷ pos 1 ∷ []
in_order = refl

descending_puts_nulls_last : rowids (walk (term (source.Column 0) true ∷ []) table) ≡ pos 1 ∷ pos 4 ∷ pos 3 ∷ pos 2 ∷ []
descending_puts_nulls_last = refl

abbrev searched : List Value → Option Limit → Option Limit → List ℤ
searched equal lower upper = rowids (found by_both (record { equal = equal; lower = lower; upper = upper }) table)

abbrev limit : ℕ → Edge → Option Limit
limit n at = Some (record { value = Integer (pos n); edge = at })

-- NULL equals nothing, and is within no limits
searches : (searched (Text (codes "B") ∷ []) None None ≡ pos 1 ∷ pos 4 ∷ [])
    × (searched (Null ∷ []) None None ≡ [])
    × (searched (Text (codes "b") ∷ []) (limit 5 edge.Excluded) None ≡ pos 4 ∷ [])
    × (searched (Text (codes "b") ∷ []) None (limit 5 edge.Included) ≡ pos 1 ∷ [])
    × (searched (Text (codes "a") ∷ []) None (limit 9 edge.Included) ≡ [])
    × (searched [] None None ≡ pos 1 ∷ pos 2 ∷ pos 3 ∷ pos 4 ∷ [])
searches = (refl, refl, refl, refl, refl, refl)

doubles : (has_doubles (term (source.Column 0) false ∷ []) table ≡ true) × (has_doubles by_both table ≡ false) × (has_doubles (term (source.Column 0) false ∷ []) (row 1 [] ∷ row 2 [] ∷ []) ≡ false)
doubles = (refl, refl, refl)

in_the_way : (rowids (standing ((term (source.Column 1) false ∷ []) ∷ (term (source.Column 0) false ∷ []) ∷ []) table (row 3 (Text (codes "B") ∷ Integer (pos 7) ∷ []))) ≡ pos 3 ∷ pos 4 ∷ pos 1 ∷ pos 4 ∷ [])
    × (standing ((term (source.Column 0) false ∷ []) ∷ []) table (row 9 (Null ∷ Integer (pos 5) ∷ [])) ≡ [])
in_the_way = (refl, refl)
