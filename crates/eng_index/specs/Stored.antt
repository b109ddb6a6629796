-- The tree of an index beside the rows of its table.
use Rattle.std.specs.Prelude.{◌≡◌, ◌-◌, Bool, true, false, not, List, [], ◌∷◌, ◌++◌, ℤ, int_lt, map, drop, length, if◌then◌else◌, Option, Some, None, negsuc, codes, refl}
use Rattle.std.specs.List.{AllByRecursion, filter, find, list_any}
use Rattle.std.specs.Ordering.{int_eq}
use Rattle.eng_key.specs.Rowids.{rowid_key, rowid_of}
use Rattle.eng_key.specs.RowKeys.{IsSoundRow, row_key, spelled_value}
use Rattle.eng_key.specs.declared.key_part.KeyPart.{KeyPart}
use Rattle.eng_tree.specs.Map.{Bytes, Pair, IsAscending}
use Rattle.eng_value.specs.Arrangements.{Chain, Shuffled}
use Rattle.eng_value.specs.StoredRows.{StoredRow}
use Rattle.eng_value.specs.declared.built.Built.TheVariants as built
use Rattle.eng_value.specs.declared.value.Value.{Value}
use Rattle.eng_value.specs.declared.value.Value.TheVariants.{Null, Integer, Text, Blob}
use Rattle.eng_index.specs.declared.key_term.KeyTerm.{KeyTerm}
use Rattle.eng_index.specs.declared.key_term.TermSource.TheVariants as source
use Rattle.eng_index.specs.Keys.{key_values}

-- ---- the rows of a table

-- the row of this rowid
abbrev pub row_under : List StoredRow → ℤ → Option StoredRow
row_under rows rowid = find (λ r. int_eq r.rowid rowid) rows

-- the row in front of the first of a greater rowid
abbrev pub put_row : List StoredRow → StoredRow → List StoredRow
put_row [] r = r ∷ []
put_row (x ∷ xs) r = if int_lt r.rowid x.rowid then r ∷ x ∷ xs else x ∷ put_row xs r

-- the rows of other rowids
abbrev pub drop_row : List StoredRow → ℤ → List StoredRow
drop_row rows rowid = filter (λ r. not (int_eq r.rowid rowid)) rows

abbrev pub rowids_of : List StoredRow → List ℤ
rowids_of rows = map (λ (r : StoredRow). r.rowid) rows

-- ---- the entry of a row

-- NULL comes first in a term, and last in one that descends
abbrev pub term_part : KeyTerm → KeyPart
term_part t = record { coll = t.collation; host = None; desc = t.descending; nulls_first = not t.descending }

abbrev pub rowid_part : KeyPart
rowid_part = record { coll = built.Binary; host = None; desc = false; nulls_first = true }

-- the parts of the terms, and behind them one of the rowid, so that no two rows have one key
abbrev pub parts_of : List KeyTerm → List KeyPart
parts_of terms = map term_part terms ++ rowid_part ∷ []

abbrev pub entry_values : List KeyTerm → StoredRow → List Value
entry_values terms r = key_values terms r ++ Integer r.rowid ∷ []

abbrev pub entry_key : List KeyTerm → StoredRow → Bytes
entry_key terms r = row_key (entry_values terms r) (parts_of terms)

abbrev pub is_null : Value → Bool
is_null Null = true
is_null (Integer n) = false
is_null (Text text) = false
is_null (Blob bytes) = false

-- a mark where a value is NULL, so that the row is no other's double; else nothing
abbrev pub mark_of : Bool → Bytes
mark_of true = 0 ∷ []
mark_of false = []

abbrev pub null_mark : List Value → Bytes
null_mark values = mark_of (list_any is_null values)

abbrev pub entry : List KeyTerm → StoredRow → Pair
entry terms r = (entry_key terms r, null_mark (entry_values terms r))

-- the rowid of an entry: the last eight bytes of its key
abbrev pub rowid_in : Bytes → Option ℤ
rowid_in key = rowid_of (drop (length key - 8) key)

-- ---- the index of rows

-- what contracts see of an index, and of entries that are gathered for one: the terms, and the pairs
pub record Indexed : Type 0 where
  pub terms : List KeyTerm
  pub pairs : List Pair

-- integers of 64 bits and bytes, as all values that a program holds
abbrev pub IsSoundEntry : List KeyTerm → StoredRow → Type 0
IsSoundEntry terms r = IsSoundRow (entry_values terms r) (parts_of terms)

-- the tree has an entry for each row, and no other, in the order of the keys
pub record IsIndexOf (index : Indexed) (rows : List StoredRow) : Type 0 where
  pub order : IsAscending index.pairs
  pub entries : Shuffled (map (entry index.terms) rows) index.pairs
  pub sound : AllByRecursion (IsSoundEntry index.terms) rows

-- ---- entries that are gathered for an index

-- no two of these pairs have one key
abbrev pub HaveOwnKeys : List Pair → Type 0
HaveOwnKeys pairs = Chain (λ (p q : Pair). q.0 ≡ p.0 → ⊥) pairs

-- these are the entries of the rows, in their order
pub record AreEntriesOf (gathered : Indexed) (rows : List StoredRow) : Type 0 where
  pub entries : gathered.pairs ≡ map (entry gathered.terms) rows
  pub sound : AllByRecursion (IsSoundEntry gathered.terms) rows

-- ---- examples

abbrev by_text : List KeyTerm
by_text = record { source = source.Column 1; collation = built.NoCase; descending = true } ∷ []

abbrev row : List Value → StoredRow
row values = record { rowid = negsuc 0; values = values }

entries : (entry by_text (row (Null ∷ Text (codes "A") ∷ [])) ≡ (2 ∷ 158 ∷ 255 ∷ 255 ∷ 1 ∷ 127 ∷ 255 ∷ 255 ∷ 255 ∷ 255 ∷ 255 ∷ 255 ∷ 255 ∷ [], []))
    × (entry by_text (row (Null ∷ Null ∷ [])) ≡ (4 ∷ 1 ∷ 127 ∷ 255 ∷ 255 ∷ 255 ∷ 255 ∷ 255 ∷ 255 ∷ 255 ∷ [], 0 ∷ []))
    × (rowid_in (entry_key by_text (row [])) ≡ Some (negsuc 0))
unfolding spelled_value rowid_key rowid_of
entries = (refl, refl, refl)
