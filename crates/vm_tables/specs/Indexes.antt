-- The indexes of a table's rows.
use Rattle.std.specs.Prelude.{◌≡◌, ℕ, List, ℤ, Some, drop, slice_get, take}
use Rattle.std.specs.List.{AllByRecursion, filter}
use Rattle.std.specs.Ordering.{int_eq}
use Rattle.eng_index.specs.Keys.{found}
use Rattle.eng_index.specs.Stored.{Indexed, IsIndexOf, put_row}
use Rattle.eng_index.specs.declared.key_term.KeyTerm.{KeyTerm}
use Rattle.eng_index.specs.declared.range.Range.{Range}
use Rattle.eng_value.specs.StoredRows.{StoredRow}

-- each is an index of these rows
abbrev pub AreIndexesOf : List Indexed → List StoredRow → Type 0
AreIndexesOf indexes rows = AllByRecursion (λ index. IsIndexOf index rows) indexes

-- the index at a place is by these terms
abbrev pub IsBy : List KeyTerm → List Indexed → ℕ → Type 0
IsBy terms indexes place = (index : Indexed) × (slice_get indexes place ≡ Some index) × (index.terms ≡ terms)

-- those from a place on have the entry of a row, and those in front of it are still the indexes of the other rows
abbrev pub AreInsertedFrom : ℕ → List StoredRow → StoredRow → List Indexed → Type 0
AreInsertedFrom place rows row indexes = AreIndexesOf (take place indexes) rows × AreIndexesOf (drop place indexes) (put_row rows row)

-- what is found in a range is the row of a rowid, whatever the rows are
abbrev pub SeeksRowid : List KeyTerm → Range → ℤ → Type 0
SeeksRowid terms range rowid = (rows : List StoredRow) → found terms range rows ≡ filter (λ r. int_eq r.rowid rowid) rows
