-- The rows of a table as the pairs of a tree: each row's record under the key of its rowid.
use Rattle.std.specs.Prelude.{◌≡◌, ℕ, List, [], ℤ, pos, int_le, map, slice_get, Some, None, Ok, Err}
use Rattle.std.specs.List.{find, AllByRecursion}
use Rattle.std.specs.Option.{unwrap_or}
use Rattle.std.specs.declared.option.Option.{Option}
use Rattle.eng_key.specs.Rowids.{IsRowid, rowid_key, rowid_of}
use Rattle.eng_record.specs.Spelling.{spelling}
use Rattle.eng_record.specs.Reading.{Read, reading}
use Rattle.eng_tree.specs.Map.{Pair, IsAscending}
use Rattle.eng_value.specs.StoredRows.{StoredRow}
use Rattle.vm_code.specs.Machine.{Row}

-- the pair under which a tree keeps a row
abbrev pub pair_of : StoredRow → Pair
pair_of r = (rowid_key r.rowid, spelling r.values)

abbrev pub values_in : Read Row → Row
values_in (Ok row) = row
values_in (Err fault) = []

-- the row that a pair stands for
abbrev pub row_of : Pair → StoredRow
row_of p = record { rowid = unwrap_or (rowid_of p.0) (pos 0); values = values_in (reading p.1) }

-- a pair that a tree of rows keeps: it is the pair of a row, whose record can be read
pub record IsKept (p : Pair) : Type 0 where
  pub rowid : IsRowid (row_of p).rowid
  pub pair : p ≡ pair_of (row_of p)
  pub values : reading p.1 ≡ Ok (row_of p).values

abbrev pub AreKept : List Pair → Type 0
AreKept pairs = AllByRecursion IsKept pairs

-- what a tree of rows holds: such pairs, in the order of their keys
abbrev pub IsStored : List Pair → Type 0
IsStored pairs = AreKept pairs × IsAscending pairs

-- the rows of a tree
abbrev pub rows_in : List Pair → List StoredRow
rows_in pairs = map row_of pairs

-- these bytes are the record of a row; none where there is no row
abbrev pub IsRecord : Option (List ℕ) → Option StoredRow → Type 0
IsRecord None row = row ≡ None
IsRecord (Some bytes) row = (r : StoredRow) × (row ≡ Some r) × (reading bytes ≡ Ok r.values)

-- the row at a place, counted from 0, has this rowid
abbrev pub StandsAt : List StoredRow → ℕ → ℤ → Type 0
StandsAt rows place rowid = (r : StoredRow) × (slice_get rows place ≡ Some r) × (r.rowid ≡ rowid)

-- the first row whose rowid is not below this one
abbrev pub row_from : List StoredRow → ℤ → Option StoredRow
row_from rows least = find (λ r. int_le least r.rowid) rows
