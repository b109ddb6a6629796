-- The rows of a table under their rowids (Rowid Tables).
use Rattle.std.specs.Prelude.{◌-◌, List, ℤ, pos, ◌+ℤ◌, ◌<ℤ◌, int_le, if◌then◌else◌, slice_get, length, Some, None, AllPairs}
use Rattle.std.specs.declared.option.Option.{Option}
use Rattle.eng_value.specs.declared.value.Value.{Value}
use Rattle.eng_value.specs.declared.limits.TheConstants.{MAX_ROWID}

-- a row of a table under its rowid
pub record StoredRow : Type 0 where
  pub rowid : ℤ
  pub values : List Value

-- each rowid is greater than those in front of it
abbrev pub IsAscending : List StoredRow → Type 0
IsAscending rows = AllPairs (λ (a b : StoredRow). a.rowid <ℤ b.rowid) rows

-- the rowid behind that of the last row, which is the largest: 1 in an empty table, and none behind the largest of all
abbrev pub rowid_behind : Option StoredRow → Option ℤ
rowid_behind None = Some (pos 1)
rowid_behind (Some last) = if int_le MAX_ROWID last.rowid then None else Some (last.rowid +ℤ pos 1)

abbrev pub next_rowid : List StoredRow → Option ℤ
next_rowid rows = rowid_behind (slice_get rows (length rows - 1))
