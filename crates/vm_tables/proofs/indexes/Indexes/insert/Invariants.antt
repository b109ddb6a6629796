use Rattle.std.proofs.Common.{◌≡◌, ◌≤◌, List, None, length}
use Rattle.eng_index.specs.Stored.{row_under}
use Rattle.eng_value.specs.StoredRows.{StoredRow}
use Rattle.vm_tables.specs.Indexes.{AreIndexesOf, AreInsertedFrom}
use Rattle.vm_tables.proofs.indexes.Indexes.insert.Given as goal

abbrev pub invariant-loop-place : goal.invariant-loop-place
invariant-loop-place l = record {
  within : l.place ≤ length l.self-inside.indexes.items;
  inserted : (rows : List StoredRow) → row_under rows l.row.rowid ≡ None → AreIndexesOf l.initial.self-inside.indexes.items rows → AreInsertedFrom l.place rows l.row l.self-inside.indexes.items;
}

abbrev pub decreases-loop-place : goal.decreases-loop-place
decreases-loop-place l = l.place
