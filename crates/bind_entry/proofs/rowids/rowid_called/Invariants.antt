use Rattle.std.proofs.Common.{◌≡◌, ◌+◌, drop}
use Rattle.std.specs.List.{position_or_len}
use Rattle.sql_bound.specs.Declarations.{is_rowid_called}
use Rattle.bind_entry.proofs.rowids.rowid_called.Given as goal

abbrev pub invariant-loop-column : goal.invariant-loop-column
invariant-loop-column l =
    (l.place ≡ l.column-index) × (position_or_len (is_rowid_called l.text l.wanted) l.columns ≡ l.column-index + position_or_len (is_rowid_called l.text l.wanted) (drop l.column-index l.columns))
