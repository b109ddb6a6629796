use Rattle.std.proofs.Common.{◌≡◌, ◌+◌, drop}
use Rattle.std.specs.List.{position_or_len}
use Rattle.sql_bound.specs.Declarations.{is_own_rowid}
use Rattle.bind_entry.proofs.rowids.own_rowid.Given as goal

abbrev pub invariant-loop-column : goal.invariant-loop-column
invariant-loop-column l =
    (l.place ≡ l.column-index) × (position_or_len (is_own_rowid l.text) l.columns ≡ l.column-index + position_or_len (is_own_rowid l.text) (drop l.column-index l.columns))
