use Rattle.std.proofs.Common.{◌≡◌, ◌++◌, drop}
use Rattle.bind_stmt.specs.Plain.{placed_from}
use Rattle.bind_stmt.proofs.plain_rows.placed.Given as goal

abbrev pub invariant-loop-column : goal.invariant-loop-column
invariant-loop-column l = (l.place ≡ l.column-index) × (l.found.items ++ placed_from l.column-index (drop l.column-index l.columns) ≡ placed_from 0 l.columns)
