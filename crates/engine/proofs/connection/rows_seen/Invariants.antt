use Rattle.std.proofs.Common.{◌≡◌, map, take}
use Rattle.sql_meaning.specs.World.{seen, with_rowid}
use Rattle.engine.proofs.connection.rows_seen.Given as goal

abbrev pub invariant-loop-row : goal.invariant-loop-row
invariant-loop-row l = l.found ≡ map (λ r. with_rowid (seen l.table.rowid r)) (take l.row-index l.row-items)
