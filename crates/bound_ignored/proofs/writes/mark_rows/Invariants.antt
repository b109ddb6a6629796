use Rattle.std.proofs.Common.{◌≡◌, ◌++◌, Some, length, map, reverse}
use Rattle.bound_ignored.specs.Marked.{marked_as}
use Rattle.bound_ignored.proofs.writes.mark_rows.Given as goal

abbrev pub invariant-loop-row : goal.invariant-loop-row
invariant-loop-row l = map (marked_as l.ignored l.within (Some l.table)) l.fn.rows ≡ l.rows ++ map (marked_as l.ignored l.within (Some l.table)) (reverse l.rest)

abbrev pub decreases-loop-row : goal.decreases-loop-row
decreases-loop-row l = length l.rest
