use Rattle.std.proofs.Common.{◌≡◌, ◌++◌, map, reverse, length}
use Rattle.bind_join.specs.Joins.{counted}
use Rattle.sql_bound.specs.Froms.{joined_if}
use Rattle.bind_join.proofs.joins.joined_columns.Given as goal

abbrev pub invariant-loop-column : goal.invariant-loop-column
invariant-loop-column l = map (joined_if (counted l.which) l.name) l.fn.columns ≡ map (joined_if (counted l.which) l.name) l.columns ++ reverse l.made.items

abbrev pub decreases-loop-column : goal.decreases-loop-column
decreases-loop-column l = length l.columns
