use Rattle.std.proofs.Common.{◌≡◌, ◌++◌, map, reverse, length}
use Rattle.sql_bound.specs.Compounds.{trees_in}
use Rattle.bind_result.proofs.rows.trees_of_rows.Given as goal

abbrev pub invariant-loop-row : goal.invariant-loop-row
invariant-loop-row l = l.trees ++ map trees_in (reverse l.rest) ≡ map trees_in l.fn.rows

abbrev pub decreases-loop-row : goal.decreases-loop-row
decreases-loop-row l = length l.rest
