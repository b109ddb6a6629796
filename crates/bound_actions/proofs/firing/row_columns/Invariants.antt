use Rattle.std.proofs.Common.{◌≡◌, ◌++◌, drop, map}
use Rattle.std.specs.Prelude.{Some}
use Rattle.bound_actions.specs.Froms.{columns_as}
use Rattle.bound_actions.proofs.firing.row_columns.Given as goal

abbrev pub invariant-loop-row : goal.invariant-loop-row
invariant-loop-row l = map (columns_as (Some l.table)) l.rows ≡ l.made ++ map (columns_as (Some l.table)) (drop l.row-index l.rows)
