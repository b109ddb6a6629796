use Rattle.std.proofs.Common.{◌≡◌, ◌++◌, ◌+◌, drop, length}
use Rattle.sql_bound.specs.Compounds.{values_columns}
use Rattle.bind_column.proofs.results.values_columns.Given as goal

abbrev pub invariant-loop-a : goal.invariant-loop-a
invariant-loop-a l = (length l.found ≡ l.a-index) × (values_columns 1 l.row ≡ l.found ++ values_columns (l.a-index + 1) (drop l.a-index l.row))
