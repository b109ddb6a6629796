use Rattle.std.proofs.Common.{◌≡◌, take}
use Rattle.sql_bound.specs.Froms.{as_columns}
use Rattle.bind_source.proofs.sources.as_columns.Given as goal

abbrev pub invariant-loop-column : goal.invariant-loop-column
invariant-loop-column l = l.found ≡ as_columns (take l.column-index l.columns)
