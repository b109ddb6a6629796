use Rattle.std.proofs.Common.{◌≡◌, ◌++◌, drop}
use Rattle.sql_bound.specs.Froms.{columns_from}
use Rattle.bind_join.proofs.scoped.columns_from.Given as goal

abbrev pub invariant-loop-column : goal.invariant-loop-column
invariant-loop-column l =
    (l.place ≡ l.column-index) × (columns_from l.item 0 l.columns l.hidden ≡ l.found ++ columns_from l.item l.column-index (drop l.column-index l.columns) (drop l.column-index l.hidden))
