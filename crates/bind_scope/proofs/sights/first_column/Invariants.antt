use Rattle.std.proofs.Common.{◌≡◌, drop, filter}
use Rattle.std.specs.Option.{option_copied}
use Rattle.bind_scope.specs.Sights.{first, is_meant}
use Rattle.bind_scope.proofs.sights.first_column.Given as goal

abbrev pub invariant-loop-column : goal.invariant-loop-column
invariant-loop-column l = first (filter (is_meant (option_copied l.table) l.name) l.columns) ≡ first (filter (is_meant (option_copied l.table) l.name) (drop l.column-index l.columns))
