use Rattle.std.proofs.Common.{◌≡◌, drop}
use Rattle.std.specs.List.{flat_map}
use Rattle.std.specs.Option.{option_copied}
use Rattle.sql_bound.specs.Scopes.{counted_once, nearest, nearest_from}
use Rattle.bind_scope.specs.Sights.{candidates}
use Rattle.bind_scope.proofs.names.nearest_column.Given as goal

abbrev pub invariant-loop-level : goal.invariant-loop-level
invariant-loop-level l =
    (l.up ≡ l.level-index)
    × (nearest l.name (candidates (option_copied l.table) l.name) l.levels
    ≡ nearest_from l.level-index l.name (λ level. counted_once (flat_map (candidates (option_copied l.table) l.name) level)) (drop l.level-index l.levels))
