use Rattle.std.proofs.Common.{◌≡◌, drop}
use Rattle.std.specs.List.{flat_map}
use Rattle.sql_bound.specs.Scopes.{columns_named}
use Rattle.bind_scope.specs.Sights.{first}
use Rattle.bind_scope.proofs.names.declared.Given as goal

abbrev pub invariant-loop-item : goal.invariant-loop-item
invariant-loop-item l = first (flat_map (columns_named l.name) l.own) ≡ first (flat_map (columns_named l.name) (drop l.item-index l.own))
