use Rattle.std.proofs.Common.{◌≡◌, drop}
use Rattle.std.specs.List.{flat_map}
use Rattle.std.specs.Option.{option_copied}
use Rattle.bind_scope.specs.Sights.{candidates, first}
use Rattle.bind_scope.proofs.sights.first_of.Given as goal

abbrev pub invariant-loop-item : goal.invariant-loop-item
invariant-loop-item l = first (flat_map (candidates (option_copied l.table) l.name) l.level) ≡ first (flat_map (candidates (option_copied l.table) l.name) (drop l.item-index l.level))
