use Rattle.std.proofs.Common.{◌≡◌, drop, false}
use Rattle.std.specs.List.{flat_map}
use Rattle.std.specs.Option.{option_copied}
use Rattle.bind_scope.specs.Sights.{another, candidates}
use Rattle.bind_scope.proofs.sights.another_of.Given as goal

abbrev pub invariant-loop-item : goal.invariant-loop-item
invariant-loop-item l = another false (flat_map (candidates (option_copied l.table) l.name) l.level) ≡ another l.one (flat_map (candidates (option_copied l.table) l.name) (drop l.item-index l.level))
