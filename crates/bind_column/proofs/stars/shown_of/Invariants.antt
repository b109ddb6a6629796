use Rattle.std.proofs.Common.{◌≡◌, take}
use Rattle.std.specs.List.{flat_map}
use Rattle.bind_column.specs.Stars.{shown_in_item}
use Rattle.bind_column.proofs.stars.shown_of.Given as goal

abbrev pub invariant-loop-item : goal.invariant-loop-item
invariant-loop-item l = l.shown ≡ flat_map (shown_in_item l.table) (take l.item-index l.level)
