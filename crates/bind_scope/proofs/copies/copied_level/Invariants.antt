use Rattle.std.proofs.Common.{◌≡◌, take}
use Rattle.bind_scope.proofs.copies.copied_level.Given as goal

abbrev pub invariant-loop-item : goal.invariant-loop-item
invariant-loop-item l = l.copy ≡ take l.item-index l.level
