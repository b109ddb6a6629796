use Rattle.std.proofs.Common.{◌≡◌, ◌++◌, drop, map}
use Rattle.bound_actions.specs.Froms.{readable}
use Rattle.bound_actions.proofs.froms.all_readable.Given as goal

abbrev pub invariant-loop-item : goal.invariant-loop-item
invariant-loop-item l = map readable l.items ≡ l.made ++ map readable (drop l.item-index l.items)
