use Rattle.std.proofs.Common.{◌≡◌, map, take, false}
use Rattle.bound_tree.specs.declared.units.BoundColumn.{BoundColumn}
use Rattle.bind_target.proofs.targets.falses.Given as goal

abbrev pub invariant-loop-column : goal.invariant-loop-column
invariant-loop-column l = l.made ≡ map (λ (c : BoundColumn). false) (take l.column-index l.columns)
