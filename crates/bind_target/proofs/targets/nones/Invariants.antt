use Rattle.std.proofs.Common.{◌≡◌, map, take, None}
use Rattle.bound_tree.specs.declared.units.BoundColumn.{BoundColumn}
use Rattle.bind_target.proofs.targets.nones.Given as goal

abbrev pub invariant-loop-column : goal.invariant-loop-column
invariant-loop-column l = l.made ≡ map (λ (c : BoundColumn). None) (take l.column-index l.columns)
