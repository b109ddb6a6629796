use Rattle.std.proofs.Common.{◌≡◌, ◌++◌, drop, map}
use Rattle.bound_tree.specs.declared.units.BoundColumn.{BoundColumn}
use Rattle.bound_actions.proofs.froms.column_names.Given as goal

abbrev pub invariant-loop-column : goal.invariant-loop-column
invariant-loop-column l = map (λ (c : BoundColumn). c.name) l.columns ≡ l.names ++ map (λ (c : BoundColumn). c.name) (drop l.column-index l.columns)
