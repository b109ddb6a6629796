use Rattle.std.proofs.Common.{◌≡◌, drop, []}
use Rattle.bound_actions.specs.Queries.{units_behind}
use Rattle.bound_actions.proofs.queries.unit_lists.Given as goal

abbrev pub invariant-loop-unit : goal.invariant-loop-unit
invariant-loop-unit l = units_behind [] l.units ≡ units_behind l.front (drop l.unit-index l.units)
