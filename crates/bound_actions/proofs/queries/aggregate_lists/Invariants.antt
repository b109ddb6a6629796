use Rattle.std.proofs.Common.{◌≡◌, ◌++◌, drop, map}
use Rattle.bound_actions.specs.Queries.{aggregate_pieces}
use Rattle.bound_actions.proofs.queries.aggregate_lists.Given as goal

abbrev pub invariant-loop-aggregate : goal.invariant-loop-aggregate
invariant-loop-aggregate l = map (aggregate_pieces l.units l.spot) l.aggregates ≡ l.lists ++ map (aggregate_pieces l.units l.spot) (drop l.aggregate-index l.aggregates)
