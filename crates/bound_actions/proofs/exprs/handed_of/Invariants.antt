use Rattle.std.proofs.Common.{◌≡◌, ◌++◌, drop, map}
use Rattle.bound_actions.specs.Expressions.{pieces_of}
use Rattle.bound_actions.proofs.exprs.handed_of.Given as goal

abbrev pub invariant-loop-e : goal.invariant-loop-e
invariant-loop-e l = map (pieces_of l.units l.spot) l.es ≡ l.lists ++ map (pieces_of l.units l.spot) (drop l.e-index l.es)
