use Rattle.std.proofs.Common.{◌≡◌, ◌++◌, drop}
use Rattle.bound_actions.specs.Froms.{all_pieces}
use Rattle.bound_actions.proofs.exprs.put_all.Given as goal

abbrev pub invariant-loop-e : goal.invariant-loop-e
invariant-loop-e l = l.fn.out ++ all_pieces l.units l.spot l.es ≡ l.out ++ all_pieces l.units l.spot (drop l.e-index l.es)
