use Rattle.std.proofs.Common.{◌≡◌, ◌++◌, drop}
use Rattle.bound_actions.specs.Writes.{sets_pieces}
use Rattle.bound_actions.proofs.writes.put_sets.Given as goal

abbrev pub invariant-loop-set : goal.invariant-loop-set
invariant-loop-set l = l.fn.out ++ sets_pieces l.units l.spot l.target l.sets ≡ l.out ++ sets_pieces l.units l.spot l.target (drop l.set-index l.sets)
