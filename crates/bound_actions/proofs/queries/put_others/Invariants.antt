use Rattle.std.proofs.Common.{◌≡◌, ◌++◌, drop}
use Rattle.bound_actions.specs.Queries.{others_pieces}
use Rattle.bound_actions.proofs.queries.put_others.Given as goal

abbrev pub invariant-loop-other : goal.invariant-loop-other
invariant-loop-other l = l.fn.out ++ others_pieces l.units l.within l.others ≡ l.out ++ others_pieces l.units l.within (drop l.other-index l.others)
