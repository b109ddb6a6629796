use Rattle.std.proofs.Common.{◌≡◌, ◌++◌, drop}
use Rattle.bound_actions.specs.Pieces.{actions_in}
use Rattle.bound_actions.proofs.pieces.put_actions.Given as goal

abbrev pub invariant-loop-piece : goal.invariant-loop-piece
invariant-loop-piece l = l.fn.out ++ actions_in l.pieces ≡ l.out ++ actions_in (drop l.piece-index l.pieces)
