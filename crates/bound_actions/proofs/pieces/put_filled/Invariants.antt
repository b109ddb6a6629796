use Rattle.std.proofs.Common.{◌≡◌, ◌++◌, drop}
use Rattle.bound_actions.specs.Pieces.{filled}
use Rattle.bound_actions.proofs.pieces.put_filled.Given as goal

abbrev pub invariant-loop-piece : goal.invariant-loop-piece
invariant-loop-piece l = l.fn.out ++ filled l.handed l.pieces ≡ l.out ++ filled l.handed (drop l.piece-index l.pieces)
