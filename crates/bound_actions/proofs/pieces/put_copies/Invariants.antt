use Rattle.std.proofs.Common.{◌≡◌, ◌++◌, drop}
use Rattle.bound_actions.proofs.pieces.put_copies.Given as goal

abbrev pub invariant-loop-piece : goal.invariant-loop-piece
invariant-loop-piece l = l.fn.out ++ l.pieces ≡ l.out ++ drop l.piece-index l.pieces
