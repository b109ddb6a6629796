use Rattle.std.proofs.Common.{◌≡◌, ◌++◌, drop}
use Rattle.std.specs.List.{flat_map}
use Rattle.bound_actions.specs.Pieces.{settled_one}
use Rattle.bound_actions.proofs.pieces.put_settled.Given as goal

abbrev pub invariant-loop-piece : goal.invariant-loop-piece
invariant-loop-piece l = l.fn.out ++ flat_map (settled_one l.pieces) l.pieces ≡ l.out ++ flat_map (settled_one l.pieces) (drop l.piece-index l.pieces)
