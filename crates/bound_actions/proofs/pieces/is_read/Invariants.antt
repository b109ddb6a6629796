use Rattle.std.proofs.Common.{◌≡◌, drop}
use Rattle.std.specs.List.{list_any}
use Rattle.bound_actions.specs.Pieces.{reads_item}
use Rattle.bound_actions.proofs.pieces.is_read.Given as goal

abbrev pub invariant-loop-piece : goal.invariant-loop-piece
invariant-loop-piece l = list_any (reads_item l.item) l.pieces ≡ list_any (reads_item l.item) (drop l.piece-index l.pieces)
