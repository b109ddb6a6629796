use Rattle.std.proofs.Common.{arith}
use Rattle.parse_create.proofs.Pieces.{piece_shorter, pieces_steps}
use Rattle.parse_create.proofs.modules.argument_pieces.Goals as goal

pub loop-tokens-preserved : goal.loop-tokens-preserved
loop-tokens-preserved c = grind (arith, pieces_steps)

pub returns-in_err-argument_piece : goal.returns-in_err-argument_piece
returns-in_err-argument_piece c = grind (arith, pieces_steps)

pub returns : goal.returns
returns c = grind (arith, pieces_steps)

pub loop-tokens-smaller : goal.loop-tokens-smaller
loop-tokens-smaller c = piece_shorter _ _ _ _ _ _ c.in_ok-argument_piece.ensures
