use Rattle.sql_tree.specs.declared.token.TokenKind.TheVariants as kind
use Rattle.std.proofs.Common.{[], ◌∷◌, arith}
use Rattle.sql_grammar.specs.declared.counts.Role.TheVariants as role
use Rattle.parse_cursor.proofs.Steps.{one_shorter}
use Rattle.parse_create.proofs.Pieces.{piece_shorter, piece_steps}
use Rattle.parse_create.proofs.modules.+argument_piece.Goals as goal

pub returns-then-sees_argument_token : goal.returns-then-sees_argument_token
returns-then-sees_argument_token t c = grind (arith, piece_steps)

pub returns-in_err-open : goal.returns-in_err-open
returns-in_err-open t c = grind (arith, piece_steps)

pub loop-tokens-preserved-in-Continue-branch-2 : goal.loop-tokens-preserved-in-Continue-branch-2
loop-tokens-preserved-in-Continue-branch-2 t c = grind (arith, piece_steps)

pub returns-in_err-argument_piece : goal.returns-in_err-argument_piece
returns-in_err-argument_piece t c = grind (arith, piece_steps)

pub loop-tokens-preserved : goal.loop-tokens-preserved
loop-tokens-preserved t c = grind (arith, piece_steps)

pub returns-in_err-expect : goal.returns-in_err-expect
returns-in_err-expect t c = grind (arith, piece_steps)

pub returns-in_err-expect-2 : goal.returns-in_err-expect-2
returns-in_err-expect-2 t c = grind (arith, piece_steps)

pub returns : goal.returns
returns t c = grind (arith, piece_steps)

pub loop-tokens-smaller-in-Continue-branch-2 : goal.loop-tokens-smaller-in-Continue-branch-2
loop-tokens-smaller-in-Continue-branch-2 t c = piece_shorter _ _ _ _ _ _ c.in_ok-argument_piece.ensures

pub loop-tokens-smaller : goal.loop-tokens-smaller
loop-tokens-smaller t c = one_shorter role.Outside (kind.Comma ∷ []) _ _ _ _ _ c.in_ok-expect.ensures
