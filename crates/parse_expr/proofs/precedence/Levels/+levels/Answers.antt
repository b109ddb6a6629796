use Rattle.std.proofs.Common.{◌-◌, arith}
use Rattle.parse_expr.proofs.Joined.{behind_steps, joined_shorter, operand_is}
use Rattle.parse_expr.proofs.precedence.Levels.+levels.Goals as goal

pub behind-loop-signs-smaller : goal.behind-loop-signs-smaller
behind-loop-signs-smaller g t c = joined_shorter (c.args.level - 1) _ _ _ _ _ _ _ _ _ _ (omega arith) c.in_ok-sign.ensures c.in_ok-right.ensures

pub behind-loop-signs-init : goal.behind-loop-signs-init
behind-loop-signs-init g t c = grind (arith, behind_steps)

pub behind-returns-in_err-sign : goal.behind-returns-in_err-sign
behind-returns-in_err-sign g t c = grind (arith, behind_steps)

pub behind-returns-in_err-right : goal.behind-returns-in_err-right
behind-returns-in_err-right g t c = grind (arith, behind_steps)

pub behind-loop-signs-preserved : goal.behind-loop-signs-preserved
behind-loop-signs-preserved g t c = grind (arith, behind_steps)

pub behind-returns : goal.behind-returns
behind-returns g t c = grind (arith, behind_steps)

pub behind-behind-requires : goal.behind-behind-requires
behind-behind-requires g t c κs within = (omega arith, (within.0, (within.1, (c.requires.exprs, (c.requires.queries, omega arith)))))

pub behind-operand-requires : goal.behind-operand-requires
behind-operand-requires g t c κs within = (omega arith, (within.0, (within.1, (c.requires.exprs, (c.requires.queries, omega arith)))))

pub operand-behind-requires : goal.operand-behind-requires
operand-behind-requires g t c κs within = (omega arith, (within.0, (within.1, (c.requires.exprs, (c.requires.queries, omega arith)))))

pub operand-signed_primary-requires : goal.operand-signed_primary-requires
operand-signed_primary-requires g t c = record { exprs = c.requires.exprs; queries = c.requires.queries }

pub operand-returns-in_err-left : goal.operand-returns-in_err-left
operand-returns-in_err-left g t c = grind (arith, operand_is)

pub operand-returns : goal.operand-returns
operand-returns g t c = grind (arith, operand_is)

pub behind-returns-then-level-eq0 : goal.behind-returns-then-level-eq0
behind-returns-then-level-eq0 g t c = grind (arith, behind_steps)

pub behind-returns-in_err-joined : goal.behind-returns-in_err-joined
behind-returns-in_err-joined g t c = grind (arith, behind_steps)

pub behind-returns-in_err-joined-2 : goal.behind-returns-in_err-joined-2
behind-returns-in_err-joined-2 g t c = grind (arith, behind_steps)
