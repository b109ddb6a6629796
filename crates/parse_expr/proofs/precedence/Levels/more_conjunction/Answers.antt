use Rattle.std.proofs.Common.{arith}
use Rattle.parse_expr.proofs.Smaller.{and_shorter}
use Rattle.parse_expr.proofs.Suffixed.{conjunction_steps}
use Rattle.parse_expr.proofs.precedence.Levels.more_conjunction.Goals as goal

pub loop-tokens-smaller : goal.loop-tokens-smaller
loop-tokens-smaller g c = and_shorter _ _ _ _ _ _ _ _ _ c.in_ok-expect.ensures c.in_ok-right.ensures

pub returns-in_err-expect : goal.returns-in_err-expect
returns-in_err-expect g c = grind (arith, conjunction_steps)

pub returns-in_err-right : goal.returns-in_err-right
returns-in_err-right g c = grind (arith, conjunction_steps)

pub returns-in_err-left : goal.returns-in_err-left
returns-in_err-left g c = grind (arith, conjunction_steps)

pub loop-tokens-preserved : goal.loop-tokens-preserved
loop-tokens-preserved g c = grind (arith, conjunction_steps)

pub returns : goal.returns
returns g c = grind (arith, conjunction_steps)

pub negation-requires : goal.negation-requires
negation-requires g c = record { exprs = c.requires.exprs; queries = c.requires.queries }
