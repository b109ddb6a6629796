use Rattle.std.proofs.Common.{arith}
use Rattle.parse_expr.proofs.Suffixed.{equality_steps, test_shorter}
use Rattle.parse_expr.proofs.precedence.Levels.tests.Goals as goal

pub loop-tokens-smaller : goal.loop-tokens-smaller
loop-tokens-smaller g c = test_shorter _ _ _ _ _ _ _ c.in_ok-left.ensures

pub returns-in_err-left : goal.returns-in_err-left
returns-in_err-left g c = grind (arith, equality_steps)

pub loop-tokens-preserved : goal.loop-tokens-preserved
loop-tokens-preserved g c = grind (arith, equality_steps)

pub returns : goal.returns
returns g c = grind (arith, equality_steps)

pub test-requires : goal.test-requires
test-requires g c = record { exprs = c.requires.exprs; queries = c.requires.queries }
