use Rattle.std.proofs.Common.{arith}
use Rattle.parse_expr.proofs.Suffixed.{collated_steps, collation_shorter}
use Rattle.parse_expr.proofs.operators.collations.Goals as goal

pub loop-alloc-smaller : goal.loop-alloc-smaller
loop-alloc-smaller c = collation_shorter 0 _ _ _ _ _ _ (c.in_ok-left.ensures 0)

pub returns : goal.returns
returns c = grind (arith, collated_steps)

pub returns-in_err-left : goal.returns-in_err-left
returns-in_err-left c = grind (arith, collated_steps)

pub loop-alloc-preserved : goal.loop-alloc-preserved
loop-alloc-preserved c = grind (arith, collated_steps)
