use Rattle.std.proofs.Common.{arith}
use Rattle.parse_expr.proofs.Lists.{with_signs_last}
use Rattle.parse_expr.proofs.operators.with_signs.Goals as goal

pub loop-sign-preserved : goal.loop-sign-preserved
loop-sign-preserved c = grind (arith, with_signs_last)

pub returns-clause-tree : goal.returns-clause-tree
returns-clause-tree c = grind arith
