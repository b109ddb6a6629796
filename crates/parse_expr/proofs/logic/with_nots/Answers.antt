use Rattle.std.proofs.Common.{arith}
use Rattle.parse_expr.proofs.Lists.{with_nots_last}
use Rattle.parse_expr.proofs.logic.with_nots.Goals as goal

pub loop-operand-preserved : goal.loop-operand-preserved
loop-operand-preserved c = grind (arith, with_nots_last)

pub returns-clause-tree : goal.returns-clause-tree
returns-clause-tree c = grind arith
