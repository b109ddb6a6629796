use Rattle.std.proofs.Common.{arith}
use Rattle.parse_expr.proofs.Straight.{collation_is}
use Rattle.parse_expr.proofs.operators.collation.Goals as goal

pub returns-in_err-expect : goal.returns-in_err-expect
returns-in_err-expect c = grind (arith, collation_is)

pub returns-in_err-by : goal.returns-in_err-by
returns-in_err-by c = grind (arith, collation_is)

pub returns : goal.returns
returns c = grind (arith, collation_is)
