use Rattle.std.proofs.Common.{arith}
use Rattle.parse_expr.proofs.Straight.{null_test_is}
use Rattle.parse_expr.proofs.predicates.null_test.Goals as goal

pub returns-in_err-word : goal.returns-in_err-word
returns-in_err-word c = grind (arith, null_test_is)

pub returns : goal.returns
returns c = grind (arith, null_test_is)
