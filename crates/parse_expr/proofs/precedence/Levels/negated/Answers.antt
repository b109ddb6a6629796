use Rattle.std.proofs.Common.{arith}
use Rattle.parse_expr.proofs.Straight.{negateds}
use Rattle.parse_expr.proofs.precedence.Levels.negated.Goals as goal

pub returns-in_err-test : goal.returns-in_err-test
returns-in_err-test g c = grind (arith, negateds)

pub returns-then-sees_any : goal.returns-then-sees_any
returns-then-sees_any g c = grind (arith, negateds)

pub returns-in_err-expect : goal.returns-in_err-expect
returns-in_err-expect g c = grind (arith, negateds)

pub returns : goal.returns
returns g c = grind (arith, negateds)

pub positive_test-requires : goal.positive_test-requires
positive_test-requires g c = record { exprs = c.requires.exprs; queries = c.requires.queries }
