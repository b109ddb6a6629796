use Rattle.std.proofs.Common.{arith}
use Rattle.parse_expr.proofs.Straight.{is_test_is}
use Rattle.parse_expr.proofs.precedence.Levels.is_test.Goals as goal

pub returns-in_err-expect : goal.returns-in_err-expect
returns-in_err-expect g c = grind (arith, is_test_is)

pub returns-in_err-not : goal.returns-in_err-not
returns-in_err-not g c = grind (arith, is_test_is)

pub returns-in_err-distinct : goal.returns-in_err-distinct
returns-in_err-distinct g c = grind (arith, is_test_is)

pub returns-in_err-right : goal.returns-in_err-right
returns-in_err-right g c = grind (arith, is_test_is)

pub returns : goal.returns
returns g c = grind (arith, is_test_is)

pub relation-requires : goal.relation-requires
relation-requires g c = record { exprs = c.requires.exprs; queries = c.requires.queries }
