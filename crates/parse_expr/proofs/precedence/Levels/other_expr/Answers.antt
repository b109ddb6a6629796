use Rattle.std.proofs.Common.{arith}
use Rattle.parse_expr.proofs.Others.{other_expr_cases}
use Rattle.parse_expr.proofs.precedence.Levels.other_expr.Goals as goal

pub returns-then-sees_name : goal.returns-then-sees_name
returns-then-sees_name g c = grind (arith, other_expr_cases)

pub returns : goal.returns
returns g c = grind (arith, other_expr_cases)

pub expr-requires : goal.expr-requires
expr-requires g c = record { exprs = c.requires.exprs; queries = c.requires.queries }
