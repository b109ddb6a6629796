use Rattle.std.proofs.Common.{arith}
use Rattle.parse_expr.proofs.Suffixed.{expr_is}
use Rattle.parse_expr.proofs.precedence.Levels.expr.Goals as goal

pub returns-in_err-left : goal.returns-in_err-left
returns-in_err-left g c = grind (arith, expr_is)

pub returns : goal.returns
returns g c = grind (arith, expr_is)

pub conjunction-requires : goal.conjunction-requires
conjunction-requires g c = record { exprs = c.requires.exprs; queries = c.requires.queries }

pub more_expr-requires : goal.more_expr-requires
more_expr-requires g c = record { exprs = c.requires.exprs; queries = c.requires.queries }
