use Rattle.std.proofs.Common.{arith}
use Rattle.parse_expr.proofs.Straight.{opposed_is}
use Rattle.parse_expr.proofs.precedence.Levels.opposed.Goals as goal

pub returns-in_err-expect : goal.returns-in_err-expect
returns-in_err-expect g c = grind (arith, opposed_is)

pub returns : goal.returns
returns g c = grind (arith, opposed_is)

pub negated-requires : goal.negated-requires
negated-requires g c = record { exprs = c.requires.exprs; queries = c.requires.queries }
