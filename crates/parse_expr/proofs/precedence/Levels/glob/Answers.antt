use Rattle.std.proofs.Common.{arith}
use Rattle.parse_expr.proofs.Straight.{glob_is}
use Rattle.parse_expr.proofs.precedence.Levels.glob.Goals as goal

pub relation_behind-requires : goal.relation_behind-requires
relation_behind-requires g c = record { exprs = c.requires.exprs; queries = c.requires.queries }

pub returns-in_err-pattern : goal.returns-in_err-pattern
returns-in_err-pattern g c = grind (arith, glob_is)

pub returns : goal.returns
returns g c = grind (arith, glob_is)
