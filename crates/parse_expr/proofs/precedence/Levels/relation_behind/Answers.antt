use Rattle.std.proofs.Common.{arith}
use Rattle.parse_expr.proofs.Straight.{relation_behind_is}
use Rattle.parse_expr.proofs.precedence.Levels.relation_behind.Goals as goal

pub returns-in_err-expect : goal.returns-in_err-expect
returns-in_err-expect g c = grind (arith, relation_behind_is)

pub relation-requires : goal.relation-requires
relation-requires g c = record { exprs = c.requires.exprs; queries = c.requires.queries }

pub returns : goal.returns
returns g c = grind (arith, relation_behind_is)
