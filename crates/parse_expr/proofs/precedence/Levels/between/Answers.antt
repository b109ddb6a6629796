use Rattle.std.proofs.Common.{arith}
use Rattle.parse_expr.proofs.Straight.{between_is}
use Rattle.parse_expr.proofs.precedence.Levels.between.Goals as goal

pub relation_behind-requires : goal.relation_behind-requires
relation_behind-requires g c = record { exprs = c.requires.exprs; queries = c.requires.queries }

pub returns-in_err-low : goal.returns-in_err-low
returns-in_err-low g c = grind (arith, between_is)

pub relation_behind-requires-2 : goal.relation_behind-requires-2
relation_behind-requires-2 g c = record { exprs = c.requires.exprs; queries = c.requires.queries }

pub returns-in_err-high : goal.returns-in_err-high
returns-in_err-high g c = grind (arith, between_is)

pub returns : goal.returns
returns g c = grind (arith, between_is)
