use Rattle.std.proofs.Common.{arith}
use Rattle.parse_expr.proofs.Straight.{escapes}
use Rattle.parse_expr.proofs.precedence.Levels.escape.Goals as goal

pub relation_behind-requires : goal.relation_behind-requires
relation_behind-requires g c = record { exprs = c.requires.exprs; queries = c.requires.queries }

pub returns-in_err-escape : goal.returns-in_err-escape
returns-in_err-escape g c = grind (arith, escapes)

pub returns-else-sees : goal.returns-else-sees
returns-else-sees g c = grind (arith, escapes)

pub returns-in_ok-escape : goal.returns-in_ok-escape
returns-in_ok-escape g c = grind (arith, escapes)
