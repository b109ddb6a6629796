use Rattle.std.proofs.Common.{arith}
use Rattle.parse_expr.proofs.Joined.{relation_is}
use Rattle.parse_expr.proofs.precedence.Levels.relation.Goals as goal

pub operand-requires : goal.operand-requires
operand-requires g c = record { exprs = c.requires.exprs; queries = c.requires.queries; level = omega arith }

pub returns : goal.returns
returns g c = grind (arith, relation_is)
