use Rattle.std.proofs.Common.{arith}
use Rattle.parse_expr.proofs.Straight.{like_is, like_stops}
use Rattle.parse_expr.proofs.precedence.Levels.like.Goals as goal

pub relation_behind-requires : goal.relation_behind-requires
relation_behind-requires g c = record { exprs = c.requires.exprs; queries = c.requires.queries }

pub returns-in_err-pattern : goal.returns-in_err-pattern
returns-in_err-pattern g c = grind (arith, like_is)

pub escape-requires : goal.escape-requires
escape-requires g c = record { exprs = c.requires.exprs; queries = c.requires.queries }

pub returns-in-Ok : goal.returns-in-Ok
returns-in-Ok g c = grind (arith, like_is)

pub returns-in-Err : goal.returns-in-Err
returns-in-Err g c other = like_stops c.args.role c.args.left c.args.self.now.operands.depth c.args.tokens.now.counts _ c.args.tokens.now.rest.now _ _ _ _ c.in_ok-pattern.ensures (c.in-Err.ensures other)
