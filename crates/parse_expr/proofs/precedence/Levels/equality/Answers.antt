use Rattle.std.proofs.Common.{arith}
use Rattle.parse_expr.proofs.Suffixed.{equality_is}
use Rattle.parse_expr.proofs.precedence.Levels.equality.Goals as goal

pub returns-in_err-left : goal.returns-in_err-left
returns-in_err-left g c = grind (arith, equality_is)

pub returns : goal.returns
returns g c = grind (arith, equality_is)

pub relation-requires : goal.relation-requires
relation-requires g c = record { exprs = c.requires.exprs; queries = c.requires.queries }

pub tests-requires : goal.tests-requires
tests-requires g c = record { exprs = c.requires.exprs; queries = c.requires.queries }
