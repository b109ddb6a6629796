use Rattle.std.proofs.Common.{arith}
use Rattle.parse_expr.proofs.Suffixed.{conjunction_is}
use Rattle.parse_expr.proofs.precedence.Levels.conjunction.Goals as goal

pub returns-in_err-left : goal.returns-in_err-left
returns-in_err-left g c = grind (arith, conjunction_is)

pub returns : goal.returns
returns g c = grind (arith, conjunction_is)

pub negation-requires : goal.negation-requires
negation-requires g c = record { exprs = c.requires.exprs; queries = c.requires.queries }

pub more_conjunction-requires : goal.more_conjunction-requires
more_conjunction-requires g c = record { exprs = c.requires.exprs; queries = c.requires.queries }
