use Rattle.std.proofs.Common.{arith}
use Rattle.parse_expr.proofs.Tails.{tails_steps}
use Rattle.parse_expr.proofs.precedence.Levels.tails.Goals as goal

pub returns-in_err-relation : goal.returns-in_err-relation
returns-in_err-relation g c = grind (arith, tails_steps)

pub returns-in_err-equality : goal.returns-in_err-equality
returns-in_err-equality g c = grind (arith, tails_steps)

pub returns-in_err-conjunction : goal.returns-in_err-conjunction
returns-in_err-conjunction g c = grind (arith, tails_steps)

pub returns : goal.returns
returns g c = grind (arith, tails_steps)

pub behind-requires : goal.behind-requires
behind-requires g c = record { exprs = c.requires.exprs; queries = c.requires.queries; level = omega arith }

pub tests-requires : goal.tests-requires
tests-requires g c = record { exprs = c.requires.exprs; queries = c.requires.queries }

pub more_conjunction-requires : goal.more_conjunction-requires
more_conjunction-requires g c = record { exprs = c.requires.exprs; queries = c.requires.queries }

pub more_expr-requires : goal.more_expr-requires
more_expr-requires g c = record { exprs = c.requires.exprs; queries = c.requires.queries }
