use Rattle.std.proofs.Common.{arith}
use Rattle.sql_grammar.specs.Grammar.{equal_to}
use Rattle.parse_expr.proofs.precedence.Levels.equal_to.Goals as goal

pub returns-in_err-sign : goal.returns-in_err-sign
unfolding equal_to
returns-in_err-sign g c = grind arith

pub returns-in_err-right : goal.returns-in_err-right
unfolding equal_to
returns-in_err-right g c = grind arith

pub returns : goal.returns
unfolding equal_to
returns g c = grind arith

pub relation-requires : goal.relation-requires
relation-requires g c = record { exprs = c.requires.exprs; queries = c.requires.queries }
