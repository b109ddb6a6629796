use Rattle.std.proofs.Common.{arith}
use Rattle.parse_expr.proofs.Clear.{positive_test_firsts}
use Rattle.sql_grammar.specs.Grammar.{positive_test}
use Rattle.parse_expr.proofs.precedence.Levels.positive_test.Goals as goal

pub returns-then-sees : goal.returns-then-sees
unfolding positive_test
returns-then-sees g c = grind (arith, positive_test_firsts)

pub returns-then-sees-2 : goal.returns-then-sees-2
unfolding positive_test
returns-then-sees-2 g c = grind (arith, positive_test_firsts)

pub returns-then-sees-3 : goal.returns-then-sees-3
unfolding positive_test
returns-then-sees-3 g c = grind (arith, positive_test_firsts)

pub returns-else-sees-3 : goal.returns-else-sees-3
unfolding positive_test
returns-else-sees-3 g c = grind (arith, positive_test_firsts)

pub between-requires : goal.between-requires
between-requires g c = record { exprs = c.requires.exprs; queries = c.requires.queries }

pub like-requires : goal.like-requires
like-requires g c = record { exprs = c.requires.exprs; queries = c.requires.queries }

pub glob-requires : goal.glob-requires
glob-requires g c = record { exprs = c.requires.exprs; queries = c.requires.queries }

pub member_of-requires : goal.member_of-requires
member_of-requires g c = record { exprs = c.requires.exprs; queries = c.requires.queries }
