use Rattle.std.proofs.Common.{arith}
use Rattle.parse_expr.proofs.Clear.{test_firsts}
use Rattle.parse_expr.proofs.Straight.{tests_are}
use Rattle.parse_expr.proofs.precedence.Levels.test.Goals as goal

pub returns-then-sees_any : goal.returns-then-sees_any
returns-then-sees_any g c = grind (arith, tests_are, test_firsts)

pub returns-then-sees : goal.returns-then-sees
returns-then-sees g c = grind (arith, tests_are, test_firsts)

pub returns-then-sees_any-2 : goal.returns-then-sees_any-2
returns-then-sees_any-2 g c = grind (arith, tests_are, test_firsts)

pub returns-then-sees_any-3 : goal.returns-then-sees_any-3
returns-then-sees_any-3 g c = grind (arith, tests_are, test_firsts)

pub returns-else-sees_any-3 : goal.returns-else-sees_any-3
returns-else-sees_any-3 g c = grind (arith, tests_are, test_firsts)

pub equal_to-requires : goal.equal_to-requires
equal_to-requires g c = record { exprs = c.requires.exprs; queries = c.requires.queries }

pub is_test-requires : goal.is_test-requires
is_test-requires g c = record { exprs = c.requires.exprs; queries = c.requires.queries }

pub positive_test-requires : goal.positive_test-requires
positive_test-requires g c = record { exprs = c.requires.exprs; queries = c.requires.queries }

pub opposed-requires : goal.opposed-requires
opposed-requires g c = record { exprs = c.requires.exprs; queries = c.requires.queries }
