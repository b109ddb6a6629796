use Rattle.std.proofs.Common.{arith}
use Rattle.parse_clause.proofs.Joins.{join_sides}
use Rattle.parse_clause.proofs.from.join_side.Goals as goal

pub returns-in_err-expect_any : goal.returns-in_err-expect_any
returns-in_err-expect_any c = grind (arith, join_sides)

pub returns-then-sees_any : goal.returns-then-sees_any
returns-then-sees_any c = grind (arith, join_sides)

pub returns-then-sees : goal.returns-then-sees
returns-then-sees c = grind (arith, join_sides)

pub returns : goal.returns
returns c = grind (arith, join_sides)
