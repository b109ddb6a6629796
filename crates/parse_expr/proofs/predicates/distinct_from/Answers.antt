use Rattle.std.proofs.Common.{arith}
use Rattle.parse_expr.proofs.Straight.{distinct_froms}
use Rattle.parse_expr.proofs.predicates.distinct_from.Goals as goal

pub returns-in_err-expect : goal.returns-in_err-expect
returns-in_err-expect c = grind (arith, distinct_froms)

pub returns-in_err-expect-2 : goal.returns-in_err-expect-2
returns-in_err-expect-2 c = grind (arith, distinct_froms)

pub returns-in_ok-expect-2 : goal.returns-in_ok-expect-2
returns-in_ok-expect-2 c = grind (arith, distinct_froms)

pub returns-else-sees : goal.returns-else-sees
returns-else-sees c = grind (arith, distinct_froms)
