use Rattle.std.proofs.Common.{arith}
use Rattle.parse_clause.proofs.Expressions.{expr_after_steps}
use Rattle.parse_clause.proofs.clauses.Clauses.expr_after.Goals as goal

pub returns-then-not-sees : goal.returns-then-not-sees
returns-then-not-sees g c = grind (arith, expr_after_steps)

pub returns-in_err-expect : goal.returns-in_err-expect
returns-in_err-expect g c = grind (arith, expr_after_steps)

pub returns-in-Err : goal.returns-in-Err
returns-in-Err g c = grind (arith, expr_after_steps)

pub returns-in-Ok : goal.returns-in-Ok
returns-in-Ok g c = grind (arith, expr_after_steps)
