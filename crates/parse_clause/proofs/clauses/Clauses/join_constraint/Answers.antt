use Rattle.std.proofs.Common.{arith}
use Rattle.parse_clause.proofs.Joins.{join_constraints}
use Rattle.parse_clause.proofs.clauses.Clauses.join_constraint.Goals as goal

pub returns-in_err-expect : goal.returns-in_err-expect
returns-in_err-expect g c = grind (arith, join_constraints)

pub returns-in-Err : goal.returns-in-Err
returns-in-Err g c = grind (arith, join_constraints)

pub returns-in-Ok : goal.returns-in-Ok
returns-in-Ok g c = grind (arith, join_constraints)

pub returns-in_err-expect-2 : goal.returns-in_err-expect-2
returns-in_err-expect-2 g c = grind (arith, join_constraints)

pub returns-in_err-in_names : goal.returns-in_err-in_names
returns-in_err-in_names g c = grind (arith, join_constraints)

pub returns-then-sees-2 : goal.returns-then-sees-2
returns-then-sees-2 g c = grind (arith, join_constraints)

pub returns : goal.returns
returns g c = grind (arith, join_constraints)
