use Rattle.std.proofs.Common.{arith}
use Rattle.parse_clause.proofs.ResultSteps.{behind_dots}
use Rattle.parse_clause.proofs.clauses.Clauses.behind_dot.Goals as goal

pub returns-in_err-expect : goal.returns-in_err-expect
returns-in_err-expect g c = grind (arith, behind_dots)

pub returns-then-sees : goal.returns-then-sees
returns-then-sees g c = grind (arith, behind_dots)

pub returns : goal.returns
returns g c = grind (arith, behind_dots)
