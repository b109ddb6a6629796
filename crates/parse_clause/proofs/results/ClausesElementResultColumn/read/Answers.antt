use Rattle.std.proofs.Common.{arith}
use Rattle.parse_clause.proofs.ResultSteps.{result_steps}
use Rattle.parse_clause.proofs.results.ClausesElementResultColumn.read.Goals as goal

pub returns-in_err-expect : goal.returns-in_err-expect
returns-in_err-expect g c = grind (arith, result_steps)

pub returns-then-sees : goal.returns-then-sees
returns-then-sees g c = grind (arith, result_steps)

pub returns-then-sees_name : goal.returns-then-sees_name
returns-then-sees_name g c = grind (arith, result_steps)

pub returns : goal.returns
returns g c = grind (arith, result_steps)
