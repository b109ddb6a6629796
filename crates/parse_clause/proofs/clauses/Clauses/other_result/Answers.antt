use Rattle.std.proofs.Common.{arith}
use Rattle.parse_clause.proofs.ResultSteps.{other_result_is}
use Rattle.parse_clause.proofs.clauses.Clauses.other_result.Goals as goal

pub returns-in-Err : goal.returns-in-Err
returns-in-Err g c = grind (arith, other_result_is)

pub returns-in_err-alias : goal.returns-in_err-alias
returns-in_err-alias g c = grind (arith, other_result_is)

pub returns : goal.returns
returns g c = grind (arith, other_result_is)
