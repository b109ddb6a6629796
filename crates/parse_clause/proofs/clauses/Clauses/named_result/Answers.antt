use Rattle.std.proofs.Common.{arith}
use Rattle.parse_clause.proofs.ResultSteps.{named_result_is}
use Rattle.parse_clause.proofs.clauses.Clauses.named_result.Goals as goal

pub returns-in_err-first : goal.returns-in_err-first
returns-in_err-first g c = grind (arith, named_result_is)

pub returns : goal.returns
returns g c = grind (arith, named_result_is)
