use Rattle.std.proofs.Common.{arith}
use Rattle.parse_clause.proofs.ResultSteps.{spanned_call_is}
use Rattle.parse_clause.proofs.clauses.Clauses.spanned_call.Goals as goal

pub returns-in-Err : goal.returns-in-Err
returns-in-Err g c = grind (arith, spanned_call_is)

pub returns-in-Err-tails : goal.returns-in-Err-tails
returns-in-Err-tails g c = grind (arith, spanned_call_is)

pub returns-in-Ok-tails : goal.returns-in-Ok-tails
returns-in-Ok-tails g c = grind (arith, spanned_call_is)
