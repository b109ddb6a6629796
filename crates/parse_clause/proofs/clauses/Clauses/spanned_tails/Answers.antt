use Rattle.std.proofs.Common.{arith}
use Rattle.parse_clause.proofs.ResultSteps.{spanned_tails_is}
use Rattle.parse_clause.proofs.clauses.Clauses.spanned_tails.Goals as goal

pub returns-in_err-operand : goal.returns-in_err-operand
returns-in_err-operand g c = grind (arith, spanned_tails_is)

pub returns-in-Err : goal.returns-in-Err
returns-in-Err g c = grind (arith, spanned_tails_is)

pub returns-in-Ok : goal.returns-in-Ok
returns-in-Ok g c = grind (arith, spanned_tails_is)
