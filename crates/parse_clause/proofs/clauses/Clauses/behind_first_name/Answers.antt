use Rattle.std.proofs.Common.{arith}
use Rattle.parse_clause.proofs.ResultSteps.{behind_first_names}
use Rattle.parse_clause.proofs.clauses.Clauses.behind_first_name.Goals as goal

pub returns-in_err-expect : goal.returns-in_err-expect
returns-in_err-expect g c = grind (arith, behind_first_names)

pub returns-then-sees : goal.returns-then-sees
returns-then-sees g c = grind (arith, behind_first_names)

pub returns-in-Err : goal.returns-in-Err
returns-in-Err g c = grind (arith, behind_first_names)

pub returns-in-Err-alias : goal.returns-in-Err-alias
returns-in-Err-alias g c = grind (arith, behind_first_names)

pub returns-in-Ok-alias : goal.returns-in-Ok-alias
returns-in-Ok-alias g c = grind (arith, behind_first_names)

pub returns-in-Err-spanned_tails : goal.returns-in-Err-spanned_tails
returns-in-Err-spanned_tails g c = grind (arith, behind_first_names)

pub returns-in-Err-alias-2 : goal.returns-in-Err-alias-2
returns-in-Err-alias-2 g c = grind (arith, behind_first_names)

pub returns-in-Ok-alias-2 : goal.returns-in-Ok-alias-2
returns-in-Ok-alias-2 g c = grind (arith, behind_first_names)
