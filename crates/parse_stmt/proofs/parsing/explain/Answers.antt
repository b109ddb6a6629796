use Rattle.std.proofs.Common.{arith}
use Rattle.parse_stmt.proofs.Ends.{explains}
use Rattle.parse_stmt.proofs.parsing.explain.Goals as goal

pub returns-in_err-expect : goal.returns-in_err-expect
returns-in_err-expect c = grind (arith, explains)

pub returns-in_err-explained : goal.returns-in_err-explained
returns-in_err-explained c = grind (arith, explains)

pub returns-in_ok-explained : goal.returns-in_ok-explained
returns-in_ok-explained c = grind (arith, explains)

pub returns-else-sees : goal.returns-else-sees
returns-else-sees c = grind (arith, explains)
