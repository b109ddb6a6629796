use Rattle.std.proofs.Common.{arith}
use Rattle.parse_stmt.proofs.Ends.{semicolons}
use Rattle.parse_stmt.proofs.parsing.semicolon.Goals as goal

pub returns-in_err-expect : goal.returns-in_err-expect
returns-in_err-expect c = grind (arith, semicolons)

pub returns-in_ok-expect : goal.returns-in_ok-expect
returns-in_ok-expect c = grind (arith, semicolons)

pub returns-else-sees : goal.returns-else-sees
returns-else-sees c = grind (arith, semicolons)
