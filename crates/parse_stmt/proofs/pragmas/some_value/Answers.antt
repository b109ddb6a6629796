use Rattle.std.proofs.Common.{arith}
use Rattle.parse_stmt.proofs.Words.{given_values}
use Rattle.parse_stmt.proofs.pragmas.some_value.Goals as goal

pub returns-in_err-pragma_value : goal.returns-in_err-pragma_value
returns-in_err-pragma_value c = grind (arith, given_values)

pub returns-in_ok-pragma_value : goal.returns-in_ok-pragma_value
returns-in_ok-pragma_value c = grind (arith, given_values)

pub returns-else-sees_any : goal.returns-else-sees_any
returns-else-sees_any c = grind (arith, given_values)
