use Rattle.std.proofs.Common.{arith}
use Rattle.parse_cursor.proofs.Types.{sign_steps}
use Rattle.parse_cursor.proofs.names_and_types.sign.Goals as goal

pub returns-in_err-expect_any : goal.returns-in_err-expect_any
returns-in_err-expect_any c = grind (arith, sign_steps)

pub returns-in_ok-expect_any : goal.returns-in_ok-expect_any
returns-in_ok-expect_any c = grind (arith, sign_steps)

pub returns-else-sees_any : goal.returns-else-sees_any
returns-else-sees_any c = grind (arith, sign_steps)
