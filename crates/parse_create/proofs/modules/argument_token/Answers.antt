use Rattle.std.proofs.Common.{arith}
use Rattle.parse_create.proofs.Pieces.{token_steps}
use Rattle.parse_create.proofs.modules.argument_token.Goals as goal

pub returns-in_err-any_word : goal.returns-in_err-any_word
returns-in_err-any_word c = grind (arith, token_steps)

pub returns-in_err-expect_any : goal.returns-in_err-expect_any
returns-in_err-expect_any c = grind (arith, token_steps)

pub returns-in_ok-any_word : goal.returns-in_ok-any_word
returns-in_ok-any_word c = grind (arith, token_steps)

pub returns-in_ok-expect_any : goal.returns-in_ok-expect_any
returns-in_ok-expect_any c = grind (arith, token_steps)
