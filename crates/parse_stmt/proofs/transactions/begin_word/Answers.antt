use Rattle.std.proofs.Common.{arith}
use Rattle.parse_stmt.proofs.Transacted.{begin_words}
use Rattle.parse_stmt.proofs.transactions.begin_word.Goals as goal

pub returns-in_err-expect_any : goal.returns-in_err-expect_any
returns-in_err-expect_any c = grind (arith, begin_words)

pub returns-in_ok-expect_any : goal.returns-in_ok-expect_any
returns-in_ok-expect_any c = grind (arith, begin_words)

pub returns-else-there : goal.returns-else-there
returns-else-there c = grind (arith, begin_words)
