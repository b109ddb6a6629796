use Rattle.std.proofs.Common.{arith}
use Rattle.parse_stmt.proofs.Transacted.{commit_is}
use Rattle.parse_stmt.proofs.transactions.commit.Goals as goal

pub returns-in_err-expect_any : goal.returns-in_err-expect_any
returns-in_err-expect_any c = grind (arith, commit_is)

pub returns-in_err-given_word : goal.returns-in_err-given_word
returns-in_err-given_word c = grind (arith, commit_is)

pub returns : goal.returns
returns c = grind (arith, commit_is)
