use Rattle.std.proofs.Common.{arith}
use Rattle.parse_stmt.proofs.Transacted.{begin_is}
use Rattle.parse_stmt.proofs.transactions.begin.Goals as goal

pub returns-in_err-expect : goal.returns-in_err-expect
returns-in_err-expect c = grind (arith, begin_is)

pub returns-in_err-begin_word : goal.returns-in_err-begin_word
returns-in_err-begin_word c = grind (arith, begin_is)

pub returns-in_err-given_word : goal.returns-in_err-given_word
returns-in_err-given_word c = grind (arith, begin_is)

pub returns : goal.returns
returns c = grind (arith, begin_is)
