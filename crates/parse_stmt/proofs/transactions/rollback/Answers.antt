use Rattle.std.proofs.Common.{arith}
use Rattle.parse_stmt.proofs.Transacted.{rollback_is}
use Rattle.parse_stmt.proofs.transactions.rollback.Goals as goal

pub returns-in_err-expect : goal.returns-in_err-expect
returns-in_err-expect c = grind (arith, rollback_is)

pub returns-in_err-given_word : goal.returns-in_err-given_word
returns-in_err-given_word c = grind (arith, rollback_is)

pub returns-in_err-savepoint : goal.returns-in_err-savepoint
returns-in_err-savepoint c = grind (arith, rollback_is)

pub returns : goal.returns
returns c = grind (arith, rollback_is)
