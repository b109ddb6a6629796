use Rattle.std.proofs.Common.{arith}
use Rattle.parse_stmt.proofs.Transacted.{savepoint_name_is}
use Rattle.parse_stmt.proofs.transactions.savepoint_name.Goals as goal

pub returns-in_err-given_word : goal.returns-in_err-given_word
returns-in_err-given_word c = grind (arith, savepoint_name_is)

pub returns : goal.returns
returns c = grind (arith, savepoint_name_is)
