use Rattle.std.proofs.Common.{arith}
use Rattle.parse_stmt.proofs.Transacted.{savepoint_is}
use Rattle.parse_stmt.proofs.transactions.savepoint.Goals as goal

pub returns-in_err-expect : goal.returns-in_err-expect
returns-in_err-expect c = grind (arith, savepoint_is)

pub returns-in_err-name : goal.returns-in_err-name
returns-in_err-name c = grind (arith, savepoint_is)

pub returns : goal.returns
returns c = grind (arith, savepoint_is)
