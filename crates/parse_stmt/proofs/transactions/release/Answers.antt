use Rattle.std.proofs.Common.{arith}
use Rattle.parse_stmt.proofs.Transacted.{release_is}
use Rattle.parse_stmt.proofs.transactions.release.Goals as goal

pub returns-in_err-expect : goal.returns-in_err-expect
returns-in_err-expect c = grind (arith, release_is)

pub returns-in_err-name : goal.returns-in_err-name
returns-in_err-name c = grind (arith, release_is)

pub returns : goal.returns
returns c = grind (arith, release_is)
