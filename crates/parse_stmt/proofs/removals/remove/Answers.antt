use Rattle.std.proofs.Common.{arith}
use Rattle.parse_stmt.proofs.Words.{remove_is}
use Rattle.parse_stmt.proofs.removals.remove.Goals as goal

pub returns-in_err-expect : goal.returns-in_err-expect
returns-in_err-expect c = grind (arith, remove_is)

pub returns-in_err-kind : goal.returns-in_err-kind
returns-in_err-kind c = grind (arith, remove_is)

pub returns-in_err-if_exists : goal.returns-in_err-if_exists
returns-in_err-if_exists c = grind (arith, remove_is)

pub returns-in_err-name : goal.returns-in_err-name
returns-in_err-name c = grind (arith, remove_is)

pub returns : goal.returns
returns c = grind (arith, remove_is)
