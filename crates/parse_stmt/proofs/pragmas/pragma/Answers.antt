use Rattle.std.proofs.Common.{arith}
use Rattle.parse_stmt.proofs.Words.{pragma_is}
use Rattle.parse_stmt.proofs.pragmas.pragma.Goals as goal

pub returns-in_err-expect : goal.returns-in_err-expect
returns-in_err-expect c = grind (arith, pragma_is)

pub returns-in_err-name : goal.returns-in_err-name
returns-in_err-name c = grind (arith, pragma_is)

pub returns-in_err-value : goal.returns-in_err-value
returns-in_err-value c = grind (arith, pragma_is)

pub returns : goal.returns
returns c = grind (arith, pragma_is)
