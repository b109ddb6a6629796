use Rattle.std.proofs.Common.{arith}
use Rattle.parse_stmt.proofs.Ends.{statement_is}
use Rattle.parse_stmt.proofs.parsing.statement.Goals as goal

pub returns-in_err-explain : goal.returns-in_err-explain
returns-in_err-explain c = grind (arith, statement_is)

pub returns-in-Err : goal.returns-in-Err
returns-in-Err c = grind (arith, statement_is)

pub returns-in-Ok : goal.returns-in-Ok
returns-in-Ok c = grind (arith, statement_is)
