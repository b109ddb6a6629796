use Rattle.std.proofs.Common.{arith}
use Rattle.parse_stmt.proofs.Transacted.{savepoints}
use Rattle.parse_stmt.proofs.transactions.to_savepoint.Goals as goal

pub returns-in_err-expect : goal.returns-in_err-expect
returns-in_err-expect c = grind (arith, savepoints)

pub returns-in_err-savepoint_name : goal.returns-in_err-savepoint_name
returns-in_err-savepoint_name c = grind (arith, savepoints)

pub returns-in_ok-savepoint_name : goal.returns-in_ok-savepoint_name
returns-in_ok-savepoint_name c = grind (arith, savepoints)

pub returns-else-sees : goal.returns-else-sees
returns-else-sees c = grind (arith, savepoints)
