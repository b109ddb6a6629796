use Rattle.std.proofs.Common.{arith}
use Rattle.parse_create.proofs.Bracketed.{in_columns_is}
use Rattle.parse_create.proofs.tables.in_columns.Goals as goal

pub returns-in_err-open : goal.returns-in_err-open
returns-in_err-open c = grind (arith, in_columns_is)

pub returns-in-Err : goal.returns-in-Err
returns-in-Err c = grind (arith, in_columns_is)

pub returns-in-Ok : goal.returns-in-Ok
returns-in-Ok c = grind (arith, in_columns_is)
