use Rattle.std.proofs.Common.{arith}
use Rattle.parse_create.proofs.Made.{create_table_is}
use Rattle.parse_create.proofs.tables.create_table.Goals as goal

pub returns-in_err-expect : goal.returns-in_err-expect
returns-in_err-expect c = grind (arith, create_table_is)

pub returns-in_err-header : goal.returns-in_err-header
returns-in_err-header c = grind (arith, create_table_is)

pub returns-in-Err : goal.returns-in-Err
returns-in-Err c = grind (arith, create_table_is)

pub returns-in-Ok : goal.returns-in-Ok
returns-in-Ok c = grind (arith, create_table_is)
