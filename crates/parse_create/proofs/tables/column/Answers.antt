use Rattle.std.proofs.Common.{arith}
use Rattle.parse_create.proofs.Elements.{column_is}
use Rattle.parse_create.proofs.tables.column.Goals as goal

pub returns-in_err-name : goal.returns-in_err-name
returns-in_err-name c = grind (arith, column_is)

pub returns-in_err-type_name : goal.returns-in_err-type_name
returns-in_err-type_name c = grind (arith, column_is)

pub returns-in-Err : goal.returns-in-Err
returns-in-Err c = grind (arith, column_is)

pub returns-in-Ok : goal.returns-in-Ok
returns-in-Ok c = grind (arith, column_is)
