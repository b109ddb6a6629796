use Rattle.std.proofs.Common.{arith}
use Rattle.parse_create.proofs.Made.{create_virtual_table_is}
use Rattle.parse_create.proofs.modules.create_virtual_table.Goals as goal

pub returns-in_err-expect : goal.returns-in_err-expect
returns-in_err-expect c = grind (arith, create_virtual_table_is)

pub returns-in_err-expect-2 : goal.returns-in_err-expect-2
returns-in_err-expect-2 c = grind (arith, create_virtual_table_is)

pub returns-in_err-header : goal.returns-in_err-header
returns-in_err-header c = grind (arith, create_virtual_table_is)

pub returns-in_err-table : goal.returns-in_err-table
returns-in_err-table c = grind (arith, create_virtual_table_is)

pub returns : goal.returns
returns c = grind (arith, create_virtual_table_is)
