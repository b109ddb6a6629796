use Rattle.std.proofs.Common.{arith}
use Rattle.parse_operand.proofs.Straight.{of_table_is}
use Rattle.parse_operand.proofs.primaries.of_table.Goals as goal

pub returns-in_err-expect : goal.returns-in_err-expect
returns-in_err-expect c = grind (arith, of_table_is)

pub returns-in_err-column : goal.returns-in_err-column
returns-in_err-column c = grind (arith, of_table_is)

pub returns : goal.returns
returns c = grind (arith, of_table_is)
