use Rattle.std.proofs.Common.{arith}
use Rattle.parse_create.proofs.Triggered.{on_table_is}
use Rattle.parse_create.proofs.triggers.on_table.Goals as goal

pub returns-in_err-expect : goal.returns-in_err-expect
returns-in_err-expect c = grind (arith, on_table_is)

pub returns : goal.returns
returns c = grind (arith, on_table_is)
