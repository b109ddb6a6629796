use Rattle.std.proofs.Common.{arith}
use Rattle.parse_create.proofs.Indexed.{indexed_is}
use Rattle.parse_create.proofs.indexes.indexed.Goals as goal

pub returns-in_err-expect : goal.returns-in_err-expect
returns-in_err-expect c = grind (arith, indexed_is)

pub returns-in_err-table : goal.returns-in_err-table
returns-in_err-table c = grind (arith, indexed_is)

pub returns-in_err-columns : goal.returns-in_err-columns
returns-in_err-columns c = grind (arith, indexed_is)

pub returns : goal.returns
returns c = grind (arith, indexed_is)
