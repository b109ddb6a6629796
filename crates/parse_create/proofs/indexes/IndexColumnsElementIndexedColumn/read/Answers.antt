use Rattle.std.proofs.Common.{arith}
use Rattle.parse_create.proofs.Indexed.{index_column_is}
use Rattle.parse_create.proofs.indexes.IndexColumnsElementIndexedColumn.read.Goals as goal

pub returns-in_err-name : goal.returns-in_err-name
returns-in_err-name c = grind (arith, index_column_is)

pub returns-in_err-collation : goal.returns-in_err-collation
returns-in_err-collation c = grind (arith, index_column_is)

pub returns-in_err-descending : goal.returns-in_err-descending
returns-in_err-descending c = grind (arith, index_column_is)

pub returns : goal.returns
returns c = grind (arith, index_column_is)
