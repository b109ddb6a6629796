use Rattle.std.proofs.Common.{arith}
use Rattle.parse_create.proofs.Constrained.{key_column_is}
use Rattle.parse_create.proofs.tables.KeyColumnsElementIndexedColumn.read.Goals as goal

pub returns-in_err-name : goal.returns-in_err-name
returns-in_err-name c = grind (arith, key_column_is)

pub returns-in_err-collation : goal.returns-in_err-collation
returns-in_err-collation c = grind (arith, key_column_is)

pub returns-in_err-given_word : goal.returns-in_err-given_word
returns-in_err-given_word c = grind (arith, key_column_is)

pub returns : goal.returns
returns c = grind (arith, key_column_is)
