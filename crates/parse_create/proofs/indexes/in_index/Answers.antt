use Rattle.std.proofs.Common.{arith}
use Rattle.parse_create.proofs.Bracketed.{in_index_steps}
use Rattle.parse_create.proofs.Lists.{index_columns_clear}
use Rattle.parse_create.proofs.indexes.in_index.Goals as goal

pub returns-in_err-open : goal.returns-in_err-open
returns-in_err-open c = grind (arith, in_index_steps)

pub list-requires-clause-clear : goal.list-requires-clause-clear
list-requires-clause-clear c = index_columns_clear

pub returns-in_err-columns : goal.returns-in_err-columns
returns-in_err-columns c = grind (arith, in_index_steps)

pub returns : goal.returns
returns c = grind (arith, in_index_steps)
