use Rattle.std.proofs.Common.{arith}
use Rattle.parse_query.proofs.Tables.{common_table_is}
use Rattle.parse_query.proofs.with.QueriesElementCommonTable.read.Goals as goal

pub returns-in_err-table : goal.returns-in_err-table
returns-in_err-table g c = grind (arith, common_table_is)

pub returns-in_err-columns : goal.returns-in_err-columns
returns-in_err-columns g c = grind (arith, common_table_is)

pub returns-in_err-query : goal.returns-in_err-query
returns-in_err-query g c = grind (arith, common_table_is)

pub returns : goal.returns
returns g c = grind (arith, common_table_is)
