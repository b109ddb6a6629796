use Rattle.std.proofs.Common.{arith}
use Rattle.parse_clause.proofs.ResultSteps.{column_of_table_is}
use Rattle.parse_clause.proofs.clauses.Clauses.column_of_table.Goals as goal

pub returns-in_err-column : goal.returns-in_err-column
returns-in_err-column g c = grind (arith, column_of_table_is)

pub returns-in-Err : goal.returns-in-Err
returns-in-Err g c = grind (arith, column_of_table_is)

pub returns-in-Err-alias : goal.returns-in-Err-alias
returns-in-Err-alias g c = grind (arith, column_of_table_is)

pub returns-in-Ok-alias : goal.returns-in-Ok-alias
returns-in-Ok-alias g c = grind (arith, column_of_table_is)
