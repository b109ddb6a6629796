use Rattle.std.proofs.Common.{arith}
use Rattle.parse_query.proofs.Selecting.{one_row_is}
use Rattle.parse_query.proofs.select.QueriesElementItemsExpr.read.Goals as goal

pub returns-in_err-open : goal.returns-in_err-open
returns-in_err-open g c = grind (arith, one_row_is)

pub returns-in-Err : goal.returns-in-Err
returns-in-Err g c = grind (arith, one_row_is)

pub returns-in-Ok : goal.returns-in-Ok
returns-in-Ok g c = grind (arith, one_row_is)
