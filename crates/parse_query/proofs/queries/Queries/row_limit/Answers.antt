use Rattle.std.proofs.Common.{arith}
use Rattle.parse_query.proofs.OrderingSteps.{row_limit_is}
use Rattle.parse_query.proofs.queries.Queries.row_limit.Goals as goal

pub returns-in-Err : goal.returns-in-Err
returns-in-Err g c = grind (arith, row_limit_is)

pub returns-in-Err-second_limit : goal.returns-in-Err-second_limit
returns-in-Err-second_limit g c = grind (arith, row_limit_is)

pub returns-in-Ok-second_limit : goal.returns-in-Ok-second_limit
returns-in-Ok-second_limit g c = grind (arith, row_limit_is)
