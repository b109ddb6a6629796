use Rattle.std.proofs.Common.{arith}
use Rattle.parse_query.proofs.OrderingSteps.{ordering_is}
use Rattle.parse_query.proofs.queries.Queries.ordering.Goals as goal

pub returns-in-Err : goal.returns-in-Err
returns-in-Err g c = grind (arith, ordering_is)

pub returns-in-Err-limit : goal.returns-in-Err-limit
returns-in-Err-limit g c = grind (arith, ordering_is)

pub returns-in-Ok-limit : goal.returns-in-Ok-limit
returns-in-Ok-limit g c = grind (arith, ordering_is)
