use Rattle.std.proofs.Common.{arith}
use Rattle.parse_query.proofs.Selecting.{cores}
use Rattle.parse_query.proofs.queries.Queries.core.Goals as goal

pub returns-in-Err : goal.returns-in-Err
returns-in-Err g c = grind (arith, cores)

pub returns-in-Ok : goal.returns-in-Ok
returns-in-Ok g c = grind (arith, cores)

pub returns-in-Err-values : goal.returns-in-Err-values
returns-in-Err-values g c = grind (arith, cores)

pub returns-in-Ok-values : goal.returns-in-Ok-values
returns-in-Ok-values g c = grind (arith, cores)
