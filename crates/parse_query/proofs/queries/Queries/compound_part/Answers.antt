use Rattle.std.proofs.Common.{arith}
use Rattle.parse_query.proofs.CompoundSteps.{compound_part_is}
use Rattle.parse_query.proofs.queries.Queries.compound_part.Goals as goal

pub returns-in_err-op : goal.returns-in_err-op
returns-in_err-op g c = grind (arith, compound_part_is)

pub returns-in-Err : goal.returns-in-Err
returns-in-Err g c = grind (arith, compound_part_is)

pub returns-in-Ok : goal.returns-in-Ok
returns-in-Ok g c = grind (arith, compound_part_is)
