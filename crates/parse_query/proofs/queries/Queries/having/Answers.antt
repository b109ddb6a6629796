use Rattle.std.proofs.Common.{arith}
use Rattle.parse_query.proofs.Selecting.{having_is}
use Rattle.parse_query.proofs.queries.Queries.having.Goals as goal

pub returns : goal.returns
returns g c = grind (arith, having_is)
