use Rattle.std.proofs.Common.{arith}
use Rattle.parse_clause.proofs.Expressions.{filter_by_is}
use Rattle.parse_clause.proofs.clauses.Clauses.filter_by.Goals as goal

pub returns : goal.returns
returns g c = grind (arith, filter_by_is)
