use Rattle.std.proofs.Common.{arith}
use Rattle.parse_clause.proofs.Lists.{results_steps}
use Rattle.parse_clause.proofs.clauses.Clauses.results.Goals as goal

pub returns : goal.returns
returns g c = grind (arith, results_steps)
