use Rattle.std.proofs.Common.{arith}
use Rattle.parse_clause.proofs.Joins.{froms}
use Rattle.parse_clause.proofs.clauses.Clauses.from.Goals as goal

pub returns-then-not-sees : goal.returns-then-not-sees
returns-then-not-sees g c = grind (arith, froms)

pub returns-in_err-expect : goal.returns-in_err-expect
returns-in_err-expect g c = grind (arith, froms)

pub returns : goal.returns
returns g c = grind (arith, froms)
