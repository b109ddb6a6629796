use Rattle.std.proofs.Common.{arith}
use Rattle.parse_clause.proofs.Bracketed.{in_query_is}
use Rattle.parse_clause.proofs.clauses.Clauses.in_query.Goals as goal

pub returns-in_err-open : goal.returns-in_err-open
returns-in_err-open g c = grind (arith, in_query_is)

pub returns-in-Err : goal.returns-in-Err
returns-in-Err g c = grind (arith, in_query_is)

pub returns-in-Ok : goal.returns-in-Ok
returns-in-Ok g c = grind (arith, in_query_is)
