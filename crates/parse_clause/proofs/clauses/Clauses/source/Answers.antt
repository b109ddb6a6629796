use Rattle.std.proofs.Common.{arith}
use Rattle.parse_clause.proofs.Joins.{sources}
use Rattle.parse_clause.proofs.clauses.Clauses.source.Goals as goal

pub returns-in_err-table : goal.returns-in_err-table
returns-in_err-table g c = grind (arith, sources)

pub returns-in-Err : goal.returns-in-Err
returns-in-Err g c = grind (arith, sources)

pub returns-in-Ok : goal.returns-in-Ok
returns-in-Ok g c = grind (arith, sources)

pub returns-in-Err-in_query : goal.returns-in-Err-in_query
returns-in-Err-in_query g c = grind (arith, sources)

pub returns-in-Ok-in_query : goal.returns-in-Ok-in_query
returns-in-Ok-in_query g c = grind (arith, sources)
