use Rattle.std.proofs.Common.{arith}
use Rattle.parse_query.proofs.Tables.{tables_steps}
use Rattle.parse_query.proofs.queries.Queries.tables.Goals as goal

pub returns-in_err-given_word : goal.returns-in_err-given_word
returns-in_err-given_word g c = grind (arith, tables_steps)

pub returns : goal.returns
returns g c = grind (arith, tables_steps)
