use Rattle.std.proofs.Common.{arith}
use Rattle.parse_query.proofs.Tables.{common_tables_steps}
use Rattle.parse_query.proofs.queries.Queries.common_tables.Goals as goal

pub returns-then-not-sees : goal.returns-then-not-sees
returns-then-not-sees g c = grind (arith, common_tables_steps)

pub returns-in_err-expect : goal.returns-in_err-expect
returns-in_err-expect g c = grind (arith, common_tables_steps)

pub returns : goal.returns
returns g c = grind (arith, common_tables_steps)
