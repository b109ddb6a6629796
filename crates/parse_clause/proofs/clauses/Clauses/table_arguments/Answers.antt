use Rattle.std.proofs.Common.{arith}
use Rattle.parse_clause.proofs.Bracketed.{maybe_table_arguments_steps}
use Rattle.parse_clause.proofs.clauses.Clauses.table_arguments.Goals as goal

pub returns-then-not-sees : goal.returns-then-not-sees
returns-then-not-sees g c = grind (arith, maybe_table_arguments_steps)

pub returns-in_err-open : goal.returns-in_err-open
returns-in_err-open g c = grind (arith, maybe_table_arguments_steps)

pub returns-in-Err : goal.returns-in-Err
returns-in-Err g c = grind (arith, maybe_table_arguments_steps)

pub returns-in-Ok : goal.returns-in-Ok
returns-in-Ok g c = grind (arith, maybe_table_arguments_steps)
