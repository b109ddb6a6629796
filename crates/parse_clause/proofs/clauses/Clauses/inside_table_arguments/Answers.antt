use Rattle.std.proofs.Common.{arith}
use Rattle.parse_clause.proofs.Bracketed.{inside_table_arguments_steps}
use Rattle.parse_clause.proofs.clauses.Clauses.inside_table_arguments.Goals as goal

pub returns-then-sees_expr : goal.returns-then-sees_expr
returns-then-sees_expr g c = grind (arith, inside_table_arguments_steps)

pub returns : goal.returns
returns g c = grind (arith, inside_table_arguments_steps)
