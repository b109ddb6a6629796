use Rattle.std.proofs.Common.{arith}
use Rattle.sql_grammar.specs.Definitions.{table_constraint}
use Rattle.parse_create.proofs.tables.table_constraint.Goals as goal

pub returns-in_err-constraint_name : goal.returns-in_err-constraint_name
unfolding table_constraint
returns-in_err-constraint_name c = grind arith

pub returns : goal.returns
unfolding table_constraint
returns c = grind arith
