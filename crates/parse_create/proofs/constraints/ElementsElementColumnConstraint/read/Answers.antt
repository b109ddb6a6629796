use Rattle.std.proofs.Common.{arith}
use Rattle.sql_grammar.specs.Definitions.{column_constraint}
use Rattle.parse_create.proofs.constraints.ElementsElementColumnConstraint.read.Goals as goal

pub returns-in_err-constraint_name : goal.returns-in_err-constraint_name
unfolding column_constraint
returns-in_err-constraint_name c = grind arith

pub returns : goal.returns
unfolding column_constraint
returns c = grind arith
