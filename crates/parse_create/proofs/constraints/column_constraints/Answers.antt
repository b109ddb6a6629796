use Rattle.std.proofs.Common.{arith}
use Rattle.parse_create.proofs.Lists.{constraints_steps, constraints_clear, first_constraint}
use Rattle.parse_create.proofs.constraints.column_constraints.Goals as goal

pub several-requires-clause-clear : goal.several-requires-clause-clear
several-requires-clause-clear c = constraints_clear

pub several-requires-clause-begins : goal.several-requires-clause-begins
several-requires-clause-begins c = first_constraint

pub returns-then-sees_any : goal.returns-then-sees_any
returns-then-sees_any c = grind (arith, constraints_steps)

pub returns-else-sees_any : goal.returns-else-sees_any
returns-else-sees_any c = grind (arith, constraints_steps)
