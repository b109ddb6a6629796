use Rattle.std.proofs.Common.{arith}
use Rattle.parse_create.proofs.Lists.{assignments_steps, assignments_clear}
use Rattle.parse_create.proofs.writes.assignments.Goals as goal

pub list-requires-clause-clear : goal.list-requires-clause-clear
list-requires-clause-clear c = assignments_clear

pub returns : goal.returns
returns c = grind (arith, assignments_steps)
