use Rattle.std.proofs.Common.{arith}
use Rattle.std.proofs.lemmas.Grind.{common_steps}
use Rattle.bind_stmt.proofs.built_expressions.is_aggregate.Goals as goal

pub returns-then-is_named-4 : goal.returns-then-is_named-4
returns-then-is_named-4 c = grind (arith, common_steps)

pub returns-else-is_named-4 : goal.returns-else-is_named-4
returns-else-is_named-4 c = grind (arith, common_steps)

pub returns-else-given-eq1 : goal.returns-else-given-eq1
returns-else-given-eq1 c = grind (arith, common_steps)
