use Rattle.std.proofs.Common.{arith}
use Rattle.parse_operand.proofs.Inside.{arguments_steps}
use Rattle.parse_operand.proofs.operands.Operands.inside_arguments.Goals as goal

pub returns-then-sees_arguments : goal.returns-then-sees_arguments
returns-then-sees_arguments g c = grind (arith, arguments_steps)

pub returns-else-sees_arguments : goal.returns-else-sees_arguments
returns-else-sees_arguments g c = grind (arith, arguments_steps)

pub some_arguments-requires : goal.some_arguments-requires
some_arguments-requires g c = record { exprs = c.requires.exprs; «open» = c.requires.«open» }
