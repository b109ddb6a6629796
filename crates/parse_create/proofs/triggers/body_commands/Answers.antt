use Rattle.std.proofs.Common.{arith}
use Rattle.parse_create.proofs.Lists.{commands_steps, commands_clear, first_command}
use Rattle.parse_create.proofs.triggers.body_commands.Goals as goal

pub several-requires-clause-clear : goal.several-requires-clause-clear
several-requires-clause-clear c = commands_clear

pub several-requires-clause-begins : goal.several-requires-clause-begins
several-requires-clause-begins c = first_command

pub returns : goal.returns
returns c = grind (arith, commands_steps)
