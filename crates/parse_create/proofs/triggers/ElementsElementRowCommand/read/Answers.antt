use Rattle.std.proofs.Common.{arith}
use Rattle.parse_create.proofs.Triggered.{body_command_is}
use Rattle.parse_create.proofs.triggers.ElementsElementRowCommand.read.Goals as goal

pub returns-in-Err : goal.returns-in-Err
returns-in-Err c = grind (arith, body_command_is)

pub returns-in-Ok : goal.returns-in-Ok
returns-in-Ok c = grind (arith, body_command_is)
