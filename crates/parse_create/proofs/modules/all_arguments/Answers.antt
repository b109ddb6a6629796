use Rattle.std.proofs.Common.{arith}
use Rattle.parse_create.proofs.Lists.{arguments_clear}
use Rattle.parse_create.proofs.Pieces.{all_arguments_steps}
use Rattle.parse_create.proofs.modules.all_arguments.Goals as goal

pub list-requires-clause-clear : goal.list-requires-clause-clear
list-requires-clause-clear c = arguments_clear

pub returns-in_err-found : goal.returns-in_err-found
returns-in_err-found c = grind (arith, all_arguments_steps)

pub returns : goal.returns
returns c = grind (arith, all_arguments_steps)
