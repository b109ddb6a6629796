use Rattle.std.proofs.Common.{arith}
use Rattle.parse_create.proofs.Pieces.{in_arguments_is}
use Rattle.parse_create.proofs.modules.in_arguments.Goals as goal

pub returns-in_err-open : goal.returns-in_err-open
returns-in_err-open c = grind (arith, in_arguments_is)

pub returns-in_err-found : goal.returns-in_err-found
returns-in_err-found c = grind (arith, in_arguments_is)

pub returns : goal.returns
returns c = grind (arith, in_arguments_is)
