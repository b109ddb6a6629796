use Rattle.std.proofs.Common.{arith}
use Rattle.parse_create.proofs.Pieces.{using_module_is}
use Rattle.parse_create.proofs.modules.using_module.Goals as goal

pub returns-in_err-expect : goal.returns-in_err-expect
returns-in_err-expect c = grind (arith, using_module_is)

pub returns-in_err-module_name : goal.returns-in_err-module_name
returns-in_err-module_name c = grind (arith, using_module_is)

pub returns-in_err-arguments : goal.returns-in_err-arguments
returns-in_err-arguments c = grind (arith, using_module_is)

pub returns : goal.returns
returns c = grind (arith, using_module_is)
