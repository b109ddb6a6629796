use Rattle.std.proofs.Common.{arith}
use Rattle.parse_create.proofs.Pieces.{module_argument_is}
use Rattle.parse_create.proofs.modules.ElementsElementOptionSpan.read.Goals as goal

pub returns-in_err-argument_pieces : goal.returns-in_err-argument_pieces
returns-in_err-argument_pieces c = grind (arith, module_argument_is)

pub returns : goal.returns
returns c = grind (arith, module_argument_is)
