use Rattle.std.proofs.Common.{arith}
use Rattle.parse_create.proofs.Constrained.{primary_key_is}
use Rattle.parse_create.proofs.constraints.primary_key.Goals as goal

pub returns-in_err-expect : goal.returns-in_err-expect
returns-in_err-expect c = grind (arith, primary_key_is)

pub returns : goal.returns
returns c = grind (arith, primary_key_is)
