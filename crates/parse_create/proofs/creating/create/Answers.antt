use Rattle.std.proofs.Common.{arith}
use Rattle.parse_create.proofs.Made.{create_is}
use Rattle.parse_create.proofs.creating.create.Goals as goal

pub returns-in_err-expect : goal.returns-in_err-expect
returns-in_err-expect c = grind (arith, create_is)

pub returns-in-Err : goal.returns-in-Err
returns-in-Err c = grind (arith, create_is)

pub returns-in-Ok : goal.returns-in-Ok
returns-in-Ok c = grind (arith, create_is)
