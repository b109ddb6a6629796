use Rattle.std.proofs.Common.{arith}
use Rattle.parse_create.proofs.Constrained.{not_null_is}
use Rattle.parse_create.proofs.constraints.not_null.Goals as goal

pub returns-in_err-expect : goal.returns-in_err-expect
returns-in_err-expect c = grind (arith, not_null_is)

pub returns-in_err-expect-2 : goal.returns-in_err-expect-2
returns-in_err-expect-2 c = grind (arith, not_null_is)

pub returns : goal.returns
returns c = grind (arith, not_null_is)
