use Rattle.std.proofs.Common.{arith}
use Rattle.parse_create.proofs.Constrained.{collate_is}
use Rattle.parse_create.proofs.constraints.collate.Goals as goal

pub returns-in_err-expect : goal.returns-in_err-expect
returns-in_err-expect c = grind (arith, collate_is)

pub returns : goal.returns
returns c = grind (arith, collate_is)
