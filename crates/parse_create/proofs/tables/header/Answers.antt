use Rattle.std.proofs.Common.{arith}
use Rattle.parse_create.proofs.Constrained.{header_is}
use Rattle.parse_create.proofs.tables.header.Goals as goal

pub returns-in_err-there : goal.returns-in_err-there
returns-in_err-there c = grind (arith, header_is)

pub returns-in_err-name : goal.returns-in_err-name
returns-in_err-name c = grind (arith, header_is)

pub returns : goal.returns
returns c = grind (arith, header_is)
