use Rattle.std.proofs.Common.{arith}
use Rattle.parse_cursor.proofs.Names.{in_names_is}
use Rattle.parse_cursor.proofs.names_and_types.in_names.Goals as goal

pub returns-in_err-open : goal.returns-in_err-open
returns-in_err-open c = grind (arith, in_names_is)

pub returns-in_err-names : goal.returns-in_err-names
returns-in_err-names c = grind (arith, in_names_is)

pub returns-in_err-expect : goal.returns-in_err-expect
returns-in_err-expect c = grind (arith, in_names_is)

pub returns : goal.returns
returns c = grind (arith, in_names_is)
