use Rattle.std.proofs.Common.{arith}
use Rattle.parse_cursor.proofs.Types.{second_size_some, second_size_none}
use Rattle.parse_cursor.proofs.names_and_types.second_size.Goals as goal

pub returns-in_err-expect : goal.returns-in_err-expect
returns-in_err-expect c = grind (arith, second_size_some, second_size_none)

pub returns-in_err-signed : goal.returns-in_err-signed
returns-in_err-signed c = grind (arith, second_size_some, second_size_none)

pub returns-in_ok-signed : goal.returns-in_ok-signed
returns-in_ok-signed c = grind (arith, second_size_some, second_size_none)

pub returns-else-sees : goal.returns-else-sees
returns-else-sees c = grind (arith, second_size_some, second_size_none)
