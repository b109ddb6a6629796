use Rattle.std.proofs.Common.{arith}
use Rattle.parse_cursor.proofs.Types.{signed_is}
use Rattle.parse_cursor.proofs.names_and_types.signed.Goals as goal

pub returns-in_err-sign : goal.returns-in_err-sign
returns-in_err-sign c = grind (arith, signed_is)

pub returns-in_err-number : goal.returns-in_err-number
returns-in_err-number c = grind (arith, signed_is)

pub returns : goal.returns
returns c = grind (arith, signed_is)
