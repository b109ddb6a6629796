use Rattle.std.proofs.Common.{arith}
use Rattle.parse_cursor.proofs.Types.{type_name_is}
use Rattle.parse_cursor.proofs.names_and_types.type_name.Goals as goal

pub returns-in_err-words : goal.returns-in_err-words
returns-in_err-words c = grind (arith, type_name_is)

pub returns-in_err-sizes : goal.returns-in_err-sizes
returns-in_err-sizes c = grind (arith, type_name_is)

pub returns : goal.returns
returns c = grind (arith, type_name_is)
