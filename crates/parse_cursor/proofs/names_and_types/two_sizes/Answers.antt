use Rattle.std.proofs.Common.{arith}
use Rattle.parse_cursor.proofs.Types.{two_sizes_is}
use Rattle.parse_cursor.proofs.names_and_types.two_sizes.Goals as goal

pub returns-in_err-first : goal.returns-in_err-first
returns-in_err-first c = grind (arith, two_sizes_is)

pub returns-in_err-second : goal.returns-in_err-second
returns-in_err-second c = grind (arith, two_sizes_is)

pub returns-in_err-one_or_two : goal.returns-in_err-one_or_two
returns-in_err-one_or_two c = grind (arith, two_sizes_is)

pub returns : goal.returns
returns c = grind (arith, two_sizes_is)
