use Rattle.std.proofs.Common.{arith}
use Rattle.parse_create.proofs.Constrained.{column_key_is}
use Rattle.parse_create.proofs.constraints.column_key.Goals as goal

pub returns-in_err-primary_key : goal.returns-in_err-primary_key
returns-in_err-primary_key c = grind (arith, column_key_is)

pub returns-in_err-given_word : goal.returns-in_err-given_word
returns-in_err-given_word c = grind (arith, column_key_is)

pub returns : goal.returns
returns c = grind (arith, column_key_is)
