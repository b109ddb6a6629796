use Rattle.std.proofs.Common.{arith}
use Rattle.parse_clause.proofs.Joins.{left_word_is}
use Rattle.parse_clause.proofs.from.left_word.Goals as goal

pub returns-in_err-expect : goal.returns-in_err-expect
returns-in_err-expect c = grind (arith, left_word_is)

pub returns-in_err-given_word : goal.returns-in_err-given_word
returns-in_err-given_word c = grind (arith, left_word_is)

pub returns : goal.returns
returns c = grind (arith, left_word_is)
