use Rattle.std.proofs.Common.{arith}
use Rattle.parse_clause.proofs.Joins.{join_words_is}
use Rattle.parse_clause.proofs.from.join_words.Goals as goal

pub returns-in_err-natural : goal.returns-in_err-natural
returns-in_err-natural c = grind (arith, join_words_is)

pub returns-in_err-left : goal.returns-in_err-left
returns-in_err-left c = grind (arith, join_words_is)

pub returns-in_err-expect : goal.returns-in_err-expect
returns-in_err-expect c = grind (arith, join_words_is)

pub returns : goal.returns
returns c = grind (arith, join_words_is)
