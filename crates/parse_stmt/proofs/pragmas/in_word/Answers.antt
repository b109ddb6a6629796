use Rattle.std.proofs.Common.{arith}
use Rattle.parse_stmt.proofs.Words.{in_word_is}
use Rattle.parse_stmt.proofs.pragmas.in_word.Goals as goal

pub returns-in_err-open : goal.returns-in_err-open
returns-in_err-open c = grind (arith, in_word_is)

pub returns-in_err-word : goal.returns-in_err-word
returns-in_err-word c = grind (arith, in_word_is)

pub returns : goal.returns
returns c = grind (arith, in_word_is)
