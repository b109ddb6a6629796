use Rattle.std.proofs.Common.{arith}
use Rattle.parse_cursor.proofs.Names.{given_words}
use Rattle.parse_cursor.proofs.words.given_word.Goals as goal

pub returns-in_err-expect : goal.returns-in_err-expect
returns-in_err-expect c = grind (arith, given_words)

pub returns-then-sees : goal.returns-then-sees
returns-then-sees c = grind (arith, given_words)

pub returns : goal.returns
returns c = grind (arith, given_words)
