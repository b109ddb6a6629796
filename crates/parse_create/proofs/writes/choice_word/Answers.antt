use Rattle.std.proofs.Common.{arith}
use Rattle.parse_create.proofs.Straight.{choice_words}
use Rattle.parse_create.proofs.writes.choice_word.Goals as goal

pub returns-in_err-expect : goal.returns-in_err-expect
returns-in_err-expect c = grind (arith, choice_words)

pub returns-then-sees : goal.returns-then-sees
returns-then-sees c = grind (arith, choice_words)

pub returns-in_err-expect-2 : goal.returns-in_err-expect-2
returns-in_err-expect-2 c = grind (arith, choice_words)

pub returns-then-sees-2 : goal.returns-then-sees-2
returns-then-sees-2 c = grind (arith, choice_words)

pub returns-in_err-expect-3 : goal.returns-in_err-expect-3
returns-in_err-expect-3 c = grind (arith, choice_words)

pub returns : goal.returns
returns c = grind (arith, choice_words)
