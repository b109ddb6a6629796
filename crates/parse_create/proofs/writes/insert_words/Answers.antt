use Rattle.std.proofs.Common.{arith}
use Rattle.parse_create.proofs.Straight.{inserting_words}
use Rattle.parse_create.proofs.writes.insert_words.Goals as goal

pub returns-in_err-expect : goal.returns-in_err-expect
returns-in_err-expect c = grind (arith, inserting_words)

pub returns-then-sees : goal.returns-then-sees
returns-then-sees c = grind (arith, inserting_words)

pub returns-in_err-expect-2 : goal.returns-in_err-expect-2
returns-in_err-expect-2 c = grind (arith, inserting_words)

pub returns : goal.returns
returns c = grind (arith, inserting_words)
