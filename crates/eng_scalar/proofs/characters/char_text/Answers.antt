use Rattle.std.proofs.Common.{arith}
use Rattle.std.proofs.lemmas.Grind.{common_steps}
use Rattle.eng_scalar.proofs.CharLaws.{front_too_long}
use Rattle.eng_scalar.proofs.characters.char_text.Goals as goal

pub loop-arg-preserved : goal.loop-arg-preserved
loop-arg-preserved c = grind (arith, common_steps)

pub returns : goal.returns
returns c = grind (arith, common_steps)

pub returns-then-len-gt-MAX_VALUE_BYTES : goal.returns-then-len-gt-MAX_VALUE_BYTES
returns-then-len-gt-MAX_VALUE_BYTES c = grind (arith, common_steps, front_too_long)
