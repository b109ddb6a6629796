use Rattle.eng_scalar.proofs.SpellingLaws.{replaced-quotes}
use Rattle.eng_scalar.proofs.spelling.doubled.Goals as goal

pub returns : goal.returns
returns c = rw (replaced-quotes c.args.text.now) at c.replace.ensures
