use Rattle.sql_meaning.proofs.CausedLaws.{text_outcome-named}
use Rattle.sql_meaning.proofs.laws.each_refusal_has_a_cause.Goals as goal

pub returns : goal.returns
returns c = text_outcome-named
