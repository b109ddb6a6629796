use Rattle.sql_meaning.proofs.RefusalLaws.{text_outcome-refused}
use Rattle.sql_meaning.proofs.laws.a_refusal_keeps_the_state.Goals as goal

pub returns : goal.returns
returns c = text_outcome-refused
