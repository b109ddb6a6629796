use Rattle.sql_meaning.proofs.ValidLaws.{text_outcome-valid}
use Rattle.sql_meaning.proofs.states.states_stay_valid.Goals as goal

pub returns-clause-next : goal.returns-clause-next
returns-clause-next c = text_outcome-valid
