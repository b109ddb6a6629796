use Rattle.sql_meaning.proofs.EffectLaws.{rejects}
use Rattle.sql_meaning.proofs.states.a_false_conjunct_rejects.Goals as goal

pub returns : goal.returns
returns c = rejects
