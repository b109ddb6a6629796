use Rattle.sql_meaning.proofs.EffectLaws.{full_exactly}
use Rattle.sql_meaning.proofs.states.a_table_is_full_at_the_largest_rowid.Goals as goal

pub returns : goal.returns
returns c = full_exactly
