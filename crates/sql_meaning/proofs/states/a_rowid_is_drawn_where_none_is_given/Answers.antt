use Rattle.sql_meaning.proofs.EffectLaws.{drawn-is}
use Rattle.sql_meaning.proofs.RowLaws.{rowid-given}
use Rattle.sql_meaning.proofs.states.a_rowid_is_drawn_where_none_is_given.Goals as goal

pub returns-clause-drawn : goal.returns-clause-drawn
returns-clause-drawn c = drawn-is

pub returns-clause-given : goal.returns-clause-given
returns-clause-given c = rowid-given
