use Rattle.sql_meaning.proofs.RowLaws.{fitted-keeps}
use Rattle.sql_meaning.proofs.states.tests_change_nothing.Goals as goal

pub returns : goal.returns
returns c = fitted-keeps
