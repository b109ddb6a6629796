use Rattle.sql_meaning.proofs.ScriptLaws.{AreOutcomes-some, AreOutcomes-meant, AreOutcomes-only}
use Rattle.sql_meaning.proofs.laws.enough_budget_leaves_the_meaning.Goals as goal

pub returns-clause-some : goal.returns-clause-some
returns-clause-some c = AreOutcomes-some

pub returns-clause-meant : goal.returns-clause-meant
returns-clause-meant c = AreOutcomes-meant

pub returns-clause-only : goal.returns-clause-only
returns-clause-only c = AreOutcomes-only
