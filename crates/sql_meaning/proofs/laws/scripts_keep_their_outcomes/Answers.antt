use Rattle.sql_meaning.proofs.ScriptLaws.{AreOutcomes-End, AreOutcomes-TooLong}
use Rattle.sql_meaning.proofs.laws.scripts_keep_their_outcomes.Goals as goal

pub returns-clause-front : goal.returns-clause-front
returns-clause-front c = AreOutcomes-End

pub returns-clause-limit : goal.returns-clause-limit
returns-clause-limit c = AreOutcomes-TooLong
