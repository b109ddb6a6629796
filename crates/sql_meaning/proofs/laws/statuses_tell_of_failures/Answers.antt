use Rattle.sql_meaning.proofs.ScriptLaws.{status_by-one, status_by-zero, status_by-three, status_by-five}
use Rattle.sql_meaning.proofs.laws.statuses_tell_of_failures.Goals as goal

pub returns-clause-failed : goal.returns-clause-failed
returns-clause-failed c = status_by-one

pub returns-clause-passed : goal.returns-clause-passed
returns-clause-passed c = status_by-zero

pub returns-clause-read_fault : goal.returns-clause-read_fault
returns-clause-read_fault c = status_by-three

pub returns-clause-too_long : goal.returns-clause-too_long
returns-clause-too_long c = status_by-five
