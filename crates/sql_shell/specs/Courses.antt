-- How the run of a script went, and its exit status.
use Rattle.std.specs.Prelude.{ℕ, Bool, true, false, if◌then◌else◌}
use Rattle.sql_meaning.specs.declared.script.Ending.{Ending}
use Rattle.sql_meaning.specs.Script.{status_of}
use Rattle.sql_shell.specs.declared.course.Course.{Course}
use Rattle.sql_shell.specs.declared.course.Course.TheVariants.{Passed, Failed, Ended}

abbrev pub at_end : Bool → Course
at_end failed = if failed then Failed else Passed

-- some part has an error line
abbrev pub failed_in : Course → Bool
failed_in Passed = false
failed_in Failed = true
failed_in Ended = true

abbrev pub ended_in : Course → Bool
ended_in Passed = false
ended_in Failed = false
ended_in Ended = true

abbrev pub status_in : Ending → Course → ℕ
status_in ending Passed = status_of ending false
status_in ending Failed = status_of ending true
status_in ending Ended = 1
