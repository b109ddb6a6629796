use Rattle.std.proofs.Common.{sym, ◌∙◌}
use Rattle.sql_shell.proofs.Whole.{script_bad, script_bad_part, script_ended, script_part, script_whole}
use Rattle.sql_shell.proofs.script.run_script.Goals as goal

pub returns-in_err-course-clause-part : goal.returns-in_err-course-clause-part
returns-in_err-course-clause-part g c =
    script_part g.M.Meanings.hosts c.args.options c.args.bytes.now c.args.ending c.looked_at.result.now c.whole_characters-found.result.text.now c.whole_characters-found.result.bad c.runs_pending-runs.result c.looked_at.ensures c.whole_characters-found.ensures.text c.whole_characters-found.ensures.bad c.runs_pending-runs.ensures _ _ _ _ c.in_err-course.ensures.part

pub returns-then-has_ended-clause-ok : goal.returns-then-has_ended-clause-ok
returns-then-has_ended-clause-ok g c =
    script_ended g.M.Meanings.hosts c.args.options c.args.bytes.now c.args.ending c.looked_at.result.now c.whole_characters-found.result.text.now c.whole_characters-found.result.bad c.runs_pending-runs.result c.looked_at.ensures c.whole_characters-found.ensures.text c.whole_characters-found.ensures.bad c.runs_pending-runs.ensures _ _ _ _ c.in_ok-course.course c.in_ok-course.ensures.ran.0 (sym c.has_ended.ensures ∙ c.if-has_ended.true) c.in_ok-course.ensures.ran.1

pub returns-then-has_ended-clause-part : goal.returns-then-has_ended-clause-part
returns-then-has_ended-clause-part g c =
    script_part g.M.Meanings.hosts c.args.options c.args.bytes.now c.args.ending c.looked_at.result.now c.whole_characters-found.result.text.now c.whole_characters-found.result.bad c.runs_pending-runs.result c.looked_at.ensures c.whole_characters-found.ensures.text c.whole_characters-found.ensures.bad c.runs_pending-runs.ensures _ _ _ _ c.in_ok-course.ensures.part

pub returns-in_err-write_bad_place-in-Some-clause-part : goal.returns-in_err-write_bad_place-in-Some-clause-part
returns-in_err-write_bad_place-in-Some-clause-part g c =
    script_bad_part g.M.Meanings.hosts c.args.options c.args.bytes.now c.args.ending c.looked_at.result.now c.whole_characters-found.result.text.now c.whole_characters-found.result.bad c.runs_pending-runs.result c.looked_at.ensures c.whole_characters-found.ensures.text c.whole_characters-found.ensures.bad c.runs_pending-runs.ensures _ _ _ _ _ c.in_ok-course.course c.in_ok-course.ensures.ran.0 c.in-Some.place c.in-Some.is (sym c.has_ended.ensures ∙ c.if-has_ended.false) c.in_ok-course.ensures.ran.1 c.in_err-write_bad_place-in-Some.ensures.part

pub returns-in-None-clause-ok : goal.returns-in-None-clause-ok
returns-in-None-clause-ok g c =
    script_whole g.M.Meanings.hosts c.args.options c.args.bytes.now c.args.ending c.looked_at.result.now c.whole_characters-found.result.text.now c.whole_characters-found.result.bad c.runs_pending-runs.result c.looked_at.ensures c.whole_characters-found.ensures.text c.whole_characters-found.ensures.bad c.runs_pending-runs.ensures _ _ _ _ c.in_ok-course.course c.in_ok-course.ensures.ran.0 c.in-None.is c.in_ok-course.ensures.ran.1

pub returns-in-None-clause-part : goal.returns-in-None-clause-part
returns-in-None-clause-part g c =
    script_part g.M.Meanings.hosts c.args.options c.args.bytes.now c.args.ending c.looked_at.result.now c.whole_characters-found.result.text.now c.whole_characters-found.result.bad c.runs_pending-runs.result c.looked_at.ensures c.whole_characters-found.ensures.text c.whole_characters-found.ensures.bad c.runs_pending-runs.ensures _ _ _ _ c.in_ok-course.ensures.part

pub returns-in_ok-write_bad_place-in-Some-clause-ok : goal.returns-in_ok-write_bad_place-in-Some-clause-ok
returns-in_ok-write_bad_place-in-Some-clause-ok g c =
    script_bad g.M.Meanings.hosts c.args.options c.args.bytes.now c.args.ending c.looked_at.result.now c.whole_characters-found.result.text.now c.whole_characters-found.result.bad c.runs_pending-runs.result c.looked_at.ensures c.whole_characters-found.ensures.text c.whole_characters-found.ensures.bad c.runs_pending-runs.ensures _ _ _ _ _ c.in_ok-course.course c.in_ok-course.ensures.ran.0 c.in-Some.place c.in-Some.is (sym c.has_ended.ensures ∙ c.if-has_ended.false) c.in_ok-course.ensures.ran.1 c.in_ok-write_bad_place-in-Some.ensures.ok

pub returns-in_ok-write_bad_place-in-Some-clause-part : goal.returns-in_ok-write_bad_place-in-Some-clause-part
returns-in_ok-write_bad_place-in-Some-clause-part g c =
    script_bad_part g.M.Meanings.hosts c.args.options c.args.bytes.now c.args.ending c.looked_at.result.now c.whole_characters-found.result.text.now c.whole_characters-found.result.bad c.runs_pending-runs.result c.looked_at.ensures c.whole_characters-found.ensures.text c.whole_characters-found.ensures.bad c.runs_pending-runs.ensures _ _ _ _ _ c.in_ok-course.course c.in_ok-course.ensures.ran.0 c.in-Some.place c.in-Some.is (sym c.has_ended.ensures ∙ c.if-has_ended.false) c.in_ok-course.ensures.ran.1 c.in_ok-write_bad_place-in-Some.ensures.part
