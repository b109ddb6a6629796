use Rattle.std.proofs.Common.{rules, ◌∙◌}
use Rattle.sql_shell.proofs.Cuts.{faulty-bad, whole-bad, whole-text}
use Rattle.sql_shell.proofs.characters.whole_characters.Goals as goal

pub returns-in-Ok-clause-text : goal.returns-in-Ok-clause-text
returns-in-Ok-clause-text c = c.in-Ok.ensures.cases.0 ∙ whole-text c.args.bytes.now c.in-Ok.ensures.cases.1

pub returns-in-Ok-clause-bad : goal.returns-in-Ok-clause-bad
returns-in-Ok-clause-bad c = whole-bad c.args.ending c.args.bytes.now c.in-Ok.ensures.cases.1

pub returns-in-Err-clause-bad : goal.returns-in-Err-clause-bad
returns-in-Err-clause-bad c =
    let e = c.in-Err.ensures in
    faulty-bad c.args.ending c.args.bytes.now c.valid_up_to-place.result c.error_len.result c.bad_at.result c.goes_on.result (c.valid_up_to-place.ensures ∙ e.valid_len) (search rules) (search rules) c.goes_on.ensures c.bad_at.ensures
