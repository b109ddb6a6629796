use Rattle.std.proofs.Common.{sym, ◌∙◌}
use Rattle.eng_cursor.proofs.PlaceLaws.{sought_from_gap, sought_from_key}
use Rattle.eng_cursor.proofs.cursor.Cursor.seek.Goals as goal

pub returns-in-Ok-clause-place : goal.returns-in-Ok-clause-place
returns-in-Ok-clause-place c =
    c.seek_from_key.ensures.place ∙ sym (sought_from_key c.args.how c.args.key.now c.args.t.now.pairs c.in-Ok.at c.place.ensures.order c.in-Ok.ensures.place)

pub returns-in-Err-clause-place : goal.returns-in-Err-clause-place
returns-in-Err-clause-place c =
    c.seek_from_gap.ensures.place ∙ sym (sought_from_gap c.args.how c.args.key.now c.args.t.now.pairs c.in-Err.at c.place.ensures.order c.in-Err.ensures.place)
