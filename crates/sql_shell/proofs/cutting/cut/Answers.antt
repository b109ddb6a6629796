use Rattle.std.proofs.Common.{[], ◌∙◌, sym, ap, arith}
use Rattle.std.specs.Prelude.{if◌then◌else◌}
use Rattle.sql_meaning.specs.Parts.{part_of}
use Rattle.sql_shell.proofs.Cuts.{cut_blank, cut_ended, cut_pending, some_length}
use Rattle.sql_shell.proofs.cutting.cut.Goals as goal

pub returns-then-blank-gt0-clause-parts : goal.returns-then-blank-gt0-clause-parts
returns-then-blank-gt0-clause-parts c =
    let e = c.cut_behind.ensures in
    cut_blank c.args.pending_runs c.args.is_fresh c.args.is_fresh c.args.text.now _ _ _ c.requires.some c.blank_width-blank.result c.blank_width-blank.ensures.width c.if-blank-gt0.true c.blank_width-blank.ensures.within e.part e.rest e.fresh

pub returns-in-Some-clause-parts : goal.returns-in-Some-clause-parts
returns-in-Some-clause-parts c =
    let e = c.cut_behind-in-Some.ensures in
    cut_ended c.args.pending_runs c.args.is_fresh c.begins_dot_line-is_line.result c.args.text.now _ _ _ c.requires.some c.begins_dot_line-is_line.ensures (omega (arith, c.blank_width-blank.ensures.width, c.if-blank-gt0.false))
    c.in-Some.end c.in-Some.ensures.end c.in-Some.ensures.within (e.part ∙ (c.part_of.ensures ∙ ap (part_of c.begins_dot_line-is_line.result) c.split_at.ensures.front)) e.rest e.fresh

pub returns-in-None-clause-parts : goal.returns-in-None-clause-parts
returns-in-None-clause-parts c =
    let e = c.cut_behind-in-None.ensures in
    cut_pending c.args.pending_runs c.args.is_fresh c.begins_dot_line-is_line.result c.args.text.now _ _ _ c.requires.some c.begins_dot_line-is_line.ensures (omega (arith, c.blank_width-blank.ensures.width, c.if-blank-gt0.false))
    c.in-None.ensures.end (some_length c.args.text.now c.requires.some) (e.part ∙ (c.part_of-in-None.ensures ∙ ap (λ r. if r then part_of c.begins_dot_line-is_line.result c.args.text.now else []) (sym c.if-pending_runs.true))) e.rest e.fresh

pub returns-in-None-2-clause-parts : goal.returns-in-None-2-clause-parts
returns-in-None-2-clause-parts c =
    let e = c.cut_behind-in-None-2.ensures in
    cut_pending c.args.pending_runs c.args.is_fresh c.begins_dot_line-is_line.result c.args.text.now _ _ _ c.requires.some c.begins_dot_line-is_line.ensures (omega (arith, c.blank_width-blank.ensures.width, c.if-blank-gt0.false))
    c.in-None-2.ensures.end (some_length c.args.text.now c.requires.some) (e.part ∙ ap (λ r. if r then part_of c.begins_dot_line-is_line.result c.args.text.now else []) (sym c.if-pending_runs.false)) e.rest e.fresh
