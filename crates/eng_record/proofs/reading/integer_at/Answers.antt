use Rattle.std.proofs.Common.{◌≡◌, to_z, of_z, w64, rules, ap, ◌∙◌}
use Rattle.eng_record.specs.Spelling.{integer_len}
use Rattle.eng_record.proofs.ReadingLoops.{other_len, long_body}
use Rattle.eng_record.proofs.reading.integer_at.Goals as goal
use Rattle.eng_record.proofs.reading.integer_at.Goals.{in_default-via-in-Some+else-integer_len-len, in_default-via-in_default}

pub returns-in_default : goal.returns-in_default
returns-in_default c =
    elim c.in_default.branch [
      | in_default-via-in-Some+else-integer_len-len w ↦
          (let same : to_z w64 (of_z w64 w.in-Some.n) ≡ w.in-Some.n = search rules in
          other_len c.args.len c.args.bytes.now _ _ c.in_ok-body.ensures.exact (λ e. w.if-integer_len-len.false (w.integer_len.ensures ∙ ap integer_len (same ∙ w.in-Some.ensures.1) ∙ e)))
      | in_default-via-in_default w ↦ long_body c.args.len c.args.bytes.now _ _ c.in_ok-body.ensures.exact w.in_default.ensures
    ]
