use Rattle.std.proofs.Common.{◌≡◌, to_z, of_z, w64, rules, refl, ap, ◌∙◌}
use Rattle.eng_record.specs.declared.record_error.RecordErr.TheVariants as errors
use Rattle.eng_record.specs.declared.serial_type.SerialType.TheVariants as types
use Rattle.eng_record.specs.Columns.{value_at}
use Rattle.eng_record.specs.Spelling.{integer_len}
use Rattle.eng_record.proofs.ColumnSteps.{value_fault}
use Rattle.eng_record.proofs.Lending.{fault_lends}
use Rattle.eng_record.proofs.ReadingLoops.{other_len, long_body}
use Rattle.eng_record.proofs.columns.integer_of.Goals as goal
use Rattle.eng_record.proofs.columns.integer_of.Goals.{in_default-via-in-Some+else-integer_len-len, in_default-via-in_default}

pub returns-in_default : goal.returns-in_default
returns-in_default c =
    let found = value_at (types.Integer c.args.len) c.args.bytes.now in
    let none = fault_lends errors.NotShortest found (λ e. absurd cc) in
    let longer = value_fault errors.NotShortest (types.Integer c.args.len) c.args.bytes.now found refl in
    elim c.in_default.branch [
      | in_default-via-in-Some+else-integer_len-len w ↦
          (let same : to_z w64 (of_z w64 w.in-Some.n) ≡ w.in-Some.n = search rules in
          none (longer (other_len c.args.len c.args.bytes.now _ _ c.in-Ok.ensures.exact (λ e. w.if-integer_len-len.false (w.integer_len.ensures ∙ ap integer_len (same ∙ w.in-Some.ensures.1) ∙ e)))))
      | in_default-via-in_default w ↦ none (longer (long_body c.args.len c.args.bytes.now _ _ c.in-Ok.ensures.exact w.in_default.ensures))
    ]
