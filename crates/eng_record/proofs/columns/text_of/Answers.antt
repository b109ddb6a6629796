use Rattle.std.proofs.Common.{refl}
use Rattle.std.proofs.lemmas.Str.{is_utf8-from_IsUtf8}
use Rattle.eng_record.specs.Columns.{value_at}
use Rattle.eng_record.specs.Reading.{body_at}
use Rattle.eng_record.specs.declared.record_error.RecordErr.TheVariants as errors
use Rattle.eng_record.specs.declared.serial_type.SerialType.TheVariants as types
use Rattle.eng_record.proofs.Lending.{fault_lends}
use Rattle.eng_record.proofs.ReadingLoops.{not_utf8}
use Rattle.eng_record.proofs.columns.text_of.Goals as goal

pub returns-in-Ok-from_utf8 : goal.returns-in-Ok-from_utf8
unfolding body_at
returns-in-Ok-from_utf8 c =
    rw (c.in-Ok.ensures.exact, is_utf8-from_IsUtf8 c.in-Ok.body.now c.in-Ok-from_utf8.ensures.cases.1, c.in-Ok-from_utf8.ensures.cases.0) refl

pub returns-in-Err-from_utf8 : goal.returns-in-Err-from_utf8
unfolding body_at
returns-in-Err-from_utf8 c =
    fault_lends errors.BadText (value_at (types.Text c.args.len) c.args.bytes.now) (λ e. absurd cc) (rw (c.in-Ok.ensures.exact, not_utf8 _ c.in-Err-from_utf8.ensures.cases.0) refl)
