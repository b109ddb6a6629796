use Rattle.std.proofs.Common.{refl}
use Rattle.std.proofs.lemmas.Str.{is_utf8-from_IsUtf8}
use Rattle.eng_record.specs.Reading.{body_at}
use Rattle.eng_record.proofs.ReadingLoops.{not_utf8}
use Rattle.eng_record.proofs.reading.text_at.Goals as goal

pub returns-in-Err : goal.returns-in-Err
unfolding body_at
returns-in-Err c = rw (c.in_ok-body.ensures.exact, not_utf8 _ c.in-Err.ensures.cases.0) refl

pub returns-in_ok-from_str-in-Ok : goal.returns-in_ok-from_str-in-Ok
unfolding body_at
returns-in_ok-from_str-in-Ok c =
    rw (c.in_ok-body.ensures.exact, is_utf8-from_IsUtf8 c.in_ok-body.body.now c.in-Ok.ensures.cases.1, c.in_ok-from_str-in-Ok.ensures, c.in-Ok.ensures.cases.0) refl
