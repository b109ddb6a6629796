use Rattle.std.proofs.Common.{◌≡◌, ◌-◌, ◌++◌, List, ℕ, length, replicate, rules, to_z, of_z, w64, ap, ◌∙◌}
use borrow.Rule.Slice.PartMut.{put_mid}
use Rattle.std.specs.Int.{from_be_bytes, cast_signed}
use Rattle.eng_record.specs.Reading.{signed}
use Rattle.eng_record.proofs.ReadingLoops.{padded}
use Rattle.eng_record.proofs.reading.signed_of_several.Goals as goal

pub returns : goal.returns
unfolding signed
returns c =
    let k = c.in_ok-padding.padding in
    let sign = c.sign_of-padded.result in
    let bytes = c.args.bytes.now in
    let fits = c.in_ok-padding.ensures in
    let number = λ (xs : List ℕ). cast_signed w64 (from_be_bytes w64 xs) in
    let same : to_z w64 (of_z w64 c.from_be_bytes.result) ≡ c.from_be_bytes.result = search rules in
    let read : c.from_be_bytes.result ≡ number (put_mid k (8 - k) (replicate 8 sign) c.copy_from_slice.new.self) = c.from_be_bytes.ensures in (
      fits.0,
      same ∙ read
          ∙ ap (λ (xs : List ℕ). number (put_mid k (8 - k) (replicate 8 sign) xs)) c.copy_from_slice.ensures.after
          ∙ ap number (padded k sign bytes fits.0 fits.1)
          ∙ ap (λ (s : ℕ). number (replicate (8 - length bytes) s ++ bytes)) c.sign_of-padded.ensures,
    )
