use Rattle.std.proofs.Common.{refl}
use Rattle.std.proofs.lemmas.Bool.{lt-ltb}
use Rattle.std.proofs.lemmas.Result.{err_from_is_err_and}
use Rattle.eng_record.specs.Reading.{header_at}
use Rattle.eng_record.proofs.ReadingLoops.{fault_of, region_types}
use Rattle.eng_record.proofs.reading.header_at.Goals as goal

pub returns-in_err-kinds : goal.returns-in_err-kinds
unfolding header_at
returns-in_err-kinds c =
    let p = err_from_is_err_and c.from_residual-in_err-kinds.result c.from_residual-in_err-kinds.ensures.1 in
    let region = region_types c.in_ok-types_len.types_len c.min.result c.in_ok-types_len.rest.now c.min.ensures in
    rw (p.1, p.2) (fault_of c.in_err-kinds.field-0.0 _ (header_at c.args.bytes.now) c.in_err-kinds.ensures (λ fault is. rw (c.in_ok-types_len.ensures.exact, ← region, is) refl))

pub returns-then-rest-types_len : goal.returns-then-rest-types_len
unfolding header_at
returns-then-rest-types_len c =
    let region = region_types c.in_ok-types_len.types_len c.min.result c.in_ok-types_len.rest.now c.min.ensures in
    rw (c.in_ok-types_len.ensures.exact, ← region, c.in_ok-kinds.ensures, lt-ltb _ _ c.if-rest-types_len.true) refl
