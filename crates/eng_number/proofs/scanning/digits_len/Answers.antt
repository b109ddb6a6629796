use Rattle.std.proofs.Common.{Some, refl, subst, arith}
use Rattle.eng_number.specs.Forms.{digits, optional, IsLongest}
use Rattle.eng_number.proofs.Lengths.{required_none, required_some}
use Rattle.eng_number.proofs.scanning.digits_len.Goals as goal

pub returns-then-len-eq0 : goal.returns-then-len-eq0
returns-then-len-eq0 c =
    let bytes = c.args.bytes.now in
    required_none digits bytes refl (subst (λ k. IsLongest (optional digits) bytes (Some k)) c.if-len-eq0.true c.leading_digits-len.ensures)

pub returns-else-len-eq0 : goal.returns-else-len-eq0
returns-else-len-eq0 c = required_some digits c.args.bytes.now c.leading_digits-len.result (omega arith) c.leading_digits-len.ensures
