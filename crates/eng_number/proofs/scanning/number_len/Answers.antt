use Rattle.std.proofs.lemmas.List.{take_rest}
use Rattle.eng_number.specs.Forms.{optional}
use Rattle.eng_number.specs.Numbers.{sign, unsigned_number}
use Rattle.eng_number.proofs.Lengths.{then_some, then_none}
use Rattle.eng_number.proofs.NumberParts.{sign_before_unsigned}
use Rattle.eng_number.proofs.scanning.number_len.Goals as goal

pub returns-in_err-unsigned : goal.returns-in_err-unsigned
returns-in_err-unsigned c =
    let bytes = c.args.bytes.now in
    let n = c.sign_len-sign.result in
    rw c.from_residual.ensures (then_none (optional sign) unsigned_number sign_before_unsigned n bytes _ c.sign_len-sign.ensures (take_rest bytes n) c.in_err-unsigned.ensures)

pub returns : goal.returns
returns c =
    let bytes = c.args.bytes.now in
    let n = c.sign_len-sign.result in
    then_some (optional sign) unsigned_number sign_before_unsigned n bytes _ c.sign_len-sign.ensures (take_rest bytes n) c.in_ok-unsigned.unsigned c.in_ok-unsigned.ensures
