use Rattle.std.proofs.lemmas.List.{take_rest}
use Rattle.eng_number.specs.Forms.{digits, optional}
use Rattle.eng_number.specs.Numbers.{sign}
use Rattle.eng_number.proofs.Lengths.{then_some, then_none}
use Rattle.eng_number.proofs.NumberParts.{sign_before_digits}
use Rattle.eng_number.proofs.scanning.whole_len.Goals as goal

pub returns-in_err-digits : goal.returns-in_err-digits
returns-in_err-digits c =
    let bytes = c.args.bytes.now in
    let n = c.sign_len-sign.result in
    rw c.from_residual.ensures (then_none (optional sign) digits sign_before_digits n bytes _ c.sign_len-sign.ensures (take_rest bytes n) c.in_err-digits.ensures)

pub returns : goal.returns
returns c =
    let bytes = c.args.bytes.now in
    let n = c.sign_len-sign.result in
    then_some (optional sign) digits sign_before_digits n bytes _ c.sign_len-sign.ensures (take_rest bytes n) c.in_ok-digits.digits c.in_ok-digits.ensures
