use Rattle.eng_number.specs.Forms.{digits}
use Rattle.eng_number.specs.Numbers.{point}
use Rattle.eng_number.proofs.Beginnings.{longest-then_none}
use Rattle.eng_number.proofs.Lengths.{then_some, then_none}
use Rattle.eng_number.proofs.NumberParts.{point_before_digits}
use Rattle.eng_number.proofs.scanning.pointed_len.Goals as goal

pub returns-in_err-rest : goal.returns-in_err-rest
returns-in_err-rest c = rw c.from_residual.ensures (longest-then_none point digits c.args.bytes.now c.in_err-rest.ensures)

pub returns-in_err-digits_len : goal.returns-in_err-digits_len
returns-in_err-digits_len c =
    let after = c.in_ok-rest.ensures in
    rw c.from_residual-in_err-digits_len.ensures (then_none point digits point_before_digits 1 c.args.bytes.now _ after.0 after.1 c.in_err-digits_len.ensures)

pub returns : goal.returns
returns c =
    let after = c.in_ok-rest.ensures in
    then_some point digits point_before_digits 1 c.args.bytes.now _ after.0 after.1 c.in_ok-digits_len.field-0 c.in_ok-digits_len.ensures
