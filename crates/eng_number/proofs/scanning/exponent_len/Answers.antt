use Rattle.std.specs.Prelude.{codes}
use Rattle.eng_number.specs.Forms.{one_of}
use Rattle.eng_number.specs.Numbers.{whole_number}
use Rattle.eng_number.proofs.Beginnings.{longest-then_none}
use Rattle.eng_number.proofs.Lengths.{then_some, then_none}
use Rattle.eng_number.proofs.NumberParts.{e_before_whole}
use Rattle.eng_number.proofs.scanning.exponent_len.Goals as goal

pub returns-in_err-rest : goal.returns-in_err-rest
returns-in_err-rest c = rw c.from_residual.ensures (longest-then_none (one_of (codes "eE")) whole_number c.args.bytes.now c.in_err-rest.ensures)

pub returns-in_err-whole_len : goal.returns-in_err-whole_len
returns-in_err-whole_len c =
    let after = c.in_ok-rest.ensures in
    rw c.from_residual-in_err-whole_len.ensures (then_none (one_of (codes "eE")) whole_number e_before_whole 1 c.args.bytes.now _ after.0 after.1 c.in_err-whole_len.ensures)

pub returns : goal.returns
returns c =
    let after = c.in_ok-rest.ensures in
    then_some (one_of (codes "eE")) whole_number e_before_whole 1 c.args.bytes.now _ after.0 after.1 c.in_ok-whole_len.field-0 c.in_ok-whole_len.ensures
