use Rattle.std.proofs.Common.{◌+◌, Some}
use Rattle.std.proofs.lemmas.List.{take_rest}
use Rattle.eng_number.specs.Forms.{digits, optional, ◌then◌}
use Rattle.eng_number.specs.Numbers.{fraction, pointed}
use Rattle.eng_number.proofs.Beginnings.{longest-then_none}
use Rattle.eng_number.proofs.Lengths.{then_some, IsLongest-either_left, IsLongest-either_right}
use Rattle.eng_number.proofs.NumberParts.{digits_before_fraction, digits_or_pointed}
use Rattle.eng_number.proofs.scanning.mantissa_len.Goals as goal

pub returns-in-Some : goal.returns-in-Some
returns-in-Some c =
    let bytes = c.args.bytes.now in
    let n = c.in-Some.whole in
    let m = c.fraction_len.result in
    let found = then_some digits (optional fraction) digits_before_fraction n bytes _ c.in-Some.ensures (take_rest bytes n) m c.fraction_len.ensures in
    IsLongest-either_left (digits then optional fraction) pointed bytes (Some (n + m)) found (digits_or_pointed bytes n c.in-Some.ensures)

pub returns-in-None : goal.returns-in-None
returns-in-None c =
    let bytes = c.args.bytes.now in
    IsLongest-either_right (digits then optional fraction) pointed bytes c.pointed_len.result (longest-then_none digits (optional fraction) bytes c.in-None.ensures) c.pointed_len.ensures
