use Rattle.std.proofs.Common.{◌+◌, Some, None}
use Rattle.eng_number.specs.Forms.{digits, optional}
use Rattle.eng_number.specs.Numbers.{fraction, point}
use Rattle.eng_number.proofs.Beginnings.{longest-then_none}
use Rattle.eng_number.proofs.Lengths.{IsLongest-optional, then_some}
use Rattle.eng_number.proofs.NumberParts.{point_before_run}
use Rattle.eng_number.proofs.scanning.fraction_len.Goals as goal

pub returns-in-Some : goal.returns-in-Some
returns-in-Some c =
    let bytes = c.args.bytes.now in
    let after = c.in-Some.ensures in
    IsLongest-optional fraction bytes (Some (1 + c.leading_digits.result))
    (then_some point (optional digits) point_before_run 1 bytes _ after.0 after.1 c.leading_digits.result c.leading_digits.ensures)

pub returns-in-None : goal.returns-in-None
returns-in-None c = IsLongest-optional fraction c.args.bytes.now None (longest-then_none point (optional digits) c.args.bytes.now c.in-None.ensures)
