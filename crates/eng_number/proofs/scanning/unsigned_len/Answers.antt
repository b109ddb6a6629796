use Rattle.std.proofs.Common.{unwrap_or}
use Rattle.std.proofs.lemmas.List.{take_rest}
use Rattle.eng_number.specs.Forms.{optional}
use Rattle.eng_number.specs.Numbers.{exponent, mantissa}
use Rattle.eng_number.proofs.Beginnings.{longest-then_none}
use Rattle.eng_number.proofs.Lengths.{then_some, IsLongest-optional}
use Rattle.eng_number.proofs.NumberParts.{mantissa_before_exponent}
use Rattle.eng_number.proofs.scanning.unsigned_len.Goals as goal

pub returns-in_err-mantissa : goal.returns-in_err-mantissa
returns-in_err-mantissa c = rw c.from_residual.ensures (longest-then_none mantissa (optional exponent) c.args.bytes.now c.in_err-mantissa.ensures)

pub returns : goal.returns
returns c =
    let bytes = c.args.bytes.now in
    let n = c.in_ok-mantissa.mantissa in
    let found = IsLongest-optional exponent _ c.exponent_len.result c.exponent_len.ensures in
    rw c.unwrap_or-exponent.ensures (then_some mantissa (optional exponent) mantissa_before_exponent n bytes _ c.in_ok-mantissa.ensures (take_rest bytes n) (unwrap_or c.exponent_len.result 0) found)
