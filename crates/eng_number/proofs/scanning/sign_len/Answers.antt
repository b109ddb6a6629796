use Rattle.eng_number.specs.Numbers.{sign}
use Rattle.eng_number.proofs.Lengths.{IsLongest-optional}
use Rattle.std.proofs.Common.{Some, None}
use Rattle.eng_number.proofs.scanning.sign_len.Goals as goal

pub returns-in-Some : goal.returns-in-Some
returns-in-Some c = IsLongest-optional sign c.args.bytes.now (Some 1) c.in-Some.ensures.0

pub returns-in-None : goal.returns-in-None
returns-in-None c = IsLongest-optional sign c.args.bytes.now None c.in-None.ensures
