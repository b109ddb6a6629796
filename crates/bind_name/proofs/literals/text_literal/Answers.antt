use Rattle.std.proofs.Common.{arith}
use Rattle.bind_name.proofs.Kept.{kept_lengths}
use Rattle.bind_name.proofs.literals.text_literal.Goals as goal

pub returns-then-as_bytes-gt-MAX_VALUE_BYTES : goal.returns-then-as_bytes-gt-MAX_VALUE_BYTES
returns-then-as_bytes-gt-MAX_VALUE_BYTES c = grind (arith, kept_lengths)

pub returns : goal.returns
returns c = grind (arith, kept_lengths)
