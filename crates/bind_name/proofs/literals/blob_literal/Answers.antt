use Rattle.std.proofs.Common.{arith}
use Rattle.bind_name.proofs.Kept.{kept_lengths}
use Rattle.bind_name.proofs.literals.blob_literal.Goals as goal

pub returns-then-digits-gt-MAX_VALUE_BYTES : goal.returns-then-digits-gt-MAX_VALUE_BYTES
returns-then-digits-gt-MAX_VALUE_BYTES c = grind (arith, kept_lengths)

pub returns : goal.returns
returns c = grind (arith, kept_lengths)
