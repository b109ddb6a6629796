use Rattle.std.proofs.Common.{◌≡◌, ◌+◌, drop}
use Rattle.eng_number.proofs.Lengths.{digit_run}
use Rattle.eng_number.proofs.scanning.leading_digits.Given as goal

abbrev pub invariant-loop-i : goal.invariant-loop-i
invariant-loop-i l = l.i + digit_run (drop l.i l.bytes) ≡ digit_run l.bytes
