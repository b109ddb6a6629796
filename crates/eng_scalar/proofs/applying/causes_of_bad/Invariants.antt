use Rattle.std.proofs.Common.{◌≡◌, ◌≤◌, length, drop}
use Rattle.eng_scalar.specs.Called.{bad_in}
use Rattle.eng_scalar.proofs.applying.causes_of_bad.Given as goal

abbrev pub invariant-loop-left : goal.invariant-loop-left
invariant-loop-left l = record { within : l.left ≤ length l.args; found : l.found ≡ bad_in (drop l.left l.args) }

abbrev pub decreases-loop-left : goal.decreases-loop-left
decreases-loop-left l = l.left
