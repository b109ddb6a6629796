use Rattle.std.proofs.Common.{◌≡◌, ◌++◌, length, reverse}
use Rattle.bind_stmt.proofs.putting.reversed.Given as goal

abbrev pub invariant-loop-default : goal.invariant-loop-default
invariant-loop-default l = l.found ++ reverse l.rest ≡ reverse l.fn.defaults

abbrev pub decreases-loop-default : goal.decreases-loop-default
decreases-loop-default l = length l.rest
