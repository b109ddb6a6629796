use Rattle.std.proofs.Common.{◌≡◌, ◌++◌, reverse, length}
use Rattle.sql_bound.specs.Writes.{captures_of}
use Rattle.bind_target.proofs.triggers.captures_of.Given as goal

abbrev pub invariant-loop-need : goal.invariant-loop-need
invariant-loop-need l = l.trees ++ captures_of (reverse l.rest) ≡ captures_of l.fn.needs

abbrev pub decreases-loop-need : goal.decreases-loop-need
decreases-loop-need l = length l.rest
