use Rattle.std.proofs.Common.{◌≡◌, drop}
use Rattle.vm_check.specs.Tests.{is_set, left}
use Rattle.vm_check.proofs.sets.are_left.Given as goal

abbrev pub invariant-loop-x : goal.invariant-loop-x
invariant-loop-x l = is_set (left l.way l.front) l.behind ≡ is_set (left l.way (drop l.x-index l.front)) l.rest
