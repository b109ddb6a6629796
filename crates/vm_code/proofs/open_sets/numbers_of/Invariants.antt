use Rattle.std.proofs.Common.{◌≡◌, take}
use Rattle.vm_code.specs.OpenSets.{sets_of}
use Rattle.vm_code.proofs.open_sets.numbers_of.Given as goal

abbrev pub invariant-loop-place : goal.invariant-loop-place
invariant-loop-place l = sets_of l.sets l.numbers.items ≡ take l.place l.sets
