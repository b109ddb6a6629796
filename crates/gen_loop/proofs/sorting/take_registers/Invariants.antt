use Rattle.std.proofs.Common.{◌≡◌}
use Rattle.gen_loop.specs.Sorting.{all_taken}
use Rattle.gen_loop.proofs.sorting.take_registers.Given as goal

abbrev pub invariant-loop-place : goal.invariant-loop-place
invariant-loop-place l = l.b ≡ all_taken l.initial.b l.place
