use Rattle.std.proofs.Common.{◌≡◌, take}
use Rattle.gen_loop.specs.Stretches.{opened_each}
use Rattle.gen_loop.proofs.opening.open_cursors.Given as goal

abbrev pub invariant-loop-each : goal.invariant-loop-each
invariant-loop-each l = l.b ≡ opened_each l.initial.b (take l.each-index l.loops)
