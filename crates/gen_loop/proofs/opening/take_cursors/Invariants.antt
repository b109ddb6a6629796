use Rattle.std.proofs.Common.{◌≡◌}
use Rattle.gen_loop.specs.Stretches.{with_cursors}
use Rattle.gen_loop.proofs.opening.take_cursors.Given as goal

abbrev pub invariant-loop-each : goal.invariant-loop-each
invariant-loop-each l = l.b ≡ with_cursors l.initial.b l.each-index
