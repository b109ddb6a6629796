use Rattle.std.proofs.Common.{◌+◌, ◌*◌, length}
use Rattle.gen_loop.proofs.nesting.+nest.Given as goal

abbrev pub decreases-emit_nest : goal.decreases-emit_nest
decreases-emit_nest g l = 2 * length l.loops.now + 1

abbrev pub decreases-emit_each : goal.decreases-emit_each
decreases-emit_each g l = 2 * length l.inner.now + 2

abbrev pub decreases-emit_or_alone : goal.decreases-emit_or_alone
decreases-emit_or_alone g l = 2 * length l.inner.now + 2
