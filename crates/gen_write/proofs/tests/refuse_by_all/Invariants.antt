use Rattle.std.proofs.Common.{◌≡◌, take}
use Rattle.gen_write.specs.Stretches.{Checks}
use Rattle.gen_write.specs.Writes.{needs_of_each}
use Rattle.vm_code.specs.Frames.{needing}
use Rattle.gen_write.proofs.tests.refuse_by_all.Given as goal

abbrev pub invariant-loop-check : goal.invariant-loop-check
invariant-loop-check l = record {
  checks : Checks (needing (needs_of_each l.checks)) l.initial.b l.b l.table (take l.check-index l.checks);
  cursors : l.b.cursors ≡ l.initial.b.cursors;
  units : l.b.units ≡ l.initial.b.units;
}
