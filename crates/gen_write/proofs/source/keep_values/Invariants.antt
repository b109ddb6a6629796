use Rattle.std.proofs.Common.{◌≡◌, take}
use Rattle.gen_write.specs.Stretches.{KeepsValues}
use Rattle.gen_write.specs.Writes.{needs_of_each}
use Rattle.vm_code.specs.Frames.{needing}
use Rattle.gen_write.proofs.source.keep_values.Given as goal

abbrev pub invariant-loop-e : goal.invariant-loop-e
invariant-loop-e l = record {
  keeps : KeepsValues (needing (needs_of_each l.row)) l.initial.b l.b l.causes (take l.e-index l.row) l.kept;
  cursors : l.b.cursors ≡ l.initial.b.cursors;
  units : l.b.units ≡ l.initial.b.units;
}
