use Rattle.std.proofs.Common.{◌≡◌, false, take}
use Rattle.std.specs.List.{flat_map}
use Rattle.gen_write.specs.Stretches.{AreHeld, Stores}
use Rattle.gen_write.specs.Writes.{default_needs}
use Rattle.vm_code.specs.Frames.{needing}
use Rattle.gen_write.proofs.rows.emit_columns.Given as goal

abbrev pub invariant-loop-column : goal.invariant-loop-column
invariant-loop-column l = record {
  stores : Stores (needing (flat_map default_needs l.columns)) l.initial.b l.b l.causes l.kept (take l.column-index l.columns);
  held : l.may_fail ≡ false → AreHeld l.kept (take l.column-index l.columns);
  cursors : l.b.cursors ≡ l.initial.b.cursors;
  units : l.b.units ≡ l.initial.b.units;
}
