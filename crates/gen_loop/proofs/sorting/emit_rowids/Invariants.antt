use Rattle.std.proofs.Common.{◌≡◌}
use Rattle.gen_loop.specs.Needs.{rowids_needs}
use Rattle.gen_loop.specs.Sorting.{rowids_of}
use Rattle.vm_code.specs.Frames.{Fills, needing}
use Rattle.gen_loop.proofs.sorting.emit_rowids.Given as goal

abbrev pub invariant-loop-place : goal.invariant-loop-place
invariant-loop-place l = record {
  fills : Fills (needing (rowids_needs l.place)) l.initial.b l.b l.place (λ env. rowids_of l.place env.rows) (λ env. l.place);
  cursors : l.b.cursors ≡ l.initial.b.cursors;
  units : l.b.units ≡ l.initial.b.units;
}
