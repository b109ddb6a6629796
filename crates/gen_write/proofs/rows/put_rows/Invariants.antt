use Rattle.std.proofs.Common.{◌≡◌, ◌*◌}
use Rattle.gen_write.specs.Writes.{NamesWhatIsThere, row_steps}
use Rattle.gen_write.proofs.RowRuns.{PutsFirst}
use Rattle.gen_write.proofs.rows.put_rows.Given as goal

abbrev pub invariant-loop-kept : goal.invariant-loop-kept
invariant-loop-kept l = record {
  puts : PutsFirst (NamesWhatIsThere l.insert) l.initial.b l.b l.insert l.causes l.source l.kept-index (l.kept-index * row_steps l.insert);
  cursors : l.b.cursors ≡ l.initial.b.cursors;
  units : l.b.units ≡ l.initial.b.units;
}
