use Rattle.std.proofs.Common.{◌≤◌, take}
use Rattle.engine.specs.Taking.{Adds}
use Rattle.engine.proofs.explaining.hand_over.Given as goal

abbrev pub invariant-loop-line : goal.invariant-loop-line
invariant-loop-line g l = record {
  taken : Adds (g.R.RowSink.taken l.initial.rows) (g.R.RowSink.taken l.rows) (take l.line-index l.lines);
  faults : g.R.RowSink.fault_count l.initial.rows ≤ g.R.RowSink.fault_count l.rows;
}
