use Rattle.std.proofs.Common.{◌≤◌, length}
use Rattle.sql_meaning.specs.Due.{Along}
use Rattle.sql_shell.proofs.writing.write_all.Given as goal

abbrev pub invariant-loop-rest : goal.invariant-loop-rest
invariant-loop-rest g l = record {
  written : Along (g.K.Sink.written l.fn.out) (g.K.Sink.written l.out) l.rest l.piece;
  later : g.K.Sink.fault_count l.fn.out ≤ g.K.Sink.fault_count l.out;
}

abbrev pub decreases-loop-rest : goal.decreases-loop-rest
decreases-loop-rest g l = length l.rest
