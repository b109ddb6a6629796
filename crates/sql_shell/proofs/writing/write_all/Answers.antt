use Rattle.std.proofs.Common.{arith}
use Rattle.sql_shell.proofs.Due.{along_slice}
use Rattle.sql_shell.proofs.writing.write_all.Goals as goal

pub loop-rest-preserved : goal.loop-rest-preserved
loop-rest-preserved g c = record {
  written = along_slice _ _ _ c.in-Put.n _ _ c.loop-rest.invariant.written c.in-Put.ensures.bytes.2;
  later = omega (arith, c.write.ensures.cause.later);
}
