use Rattle.std.proofs.Common.{◌≤◌, ◌-◌, ◌+◌, length}
use Rattle.std.specs.Io.KnownBytes.{Consumes}
use Rattle.eng_value.specs.declared.limits.TheConstants.{MAX_SCRIPT_BYTES}
use Rattle.sql_shell.proofs.reading.read_script.Given as goal

abbrev pub invariant-loop-chunk : goal.invariant-loop-chunk
invariant-loop-chunk g l = record {
  read : Consumes (g.S.Source.left l.fn.src) (g.S.Source.left l.src) l.bytes.items;
  few : length l.bytes.items ≤ (MAX_SCRIPT_BYTES + 1);
  later : g.S.Source.fault_count l.fn.src ≤ g.S.Source.fault_count l.src;
}

abbrev pub decreases-loop-chunk : goal.decreases-loop-chunk
decreases-loop-chunk g l = (MAX_SCRIPT_BYTES + 1) - length l.bytes.items
