use Rattle.std.proofs.Common.{◌≡◌}
use Rattle.vm_code.specs.Machine.{values_from}
use Rattle.vm_store.proofs.registers.Registers.values.Given as goal

abbrev pub invariant-loop-i : goal.invariant-loop-i
invariant-loop-i l = l.row ≡ values_from l.self l.first l.i
