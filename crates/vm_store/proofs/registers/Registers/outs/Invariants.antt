use Rattle.std.proofs.Common.{◌≡◌}
use Rattle.vm_code.specs.Machine.{outs_from}
use Rattle.vm_store.proofs.registers.Registers.outs.Given as goal

abbrev pub invariant-loop-i : goal.invariant-loop-i
invariant-loop-i l = l.outs.items ≡ outs_from l.self l.first l.i
