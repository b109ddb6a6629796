use Rattle.std.proofs.Common.{◌≡◌, ◌++◌}
use Rattle.vm_code.specs.Machine.{outs_from}
use Rattle.eng_index.specs.Searching.{front_values}
use Rattle.vm_store.proofs.Fronts.{fronts_left}
use Rattle.vm_store.proofs.registers.Registers.front_values.Given as goal

abbrev pub invariant-loop-i : goal.invariant-loop-i
invariant-loop-i l = l.values.items ++ fronts_left l.self l.first l.count l.i ≡ front_values (outs_from l.self l.first l.count)
