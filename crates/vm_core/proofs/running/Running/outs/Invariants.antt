use Rattle.std.proofs.Common.{◌≡◌, map, take}
use Rattle.vm_core.specs.Operands.{operand_now}
use Rattle.vm_core.proofs.running.Running.outs.Given as goal

abbrev pub invariant-loop-operand : goal.invariant-loop-operand
invariant-loop-operand l = l.outs.items ≡ map (operand_now l.params l.self l.tables.world) (take l.operand-index l.operands)
