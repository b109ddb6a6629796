use Rattle.std.proofs.Common.{◌≡◌}
use Rattle.vm_code.specs.Machine.{outs_from, put_all}
use Rattle.vm_store.proofs.Moves.{left_over}
use Rattle.vm_store.proofs.registers.Registers.receive.Given as goal

abbrev pub invariant-loop-i : goal.invariant-loop-i
invariant-loop-i l = left_over l.self-inside.outs.items l.from-inside.outs.items l.to l.first l.count l.i ≡ put_all l.initial.self-inside.outs.items l.to (outs_from l.initial.from-inside.outs.items l.first l.count)
