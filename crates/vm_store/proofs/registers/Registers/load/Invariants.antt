use Rattle.std.proofs.Common.{◌≡◌, ◌+◌, ◌-◌}
use Rattle.vm_code.specs.Machine.{columns_from, put_all, row_of_outs}
use Rattle.vm_store.proofs.registers.Registers.load.Given as goal

abbrev pub invariant-loop-i : goal.invariant-loop-i
invariant-loop-i l = put_all l.self-inside.outs.items (l.to + l.i) (columns_from (row_of_outs l.row) l.i (l.count - l.i)) ≡ put_all l.initial.self-inside.outs.items l.to (columns_from (row_of_outs l.row) 0 l.count)
