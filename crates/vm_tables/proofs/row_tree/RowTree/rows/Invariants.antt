use Rattle.std.proofs.Common.{◌-◌, length}
use Rattle.vm_tables.proofs.Stored.{Remains}
use Rattle.vm_tables.proofs.row_tree.RowTree.rows.Given as goal

abbrev pub invariant-loop-next : goal.invariant-loop-next
invariant-loop-next l = Remains l.self l.rows.items l.next

abbrev pub decreases-loop-next : goal.decreases-loop-next
decreases-loop-next l = length l.self - length l.rows.items
