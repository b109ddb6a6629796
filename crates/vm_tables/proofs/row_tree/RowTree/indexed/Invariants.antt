use Rattle.std.proofs.Common.{◌≡◌, ◌-◌, length}
use Rattle.vm_tables.proofs.Gathering.{AreGathered}
use Rattle.vm_tables.proofs.row_tree.RowTree.indexed.Given as goal

abbrev pub invariant-loop-next : goal.invariant-loop-next
invariant-loop-next l = record {
  terms : l.entries.terms ≡ l.fn.terms.items;
  gathered : AreGathered l.self l.entries l.next;
}

abbrev pub decreases-loop-next : goal.decreases-loop-next
decreases-loop-next l = length l.self - length l.entries.pairs
