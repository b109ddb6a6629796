use Rattle.std.proofs.Common.{subst}
use Rattle.eng_value.specs.StoredRows.{IsAscending}
use Rattle.vm_tables.proofs.Stored.{stored_ascends}
use Rattle.vm_tables.proofs.row_tree.RowTree.order.Goals as goal

pub returns : goal.returns
returns c = subst IsAscending c.self.view_is (stored_ascends c.self.inside.tree.pairs c.self.invariant)
