use Rattle.std.proofs.Common.{◌≡◌, ap, subst, ◌∙◌}
use Rattle.std.specs.Prelude.{slice_get}
use Rattle.eng_key.specs.Rowids.{least_rowid}
use Rattle.vm_tables.specs.Rows.{on_row}
use Rattle.vm_tables.specs.Stored.{row_from}
use Rattle.vm_tables.proofs.Stored.{first_row}
use Rattle.vm_tables.proofs.row_tree.RowTree.first.Goals as goal

pub returns : goal.returns
returns c =
    c.rowid_from.ensures
    ∙ ap on_row (subst (λ rows. row_from rows least_rowid ≡ slice_get rows 0) c.self.view_is (first_row c.self.inside.tree.pairs c.self.invariant.0))
