use Rattle.std.proofs.Common.{◌≡◌, None, ◌-◌, ap, subst, ◌∙◌, length}
use Rattle.std.specs.Prelude.{slice_get}
use Rattle.vm_tables.specs.Rows.{on_row}
use Rattle.vm_tables.proofs.Stored.{on_pair, last_row}
use Rattle.vm_tables.proofs.row_tree.RowTree.last.Goals as goal

pub returns-in-Some : goal.returns-in-Some
returns-in-Some c =
    let ps = c.self.inside.tree.pairs in
    subst (λ rows. c.rowid_of_key.result ≡ on_row (slice_get rows (length rows - 1))) c.self.view_is
    (c.rowid_of_key.ensures ∙ ap on_pair c.in-Some.ensures ∙ last_row ps c.self.invariant.0)

pub returns-in-None : goal.returns-in-None
returns-in-None c =
    subst (λ rows. None ≡ on_row (slice_get rows (length rows - 1))) c.self.view_is
    (ap on_pair c.in-None.ensures ∙ last_row c.self.inside.tree.pairs c.self.invariant.0)
