use Rattle.std.proofs.Common.{◌≡◌, ap, subst, ◌∙◌}
use Rattle.std.specs.Prelude.{slice_get}
use Rattle.vm_tables.specs.Rows.{on_row}
use Rattle.vm_tables.proofs.Stored.{on_pair, in_place}
use Rattle.vm_tables.proofs.row_tree.RowTree.rowid_at.Goals as goal

pub returns-in-Some : goal.returns-in-Some
returns-in-Some c =
    let ps = c.self.inside.tree.pairs in
    subst (λ rows. c.rowid_of_key.result ≡ on_row (slice_get rows c.args.place)) c.self.view_is
    (c.rowid_of_key.ensures ∙ ap on_pair c.in-Some.ensures ∙ in_place ps c.args.place c.self.invariant.0)
