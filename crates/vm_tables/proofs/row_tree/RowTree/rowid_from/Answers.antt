use Rattle.std.proofs.Common.{◌≡◌, ap, subst, ◌∙◌, None, rules, w64, to_z, of_z}
use Rattle.eng_key.specs.Rowids.{rowid_key}
use Rattle.eng_tree.specs.Map.{least_from}
use Rattle.vm_tables.specs.Rows.{on_row}
use Rattle.vm_tables.specs.Stored.{row_from}
use Rattle.vm_tables.proofs.Stored.{on_pair, sought_row}
use Rattle.vm_tables.proofs.row_tree.RowTree.rowid_from.Goals as goal

pub returns-in-None : goal.returns-in-None
returns-in-None c =
    let n : to_z w64 (of_z w64 c.args.least) ≡ c.args.least = search rules in
    let key : c.rowid_key.result ≡ rowid_key c.args.least = c.rowid_key.ensures ∙ ap rowid_key n in
    let ps = c.self.inside.tree.pairs in
    subst (λ rows. None ≡ on_row (row_from rows c.args.least)) c.self.view_is
    (ap on_pair c.in-None.ensures ∙ ap (λ k. on_pair (least_from k ps)) key ∙ sought_row c.args.least c.ranges.least ps c.self.invariant.0)

pub returns-in-Some : goal.returns-in-Some
returns-in-Some c =
    let n : to_z w64 (of_z w64 c.args.least) ≡ c.args.least = search rules in
    let key : c.rowid_key.result ≡ rowid_key c.args.least = c.rowid_key.ensures ∙ ap rowid_key n in
    let ps = c.self.inside.tree.pairs in
    subst (λ rows. c.rowid_of_key.result ≡ on_row (row_from rows c.args.least)) c.self.view_is
    (c.rowid_of_key.ensures ∙ ap on_pair c.in-Some.ensures ∙ ap (λ k. on_pair (least_from k ps)) key ∙ sought_row c.args.least c.ranges.least ps c.self.invariant.0)
