use Rattle.std.proofs.Common.{◌≡◌, ap, sym, subst, ◌∙◌, rules, w64, to_z, of_z}
use Rattle.eng_key.specs.Rowids.{rowid_key}
use Rattle.eng_tree.specs.Map.{without}
use Rattle.vm_tables.specs.Changes.{drop_row}
use Rattle.vm_tables.specs.Stored.{IsStored, rows_in}
use Rattle.vm_tables.proofs.Stored.{stored_without, without_rows}
use Rattle.vm_tables.proofs.row_tree.RowTree.drop_row.Goals as goal

pub invariant_of-self : goal.invariant_of-self
invariant_of-self c =
    subst IsStored (sym c.remove.ensures.pairs) (stored_without c.rowid_key.result c.self.inside.tree.pairs c.self.invariant)

pub returns : goal.returns
returns c =
    let n : to_z w64 (of_z w64 c.args.rowid) ≡ c.args.rowid = search rules in
    let key : c.rowid_key.result ≡ rowid_key c.args.rowid = c.rowid_key.ensures ∙ ap rowid_key n in
    let ps = c.self.inside.tree.pairs in
    subst (λ rows. rows_in c.remove.new.self.pairs ≡ drop_row rows c.args.rowid) c.self.view_is
    (ap rows_in c.remove.ensures.pairs ∙ ap (λ k. rows_in (without k ps)) key ∙ without_rows c.args.rowid ps c.ranges.rowid c.self.invariant)
