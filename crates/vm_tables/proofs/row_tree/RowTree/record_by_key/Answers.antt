use Rattle.std.proofs.Common.{◌≡◌, ap, sym, subst, ◌∙◌, rules, w64, to_z, of_z}
use Rattle.eng_key.specs.Rowids.{rowid_key}
use Rattle.eng_tree.specs.Map.{find}
use Rattle.vm_code.specs.Machine.{row_under}
use Rattle.vm_tables.specs.Stored.{IsRecord}
use Rattle.vm_tables.proofs.Stored.{found_record}
use Rattle.vm_tables.proofs.row_tree.RowTree.record_by_key.Goals as goal

pub returns : goal.returns
returns c =
    let n : to_z w64 (of_z w64 c.args.rowid) ≡ c.args.rowid = search rules in
    let key : c.rowid_key.result ≡ rowid_key c.args.rowid = c.rowid_key.ensures ∙ ap rowid_key n in
    let ps = c.self.inside.tree.pairs in
    subst (λ found. IsRecord found (row_under c.args.self.now c.args.rowid)) (sym (c.get_near.ensures ∙ ap (λ k. find k ps) key))
    (subst (λ rows. IsRecord (find (rowid_key c.args.rowid) ps) (row_under rows c.args.rowid)) c.self.view_is (found_record c.args.rowid c.ranges.rowid ps c.self.invariant))
