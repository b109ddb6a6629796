use Rattle.std.proofs.Common.{◌≡◌, ap, subst, ◌∙◌, is_some, rules, w64, to_z, of_z}
use Rattle.eng_key.specs.Rowids.{rowid_key}
use Rattle.eng_tree.specs.Map.{find}
use Rattle.vm_code.specs.Machine.{row_under}
use Rattle.vm_tables.proofs.Stored.{found_some, some_mapped}
use Rattle.vm_tables.proofs.row_tree.RowTree.has.Goals as goal

pub returns : goal.returns
returns c =
    let n : to_z w64 (of_z w64 c.args.rowid) ≡ c.args.rowid = search rules in
    let key : c.rowid_key.result ≡ rowid_key c.args.rowid = c.rowid_key.ensures ∙ ap rowid_key n in
    let ps = c.self.inside.tree.pairs in
    let found = c.is_some.ensures ∙ some_mapped (λ v. v.now) c.get_near.result ∙ ap is_some c.get_near.ensures ∙ ap (λ k. is_some (find k ps)) key in
    subst (λ rows. c.is_some.result ≡ is_some (row_under rows c.args.rowid)) c.self.view_is (found ∙ found_some c.args.rowid c.ranges.rowid ps c.self.invariant)
