use Rattle.std.proofs.Common.{◌≡◌, ap, sym, subst, ◌∙◌, Some, rules, w64, to_z, of_z}
use Rattle.std.specs.Prelude.{option_map}
use Rattle.eng_key.specs.Rowids.{rowid_of}
use Rattle.eng_tree.specs.Map.{Pair}
use Rattle.vm_code.specs.Machine.{row_under}
use Rattle.vm_tables.specs.Stored.{IsRecord}
use Rattle.vm_tables.proofs.Places.{record_there, same_rowid}
use Rattle.vm_tables.proofs.row_tree.RowTree.record.Goals as goal

pub returns-in-Some : goal.returns-in-Some
returns-in-Some c =
    let n : to_z w64 (of_z w64 c.args.rowid) ≡ c.args.rowid = search rules in
    let ps = c.self.inside.tree.pairs in
    let pair : Pair = (c.in-Some.key.now, c.in-Some.record.now) in
    let its : rowid_of c.in-Some.key.now ≡ Some c.args.rowid = sym c.rowid_of_key.ensures ∙ same_rowid c.rowid_of_key.result (to_z w64 (of_z w64 c.args.rowid)) (sym c.eq.ensures ∙ c.if-eq.true) ∙ ap Some n in
    subst (λ rows. IsRecord (Some c.in-Some.record.now) (row_under rows c.args.rowid)) c.self.view_is
    (record_there ps c.args.near pair c.args.rowid c.self.invariant (sym c.in-Some.ensures) its)

pub returns-in_default : goal.returns-in_default
returns-in_default c =
    let n : to_z w64 (of_z w64 c.args.rowid) ≡ c.args.rowid = search rules in
    subst (λ m. IsRecord (option_map (λ v. v.now) c.record_by_key.result) (row_under c.args.self.now m)) n c.record_by_key.ensures
