use Rattle.std.proofs.Common.{◌≡◌, ap, sym, subst, ◌∙◌, None, Some, rules, w64, to_z, of_z}
use Rattle.vm_code.specs.Machine.{row_under}
use Rattle.vm_tables.specs.Rows.{on_row}
use Rattle.vm_tables.specs.Stored.{IsRecord}
use Rattle.vm_tables.proofs.Places.{has_rowid}
use Rattle.vm_tables.proofs.row_tree.RowTree.rowid.Goals as goal

pub returns-in-None : goal.returns-in-None
returns-in-None c =
    let n : to_z w64 (of_z w64 c.args.rowid) ≡ c.args.rowid = search rules in
    let missing = subst (λ m. IsRecord None (row_under c.args.self.now m)) n c.in-None.ensures in
    sym (ap on_row missing)

pub returns-in-Some : goal.returns-in-Some
returns-in-Some c =
    let n : to_z w64 (of_z w64 c.args.rowid) ≡ c.args.rowid = search rules in
    let found = subst (λ m. IsRecord (Some c.in-Some.field-0.now) (row_under c.args.self.now m)) n c.in-Some.ensures in
    ap Some (n ∙ sym (has_rowid c.args.self.now c.args.rowid found.0 found.1)) ∙ sym (ap on_row found.1)
