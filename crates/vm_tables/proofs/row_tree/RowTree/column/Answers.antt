use Rattle.std.proofs.Common.{◌≡◌, ap, sym, subst, None, Some, IfOk, rules, w64, to_z, of_z}
use Rattle.std.specs.Prelude.{slice_index_or}
use Rattle.eng_value.specs.declared.value.Value.TheVariants.{Null}
use Rattle.vm_code.specs.Machine.{row_under}
use Rattle.vm_tables.specs.Rows.{values_of}
use Rattle.vm_tables.specs.Stored.{IsRecord}
use Rattle.vm_tables.proofs.row_tree.RowTree.column.Goals as goal

pub returns-in-None : goal.returns-in-None
returns-in-None c =
    let n : to_z w64 (of_z w64 c.args.rowid) ≡ c.args.rowid = search rules in
    let missing = subst (λ m. IsRecord None (row_under c.args.self.now m)) n c.in-None.ensures in
    sym (ap (λ row. slice_index_or (values_of row) c.args.place Null) missing)

pub returns-in-Some : goal.returns-in-Some
returns-in-Some c =
    let n : to_z w64 (of_z w64 c.args.rowid) ≡ c.args.rowid = search rules in
    let found = subst (λ m. IsRecord (Some c.in-Some.record.now) (row_under c.args.self.now m)) n c.in-Some.ensures in
    subst (λ row. IfOk c.column_of.result (λ v. v ≡ slice_index_or (values_of row) c.args.place Null)) (sym found.1) (c.column_of.ensures found.0.values found.2)
