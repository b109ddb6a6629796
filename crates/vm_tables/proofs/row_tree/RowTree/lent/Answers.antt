use Rattle.std.proofs.Common.{◌≡◌, sym, subst, None, Some, rules, w64, to_z, of_z}
use Rattle.eng_record.specs.declared.columns.Lent.TheVariants as lent
use Rattle.eng_value.specs.Environments.{column_of}
use Rattle.vm_code.specs.Machine.{row_read, row_under}
use Rattle.vm_tables.specs.Rows.{LendsColumn}
use Rattle.vm_tables.specs.Stored.{IsRecord}
use Rattle.vm_tables.proofs.Columns.{lends_column, other_null}
use Rattle.vm_tables.proofs.row_tree.RowTree.lent.Goals as goal

pub returns-in-None : goal.returns-in-None
returns-in-None c =
    let n : to_z w64 (of_z w64 c.args.rowid) ≡ c.args.rowid = search rules in
    let missing = subst (λ m. IsRecord None (row_under c.args.self.now m)) n c.in-None.ensures in
    subst (λ row. LendsColumn lent.Other (column_of (row_read row) c.args.place)) (sym missing) (other_null c.args.place)

pub returns-in-Some : goal.returns-in-Some
returns-in-Some c =
    let n : to_z w64 (of_z w64 c.args.rowid) ≡ c.args.rowid = search rules in
    let found = subst (λ m. IsRecord (Some c.in-Some.record.now) (row_under c.args.self.now m)) n c.in-Some.ensures in
    subst (λ row. LendsColumn c.lent_column.result (column_of (row_read row) c.args.place)) (sym found.1)
    (lends_column c.lent_column.result (Some found.0) c.args.place (c.lent_column.ensures.row found.0.values found.2))
