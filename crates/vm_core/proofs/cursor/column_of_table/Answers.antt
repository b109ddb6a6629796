use Rattle.std.proofs.Common.{◌≡◌, ap, rules, sym, w64, to_z, of_z, ◌∙◌}
use Rattle.eng_value.specs.declared.out.Out.TheVariants.{Good}
use Rattle.vm_code.specs.Machine.{row_under, rows_of}
use Rattle.vm_tables.proofs.Columns.{row_reads}
use Rattle.vm_core.proofs.cursor.column_of_table.Goals as goal

pub returns : goal.returns
returns c =
    let w = c.args.tables.now.world in
    let rowid = c.args.place.now.rowid in
    let n : to_z w64 (of_z w64 rowid) ≡ rowid = search rules in
    ap Good (rw n at c.in_ok-value.ensures) ∙ sym (row_reads (row_under (rows_of w c.args.table) rowid) c.args.number)
