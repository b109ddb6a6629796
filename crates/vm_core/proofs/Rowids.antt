-- What the rowid of a row reads.
use Rattle.std.proofs.Common.{◌≡◌, Option, Some, None, refl}
use Rattle.eng_value.specs.StoredRows.{StoredRow}
use Rattle.vm_code.specs.Machine.{row_read}
use Rattle.vm_tables.specs.Rows.{on_row}
use Rattle.vm_core.specs.Cursors.{rowid_read}

pub rowid_reads : (row : Option StoredRow) → rowid_read (on_row row) ≡ (row_read row).rowid
rowid_reads None = refl
rowid_reads (Some r) = refl
