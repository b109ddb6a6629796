-- A row goes into a cursor's table.
use Rattle.std.proofs.Common.{◌≡◌, ℕ, Some, ap}
use Rattle.eng_value.specs.StoredRows.{StoredRow}
use Rattle.eng_value.specs.Written.{Written}
use Rattle.vm_code.specs.Machine.{Cursor, Closed, Open, Chosen, Holding, Standing, Sorted, inserted, with_row}
use Rattle.vm_core.specs.Cursors.{table_of}

-- a row goes into the table of an open cursor
pub inserted_at : (x : Cursor) (t : ℕ) → Some t ≡ table_of x → (y : Written) (r : StoredRow) → inserted x y r ≡ with_row y t r
inserted_at Closed t e y r = absurd (cc)
inserted_at (Open table place) t e y r = let same : table ≡ t = cc in ap (λ k. with_row y k r) same
inserted_at (Chosen table rowid rest) t e y r = let same : table ≡ t = cc in ap (λ k. with_row y k r) same
inserted_at (Holding rows) t e y r = absurd (cc)
inserted_at (Standing row rest) t e y r = absurd (cc)
inserted_at (Sorted rows) t e y r = absurd (cc)
