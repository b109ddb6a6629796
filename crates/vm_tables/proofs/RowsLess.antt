-- Rows without one of them.
use Rattle.std.proofs.Common.{◌≡◌, List, [], ◌∷◌, Bool, true, false, not, cond, None, ℤ, ◌<ℤ◌, int_lt, if◌then◌else◌, refl, ◌∙◌, ap}
use Rattle.std.proofs.lemmas.List.Kept.{AllPairs-filter}
use Rattle.std.specs.Ordering.{int_eq}
use Rattle.eng_value.specs.StoredRows.{StoredRow, IsAscending}
use Rattle.vm_code.specs.Machine.{row_under, put_row}
use Rattle.vm_code.proofs.Rows.{absent_head, absent_tail, eq_self}
use Rattle.vm_tables.specs.Changes.{drop_row}

pub drop_row-absent : (rows : List StoredRow) (n : ℤ) → row_under rows n ≡ None → drop_row rows n ≡ rows
drop_row-absent [] n e = refl
drop_row-absent (x ∷ xs) n e =
    ap (λ b. cond (not b) (x ∷ drop_row xs n) (drop_row xs n)) (absent_head x xs n e) ∙ ap (λ l. x ∷ l) (drop_row-absent xs n (absent_tail x xs n e))

-- the row that was put is gone, and the others are as they were
pub drop_row-put_row : (rows : List StoredRow) (r : StoredRow) → row_under rows r.rowid ≡ None → drop_row (put_row rows r) r.rowid ≡ rows
drop_row-put_row [] r e = ap (λ b. cond (not b) (r ∷ []) []) (eq_self r.rowid)
drop_row-put_row (x ∷ xs) r e = by (int_lt r.rowid x.rowid) (drop_row-put_row xs r (absent_tail x xs r.rowid e))
  where
    by : (b : Bool) → drop_row (put_row xs r) r.rowid ≡ xs → drop_row (if b then r ∷ x ∷ xs else x ∷ put_row xs r) r.rowid ≡ x ∷ xs
    by true more = ap (λ b. cond (not b) (r ∷ drop_row (x ∷ xs) r.rowid) (drop_row (x ∷ xs) r.rowid)) (eq_self r.rowid) ∙ drop_row-absent (x ∷ xs) r.rowid e
    by false more =
        ap (λ b. cond (not b) (x ∷ drop_row (put_row xs r) r.rowid) (drop_row (put_row xs r) r.rowid)) (absent_head x xs r.rowid e)
        ∙ ap (λ l. x ∷ l) more

pub ascending_drop : (rows : List StoredRow) (n : ℤ) → IsAscending rows → IsAscending (drop_row rows n)
ascending_drop rows n up = AllPairs-filter (λ (a b : StoredRow). a.rowid <ℤ b.rowid) (λ (r : StoredRow). not (int_eq r.rowid n)) rows up
