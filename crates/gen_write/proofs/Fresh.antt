-- The rowid that is drawn is behind all others.
use Rattle.std.proofs.Common.{◌≡◌, suc, ◌-◌, List, [], ◌∷◌, Bool, true, false, cond, length, Some, None, ℤ, pos, ◌+ℤ◌, ◌<ℤ◌, int_le, slice_get, if◌then◌else◌, All, refl, sym, ap, ◌∙◌, arith}
use Rattle.std.proofs.lemmas.Int.{ints}
use Rattle.eng_value.specs.StoredRows.{StoredRow, rowid_behind, next_rowid, IsAscending}
use Rattle.eng_value.specs.declared.limits.TheConstants.{MAX_ROWID}
use Rattle.vm_code.specs.Machine.{row_under}
use Rattle.vm_code.proofs.Rows.{All-cons, All-head, All-tail, All-nil, ascending_head, ascending_tail, lt_trans, eq_below}

behind_last : (last : StoredRow) (n : ℤ) (b : Bool) → (if b then None else Some (last.rowid +ℤ pos 1)) ≡ Some n → last.rowid <ℤ n
behind_last last n true e = absurd (cc)
behind_last last n false e = let is : n ≡ last.rowid +ℤ pos 1 = cc in omega (arith, ints, is)

-- it is above those of all rows
next_rowid-above : (rows : List StoredRow) (n : ℤ) → IsAscending rows → next_rowid rows ≡ Some n → All (λ (r : StoredRow). r.rowid <ℤ n) rows
next_rowid-above [] n up e = All-nil (λ (r : StoredRow). r.rowid <ℤ n)
next_rowid-above (x ∷ []) n up e = All-cons (λ (r : StoredRow). r.rowid <ℤ n) x [] (behind_last x n (int_le MAX_ROWID x.rowid) e) (All-nil (λ (r : StoredRow). r.rowid <ℤ n))
next_rowid-above (x ∷ y ∷ ys) n up e =
    let place : length (x ∷ y ∷ ys) - 1 ≡ suc (length (y ∷ ys) - 1) = omega arith in
    let more = next_rowid-above (y ∷ ys) n (ascending_tail x (y ∷ ys) up) (sym (ap (λ k. rowid_behind (slice_get (x ∷ y ∷ ys) k)) place) ∙ e) in
    All-cons (λ (r : StoredRow). r.rowid <ℤ n) x (y ∷ ys) (lt_trans x.rowid y.rowid n (All-head (λ (r : StoredRow). x.rowid <ℤ r.rowid) y ys (ascending_head x (y ∷ ys) up)) (All-head (λ (r : StoredRow). r.rowid <ℤ n) y ys more)) more

absent-above : (rows : List StoredRow) (n : ℤ) → All (λ (r : StoredRow). r.rowid <ℤ n) rows → row_under rows n ≡ None
absent-above [] n low = refl
absent-above (x ∷ xs) n low =
    ap (λ b. cond b (Some x) (row_under xs n)) (eq_below x.rowid n (All-head (λ (r : StoredRow). r.rowid <ℤ n) x xs low))
    ∙ absent-above xs n (All-tail (λ (r : StoredRow). r.rowid <ℤ n) x xs low)

-- so that no row has it
pub next_rowid-free : (rows : List StoredRow) (n : ℤ) → IsAscending rows → next_rowid rows ≡ Some n → row_under rows n ≡ None
next_rowid-free rows n up e = absent-above rows n (next_rowid-above rows n up e)
