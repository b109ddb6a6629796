-- Cursors that are closed one after another.
use Rattle.std.proofs.Common.{◌≡◌, ℕ, zero, suc, ◌<◌, ◌≤◌, List, [], ◌∷◌, length, refl, ap, arith}
use Rattle.std.specs.Prelude.{slice_set}
use Rattle.vm_code.specs.Machine.{Cursor, Closed, closed_from}

-- one is closed, and then those behind it
pub closed_one : (cursors : List Cursor) (k : ℕ) → k < length cursors → closed_from (suc k) (slice_set cursors k Closed) ≡ closed_from k cursors
closed_one [] k lt = absurd (omega arith)
closed_one (x ∷ cursors) zero lt = refl
closed_one (x ∷ cursors) (suc k) lt = ap (λ l. x ∷ l) (closed_one cursors k (omega arith))

pub closed_none : (cursors : List Cursor) (k : ℕ) → length cursors ≤ k → closed_from k cursors ≡ cursors
closed_none [] k le = refl
closed_none (x ∷ cursors) zero le = absurd (omega arith)
closed_none (x ∷ cursors) (suc k) le = ap (λ l. x ∷ l) (closed_none cursors k (omega arith))
