-- Searches in a cursor's table.
use Rattle.std.proofs.Common.{◌≡◌, ℕ, List, Option, Some, None, refl, ap}
use Rattle.eng_index.specs.Keys.{found, row_in_way}
use Rattle.eng_index.specs.declared.key_term.KeyTerm.{KeyTerm}
use Rattle.eng_index.specs.declared.range.Range.{Range}
use Rattle.eng_value.specs.StoredRows.{StoredRow}
use Rattle.vm_code.specs.Machine.{Cursor, Closed, Open, Chosen, Holding, Standing, Sorted, State, conflicted, conflicted_to, jump, rows_of, searched, searched_to, world_of}
use Rattle.vm_tables.specs.Rows.{on_row}
use Rattle.vm_core.specs.Cursors.{table_of}

pub none_there : (row : Option StoredRow) → on_row row ≡ None → row ≡ None
none_there None e = refl
none_there (Some r) e = absurd (cc)

module _ (s : State) (c target : ℕ) where
  -- a cursor that is on no table finds nothing
  pub searched_none : (x : Cursor) → None ≡ table_of x → (terms : List KeyTerm) (range : Range) → searched x s c target terms range ≡ jump s target
  searched_none Closed e terms range = refl
  searched_none (Open table place) e terms range = absurd (cc)
  searched_none (Chosen table rowid rest) e terms range = absurd (cc)
  searched_none (Holding rows) e terms range = refl
  searched_none (Standing row rest) e terms range = refl
  searched_none (Sorted rows) e terms range = refl

  pub searched_at : (x : Cursor) (t : ℕ) → Some t ≡ table_of x → (terms : List KeyTerm) (range : Range) → searched x s c target terms range ≡ searched_to s c target t (found terms range (rows_of (world_of s.shared) t))
  searched_at Closed t e terms range = absurd (cc)
  searched_at (Open table place) t e terms range = let same : table ≡ t = cc in ap (λ k. searched_to s c target k (found terms range (rows_of (world_of s.shared) k))) same
  searched_at (Chosen table rowid rest) t e terms range = let same : table ≡ t = cc in ap (λ k. searched_to s c target k (found terms range (rows_of (world_of s.shared) k))) same
  searched_at (Holding rows) t e terms range = absurd (cc)
  searched_at (Standing row rest) t e terms range = absurd (cc)
  searched_at (Sorted rows) t e terms range = absurd (cc)

  -- nor is a row of it in the way
  pub conflicted_none : (x : Cursor) → None ≡ table_of x → (keys : List (List KeyTerm)) (row : StoredRow) → conflicted x s c target keys row ≡ jump s target
  conflicted_none Closed e keys row = refl
  conflicted_none (Open table place) e keys row = absurd (cc)
  conflicted_none (Chosen table rowid rest) e keys row = absurd (cc)
  conflicted_none (Holding rows) e keys row = refl
  conflicted_none (Standing other rest) e keys row = refl
  conflicted_none (Sorted rows) e keys row = refl

  pub conflicted_at : (x : Cursor) (t : ℕ) → Some t ≡ table_of x → (keys : List (List KeyTerm)) (row : StoredRow) → conflicted x s c target keys row ≡ conflicted_to s c target t (row_in_way keys (rows_of (world_of s.shared) t) row)
  conflicted_at Closed t e keys row = absurd (cc)
  conflicted_at (Open table place) t e keys row = let same : table ≡ t = cc in ap (λ k. conflicted_to s c target k (row_in_way keys (rows_of (world_of s.shared) k) row)) same
  conflicted_at (Chosen table rowid rest) t e keys row = let same : table ≡ t = cc in ap (λ k. conflicted_to s c target k (row_in_way keys (rows_of (world_of s.shared) k) row)) same
  conflicted_at (Holding rows) t e keys row = absurd (cc)
  conflicted_at (Standing other rest) t e keys row = absurd (cc)
  conflicted_at (Sorted rows) t e keys row = absurd (cc)
