-- Rows by their places.
use Rattle.std.proofs.Common.{◌≡◌, ℕ, zero, suc, List, [], ◌∷◌, ◌++◌, Some, None, Option, Bool, true, false, cond, int_eq, ℤ, refl, sym, ◌∙◌, ap, subst, arith}
use Rattle.std.specs.Prelude.{slice_get}
use Rattle.std.specs.Option.{option_eq}
use Rattle.std.proofs.lemmas.Int.{ints}
use Rattle.eng_value.specs.StoredRows.{StoredRow, IsAscending}
use Rattle.vm_code.specs.Machine.{row_under, row_behind}
use Rattle.vm_code.proofs.Rows.{first_of, row_under-between, row_behind-between}
use Rattle.eng_key.specs.Rowids.{rowid_of}
use Rattle.eng_tree.specs.Map.{Pair}
use Rattle.vm_tables.specs.Stored.{IsRecord, IsStored, StandsAt, row_of, rows_in}
use Rattle.vm_tables.proofs.Stored.{kept_at, rowid_is, stored_ascends}

-- the rows around the one at a place
record Around (rows : List StoredRow) (place : ℕ) (r : StoredRow) : Type 0 where
  front : List StoredRow
  back : List StoredRow
  parts : front ++ r ∷ back ≡ rows
  next : first_of back ≡ slice_get rows (suc place)

first_there : (rows : List StoredRow) → first_of rows ≡ slice_get rows 0
first_there [] = refl
first_there (r ∷ rs) = refl

around : (rows : List StoredRow) (place : ℕ) (r : StoredRow) → slice_get rows place ≡ Some r → Around rows place r
around [] place r e = absurd (cc)
around (x ∷ xs) zero r e =
    let same : r ≡ x = cc in
    record { front = []; back = xs; parts = ap (λ y. y ∷ xs) same; next = first_there xs }
around (x ∷ xs) (suc k) r e =
    let a = around xs k r e in
    record { front = x ∷ a.front; back = a.back; parts = ap (λ l. x ∷ l) a.parts; next = a.next }

module _ (rows : List StoredRow) (place : ℕ) (n : ℤ) (up : IsAscending rows) (here : StandsAt rows place n) where
  a : Around rows place here.0
  a = around rows place here.0 here.1

  ascends : IsAscending (a.front ++ here.0 ∷ a.back)
  ascends = subst IsAscending (sym a.parts) up

  -- the row that stands there is the one of its rowid
  pub under_there : row_under rows n ≡ Some here.0
  under_there =
      ap (row_under rows) (sym here.2)
      ∙ ap (λ l. row_under l here.0.rowid) (sym a.parts)
      ∙ row_under-between a.front here.0 a.back ascends

  -- and the row behind it stands at the next place
  pub behind_there : row_behind rows n ≡ slice_get rows (suc place)
  behind_there =
      ap (row_behind rows) (sym here.2)
      ∙ ap (λ l. row_behind l here.0.rowid) (sym a.parts)
      ∙ row_behind-between a.front here.0 a.back ascends
      ∙ a.next

-- the row of a rowid has it
pub has_rowid : (rows : List StoredRow) (n : ℤ) (r : StoredRow) → row_under rows n ≡ Some r → r.rowid ≡ n
has_rowid [] n r e = absurd (cc)
has_rowid (x ∷ xs) n r e = by (int_eq x.rowid n) refl (has_rowid xs n r) e
  where
    by : (b : Bool) → int_eq x.rowid n ≡ b → (row_under xs n ≡ Some r → r.rowid ≡ n) → cond b (Some x) (row_under xs n) ≡ Some r → r.rowid ≡ n
    by true is rest found =
        let same : x ≡ r = cc in
        let at : x.rowid ≡ n = grind (arith, ints) in
        ap (λ (y : StoredRow). y.rowid) (sym same) ∙ at
    by false is rest found = rest found

pub same_rowid : (o : Option ℤ) (n : ℤ) → option_eq int_eq o (Some n) ≡ true → o ≡ Some n
same_rowid None n e = absurd (cc)
same_rowid (Some m) n e = ap Some (grind (arith, ints))

-- a pair whose key is that of a rowid keeps the record of its row
pub record_there : (ps : List Pair) (i : ℕ) (p : Pair) (n : ℤ) → IsStored ps → slice_get ps i ≡ Some p → rowid_of p.0 ≡ Some n → IsRecord (Some p.1) (row_under (rows_in ps) n)
record_there ps i p n stored there is =
    let kept = kept_at ps i p stored.0 there in
    let its = rowid_is p kept.0 in
    let same : (row_of p).rowid ≡ n = cc in
    (row_of p, under_there (rows_in ps) i n (stored_ascends ps stored) (row_of p, kept.1, same), kept.0.values)
