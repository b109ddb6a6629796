-- What brings a cursor to the row of a rowid.
use Rattle.std.proofs.Common.{◌≡◌, ℕ, List, [], ◌∷◌, Bool, true, false, not, is_some, cond, int_eq, if◌then◌else◌, Option, Some, None, ℤ, refl, sym, ap, ◌∙◌, arith}
use Rattle.std.specs.Prelude.{slice_set}
use Rattle.std.proofs.lemmas.Int.{ints}
use Rattle.std.proofs.lemmas.List.{set-get_or}
use Rattle.eng_value.specs.StoredRows.{StoredRow}
use Rattle.eng_value.specs.declared.out.Out.{Out}
use Rattle.eng_value.specs.declared.out.Out.TheVariants.{Good, Bad}
use Rattle.eng_value.specs.declared.value.Value.TheVariants.{Null, Integer, Text, Blob}
use Rattle.vm_code.specs.Machine.{Cursor, Closed, Open, Chosen, Holding, Standing, Sorted, State, cursor_at, good_or_null, is_missing, row_under, rows_of, skip, some_integer, sought, sought_to, with_cursor, world_of}
use Rattle.vm_store.specs.Held.{held_integer}
use Rattle.vm_tables.specs.Rows.{on_row}
use Rattle.vm_core.specs.Cursors.{on_sought, rowid_sought}

pub integer_held : (out : Out) → held_integer out ≡ some_integer (good_or_null out)
integer_held (Good Null) = refl
integer_held (Good (Integer n)) = refl
integer_held (Good (Text text)) = refl
integer_held (Good (Blob bytes)) = refl
integer_held (Bad causes) = refl

-- a row that is found by a rowid has it
place_found : (t : ℕ) (rows : List StoredRow) (n : ℤ) → (if is_missing rows n then Open t None else Open t (Some n)) ≡ Open t (on_row (row_under rows n))
place_found t [] n = refl
place_found t (x ∷ rows) n = by (int_eq x.rowid n) refl (place_found t rows n)
  where
    by : (b : Bool) → int_eq x.rowid n ≡ b → (if is_missing rows n then Open t None else Open t (Some n)) ≡ Open t (on_row (row_under rows n)) → (if not (is_some (cond b (Some x) (row_under rows n))) then Open t None else Open t (Some n)) ≡ Open t (on_row (cond b (Some x) (row_under rows n)))
    by true is rest = let at : x.rowid ≡ n = grind (arith, ints) in ap (λ k. Open t (Some k)) (sym at)
    by false is rest = rest

module _ (s : State) (c : ℕ) where
  -- a cursor that is put where it stands
  stays : (x : Cursor) → cursor_at s.scene.cursors c ≡ x → skip s ≡ skip (with_cursor s c x)
  stays x is =
      ap (λ l. skip (record s { scene = record s.scene { cursors = l } })) (sym (ap (slice_set s.scene.cursors c) (sym is) ∙ set-get_or s.scene.cursors c Closed))

  sought_in : (t : ℕ) (n : Option ℤ) → sought_to s c t n ≡ skip (with_cursor s c (Open t (rowid_sought (rows_of (world_of s.shared) t) n)))
  sought_in t None = refl
  sought_in t (Some n) = ap (λ x. skip (with_cursor s c x)) (place_found t (rows_of (world_of s.shared) t) n)

  by_cursor : (x : Cursor) → cursor_at s.scene.cursors c ≡ x → (n : Option ℤ) → sought x s c n ≡ skip (with_cursor s c (on_sought (world_of s.shared) x n))
  by_cursor Closed is n = stays Closed is
  by_cursor (Open t place) is n = sought_in t n
  by_cursor (Chosen t place rest) is n = sought_in t n
  by_cursor (Holding rows) is n = stays (Holding rows) is
  by_cursor (Standing row rest) is n = stays (Standing row rest) is
  by_cursor (Sorted rows) is n = stays (Sorted rows) is

  -- SeekRowid does no more than to move its cursor
  pub sought_moves : (n : Option ℤ) → sought (cursor_at s.scene.cursors c) s c n ≡ skip (with_cursor s c (on_sought (world_of s.shared) (cursor_at s.scene.cursors c) n))
  sought_moves n = by_cursor (cursor_at s.scene.cursors c) refl n
