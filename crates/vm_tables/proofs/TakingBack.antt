-- What taking back changes gives.
use Rattle.std.proofs.Common.{◌≡◌, ℕ, zero, suc, ◌-◌, ◌<◌, ◌≤◌, List, [], ◌∷◌, ◌++◌, true, length, take, drop, All, refl, sym, ap, ◌∙◌, arith, length-append}
use Rattle.std.specs.Prelude.{slice_set}
use Rattle.std.proofs.lemmas.List.{drop_all, drop-append-le, get_or-set_same}
use Rattle.std.proofs.lemmas.List.Elements.{All-take}
use Rattle.eng_value.specs.StoredRows.{StoredRow, IsAscending}
use Rattle.vm_code.specs.Machine.{World, IsSound, is_free, put_row, rows_of}
use Rattle.vm_code.proofs.Kept.{free_parts, ordered_rows}
use Rattle.vm_code.proofs.Rows.{All-cons, All-head, All-tail}
use Rattle.vm_tables.specs.declared.change.Change.{Change}
use Rattle.vm_tables.specs.declared.change.Change.TheVariants.{RowPut, TableAdded, RowsDropped}
use Rattle.vm_tables.specs.Changes.{HoldsAscending, before, drop_row, undone}
use Rattle.vm_tables.proofs.RowsLess.{ascending_drop, drop_row-put_row}

-- ---- one change

-- tables with one changed back
set_back : (w : World) (t : ℕ) (rows : List StoredRow) → t < length w → slice_set (slice_set w t rows) t (rows_of w t) ≡ w
set_back [] t rows lt = refl
set_back (x ∷ w) zero rows lt = refl
set_back (x ∷ w) (suc t) rows lt = ap (λ l. x ∷ l) (set_back w t rows (omega arith))

pub undone-RowPut : (w : World) (t : ℕ) (r : StoredRow) → is_free w t r.rowid ≡ true → undone (RowPut t r.rowid) (slice_set w t (put_row (rows_of w t) r)) ≡ w
undone-RowPut w t r free =
    let lt = (free_parts w t r.rowid free).0 in
    let absent = (free_parts w t r.rowid free).1 in
    let same = get_or-set_same w t (put_row (rows_of w t) r) [] lt in
    ap (λ rows. slice_set (slice_set w t (put_row (rows_of w t) r)) t (drop_row rows r.rowid)) same
    ∙ ap (λ rows. slice_set (slice_set w t (put_row (rows_of w t) r)) t rows) (drop_row-put_row (rows_of w t) r absent)
    ∙ set_back w t (put_row (rows_of w t) r) lt

take_front : {X : Type 0} (xs : List X) (x : X) → take (length (xs ++ x ∷ []) - 1) (xs ++ x ∷ []) ≡ xs
take_front xs x = let e : length (xs ++ x ∷ []) - 1 ≡ length xs = omega (arith, length-append xs (x ∷ [])) in ap (λ k. take k (xs ++ x ∷ [])) e ∙ by xs x
  where
    by : {X : Type 0} (xs : List X) (x : X) → take (length xs) (xs ++ x ∷ []) ≡ xs
    by [] x = refl
    by (y ∷ ys) x = ap (λ l. y ∷ l) (by ys x)

pub undone-TableAdded : (w : World) (rows : List StoredRow) → undone TableAdded (w ++ rows ∷ []) ≡ w
undone-TableAdded w rows = take_front w rows

pub undone-RowsDropped : (w : World) (t : ℕ) → t < length w → undone (RowsDropped t (rows_of w t)) (slice_set w t []) ≡ w
undone-RowsDropped w t lt = set_back w t [] lt

-- ---- several

pub before-append : (cs ds : List Change) (w : World) → before (cs ++ ds) w ≡ before cs (before ds w)
before-append [] ds w = refl
before-append (c ∷ cs) ds w = ap (undone c) (before-append cs ds w)

-- where the log is no longer than that, nothing is left to take back
pub none_left : (log : List Change) (w : World) (from : ℕ) → length log ≤ from → before (drop from log) w ≡ w
none_left log w from le = ap (λ cs. before cs w) (drop_all from log le)

-- the last change goes
pub one_back : (log : List Change) (c : Change) (w : World) (from : ℕ) → from ≤ length log → before (drop from log) (undone c w) ≡ before (drop from (log ++ c ∷ [])) w
one_back log c w from le =
    sym (before-append (drop from log) (c ∷ []) w) ∙ ap (λ cs. before cs w) (sym (drop-append-le from log (c ∷ []) le))

-- ---- sound tables

abbrev IsOrdered : World → Type 0
IsOrdered w = All IsAscending w

ordered_set : (w : World) (t : ℕ) (rows : List StoredRow) → IsAscending rows → IsOrdered w → IsOrdered (slice_set w t rows)
ordered_set [] t rows up w_up = w_up
ordered_set (x ∷ w) zero rows up w_up = All-cons IsAscending rows w up (λ k d h. w_up (suc k) d (omega arith))
ordered_set (x ∷ w) (suc t) rows up w_up =
    All-cons IsAscending x (slice_set w t rows) (w_up zero x (omega arith)) (ordered_set w t rows up (λ k d h. w_up (suc k) d (omega arith)))

sound_undone : (c : Change) (w : World) → HoldsAscending c → IsSound w → IsSound (undone c w)
sound_undone (RowPut t n) w held sound =
    record { ordered = ordered_set w t (drop_row (rows_of w t) n) (ascending_drop (rows_of w t) n (ordered_rows w t sound)) sound.ordered }
sound_undone TableAdded w held sound = record { ordered = All-take IsAscending (length w - 1) w sound.ordered }
sound_undone (RowsDropped t rows) w held sound = record { ordered = ordered_set w t rows held sound.ordered }

pub sound_before : (cs : List Change) (w : World) → All HoldsAscending cs → IsSound w → IsSound (before cs w)
sound_before [] w held sound = sound
sound_before (c ∷ cs) w held sound =
    sound_undone c (before cs w) (All-head HoldsAscending c cs held) (sound_before cs w (All-tail HoldsAscending c cs held) sound)
