-- A row or a table more, and a table that lost its rows.
use Rattle.std.proofs.Common.{◌≡◌, ℕ, ◌+◌, ◌<◌, All, List, [], ◌∷◌, ◌++◌, true, false, None, length, sym, ap, ◌∙◌, subst, get_or}
use Rattle.std.specs.Prelude.{if◌then◌else◌, pos, reverse, slice_set}
use Rattle.std.proofs.lemmas.List.{get_or_read}
use Rattle.std.proofs.lemmas.List.Elements.{All-push}
use Rattle.eng_value.specs.StoredRows.{StoredRow, IsAscending}
use Rattle.eng_value.specs.Written.{Written, unwritten}
use Rattle.vm_code.specs.Machine.{World, IsSound, is_free, rows_of, row_under, put_row, with_row}
use Rattle.vm_code.specs.declared.schema_change.SchemaChange.TheVariants.{DropTable}
use Rattle.vm_code.proofs.Kept.{free_parts, ordered_rows, sound_with_row, sound_with_schema, sound_with_table}
use Rattle.vm_tables.specs.declared.change.Change.{Change}
use Rattle.vm_tables.specs.declared.change.Change.TheVariants.{RowPut, TableAdded, RowsDropped}
use Rattle.vm_tables.specs.Changes.{Descend, HoldsAscending, IsJournal, at_marks, undone}
use Rattle.vm_tables.proofs.Marks.{descend_logged, marks_logged}
use Rattle.vm_tables.proofs.TakingBack.{undone-RowPut, undone-RowsDropped, undone-TableAdded}

-- `rows` is those of table number t
pub here : (w : World) (t : ℕ) (rows : List StoredRow) → t < length w → rows ≡ get_or w t rows → rows ≡ rows_of w t
here w t rows lt is = get_or_read w t rows lt is []

pub free_row : (w : World) (t : ℕ) (r : StoredRow) (rows : List StoredRow) → is_free w t r.rowid ≡ true → rows ≡ get_or w t rows → row_under rows r.rowid ≡ None
free_row w t r rows free is =
    let parts = free_parts w t r.rowid free in
    subst (λ rs. row_under rs r.rowid ≡ None) (sym (here w t rows parts.0 is)) parts.1

-- what a row more leaves where its rowid is free
pub put_free : (x : Written) (t : ℕ) (r : StoredRow) → is_free x.world t r.rowid ≡ true → with_row x t r ≡ record x { world = slice_set x.world t (put_row (rows_of x.world t) r); changes = x.changes + 1; last_rowid = r.rowid }
put_free x t r free =
    ap (λ b. if b then record x { world = slice_set x.world t (put_row (rows_of x.world t) r); changes = x.changes + 1; last_rowid = r.rowid } else x) free

pub sound_put : (w : World) (t : ℕ) (r : StoredRow) → IsSound w → is_free w t r.rowid ≡ true → IsSound (slice_set w t (put_row (rows_of w t) r))
sound_put w t r sound free =
    let x = unwritten w (pos 0) in
    subst (λ (y : Written). IsSound y.world) (put_free x t r free) (sound_with_row x t r sound)

-- tables in which one has the row more
pub put_in : (w : World) (t : ℕ) (r : StoredRow) (rows new : List StoredRow) → t < length w → rows ≡ get_or w t rows → new ≡ put_row rows r → slice_set w t new ≡ slice_set w t (put_row (rows_of w t) r)
put_in w t r rows new lt is e = ap (slice_set w t) (e ∙ ap (λ rs. put_row rs r) (here w t rows lt is))

pub put_taken : (x : Written) (t : ℕ) (r : StoredRow) → is_free x.world t r.rowid ≡ false → with_row x t r ≡ x
put_taken x t r taken =
    ap (λ b. if b then record x { world = slice_set x.world t (put_row (rows_of x.world t) r); changes = x.changes + 1; last_rowid = r.rowid } else x) taken

-- ---- the journal, behind a row more

module _ (w : World) (log : List Change) (places : List ℕ) (t : ℕ) (r : StoredRow) (rows new : List StoredRow) (journal : IsJournal w log places) (free : is_free w t r.rowid ≡ true) (is : rows ≡ get_or w t rows) (put : new ≡ put_row rows r) where
  placed : slice_set w t new ≡ slice_set w t (put_row (rows_of w t) r)
  placed = put_in w t r rows new (free_parts w t r.rowid free).0 is put

  sound : IsSound (slice_set w t new)
  sound = subst IsSound (sym placed) (sound_put w t r journal.sound free)

  back : undone (RowPut t r.rowid) (slice_set w t new) ≡ w
  back = ap (undone (RowPut t r.rowid)) placed ∙ undone-RowPut w t r free

  pub journal_put : (after : List Change) → after ≡ log → IsJournal (slice_set w t new) after places
  journal_put after same = record {
    sound = sound;
    held = subst (All HoldsAscending) (sym same) journal.held;
    marks = subst (λ l. Descend (length l) (reverse places)) (sym same) journal.marks;
  }

  pub journal_logged : (after : List Change) → after ≡ log ++ RowPut t r.rowid ∷ [] → IsJournal (slice_set w t new) after places
  journal_logged after same = record {
    sound = sound;
    held = subst (All HoldsAscending) (sym same) (All-push HoldsAscending log (RowPut t r.rowid) journal.held tt);
    marks = subst (λ l. Descend (length l) (reverse places)) (sym same) (descend_logged log (RowPut t r.rowid) w (slice_set w t new) back places journal.marks);
  }

  pub marks_put : (after : List Change) → after ≡ log ++ RowPut t r.rowid ∷ [] → at_marks places after (slice_set w t new) ≡ at_marks places log w
  marks_put after same =
      ap (λ l. at_marks places l (slice_set w t new)) same ∙ marks_logged log (RowPut t r.rowid) w (slice_set w t new) back places journal.marks

-- behind a table more
module _ (w v : World) (log after : List Change) (places : List ℕ) (journal : IsJournal w log places) (more : v ≡ w ++ [] ∷ []) (same : after ≡ log ++ TableAdded ∷ []) where
  table_back : undone TableAdded v ≡ w
  table_back = ap (undone TableAdded) more ∙ undone-TableAdded w []

  pub journal_added : IsJournal v after places
  journal_added = record {
    sound = subst IsSound (sym more) (sound_with_table (unwritten w (pos 0)) journal.sound);
    held = subst (All HoldsAscending) (sym same) (All-push HoldsAscending log TableAdded journal.held tt);
    marks = subst (λ l. Descend (length l) (reverse places)) (sym same) (descend_logged log TableAdded w v table_back places journal.marks);
  }

  pub marks_added : at_marks places after v ≡ at_marks places log w
  marks_added = ap (λ l. at_marks places l v) same ∙ marks_logged log TableAdded w v table_back places journal.marks

-- behind a table that lost its rows
module _ (w v : World) (log : List Change) (places : List ℕ) (t : ℕ) (rows : List StoredRow) (journal : IsJournal w log places) (there : t < length w) (is : rows ≡ get_or w t rows) (emptied : v ≡ slice_set w t []) where
  lost : rows ≡ rows_of w t
  lost = here w t rows there is

  rows_back : undone (RowsDropped t rows) v ≡ w
  rows_back =
      ap (λ x. slice_set x t rows) emptied ∙ ap (slice_set (slice_set w t []) t) lost ∙ undone-RowsDropped w t there

  pub journal_dropped : (after : List Change) → after ≡ log ++ RowsDropped t rows ∷ [] → IsJournal v after places
  journal_dropped after same = record {
    sound = subst IsSound (sym emptied) (sound_with_schema (DropTable t) (unwritten w (pos 0)) journal.sound);
    held = subst (All HoldsAscending) (sym same) (All-push HoldsAscending log (RowsDropped t rows) journal.held (subst IsAscending (sym lost) (ordered_rows w t journal.sound)));
    marks = subst (λ l. Descend (length l) (reverse places)) (sym same) (descend_logged log (RowsDropped t rows) w v rows_back places journal.marks);
  }

  pub marks_dropped : (after : List Change) → after ≡ log ++ RowsDropped t rows ∷ [] → at_marks places after v ≡ at_marks places log w
  marks_dropped after same = ap (λ l. at_marks places l v) same ∙ marks_logged log (RowsDropped t rows) w v rows_back places journal.marks
