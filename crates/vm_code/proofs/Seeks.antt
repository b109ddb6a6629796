-- A cursor that is brought onto the row of a rowid.
use Rattle.std.proofs.Common.{◌≡◌, ℕ, zero, suc, ◌+◌, ◌<◌, ◌<ℤ◌, int_eq, List, [], ◌∷◌, cond, length, not, is_some, Option, Some, None, ℤ, Contains, get_or, if◌then◌else◌, refl, sym, ap, ◌∙◌, subst, arith}
use Rattle.std.specs.Prelude.{⊤, slice_set}
use Rattle.std.proofs.Math.ListN.{length-set}
use Rattle.eng_value.specs.StoredRows.{StoredRow, IsAscending}
use Rattle.eng_value.specs.declared.out.Out.{Out}
use Rattle.eng_value.specs.declared.out.Out.TheVariants.{Good}
use Rattle.eng_value.specs.declared.value.Value.TheVariants.{Null, Integer}
use Rattle.vm_code.specs.declared.op.Op.TheVariants.{SeekRowid}
use Rattle.vm_code.specs.Draft.{Draft, with_op}
use Rattle.vm_code.specs.Machine.{World, IsSound, rows_of, row_under, Cursor, Open, Setting, State, act, cursor_at, current, held, read, row_read, skip, some_integer, some_rowid, good_or_null, sought, sought_to, with_cursor, world_of, Reaches}
use Rattle.vm_code.specs.Frames.{Here, here, environment_of, sight_of}
use Rattle.vm_code.specs.Claims.{Claim, Labels, Last, on, Triple}
use Rattle.vm_code.proofs.Drafts.{extends, g_op, at_op, long_op}
use Rattle.vm_code.proofs.Kept.{ordered_rows}
use Rattle.vm_code.proofs.Loops.{moved}
use Rattle.vm_code.proofs.NewRows.{sees_moved}
use Rattle.vm_code.proofs.Rows.{eq_below, eq_self, ascending_head, ascending_tail}
use Rattle.vm_code.proofs.Runs.{reaches_op}

-- ---- rows by their rowids

-- in rows that ascend, each is the one of its rowid
pub row_under-in : (rows : List StoredRow) (r : StoredRow) → IsAscending rows → Contains rows r → row_under rows r.rowid ≡ Some r
row_under-in rows r up inside = by rows up inside.0 inside.1 inside.2
  where
    by : (rows : List StoredRow) → IsAscending rows → (k : ℕ) → k < length rows → get_or rows k r ≡ r → row_under rows r.rowid ≡ Some r
    by [] up k lt is = absurd (omega (arith, lt))
    by (x ∷ xs) up zero lt is =
        ap (λ (q : StoredRow). cond (int_eq q.rowid r.rowid) (Some q) (row_under xs r.rowid)) is
        ∙ ap (λ b. cond b (Some r) (row_under xs r.rowid)) (eq_self r.rowid)
    by (x ∷ xs) up (suc k) lt is =
        let less : x.rowid <ℤ r.rowid = subst (λ (q : StoredRow). x.rowid <ℤ q.rowid) is (ascending_head x xs up k r (omega (arith, lt))) in
        ap (λ b. cond b (Some x) (row_under xs r.rowid)) (eq_below x.rowid r.rowid less)
        ∙ by xs (ascending_tail x xs up) k (omega (arith, lt)) is

-- ---- what a register tells of a row

-- its rowid, and NULL where there is none
abbrev pub rowid_out : Option StoredRow → Out
rowid_out None = Good Null
rowid_out (Some r) = Good (Integer r.rowid)

-- where a cursor stands for it
abbrev pub place_for : ℕ → Option StoredRow → Cursor
place_for t None = Open t None
place_for t (Some r) = Open t (Some r.rowid)

-- the table has it, if there is one
abbrev pub IsRowOf : World → ℕ → Option StoredRow → Type 0
IsRowOf w t None = ⊤
IsRowOf w t (Some r) = Contains (rows_of w t) r

under_its_rowid : (w : World) (t : ℕ) (r : StoredRow) → IsSound w → Contains (rows_of w t) r → row_under (rows_of w t) r.rowid ≡ Some r
under_its_rowid w t r sound inside = row_under-in (rows_of w t) r (ordered_rows w t sound) inside

-- the cursor reads that row, or NULLs
pub reads_sought : (w : World) (t : ℕ) (row : Option StoredRow) → IsSound w → IsRowOf w t row → current w (place_for t row) ≡ row_read row
reads_sought w t None sound inside = refl
reads_sought w t (Some r) sound inside = ap row_read (under_its_rowid w t r sound inside)

-- a cursor on that row holds no rows
holds_none : (t : ℕ) (row : Option StoredRow) → held (place_for t row) ≡ []
holds_none t None = refl
holds_none t (Some r) = refl

-- what code goes by there
pub sees_sought : (m : Setting) (h : Here) (c t : ℕ) (row : Option StoredRow) → held (cursor_at h.scene.cursors c) ≡ [] → IsSound (world_of h.shared) → IsRowOf (world_of h.shared) t row → sight_of m (moved h c (place_for t row)) ≡ record (sight_of m h) { env = record (environment_of m h) { rows = slice_set (environment_of m h).rows c (row_read row) } }
sees_sought m h c t row none sound inside =
    sees_moved m h c (place_for t row) (none ∙ sym (holds_none t row))
    ∙ ap (λ x. record (sight_of m h) { env = record (environment_of m h) { rows = slice_set (environment_of m h).rows c x } }) (reads_sought (world_of h.shared) t row sound inside)

-- ---- the instruction

-- a cursor of the table comes onto its row of the rowid that a register holds, or off its row
pub seeks : (m : Setting) (c r t : ℕ) (place : Option ℤ) (row : Option StoredRow) (s : State) → IsSound (world_of s.shared) → cursor_at s.scene.cursors c ≡ Open t place → read s.regs r ≡ rowid_out row → IsRowOf (world_of s.shared) t row → act m (Some (SeekRowid c r)) s ≡ skip (with_cursor s c (place_for t row))
seeks m c r t place row s sound cur reg inside =
    ap (λ x. sought x s c (some_rowid s.regs r)) cur
    ∙ ap (λ o. sought_to s c t (some_integer (good_or_null o))) reg
    ∙ by row inside
  where
    by : (row : Option StoredRow) → IsRowOf (world_of s.shared) t row → sought_to s c t (some_integer (good_or_null (rowid_out row))) ≡ skip (with_cursor s c (place_for t row))
    by None inside = refl
    by (Some x) inside =
        ap (λ o. skip (with_cursor s c (if not (is_some o) then Open t None else Open t (Some x.rowid)))) (under_its_rowid (world_of s.shared) t x sound inside)

-- The register holds the rowid of a row of the cursor's table, or NULL for none: behind the instruction the cursor reads that row, or NULLs.
pub t_seek_rowid : (m : Setting) (d : Draft) (c r t : ℕ) (row : Here → Option StoredRow) (g : Labels) (e : Last) (p q : Claim) → c < d.cursors → ((h0 h : Here) → p h0 h → (place : Option ℤ) × (cursor_at h.scene.cursors c ≡ Open t place)) → ((h0 h : Here) → p h0 h → (read h.regs r ≡ rowid_out (row h0)) × IsRowOf (world_of h.shared) t (row h0)) → ((h0 h : Here) → p h0 h → IsSound (world_of h.shared) → c < length h.scene.cursors → q h0 (moved h c (place_for t (row h0)))) → Triple m d (with_op d (SeekRowid c r)) (λ h0. 1) g e p q
t_seek_rowid m d c r t row g e p q lt opened tells goes = record {
  extends = extends (g_op d (SeekRowid c r));
  runs = λ u at h h0 s room start pre.
      let x = place_for t (row h0) in
      let scene = record s.scene { cursors = slice_set s.scene.cursors c x } in
      let told = tells h0 (here s) pre in
      let is_open = opened h0 (here s) pre in
      let law = seeks m c r t is_open.0 (row h0) s room.sound is_open.1 told.0 told.1 in
      let way = reaches_op m s (record s { pc = s.pc + 1; scene = scene }) u (length d.code) (SeekRowid c r) room.unit start (at_op d (SeekRowid c r) m.prog u at h) law in
      on (record {
        regs = s.regs;
        scene = scene;
        store = s.store;
        shared = s.shared;
        way = subst (λ k. Reaches m 1 s (record s { pc = k; scene = scene })) (ap (λ k. k + 1) start ∙ sym (long_op d (SeekRowid c r))) way;
        long = refl;
        wide = length-set s.scene.cursors c x;
        holds = goes h0 (here s) pre room.sound (omega (arith, room.cursors, lt));
      });
}
