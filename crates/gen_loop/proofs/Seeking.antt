-- Cursors that go back onto rows, and registers that are taken for a row.
use Rattle.std.proofs.Common.{◌≡◌, ℕ, zero, suc, ◌+◌, ◌≤◌, ◌<◌, All, List, length, None, Some, refl, sym, ap, ◌∙◌, subst, arith}
use Rattle.std.specs.Prelude.{slice_get, slice_set}
use Rattle.std.proofs.Math.ListN.{length-set}
use Rattle.gen_loop.specs.Sorting.{all_taken, at_row_found, at_row_sorted, position_terms, sought_all, walk_end, walk_top, with_row_taken}
use Rattle.vm_code.specs.declared.op.Op.{Op}
use Rattle.vm_code.specs.declared.op.Op.TheVariants as op
use Rattle.vm_code.specs.declared.open_cursor.Need.{Need}
use Rattle.vm_code.specs.declared.open_cursor.Need.TheVariants as need
use Rattle.vm_code.specs.Draft.{Draft, taken, with_label, with_op}
use Rattle.vm_code.specs.Track.{Meets, OpenSet}
use Rattle.vm_code.specs.Tracked.{Steady}
use Rattle.gen_loop.proofs.Tables.{Tables}
use Rattle.vm_code.specs.Machine.{Cursor, IsSound, Reaches, Setting, State, act, skip, with_cursor, world_of}
use Rattle.vm_code.specs.Frames.{Grows, Here, here, placed}
use Rattle.vm_code.specs.Claims.{Claim, Labels, Last, on, Triple}
use Rattle.vm_code.proofs.Drafts.{at_op, extends, g_op, g_taken, grows_none, grows_then, long_label, long_op, open_new, open_old, open_other}
use Rattle.vm_code.proofs.Loops.{moved}
use Rattle.vm_code.proofs.Runs.{reaches_op}
use Rattle.vm_code.proofs.Tracks.{needs_one, st_none, st_reads, st_taken, st_then}
use Rattle.vm_code.proofs.Triples.{t_draft, t_more, t_seq}

-- ---- registers

pub all-grows : (n : ℕ) (d : Draft) → Grows d (all_taken d n)
all-grows zero d = grows_none d
all-grows (suc n) d = grows_then (all-grows n d) (g_taken (all_taken d n))

pub all-steady : (needs : List Need) (labels : List ℕ) (n : ℕ) (d : Draft) → Steady needs labels d (all_taken d n)
all-steady needs labels zero d = st_none needs labels d
all-steady needs labels (suc n) d = st_then (all-grows n d) (all-steady needs labels n d) (st_taken needs labels (all_taken d n))

pub all-next : (n : ℕ) (d : Draft) → (all_taken d n).next ≡ d.next + n
all-next zero d = omega arith
all-next (suc n) d = omega (arith, all-next n d)

-- what taking registers leaves as it is
pub all-same : {A : Type 0} (f : Draft → A) → ((d : Draft) → f (taken d) ≡ f d) → (n : ℕ) (d : Draft) → f (all_taken d n) ≡ f d
all-same f same zero d = refl
all-same f same (suc n) d = same (all_taken d n) ∙ all-same f same n d

-- ---- cursors

pub sought-grows : (first n : ℕ) (d : Draft) → Grows d (sought_all d first n)
sought-grows first zero d = grows_none d
sought-grows first (suc n) d = grows_then (sought-grows first n d) (g_op (sought_all d first n) (op.SeekRowid n (first + n)))

pub sought-steady : (needs : List Need) (labels : List ℕ) (first n : ℕ) (d : Draft) → ((xs : OpenSet) → All (Meets xs) needs → Tables n xs) → Steady needs labels d (sought_all d first n)
sought-steady needs labels first zero d inside = st_none needs labels d
sought-steady needs labels first (suc n) d inside =
    st_then (sought-grows first n d) (sought-steady needs labels first n d (λ xs met k lt. inside xs met k (omega (arith, lt)))) (st_reads needs labels (sought_all d first n) (op.SeekRowid n (first + n)) refl (λ xs met. needs_one (op.SeekRowid n (first + n)) (need.Table n) xs refl (inside xs met n (omega arith))))

-- what this leaves as it is
pub sought-same : {A : Type 0} (f : Draft → A) → ((d : Draft) (o : Op) → f (with_op d o) ≡ f d) → (first n : ℕ) (d : Draft) → f (sought_all d first n) ≡ f d
sought-same f same first zero d = refl
sought-same f same first (suc n) d =
    same (sought_all d first n) (op.SeekRowid n (first + n)) ∙ sought-same f same first n d

-- an instruction that moves a cursor somewhere, as a claim tells
pub t_moves : (m : Setting) (d : Draft) (o : Op) (c : ℕ) (g : Labels) (e : Last) (p q : Claim) → ((at : ℕ → ℕ) (h0 : Here) (s : State) → IsSound (world_of s.shared) → d.cursors ≤ length s.scene.cursors → p h0 (here s) → (x : Cursor) × (act m (Some (placed at o)) s ≡ skip (with_cursor s c x)) × q h0 (moved (here s) c x)) → Triple m d (with_op d o) (λ h0. 1) g e p q
t_moves m d o c g e p q moves = record {
  extends = extends (g_op d o);
  runs = λ u at h h0 s room start pre.
      let told = moves at h0 s room.sound room.cursors pre in
      let x = told.0 in
      let scene = record s.scene { cursors = slice_set s.scene.cursors c x } in
      let way = reaches_op m s (record s { pc = s.pc + 1; scene = scene }) u (length d.code) (placed at o) room.unit start (at_op d o m.prog u at h) told.1 in
      on (record {
        regs = s.regs;
        scene = scene;
        store = s.store;
        shared = s.shared;
        way = subst (λ k. Reaches m 1 s (record s { pc = k; scene = scene })) (ap (λ k. k + 1) start ∙ sym (long_op d o)) way;
        long = refl;
        wide = length-set s.scene.cursors c x;
        holds = told.2;
      });
}

-- one cursor after the other
pub t_seeks : (m : Setting) (d : Draft) (first width : ℕ) (g : Labels) (e : Last) (p : ℕ → Claim) → ((n : ℕ) → n < width → Triple m (sought_all d first n) (with_op (sought_all d first n) (op.SeekRowid n (first + n))) (λ h0. 1) g e (p n) (p (suc n))) → (n : ℕ) → n ≤ width → Triple m d (sought_all d first n) (λ h0. n) g e (p 0) (p n)
t_seeks m d first width g e p step zero le = t_draft m g e (p 0) (grows_none d) refl
t_seeks m d first width g e p step (suc n) le =
    t_more (λ h0. suc n) (λ h0. omega arith) (t_seq (t_seeks m d first width g e p step n (omega (arith, le))) (step n (omega (arith, le))))

-- ---- a walk's draft

module _ (a : Draft) (width : ℕ) where
  abbrev b2 : Draft
  b2 = with_label (with_label a)

  row-labels : (with_row_taken a width).labels ≡ b2.labels
  row-labels = all-same (λ (d : Draft). d.labels) (λ d. refl) width b2

  -- the labels are open until they have their places
  pub top-open : slice_get (with_row_taken a width).labels (walk_top a) ≡ Some None
  top-open = ap (λ ls. slice_get ls (walk_top a)) row-labels ∙ open_new (with_label a)

  end-there : slice_get (with_row_taken a width).labels (walk_end a) ≡ Some None
  end-there = ap (λ ls. slice_get ls (walk_end a)) row-labels ∙ open_old (with_label a) (walk_end a) (open_new a)

  abbrev found : Draft
  found = at_row_found a width

  abbrev loaded : Draft
  loaded = with_op (at_row_sorted a width) (op.SorterData width a.next (width + 1))

  pub end-open : (turn : Draft) → Grows found turn → slice_get turn.labels (walk_end a) ≡ Some None
  end-open turn grows =
      let before = open_other (with_op (with_row_taken a width) (op.SorterSort width (position_terms width) (walk_end a))) (walk_top a) (walk_end a) (λ same. absurd (omega (arith, same, long_label a))) end-there in
      grows.open_labels (walk_end a) (ap (λ ls. slice_get ls (walk_end a)) (sought-same (λ (d : Draft). d.labels) (λ d o. refl) a.next width loaded) ∙ before)

  pub found-next : found.next ≡ a.next + width + 1
  found-next = sought-same (λ (d : Draft). d.next) (λ d o. refl) a.next width loaded ∙ omega (arith, all-next width b2)

  row-most : a.next + width + 1 ≤ (with_row_taken a width).most
  row-most = omega (arith, all-next width b2)

  pub found-most : a.next + width + 1 ≤ found.most
  found-most = omega (arith, row-most, sought-same (λ (d : Draft). d.most) (λ d o. refl) a.next width loaded)

  pub found-cursors : found.cursors ≡ a.cursors
  found-cursors =
      sought-same (λ (d : Draft). d.cursors) (λ d o. refl) a.next width loaded ∙ all-same (λ (d : Draft). d.cursors) (λ d. refl) width b2

  pub found-units : found.units ≡ a.units
  found-units =
      sought-same (λ (d : Draft). d.units) (λ d o. refl) a.next width loaded ∙ all-same (λ (d : Draft). d.units) (λ d. refl) width b2
