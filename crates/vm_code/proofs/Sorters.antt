-- Sorters: rows that are put in one after another, and a loop over them in the order of their terms.
use Rattle.std.proofs.Common.{◌≡◌, ℕ, zero, suc, ◌+◌, ◌≤◌, ◌<◌, List, [], ◌∷◌, ◌++◌, length, length-append, Some, None, sum_by, refl, sym, ap, ◌∙◌, arith, append_assoc}
use Rattle.std.specs.Prelude.{⊤, slice_get}
use Rattle.std.proofs.Math.ListN.{length-set}
use Rattle.eng_index.specs.declared.key_term.KeyTerm.{KeyTerm}
use Rattle.eng_value.specs.Arrangements.{arranged}
use Rattle.eng_value.specs.Environments.{ItemRow, column_of}
use Rattle.eng_value.specs.declared.out.Out.{Out}
use Rattle.vm_code.specs.declared.op.Op.TheVariants as op
use Rattle.vm_code.specs.Draft.{Draft, with_op, bound}
use Rattle.vm_code.specs.Machine.{Cursor, Sorted, Setting, State, Store, act, added, columns_from, comes_before, cursor_at, dropped, first_sorted, last_list, other_lists, outs_from, put_all, row_of_outs, sorted_to, with_lists}
use Rattle.vm_code.specs.Frames.{Extends, Here, with_regs}
use Rattle.vm_code.specs.Claims.{Claim, Labels, Last, Triple}
use Rattle.vm_code.proofs.Calls.{length-put_all}
use Rattle.vm_code.proofs.Loops.{At, moved, comes_onto, goes_onto, put_aside, t_each, t_rounds}
use Rattle.vm_code.proofs.Triples.{t_op, t_use}

-- with these lists in the stead of those that the frame puts aside
abbrev pub with_sorters : Here → List (List ItemRow) → Here
with_sorters h lists = record h { store = record h.store { lists = lists } }

-- ---- single instructions

-- a sorter without rows is opened, and a cursor on it
pub t_sorter_open : (m : Setting) (d : Draft) (c : ℕ) (g : Labels) (e : Last) (p q : Claim) → c < d.cursors → ((h0 h : Here) → p h0 h → c < length h.scene.cursors → q h0 (moved (with_sorters h ([] ∷ h.store.lists)) c (Sorted []))) → Triple m d (with_op d (op.SorterOpen c)) (λ h0. 1) g e p q
t_sorter_open m d c g e p q lt goes =
    t_op m d (op.SorterOpen c) (λ h. moved (with_sorters h ([] ∷ h.store.lists)) c (Sorted [])) g e p q (λ at s. refl) (λ h. (refl, length-set h.scene.cursors c (Sorted []))) (λ h0 h most wide pre. goes h0 h pre (omega (arith, lt, wide)))

-- the sorter that was opened last has the row that registers hold behind its rows
pub t_sorter_insert : (m : Setting) (d : Draft) (first n : ℕ) (g : Labels) (e : Last) (p q : Claim) → ((h0 h : Here) → p h0 h → q h0 (with_sorters h (added (row_of_outs (outs_from h.regs first n)) h.store.lists))) → Triple m d (with_op d (op.SorterInsert first n)) (λ h0. 1) g e p q
t_sorter_insert m d first n g e p q goes =
    t_op m d (op.SorterInsert first n) (λ h. with_sorters h (added (row_of_outs (outs_from h.regs first n)) h.store.lists)) g e p q (λ at s. refl) (λ h. (refl, refl)) (λ h0 h most wide pre. goes h0 h pre)

-- registers hold the columns of the sorter's row that a cursor has come to
pub t_sorter_data : (m : Setting) (d : Draft) (c first n : ℕ) (g : Labels) (e : Last) (p q : Claim) → ((h0 h : Here) → p h0 h → d.most ≤ length h.regs → q h0 (with_regs h (put_all h.regs first (columns_from (first_sorted (cursor_at h.scene.cursors c)) 0 n)))) → Triple m d (with_op d (op.SorterData c first n)) (λ h0. 1) g e p q
t_sorter_data m d c first n g e p q goes =
    t_op m d (op.SorterData c first n) (λ h. with_regs h (put_all h.regs first (columns_from (first_sorted (cursor_at h.scene.cursors c)) 0 n))) g e p q (λ at s. refl) (λ h. (length-put_all h.regs first (columns_from (first_sorted (cursor_at h.scene.cursors c)) 0 n), refl)) (λ h0 h most wide pre. goes h0 h pre most)

-- ---- the columns of a row

pub length-columns : (row : ItemRow) (k n : ℕ) → length (columns_from row k n) ≡ n
length-columns row k zero = refl
length-columns row k (suc n) = ap suc (length-columns row (k + 1) n)

-- a row has the columns that it was made of
pub columns-outs : (outs : List Out) → columns_from (row_of_outs outs) 0 (length outs) ≡ outs
columns-outs outs = by [] outs
  where
    at_end : (front : List Out) (x : Out) (xs : List Out) → column_of (row_of_outs (front ++ x ∷ xs)) (length front) ≡ x
    at_end [] x xs = refl
    at_end (y ∷ front) x xs = at_end front x xs

    by : (front xs : List Out) → columns_from (row_of_outs (front ++ xs)) (length front) (length xs) ≡ xs
    by front [] = refl
    by front (x ∷ xs) =
        ap (λ o. o ∷ columns_from (row_of_outs (front ++ x ∷ xs)) (length front + 1) (length xs)) (at_end front x xs)
        ∙ ap (λ i. x ∷ columns_from (row_of_outs (front ++ x ∷ xs)) i (length xs)) (sym (length-append front (x ∷ [])))
        ∙ ap (λ l. x ∷ columns_from (row_of_outs l) (length (front ++ x ∷ [])) (length xs)) (sym (append_assoc front (x ∷ []) xs))
        ∙ ap (λ l. x ∷ l) (by (front ++ x ∷ []) xs)

-- ---- a loop over a sorter's rows

-- without the sorter that was opened last
abbrev pub without_last : Store → Store
without_last store = record store { lists = other_lists store.lists }

-- a cursor with a row and those behind it to come
abbrev pub sorted_at : ItemRow → List ItemRow → Cursor
sorted_at r rs = Sorted (r ∷ rs)

-- what SorterSort and SorterNext do
sorts : (m : Setting) (c target : ℕ) (terms : List KeyTerm) (s : State) (rows : List ItemRow) → last_list s.store.lists ≡ rows → act m (Some (op.SorterSort c terms target)) s ≡ comes_onto (Sorted []) sorted_at (arranged (comes_before terms) rows) (record s { store = without_last s.store }) c target
sorts m c target terms s rows is =
    ap (λ l. sorted_to (with_lists s (other_lists s.store.lists)) c target (arranged (comes_before terms) l)) is
    ∙ by (arranged (comes_before terms) rows)
  where
    by : (rs : List ItemRow) → sorted_to (with_lists s (other_lists s.store.lists)) c target rs ≡ comes_onto (Sorted []) sorted_at rs (record s { store = without_last s.store }) c target
    by [] = refl
    by (r ∷ rs) = refl

drops : (m : Setting) (c target : ℕ) (s : State) (r : ItemRow) (rs : List ItemRow) → cursor_at s.scene.cursors c ≡ sorted_at r rs → act m (Some (op.SorterNext c target)) s ≡ goes_onto (Sorted []) sorted_at rs s c target
drops m c target s r rs cur = ap (λ x. dropped x s c target) cur ∙ by rs
  where
    by : (rs : List ItemRow) → dropped (sorted_at r rs) s c target ≡ goes_onto (Sorted []) sorted_at rs s c target
    by [] = refl
    by (q ∷ qs) = refl

-- The rows are those of the sorter that was opened last, as a function of the frame at the start; from SorterSort on the frame has the sorters below it. The body is a family over the row that is to come and those behind it, in their order, and so is what it costs.
pub t_sorted : {m : Setting} {a z y : Draft} {k : Here → ℕ} {n : ItemRow → Here → ℕ} {g : Labels} {e : Last} {p : Claim} (c end top : ℕ) (terms : List KeyTerm) (rows : Here → List ItemRow) (inv : List ItemRow → Claim) → slice_get z.labels top ≡ Some None → slice_get y.labels end ≡ Some None → c < y.cursors → Extends (bound (with_op z (op.SorterSort c terms end)) top) y → ((rs : List ItemRow) (h0 h : Here) (x : Cursor) → inv rs h0 h → inv rs h0 (moved h c x)) → Triple m a z k g e p (At c (Sorted []) (λ h0 h. (last_list h.store.lists ≡ rows h0) × inv (arranged (comes_before terms) (rows h0)) h0 (put_aside without_last h))) → ((r : ItemRow) (rs : List ItemRow) → Triple m (bound (with_op z (op.SorterSort c terms end)) top) y (n r) g e (At c (Sorted (r ∷ rs)) (inv (r ∷ rs))) (At c (Sorted (r ∷ rs)) (inv rs))) → Triple m a (bound (with_op y (op.SorterNext c top)) end) (λ h0. k h0 + (1 + sum_by (λ r. n r h0 + 1) (arranged (comes_before terms) (rows h0)))) g e p (At c (Sorted []) (inv []))
t_sorted {m = m} {z = z} {y = y} {n = n} {g = g} {e = e} c end top terms rows inv top_open end_open c_lt extends stable before body =
    t_each c end top (op.SorterSort c terms end) (op.SorterNext c top) without_last (Sorted []) sorted_at (λ h0. arranged (comes_before terms) (rows h0)) (λ h0 h. last_list h.store.lists ≡ rows h0) (λ r h. ⊤) inv (λ at h0 s pre. sorts m c (at end) terms s (rows h0) pre.1) (λ at front rs r h0 s up is pre. drops m c (at top) s r rs pre.0) (λ front rs r h0 h up is holds. tt) top_open end_open c_lt extends stable before turn
  where
    turn : (r : ItemRow) (rs : List ItemRow) → Triple m (bound (with_op z (op.SorterSort c terms end)) top) y (n r) g e (At c (Sorted (r ∷ rs)) (λ h0 h. ⊤ × inv (r ∷ rs) h0 h)) (At c (Sorted (r ∷ rs)) (inv rs))
    turn r rs =
        t_use (At c (Sorted (r ∷ rs)) (λ h0 h. ⊤ × inv (r ∷ rs) h0 h)) (At c (Sorted (r ∷ rs)) (inv rs)) (λ h0 h pre. (pre.0, pre.1.1)) (λ h0 h post. post) (body r rs)

-- The same where turns cost what they cost in the state that each of them finds: `left` bounds what the turns over rows cost from a state on, and a turn and the SorterNext behind it use up their part. The body's claims are about the start of each turn, so it is a family over the frame at the start too.
pub t_sorted_along : {m : Setting} {a z y : Draft} {k : Here → ℕ} {g : Labels} {e : Last} {p : Claim} (c end top : ℕ) (terms : List KeyTerm) (rows : Here → List ItemRow) (n : ItemRow → Here → ℕ) (left : List ItemRow → Here → ℕ) (total : Here → ℕ) (inv : List ItemRow → Claim) → ((r : ItemRow) (rs : List ItemRow) (h : Here) → n r h ≤ left (r ∷ rs) h) → ((rs : List ItemRow) (h : Here) (x : Cursor) → left rs (moved h c x) ≡ left rs h) → slice_get z.labels top ≡ Some None → slice_get y.labels end ≡ Some None → c < y.cursors → Extends (bound (with_op z (op.SorterSort c terms end)) top) y → ((rs : List ItemRow) (h0 h : Here) (x : Cursor) → inv rs h0 h → inv rs h0 (moved h c x)) → Triple m a z k g e p (λ h0 h. At c (Sorted []) (λ h0 h. (last_list h.store.lists ≡ rows h0) × inv (arranged (comes_before terms) (rows h0)) h0 (put_aside without_last h)) h0 h × (left (arranged (comes_before terms) (rows h0)) (put_aside without_last h) ≤ total h0)) → ((h0 : Here) (r : ItemRow) (rs : List ItemRow) → Triple m (bound (with_op z (op.SorterSort c terms end)) top) y (n r) (λ l h1. g l h0) (λ h1. e h0) (λ h1 h. (h1 ≡ h) × At c (Sorted (r ∷ rs)) (inv (r ∷ rs)) h0 h) (λ h1 h. At c (Sorted (r ∷ rs)) (inv rs) h0 h × (n r h1 + 1 + left rs h ≤ left (r ∷ rs) h1))) → Triple m a (bound (with_op y (op.SorterNext c top)) end) (λ h0. k h0 + (1 + total h0)) g e p (At c (Sorted []) (inv []))
t_sorted_along {m = m} {z = z} {y = y} {g = g} {e = e} c end top terms rows n left total inv fits same_left top_open end_open c_lt extends stable before body =
    t_rounds c end top (op.SorterSort c terms end) (op.SorterNext c top) without_last (Sorted []) sorted_at (λ h0. arranged (comes_before terms) (rows h0)) (λ h0. n) (λ h0. left) total (λ h0 h. last_list h.store.lists ≡ rows h0) (λ r h. ⊤) inv (λ at h0 s pre. sorts m c (at end) terms s (rows h0) pre.1) (λ at front rs r h0 s up is pre. drops m c (at top) s r rs pre.0) (λ front rs r h0 h up is holds. tt) (λ r rs h0 h. fits r rs h) (λ rs h0 h x. same_left rs h x) top_open end_open c_lt extends stable before turn
  where
    turn : (h0 : Here) (r : ItemRow) (rs : List ItemRow) → Triple m (bound (with_op z (op.SorterSort c terms end)) top) y (n r) (λ l h1. g l h0) (λ h1. e h0) (λ h1 h. (h1 ≡ h) × At c (Sorted (r ∷ rs)) (λ h0 h. ⊤ × inv (r ∷ rs) h0 h) h0 h) (λ h1 h. At c (Sorted (r ∷ rs)) (inv rs) h0 h × (n r h1 + 1 + left rs h ≤ left (r ∷ rs) h1))
    turn h0 r rs =
        t_use (λ h1 h. (h1 ≡ h) × At c (Sorted (r ∷ rs)) (λ h0 h. ⊤ × inv (r ∷ rs) h0 h) h0 h) (λ h1 h. At c (Sorted (r ∷ rs)) (inv rs) h0 h × (n r h1 + 1 + left rs h ≤ left (r ∷ rs) h1)) (λ h1 h pre. (pre.0, (pre.1.0, pre.1.1.1))) (λ h1 h post. post) (body h0 r rs)
