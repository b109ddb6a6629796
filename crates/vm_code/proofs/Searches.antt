-- A loop over the rows that a search finds, and the building of indexes.
use Rattle.std.proofs.Common.{◌≡◌, ℕ, ◌+◌, ◌≤◌, ◌<◌, List, [], ◌∷◌, ◌++◌, Bool, true, false, not, Option, Some, None, ℤ, sum_by, refl, sym, ap, ◌∙◌, subst}
use Rattle.std.specs.Prelude.{⊤, slice_get, slice_set}
use Rattle.eng_index.specs.Keys.{found, has_doubles, is_within}
use Rattle.eng_index.specs.declared.key_term.KeyTerm.{KeyTerm}
use Rattle.eng_index.specs.declared.range.Bounds.{Bounds}
use Rattle.eng_index.specs.declared.range.Range.{Range}
use Rattle.eng_value.specs.Causes.{only}
use Rattle.eng_value.specs.Environments.{table_row}
use Rattle.eng_value.specs.StoredRows.{StoredRow, IsAscending}
use Rattle.eng_value.specs.declared.cause.Cause.TheVariants.{Constraint}
use Rattle.eng_value.specs.declared.cause.ConstraintKind.TheVariants.{Unique}
use Rattle.vm_code.specs.declared.op.Op.TheVariants as op
use Rattle.vm_code.specs.Draft.{Draft, with_op, bound}
use Rattle.vm_code.specs.Machine.{IsSound, rows_of, row_under, Cursor, Open, Chosen, Setting, State, GivesUp, act, advanced, cursor_at, cursor_rows, held, range_in, row_read, rowids_of, searched, searched_to, world_of}
use Rattle.vm_code.specs.Frames.{Extends, Here, environment_of, sight_of}
use Rattle.vm_code.specs.Claims.{Claim, Labels, Last, Triple}
use Rattle.vm_code.proofs.Rows.{row_under-kept}
use Rattle.vm_code.proofs.Kept.{ordered_rows}
use Rattle.vm_code.proofs.Triples.{t_op, t_use}
use Rattle.vm_code.proofs.Loops.{At, moved, comes_onto, goes_onto, t_rows, t_turns}
use Rattle.vm_code.proofs.NewRows.{sees_moved, t_skip_if}

-- on a row that was chosen, with those behind it
abbrev pub chosen : ℕ → StoredRow → List StoredRow → Cursor
chosen t r rs = Chosen t r.rowid (rowids_of rs)

-- the cursor is on this row of its table, with these behind it that were chosen with it
abbrev pub OnChosen : ℕ → ℕ → StoredRow → List StoredRow → Here → Type 0
OnChosen c t r rs h =
    (cursor_at h.scene.cursors c ≡ chosen t r rs) × (row_under (rows_of (world_of h.shared) t) r.rowid ≡ Some r)

-- what code goes by there
pub sees_chosen : (m : Setting) (h : Here) (c t : ℕ) (r : StoredRow) (rs : List StoredRow) → held (cursor_at h.scene.cursors c) ≡ [] → row_under (rows_of (world_of h.shared) t) r.rowid ≡ Some r → sight_of m (moved h c (chosen t r rs)) ≡ record (sight_of m h) { env = record (environment_of m h) { rows = slice_set (environment_of m h).rows c (table_row r) } }
sees_chosen m h c t r rs none is =
    sees_moved m h c (chosen t r rs) none
    ∙ ap (λ o. record (sight_of m h) { env = record (environment_of m h) { rows = slice_set (environment_of m h).rows c (row_read o) } }) is

-- ---- what Search and Next do

comes : (m : Setting) (c t target : ℕ) (terms : List KeyTerm) (bounds : Bounds) (first : ℕ) (s : State) (rs : List StoredRow) → cursor_at s.scene.cursors c ≡ Open t None → found terms (range_in s.regs first bounds) (rows_of (world_of s.shared) t) ≡ rs → act m (Some (op.Search c terms bounds first target)) s ≡ comes_onto (Open t None) (chosen t) rs s c target
comes m c t target terms bounds first s rs cur is =
    ap (λ x. searched x s c target terms (range_in s.regs first bounds)) cur ∙ ap (searched_to s c target t) is ∙ by rs
  where
    by : (rs : List StoredRow) → searched_to s c target t rs ≡ comes_onto (Open t None) (chosen t) rs s c target
    by [] = refl
    by (r ∷ rs) = refl

goes : (m : Setting) (c t target : ℕ) (s : State) (r : StoredRow) (rs : List StoredRow) → cursor_at s.scene.cursors c ≡ chosen t r rs → act m (Some (op.Next c target)) s ≡ goes_onto (Open t None) (chosen t) rs s c target
goes m c t target s r rs cur = ap (λ x. advanced x s c target) cur ∙ by rs
  where
    by : (rs : List StoredRow) → advanced (chosen t r rs) s c target ≡ goes_onto (Open t None) (chosen t) rs s c target
    by [] = refl
    by (q ∷ qs) = refl

-- ---- loops

-- The rows are those that the search finds in the table, by the range that the registers hold in front of it; both are functions of the frame at the start, and the body leaves the table's rows so. It is a family over the row and those that are found behind it, and so is what it costs.
pub t_search : {m : Setting} {a z y : Draft} {k : Here → ℕ} {n : StoredRow → Here → ℕ} {g : Labels} {e : Last} {p : Claim} (c t end top : ℕ) (terms : List KeyTerm) (bounds : Bounds) (first : ℕ) (range : Here → Range) (rows : Here → List StoredRow) (inv : List StoredRow → Claim) → slice_get z.labels top ≡ Some None → slice_get y.labels end ≡ Some None → c < y.cursors → ((rs : List StoredRow) (h0 h : Here) (x : Cursor) → inv rs h0 h → inv rs h0 (moved h c x)) → ((rs : List StoredRow) (h0 h : Here) → inv rs h0 h → rows_of (world_of h.shared) t ≡ rows h0) → Triple m a z k g e p (At c (Open t None) (λ h0 h. (range_in h.regs first bounds ≡ range h0) × inv (found terms (range h0) (rows h0)) h0 h)) → ((r : StoredRow) (rs : List StoredRow) → Triple m (bound (with_op z (op.Search c terms bounds first end)) top) y (n r) g e (λ h0 h. OnChosen c t r rs h × inv (r ∷ rs) h0 h) (At c (chosen t r rs) (inv rs))) → Triple m a (bound (with_op y (op.Next c top)) end) (λ h0. k h0 + (1 + sum_by (λ r. n r h0 + 1) (found terms (range h0) (rows h0)))) g e p (At c (Open t None) (inv []))
t_search {m = m} {a = a} {z = z} {y = y} {k = k} {n = n} {g = g} {e = e} {p = p} c t end top terms bounds first range rows inv top_open end_open c_lt stable still before body =
    t_rows c end top (op.Search c terms bounds first end) (Open t None) (chosen t) finds opening told inv (λ at h0 s pre. comes m c t (at end) terms bounds first s (finds h0) pre.0 pre.1) (λ target front rs r h0 s up is pre. goes m c t target s r rs pre.0) tells top_open end_open c_lt stable opens turn
  where
    finds : Here → List StoredRow
    finds h0 = found terms (range h0) (rows h0)

    opening : Claim
    opening h0 h = found terms (range_in h.regs first bounds) (rows_of (world_of h.shared) t) ≡ finds h0

    told : StoredRow → Here → Type 0
    told r h = row_under (rows_of (world_of h.shared) t) r.rowid ≡ Some r

    tells : (front rs : List StoredRow) (r : StoredRow) (h0 h : Here) → IsSound (world_of h.shared) → finds h0 ≡ front ++ r ∷ rs → inv (r ∷ rs) h0 h → told r h
    tells front rs r h0 h up is holds =
        let same : rows_of (world_of h.shared) t ≡ rows h0 = still (r ∷ rs) h0 h holds in
        let ascending : IsAscending (rows h0) = subst IsAscending same (ordered_rows (world_of h.shared) t up) in
        ap (λ l. row_under l r.rowid) same
        ∙ row_under-kept (is_within terms (range h0).equal (range h0).lower (range h0).upper) (rows h0) front rs r ascending is

    opens : Triple m a z k g e p (At c (Open t None) (λ h0 h. opening h0 h × inv (finds h0) h0 h))
    opens =
        t_use p (At c (Open t None) (λ h0 h. opening h0 h × inv (finds h0) h0 h)) (λ h0 h pre. pre) (λ h0 h post. (post.0, (ap (λ i. found terms i (rows_of (world_of h.shared) t)) post.1.0 ∙ ap (found terms (range h0)) (still (finds h0) h0 h post.1.1), post.1.1))) before

    turn : (r : StoredRow) (rs : List StoredRow) → Triple m (bound (with_op z (op.Search c terms bounds first end)) top) y (n r) g e (At c (chosen t r rs) (λ h0 h. told r h × inv (r ∷ rs) h0 h)) (At c (chosen t r rs) (inv rs))
    turn r rs =
        t_use (At c (chosen t r rs) (λ h0 h. told r h × inv (r ∷ rs) h0 h)) (At c (chosen t r rs) (inv rs)) (λ h0 h pre. ((pre.0, pre.1.0), pre.1.1)) (λ h0 h post. post) (body r rs)

-- The same where turns may change the tables, that one too: the rows are those that the search found, and a turn is told no more than which they are. Turns cost what they cost in the state that each of them finds, as in `t_turns`.
pub t_chosen : {m : Setting} {a z y : Draft} {k : Here → ℕ} {g : Labels} {e : Last} {p : Claim} (c t end top : ℕ) (terms : List KeyTerm) (bounds : Bounds) (first : ℕ) (rows : Here → List StoredRow) (n : StoredRow → Here → ℕ) (left : List StoredRow → Here → ℕ) (total : Here → ℕ) (inv : List StoredRow → Claim) → ((r : StoredRow) (rs : List StoredRow) (h : Here) → n r h ≤ left (r ∷ rs) h) → ((rs : List StoredRow) (h : Here) (x : Cursor) → left rs (moved h c x) ≡ left rs h) → slice_get z.labels top ≡ Some None → slice_get y.labels end ≡ Some None → c < y.cursors → Extends (bound (with_op z (op.Search c terms bounds first end)) top) y → ((rs : List StoredRow) (h0 h : Here) (x : Cursor) → inv rs h0 h → inv rs h0 (moved h c x)) → Triple m a z k g e p (λ h0 h. At c (Open t None) (λ h0 h. (found terms (range_in h.regs first bounds) (rows_of (world_of h.shared) t) ≡ rows h0) × inv (rows h0) h0 h) h0 h × (left (rows h0) h ≤ total h0)) → ((h0 : Here) (r : StoredRow) (rs : List StoredRow) → Triple m (bound (with_op z (op.Search c terms bounds first end)) top) y (n r) (λ l h1. g l h0) (λ h1. e h0) (λ h1 h. (h1 ≡ h) × At c (chosen t r rs) (inv (r ∷ rs)) h0 h) (λ h1 h. At c (chosen t r rs) (inv rs) h0 h × (n r h1 + 1 + left rs h ≤ left (r ∷ rs) h1))) → Triple m a (bound (with_op y (op.Next c top)) end) (λ h0. k h0 + (1 + total h0)) g e p (At c (Open t None) (inv []))
t_chosen {m = m} {z = z} {y = y} {g = g} {e = e} c t end top terms bounds first rows n left total inv fits same_left top_open end_open c_lt extends stable before body =
    t_turns c end top (op.Search c terms bounds first end) (Open t None) (chosen t) rows (λ h0. n) (λ h0. left) total (λ h0 h. found terms (range_in h.regs first bounds) (rows_of (world_of h.shared) t) ≡ rows h0) (λ r h. ⊤) inv (λ at h0 s pre. comes m c t (at end) terms bounds first s (rows h0) pre.0 pre.1) (λ target front rs r h0 s up is pre. goes m c t target s r rs pre.0) (λ front rs r h0 h up is holds. tt) (λ r rs h0 h. fits r rs h) (λ rs h0 h x. same_left rs h x) top_open end_open c_lt extends stable before turn
  where
    turn : (h0 : Here) (r : StoredRow) (rs : List StoredRow) → Triple m (bound (with_op z (op.Search c terms bounds first end)) top) y (n r) (λ l h1. g l h0) (λ h1. e h0) (λ h1 h. (h1 ≡ h) × At c (chosen t r rs) (λ h0 h. ⊤ × inv (r ∷ rs) h0 h) h0 h) (λ h1 h. At c (chosen t r rs) (inv rs) h0 h × (n r h1 + 1 + left rs h ≤ left (r ∷ rs) h1))
    turn h0 r rs =
        t_use (λ h1 h. (h1 ≡ h) × At c (chosen t r rs) (λ h0 h. ⊤ × inv (r ∷ rs) h0 h) h0 h) (λ h1 h. At c (chosen t r rs) (inv rs) h0 h × (n r h1 + 1 + left rs h ≤ left (r ∷ rs) h1)) (λ h1 h pre. (pre.0, (pre.1.0, pre.1.1.1))) (λ h1 h post. post) (body h0 r rs)

-- ---- indexes

-- an index whose keys may have doubles is built of any rows
pub t_build_index : (m : Setting) (d : Draft) (c : ℕ) (terms : List KeyTerm) (g : Labels) (e : Last) (p : Claim) → Triple m d (with_op d (op.BuildIndex c terms None)) (λ h0. 1) g e p p
t_build_index m d c terms g e p =
    t_op m d (op.BuildIndex c terms None) (λ h. h) g e p p (λ at s. refl) (λ h. (refl, refl)) (λ h0 h most wide pre. pre)

not_true : (b : Bool) → not b ≡ true → b ≡ false
not_true true e = absurd (cc)
not_true false e = refl

not_false : (b : Bool) → not b ≡ false → b ≡ true
not_false true e = refl
not_false false e = absurd (cc)

-- a unique one of the rows of a cursor's table, where they have no doubles
pub t_build_unique : (m : Setting) (d : Draft) (c t : ℕ) (terms : List KeyTerm) (table : List ℕ) (g : Labels) (e : Last) (p q : Claim) → ((h0 h : Here) → p h0 h → (place : Option ℤ) × (cursor_at h.scene.cursors c ≡ Open t place)) → ((h0 h : Here) → p h0 h → has_doubles terms (rows_of (world_of h.shared) t) ≡ false → q h0 h) → ((h0 h : Here) → p h0 h → has_doubles terms (rows_of (world_of h.shared) t) ≡ true → e h0 (GivesUp (only (Constraint Unique table))) h.shared) → Triple m d (with_op d (op.BuildIndex c terms (Some table))) (λ h0. 1) g e p q
t_build_unique m d c t terms table g e p q opened goes stops =
    t_skip_if m d (op.BuildIndex c terms (Some table)) (λ h. not (doubles h)) (only (Constraint Unique table)) g e p q (λ at s. refl) (λ h0 h pre is. goes h0 h pre (seen h0 h pre false (not_true (doubles h) is))) (λ h0 h pre is. stops h0 h pre (seen h0 h pre true (not_false (doubles h) is)))
  where
    doubles : Here → Bool
    doubles h = has_doubles terms (cursor_rows (world_of h.shared) (cursor_at h.scene.cursors c))

    seen : (h0 h : Here) → p h0 h → (b : Bool) → doubles h ≡ b → has_doubles terms (rows_of (world_of h.shared) t) ≡ b
    seen h0 h pre b is =
        ap (λ x. has_doubles terms (cursor_rows (world_of h.shared) x)) (sym (opened h0 h pre).1) ∙ is
