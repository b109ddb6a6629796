-- What stands in front of a row that is put: an integer is wanted, a rowid or a row in the way is looked for, and a cursor stands on the row that registers hold.
use Rattle.std.proofs.Common.{◌≡◌, ◌≢◌, ℕ, zero, suc, ◌+◌, ◌<◌, List, [], ◌∷◌, ◌++◌, cond, int_eq, slice_get, length, map, not, ◌&&◌, nat_lt, true, false, Bool, Option, Some, None, ℤ, is_some, refl, sym, ap, ◌∙◌, subst, arith}
use Rattle.std.specs.Prelude.{slice_index_or, slice_set}
use Rattle.std.proofs.lemmas.Bool.{lt-ltb}
use Rattle.std.proofs.lemmas.List.{get_or-set_same, get_or-set_other, map-set, set-set, set-get_or}
use Rattle.std.proofs.Math.ListN.{length-set}
use Rattle.std.specs.List.{filter}
use Rattle.eng_index.specs.Keys.{has_same_rowid, row_in_way, standing}
use Rattle.eng_index.specs.declared.key_term.KeyTerm.{KeyTerm}
use Rattle.eng_number.specs.Numbers.{fits_integer}
use Rattle.eng_value.specs.Causes.{CauseSet, only}
use Rattle.eng_value.specs.Environments.{column_of, row_at, table_row}
use Rattle.eng_value.specs.StoredRows.{StoredRow}
use Rattle.eng_value.specs.declared.cause.Cause.TheVariants.{Mismatch}
use Rattle.eng_value.specs.declared.out.Out.{Out}
use Rattle.eng_value.specs.declared.out.Out.TheVariants.{Good, Bad}
use Rattle.eng_value.specs.declared.value.Value.{Value}
use Rattle.eng_value.specs.declared.value.Value.TheVariants.{Null, Integer, Text, Blob}
use Rattle.vm_code.specs.declared.op.Op.{Op}
use Rattle.vm_code.specs.declared.op.Op.TheVariants.{MustBeInt, NoConflict, NotExists, RowOf}
use Rattle.vm_code.specs.Draft.{Draft, with_op}
use Rattle.vm_code.specs.Machine.{World, rows_of, row_under, is_free, is_missing, Cursor, Closed, Open, State, Setting, On, GivesUp, act, skip_if, given_up, read, integer_in, is_integer, row_in, standing_on, current, conflicted, conflicted_to, cursor_at, cursor_rows, held, world_of, Reaches}
use Rattle.vm_code.specs.Frames.{placed, Holds, Here, here, Ready, environment_of, sight_of}
use Rattle.vm_code.specs.Claims.{Claim, Labels, Last, Exits, on, off, ends, Triple}
use Rattle.vm_code.proofs.Drafts.{extends, g_op, at_op, long_op}
use Rattle.vm_code.proofs.Loops.{moved}
use Rattle.vm_code.proofs.Registers.{row_now}
use Rattle.vm_code.proofs.Runs.{reaches_op, leads_op}
use Rattle.vm_code.proofs.Triples.{t_op, t_test}

-- ---- an integer that is wanted

pub integer_is : (a : Out) → is_integer a ≡ true → (n : ℤ) × (a ≡ Good (Integer n)) × (fits_integer n ≡ true)
integer_is (Good Null) e = absurd (cc)
integer_is (Good (Integer n)) e = (n, refl, e)
integer_is (Good (Text text)) e = absurd (cc)
integer_is (Good (Blob bytes)) e = absurd (cc)
integer_is (Bad causes) e = absurd (cc)

-- an instruction that goes on or gives up
pub t_skip_if : (m : Setting) (d : Draft) (op : Op) (b : Here → Bool) (causes : CauseSet) (g : Labels) (e : Last) (p q : Claim) → ((at : ℕ → ℕ) (s : State) → act m (Some (placed at op)) s ≡ skip_if (b (here s)) s causes) → ((h0 h : Here) → p h0 h → b h ≡ true → q h0 h) → ((h0 h : Here) → p h0 h → b h ≡ false → e h0 (GivesUp causes) h.shared) → Triple m d (with_op d op) (λ h0. 1) g e p q
t_skip_if m d op b causes g e p q law goes stops = record {
  extends = extends (g_op d op);
  runs = λ u at h h0 s room start pre. by u at h h0 s room start pre (b (here s)) refl;
}
  where
    by : (u : ℕ) (at : ℕ → ℕ) → Holds (with_op d op) m.prog u at → (h0 : Here) (s : State) → Ready (with_op d op) u s → s.pc ≡ length d.code → p h0 (here s) → (v : Bool) → b (here s) ≡ v → Exits m at 1 (λ k. g k h0) (e h0) s (length (with_op d op).code) (q h0)
    by u at h h0 s room start pre true v_is =
        let go = law at s ∙ ap (λ v. skip_if v s causes) v_is ∙ ap (λ k. On (record s { pc = k + 1 })) start in
        let way = reaches_op m s (record s { pc = length d.code + 1 }) u (length d.code) (placed at op) room.unit start (at_op d op m.prog u at h) go in
        on (record {
          regs = s.regs;
          scene = s.scene;
          store = s.store;
          shared = s.shared;
          way = subst (λ k. Reaches m 1 s (record s { pc = k })) (sym (long_op d op)) way;
          long = refl;
          wide = refl;
          holds = goes h0 (here s) pre v_is;
        })
    by u at h h0 s room start pre false v_is =
        let stop = law at s ∙ ap (λ v. skip_if v s causes) v_is in
        ends (GivesUp causes) s.shared (leads_op m s u (length d.code) (placed at op) (given_up s.stack s.shared causes) room.unit start (at_op d op m.prog u at h) stop) (stops h0 (here s) pre v_is)

-- a register that must hold an integer
pub t_must_be_int : (m : Setting) (d : Draft) (r : ℕ) (g : Labels) (e : Last) (p q : Claim) → ((h0 h : Here) (n : ℤ) → p h0 h → read h.regs r ≡ Good (Integer n) → fits_integer n ≡ true → q h0 h) → ((h0 h : Here) → p h0 h → is_integer (read h.regs r) ≡ false → e h0 (GivesUp (only Mismatch)) h.shared) → Triple m d (with_op d (MustBeInt r)) (λ h0. 1) g e p q
t_must_be_int m d r g e p q goes stops = t_skip_if m d (MustBeInt r) (λ h. is_integer (read h.regs r)) (only Mismatch) g e p q (λ at s. refl) (λ h0 h pre is.
    let known = integer_is (read h.regs r) is in
    goes h0 h known.0 pre known.1 known.2) stops

-- ---- a rowid that is looked for

none_is : {X : Type 0} (o : Option X) → not (is_some o) ≡ true → o ≡ None
none_is None e = refl
none_is (Some x) e = absurd (cc)

some_is : {X : Type 0} (o : Option X) → not (is_some o) ≡ false → (x : X) × (o ≡ Some x)
some_is None e = absurd (cc)
some_is (Some x) e = (x, refl)

pub missing_none : (rows : List StoredRow) (n : ℤ) → is_missing rows n ≡ true → row_under rows n ≡ None
missing_none rows n e = none_is (row_under rows n) e

pub missing_some : (rows : List StoredRow) (n : ℤ) → is_missing rows n ≡ false → (r : StoredRow) × (row_under rows n ≡ Some r)
missing_some rows n e = some_is (row_under rows n) e

-- of a table that is there, a rowid that no row has is free
pub free_if_none : (w : World) (t : ℕ) (n : ℤ) → t < length w → row_under (rows_of w t) n ≡ None → is_free w t n ≡ true
free_if_none w t n lt none = by (lt-ltb t (length w) lt) none
  where
    by : nat_lt t (length w) ≡ true → row_under (rows_of w t) n ≡ None → is_free w t n ≡ true
    by e f =
        ap (λ b. b && is_missing (rows_of w t) n) e
        ∙ ap (λ o. not (is_some o)) f

-- a jump where the table of a cursor has no row of the rowid in a register
pub t_not_exists : (m : Setting) (d : Draft) (c r l t : ℕ) (g : Labels) (e : Last) (p q : Claim) → ((h0 h : Here) → p h0 h → (place : Option ℤ) × (cursor_at h.scene.cursors c ≡ Open t place)) → ((h0 h : Here) → p h0 h → row_under (rows_of (world_of h.shared) t) (integer_in h.regs r) ≡ None → g l h0 h) → ((h0 h : Here) (x : StoredRow) → p h0 h → row_under (rows_of (world_of h.shared) t) (integer_in h.regs r) ≡ Some x → q h0 h) → Triple m d (with_op d (NotExists c r l)) (λ h0. 1) g e p q
t_not_exists m d c r l t g e p q opened jumps goes =
    t_test m d (NotExists c r l) l missing g e p q (λ at s. refl) (λ h0 h pre is. jumps h0 h pre (missing_none (rows_of (world_of h.shared) t) (integer_in h.regs r) (seen h0 h pre true is))) (λ h0 h pre is.
    let there = missing_some (rows_of (world_of h.shared) t) (integer_in h.regs r) (seen h0 h pre false is) in
    goes h0 h there.0 pre there.1)
  where
    missing : Here → Bool
    missing h = is_missing (cursor_rows (world_of h.shared) (cursor_at h.scene.cursors c)) (integer_in h.regs r)

    seen : (h0 h : Here) → p h0 h → (b : Bool) → missing h ≡ b → is_missing (rows_of (world_of h.shared) t) (integer_in h.regs r) ≡ b
    seen h0 h pre b is =
        ap (λ x. is_missing (cursor_rows (world_of h.shared) x) (integer_in h.regs r)) (sym (opened h0 h pre).1) ∙ is

-- ---- rows in the way

none_under : (rows : List StoredRow) (r : StoredRow) → filter (has_same_rowid r) rows ≡ [] → row_under rows r.rowid ≡ None
none_under [] r e = refl
none_under (x ∷ xs) r e = by (int_eq x.rowid r.rowid) e (none_under xs r)
  where
    by : (b : Bool) → cond b (x ∷ filter (has_same_rowid r) xs) (filter (has_same_rowid r) xs) ≡ [] → (filter (has_same_rowid r) xs ≡ [] → row_under xs r.rowid ≡ None) → cond b (Some x) (row_under xs r.rowid) ≡ None
    by true f others = absurd (cc)
    by false f others = others f

none_same : (rows : List StoredRow) (r : StoredRow) → row_under rows r.rowid ≡ None → filter (has_same_rowid r) rows ≡ []
none_same [] r e = refl
none_same (x ∷ xs) r e = by (int_eq x.rowid r.rowid) e (none_same xs r)
  where
    by : (b : Bool) → cond b (Some x) (row_under xs r.rowid) ≡ None → (row_under xs r.rowid ≡ None → filter (has_same_rowid r) xs ≡ []) → cond b (x ∷ filter (has_same_rowid r) xs) (filter (has_same_rowid r) xs) ≡ []
    by true f others = absurd (cc)
    by false f others = others f

-- where none is in the way, no row has the rowid
pub missing_unless_met : (keys : List (List KeyTerm)) (rows : List StoredRow) (r : StoredRow) → row_in_way keys rows r ≡ None → row_under rows r.rowid ≡ None
missing_unless_met keys rows r e = none_under rows r (by (filter (has_same_rowid r) rows) _ e)
  where
    by : (xs ys : List StoredRow) → slice_get (xs ++ ys) 0 ≡ None → xs ≡ []
    by [] ys f = refl
    by (x ∷ xs) ys f = absurd (cc)

-- of a table that is there, the rowid of a row is free where none stands in its way
pub free_unless_met : (w : World) (t : ℕ) (keys : List (List KeyTerm)) (r : StoredRow) → t < length w → standing keys (rows_of w t) r ≡ [] → is_free w t r.rowid ≡ true
free_unless_met w t keys r lt none =
    free_if_none w t r.rowid lt (missing_unless_met keys (rows_of w t) r (ap (λ (l : List StoredRow). slice_get l 0) none))

-- without keys, none is where no row has the rowid
pub unmet_without_keys : (rows : List StoredRow) (r : StoredRow) → row_under rows r.rowid ≡ None → row_in_way [] rows r ≡ None
unmet_without_keys rows r e = ap (λ (l : List StoredRow). slice_get (l ++ []) 0) (none_same rows r e)

-- a jump where no row of a cursor's table is in the way of the one that registers hold; else the cursor comes onto the first that is
pub t_no_conflict : (m : Setting) (d : Draft) (c r first n : ℕ) (keys : List (List KeyTerm)) (l t : ℕ) (g : Labels) (e : Last) (p q : Claim) → ((h0 h : Here) → p h0 h → (place : Option ℤ) × (cursor_at h.scene.cursors c ≡ Open t place)) → ((h0 h : Here) → p h0 h → row_in_way keys (rows_of (world_of h.shared) t) (row_in h.regs r first n) ≡ None → g l h0 h) → ((h0 h : Here) (x : StoredRow) → p h0 h → row_in_way keys (rows_of (world_of h.shared) t) (row_in h.regs r first n) ≡ Some x → q h0 (moved h c (Open t (Some x.rowid)))) → Triple m d (with_op d (NoConflict c r first n keys l)) (λ h0. 1) g e p q
t_no_conflict m d c r first n keys l t g e p q opened jumps goes = record {
  extends = extends (g_op d test);
  runs = λ u at h h0 s room start pre. by u at h h0 s room start pre (in_way s) refl;
}
  where
    test : Op
    test = NoConflict c r first n keys l

    in_way : State → Option StoredRow
    in_way s = row_in_way keys (rows_of (world_of s.shared) t) (row_in s.regs r first n)

    law : (at : ℕ → ℕ) (h0 : Here) (s : State) (o : Option StoredRow) → p h0 (here s) → in_way s ≡ o → act m (Some (placed at test)) s ≡ conflicted_to s c (at l) t o
    law at h0 s o pre is =
        ap (λ x. conflicted x s c (at l) keys (row_in s.regs r first n)) (opened h0 (here s) pre).1
        ∙ ap (conflicted_to s c (at l) t) is

    by : (u : ℕ) (at : ℕ → ℕ) → Holds (with_op d test) m.prog u at → (h0 : Here) (s : State) → Ready (with_op d test) u s → s.pc ≡ length d.code → p h0 (here s) → (o : Option StoredRow) → in_way s ≡ o → Exits m at 1 (λ k. g k h0) (e h0) s (length (with_op d test).code) (q h0)
    by u at h h0 s room start pre None is =
        off l (record {
          regs = s.regs;
          scene = s.scene;
          store = s.store;
          shared = s.shared;
          way = reaches_op m s (record s { pc = at l }) u (length d.code) (placed at test) room.unit start (at_op d test m.prog u at h) (law at h0 s None pre is);
          long = refl;
          wide = refl;
          holds = jumps h0 (here s) pre is;
        })
    by u at h h0 s room start pre (Some x) is =
        let scene = record s.scene { cursors = slice_set s.scene.cursors c (Open t (Some x.rowid)) } in
        let go = law at h0 s (Some x) pre is ∙ ap (λ k. On (record s { pc = k + 1; scene = scene })) start in
        let way = reaches_op m s (record s { pc = length d.code + 1; scene = scene }) u (length d.code) (placed at test) room.unit start (at_op d test m.prog u at h) go in
        on (record {
          regs = s.regs;
          scene = scene;
          store = s.store;
          shared = s.shared;
          way = subst (λ k. Reaches m 1 s (record s { pc = k; scene = scene })) (sym (long_op d test)) way;
          long = refl;
          wide = length-set s.scene.cursors c (Open t (Some x.rowid));
          holds = goes h0 (here s) x pre is;
        })

-- ---- a cursor on the row that registers hold

-- the cursor stands there, and nothing else changes
pub t_row_of : (m : Setting) (d : Draft) (c rowid first n : ℕ) (g : Labels) (e : Last) (p q : Claim) → c < d.cursors → ((h0 h : Here) → p h0 h → c < length h.scene.cursors → q h0 (moved h c (standing_on (row_in h.regs rowid first n)))) → Triple m d (with_op d (RowOf c rowid first n)) (λ h0. 1) g e p q
t_row_of m d c rowid first n g e p q lt goes =
    t_op m d (RowOf c rowid first n) (λ h. moved h c (standing_on (row_in h.regs rowid first n))) g e p q (λ at s. refl) (λ h. (refl, length-set h.scene.cursors c (standing_on (row_in h.regs rowid first n)))) (λ h0 h most wide pre. goes h0 h pre (omega arith))

-- a cursor that was closed, moved, and closed again is as it was
pub moved_back : (h : Here) (c : ℕ) (x : Cursor) → cursor_at h.scene.cursors c ≡ Closed → moved (moved h c x) c Closed ≡ h
moved_back h c x closed =
    let same : slice_set (slice_set h.scene.cursors c x) c Closed ≡ h.scene.cursors = set-set h.scene.cursors c x Closed ∙ ap (slice_set h.scene.cursors c) (sym closed) ∙ set-get_or h.scene.cursors c Closed in
    ap (λ l. record h { scene = record h.scene { cursors = l } }) same

-- it reads that row
pub reads_row_of : (m : Setting) (h : Here) (c : ℕ) (r : StoredRow) → c < length h.scene.cursors → row_at (environment_of m (moved h c (standing_on r))) c ≡ table_row r
reads_row_of m h c r lt =
    sym (row_now (world_of h.shared) (slice_set h.scene.cursors c (standing_on r)) c)
    ∙ ap (current (world_of h.shared)) (get_or-set_same h.scene.cursors c (standing_on r) Closed lt)

-- the other cursors read what they did
pub reads_others : (m : Setting) (h : Here) (c k : ℕ) (x : Cursor) → k ≢ c → row_at (environment_of m (moved h c x)) k ≡ row_at (environment_of m h) k
reads_others m h c k x ne =
    sym (row_now (world_of h.shared) (slice_set h.scene.cursors c x) k)
    ∙ ap (current (world_of h.shared)) (get_or-set_other h.scene.cursors c k x Closed ne)
    ∙ row_now (world_of h.shared) h.scene.cursors k

-- a column of a row, and NULL behind its last value
pub column_of_row : (r : StoredRow) (k : ℕ) → column_of (table_row r) k ≡ Good (slice_index_or r.values k Null)
column_of_row r k = by r.values k
  where
    by : (vs : List Value) (k : ℕ) → slice_index_or (map Good vs) k (Good Null) ≡ Good (slice_index_or vs k Null)
    by [] k = refl
    by (v ∷ vs) zero = refl
    by (v ∷ vs) (suc k) = by vs k

-- what expressions see there
pub env_row_of : (m : Setting) (h : Here) (c : ℕ) (r : StoredRow) → environment_of m (moved h c (standing_on r)) ≡ record (environment_of m h) { rows = slice_set (environment_of m h).rows c (table_row r) }
env_row_of m h c r =
    ap (λ l. record (environment_of m h) { rows = l }) (map-set (current (world_of h.shared)) h.scene.cursors c (standing_on r))

-- a cursor that holds the same rows as before
held_moved : (c : ℕ) (x : Cursor) (cursors : List Cursor) → held (cursor_at cursors c) ≡ held x → map held (slice_set cursors c x) ≡ map held cursors
held_moved c x [] is = refl
held_moved zero x (y ∷ cursors) is = ap (λ l. l ∷ map held cursors) (sym is)
held_moved (suc c) x (y ∷ cursors) is = ap (λ l. held y ∷ l) (held_moved c x cursors is)

-- what code goes by behind a move of a cursor to a row
pub sees_moved : (m : Setting) (h : Here) (c : ℕ) (x : Cursor) → held (cursor_at h.scene.cursors c) ≡ held x → sight_of m (moved h c x) ≡ record (sight_of m h) { env = record (environment_of m h) { rows = slice_set (environment_of m h).rows c (current (world_of h.shared) x) } }
sees_moved m h c x is =
    ap (λ l. record (sight_of m (moved h c x)) { env = record (environment_of m h) { rows = l } }) (map-set (current (world_of h.shared)) h.scene.cursors c x)
    ∙ ap (λ l. record (sight_of m h) { env = record (environment_of m h) { rows = slice_set (environment_of m h).rows c (current (world_of h.shared) x) }; held = l }) (held_moved c x h.scene.cursors is)

-- what code goes by there, where the cursor was closed
pub sees_row_of : (m : Setting) (h : Here) (c : ℕ) (r : StoredRow) → cursor_at h.scene.cursors c ≡ Closed → sight_of m (moved h c (standing_on r)) ≡ record (sight_of m h) { env = record (environment_of m h) { rows = slice_set (environment_of m h).rows c (table_row r) } }
sees_row_of m h c r closed = sees_moved m h c (standing_on r) (ap held closed)
