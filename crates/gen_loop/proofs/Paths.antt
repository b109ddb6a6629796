-- A loop over the rows that a path visits, whatever is done with them.
use Rattle.std.proofs.Common.{Contains, ◌≡◌, ℕ, ◌+◌, ◌<◌, List, [], ◌∷◌, length, sum_by, Some, None, refl, sym, ap, ◌∙◌, subst, arith}
use Rattle.std.specs.Prelude.{All, true, slice_get, slice_set}
use Rattle.std.specs.List.{filter}
use Rattle.std.proofs.lemmas.List.{set-set, set-get_or}
use Rattle.eng_index.specs.Searching.{bound_count, range_of}
use Rattle.eng_index.specs.declared.range.Range.{Range}
use Rattle.eng_value.specs.Environments.{table_row}
use Rattle.eng_value.specs.StoredRows.{StoredRow}
use Rattle.eng_value.specs.Written.{Written}
use Rattle.eng_value.specs.declared.out.Out.{Out}
use Rattle.gen_loop.specs.Loops.{key_steps, path_steps}
use Rattle.gen_loop.specs.Needs.{keys_read}
use Rattle.gen_loop.specs.Stretches.{Comes}
use Rattle.plan_tree.specs.Visits.{IsCounted, key_outs, keys_in, range_at, visited}
use Rattle.plan_tree.specs.declared.access.Path.{Path}
use Rattle.plan_tree.specs.declared.access.Path.TheVariants as path
use Rattle.plan_tree.specs.declared.access.Search.{Search}
use Rattle.vm_code.specs.declared.op.Op.{Op}
use Rattle.vm_code.specs.declared.op.Op.TheVariants as op
use Rattle.vm_code.specs.declared.open_cursor.Need.{Need}
use Rattle.vm_code.specs.declared.open_cursor.Need.TheVariants as need
use Rattle.vm_code.specs.Draft.{Draft, with_op, bound, released}
use Rattle.vm_code.specs.Track.{Meets, OpenSet}
use Rattle.vm_code.specs.Tracked.{Among, Steady}
use Rattle.vm_code.specs.Machine.{Cursor, Closed, Open, Scene, Setting, World, current, cursor_at, held, outs_from, range_in, read, row_read, row_under, rows_of, world_of}
use Rattle.vm_code.specs.Frames.{Here, with_regs, environment_of, sight_of, Fills, Grows, needing}
use Rattle.vm_code.specs.Claims.{Claim, Labels, Last, Triple}
use Rattle.vm_code.proofs.Drafts.{g_op, g_released, grows_then}
use Rattle.vm_code.proofs.Fills.{t_fills}
use Rattle.vm_code.proofs.Loops.{At, moved, t_loop}
use Rattle.vm_code.proofs.NewRows.{sees_moved}
use Rattle.vm_code.proofs.Searches.{OnChosen, chosen, t_search}
use Rattle.vm_code.proofs.Tracks.{st_fork_use, st_released, st_then, st_within}
use Rattle.vm_code.proofs.Triples.{t_seq, t_more, t_draft, t_use}

-- ---- cursors

-- where a cursor is on a row of a table, whose other rows are visited behind it
abbrev pub on_path : Path → ℕ → StoredRow → List StoredRow → Cursor
on_path path.Scan table r rs = Open table (Some r.rowid)
on_path (path.Search s) table r rs = chosen table r rs

reads_path : (p : Path) (table : ℕ) (r : StoredRow) (rs : List StoredRow) (w : World) → current w (on_path p table r rs) ≡ row_read (row_under (rows_of w table) r.rowid)
reads_path path.Scan table r rs w = refl
reads_path (path.Search s) table r rs w = refl

holds_path : (p : Path) (table : ℕ) (r : StoredRow) (rs : List StoredRow) → held (on_path p table r rs) ≡ []
holds_path path.Scan table r rs = refl
holds_path (path.Search s) table r rs = refl

-- the cursor is on this row of its table
abbrev pub OnPath : Path → ℕ → ℕ → StoredRow → List StoredRow → Here → Type 0
OnPath p c table r rs h =
    (cursor_at h.scene.cursors c ≡ on_path p table r rs) × (row_under (rows_of (world_of h.shared) table) r.rowid ≡ Some r)

-- no more than a cursor that was on no row of a table, registers, what was put aside and what was given differ
pub record OnlyMoved (c table : ℕ) (h0 h : Here) : Type 0 where
  pub inputs : h.inputs ≡ h0.inputs
  pub scene : (moved h c (Open table None)).scene ≡ h0.scene
  pub off : cursor_at h0.scene.cursors c ≡ Open table None
  pub written : h.shared.written ≡ h0.shared.written

-- so it sees what is seen where the cursor is moved there
sees_only : (m : Setting) (c table : ℕ) (x : Cursor) (h0 h : Here) → OnlyMoved c table h0 h → cursor_at h.scene.cursors c ≡ x → sight_of m h ≡ sight_of m (moved h0 c x)
sees_only m c table x h0 h only at =
    let none : Cursor = Open table None in
    let back : slice_set (slice_set h.scene.cursors c none) c x ≡ h.scene.cursors = set-set h.scene.cursors c none x ∙ ap (slice_set h.scene.cursors c) (sym at) ∙ set-get_or h.scene.cursors c Closed in
    ap (λ l. sight_of m (record h { scene = record h.scene { cursors = l } })) (sym back)
    ∙ ap (λ (s : Scene). sight_of m (moved (record h { scene = s }) c x)) only.scene
    ∙ ap (λ k. sight_of m (moved (record h { scene = h0.scene; inputs = k }) c x)) only.inputs
    ∙ ap (λ k. sight_of m (moved (record h0 { shared = record h.shared { written = k } }) c x)) only.written

-- a cursor that is there may be moved there
pub moved_there : (c : ℕ) (x : Cursor) (cursors : List Cursor) → cursor_at cursors c ≡ x → slice_set cursors c x ≡ cursors
moved_there c x cursors is =
    ap (slice_set cursors c) (sym is) ∙ set-get_or cursors c Closed

-- on no row it sees the same
pub sees_off : (m : Setting) (c table : ℕ) (h0 h : Here) → OnlyMoved c table h0 h → cursor_at h.scene.cursors c ≡ Open table None → sight_of m h ≡ sight_of m h0
sees_off m c table h0 h only at =
    sees_only m c table (Open table None) h0 h only at
    ∙ ap (λ l. sight_of m (record h0 { scene = record h0.scene { cursors = l } })) (moved_there c (Open table None) h0.scene.cursors only.off)

-- and on a row it sees that
pub sees_row : (m : Setting) (p : Path) (c table : ℕ) (r : StoredRow) (rs : List StoredRow) (h0 h : Here) → OnlyMoved c table h0 h → OnPath p c table r rs h → sight_of m h ≡ record (sight_of m h0) { env = record (environment_of m h0) { rows = slice_set (environment_of m h0).rows c (table_row r) } }
sees_row m p c table r rs h0 h only on =
    let x = on_path p table r rs in
    let there : row_under (rows_of (world_of h0.shared) table) r.rowid ≡ Some r = ap (λ (k : Written). row_under (rows_of k.world table) r.rowid) (sym only.written) ∙ on.1 in
    let reads : current (world_of h0.shared) x ≡ table_row r = reads_path p table r rs (world_of h0.shared) ∙ ap row_read there in
    sees_only m c table x h0 h only on.0
    ∙ sees_moved m h0 c x (ap held only.off ∙ sym (holds_path p table r rs))
    ∙ ap (λ row. record (sight_of m h0) { env = record (environment_of m h0) { rows = slice_set (environment_of m h0).rows c row } }) reads

-- ---- rows

all_kept : (rows : List StoredRow) → filter (λ r. true) rows ≡ rows
all_kept [] = refl
all_kept (r ∷ rows) = ap (λ l. r ∷ l) (all_kept rows)

-- ---- the loop

module _ (m : Setting) (a z y : Draft) (k : Here → ℕ) (n : StoredRow → Here → ℕ) (g : Labels) (e : Last) (begins : Claim) (c table end top : ℕ) (rows : Here → List StoredRow) (inv : List StoredRow → Claim) (top_open : slice_get z.labels top ≡ Some None) (end_open : slice_get y.labels end ≡ Some None) (wide : c < y.cursors) (moves : (rs : List StoredRow) (h0 h : Here) (x : Cursor) → inv rs h0 h → inv rs h0 (moved h c x)) (still : (rs : List StoredRow) (h0 h : Here) → inv rs h0 h → rows_of (world_of h.shared) table ≡ rows h0) where
  abbrev off : Cursor
  off = Open table None

  -- the rows that are visited
  abbrev visits : Path → Here → List StoredRow
  visits p h0 = visited (environment_of m h0) p (rows h0)

  abbrev turns : Path → Here → ℕ
  turns p h0 = 1 + sum_by (λ r. n r h0 + 1) (visits p h0)

  -- the body of a turn
  abbrev Turns : Path → Draft → Type 0
  Turns p first =
      (r : StoredRow) (rs : List StoredRow) → Triple m (bound first top) y (n r) g e (λ h0 h. OnPath p c table r rs h × inv (r ∷ rs) h0 h) (At c (on_path p table r rs) (inv rs))

  abbrev Before : Path → Type 0
  Before p = Triple m a z k g e begins (λ h0 h. At c off (inv (visits p h0)) h0 h)

  abbrev Whole : Path → Type 0
  Whole p = Triple m a (bound (with_op y (op.Next c top)) end) (λ h0. k h0 + path_steps p + turns p h0) g e begins (At c off (inv []))

  scans : Turns path.Scan (with_op z (op.Rewind c end)) → Before path.Scan → Whole path.Scan
  scans body before =
      let all : Triple m a z k g e begins (At c off (λ h0 h. inv (rows h0) h0 h)) = t_use begins (At c off (λ h0 h. inv (rows h0) h0 h)) (λ h0 h pre. pre) (λ h0 h post. (post.0, subst (λ l. inv l h0 h) (all_kept (rows h0)) post.1)) before in
      t_more (λ h0. k h0 + path_steps path.Scan + turns path.Scan h0) (λ h0. omega (arith, ap (sum_by (λ r. n r h0 + 1)) (all_kept (rows h0)))) (t_loop c table end top rows inv top_open end_open wide moves still all body)

  module _ (s : Search) (keyed : Draft) (keys : Fills (needing (keys_read s.keys)) z keyed (length s.keys) (λ env. key_outs env s.keys) (λ env. sum_by key_steps s.keys)) (counted : length s.keys ≡ bound_count s.bounds) (sees : (rs : List StoredRow) (h0 h : Here) → At c off (inv rs) h0 h → environment_of m h ≡ environment_of m h0) (refills : (rs : List StoredRow) (h0 h : Here) (regs : List Out) → ((j : ℕ) → j < z.next → read regs j ≡ read h.regs j) → length regs ≡ length h.regs → inv rs h0 h → inv rs h0 (with_regs h regs)) where
    abbrev p : Path
    p = path.Search s

    abbrev searching : Op
    searching = op.Search c s.terms s.bounds z.next end

    abbrev range_seen : Here → Range
    range_seen h0 = range_at (environment_of m h0) s

    -- the keys are in their registers, so that the search is by them
    abbrev known_keys : Claim
    known_keys h0 h = (range_in h.regs z.next s.bounds ≡ range_seen h0) × inv (visits p h0) h0 h

    fills : Triple m z keyed (λ h0. sum_by key_steps s.keys) g e (λ h0 h. At c off (inv (visits p h0)) h0 h) (At c off known_keys)
    fills = t_fills m tt g e (λ h0 h. At c off (inv (visits p h0)) h0 h) (At c off known_keys) keys (λ h0 h pre. sees (visits p h0) h0 h pre) (λ h0 h regs pre long is same.
        let outs : outs_from regs z.next (bound_count s.bounds) ≡ key_outs (environment_of m h0) s.keys = ap (outs_from regs z.next) (sym counted) ∙ is ∙ ap (λ env. key_outs env s.keys) (sees (visits p h0) h0 h pre) in
        (pre.0, (ap (range_of s.bounds) outs, refills (visits p h0) h0 h regs same long pre.1)))

    -- behind the search the registers of the keys are free
    freed : Turns p (released (with_op keyed searching) z.next) → (r : StoredRow) (rs : List StoredRow) → Triple m (bound (with_op keyed searching) top) y (n r) g e (λ h0 h. OnChosen c table r rs h × inv (r ∷ rs) h0 h) (At c (chosen table r rs) (inv rs))
    freed body r rs =
        let free = t_draft m g e (λ h0 h. OnChosen c table r rs h × inv (r ∷ rs) h0 h) (g_released (bound (with_op keyed searching) top) z.next) refl in
        t_more (n r) (λ h0. omega arith) (t_seq free (body r rs))

    searches : Turns p (released (with_op keyed searching) z.next) → Before p → Whole p
    searches body before =
        t_more (λ h0. k h0 + path_steps p + turns p h0) (λ h0. omega arith) (t_search c table end top s.terms s.bounds z.next range_seen rows inv (keys.grows.open_labels top top_open) end_open wide moves still (t_seq before fills) (freed body))

  -- either
  pub t_path : (p : Path) (first : Draft) → Comes z first c end p → IsCounted p → ((rs : List StoredRow) (h0 h : Here) → At c off (inv rs) h0 h → environment_of m h ≡ environment_of m h0) → ((rs : List StoredRow) (h0 h : Here) (regs : List Out) → ((j : ℕ) → j < z.next → read regs j ≡ read h.regs j) → length regs ≡ length h.regs → inv rs h0 h → inv rs h0 (with_regs h regs)) → Turns p first → Before p → Whole p
  t_path path.Scan first is counted sees refills body before = scans (subst (Turns path.Scan) is body) before
  t_path (path.Search s) first x counted sees refills body before =
      searches s x.keyed x.fills counted sees refills (subst (Turns (path.Search s)) x.is body) before

-- ---- what comes onto the first row

module _ (z : Draft) (c end : ℕ) where
  pub first-grows : (p : Path) (first : Draft) → Comes z first c end p → Grows z first
  first-grows path.Scan first is = subst (Grows z) (sym is) (g_op z (op.Rewind c end))
  first-grows (path.Search s) first x =
      let search = op.Search c s.terms s.bounds z.next end in
      subst (Grows z) (sym x.is) (grows_then x.fills.grows (grows_then (g_op x.keyed search) (g_released (with_op x.keyed search) z.next)))

  pub first-steady : (needs : List Need) (labels : List ℕ) (p : Path) (first : Draft) → Contains needs (need.Table c) → ((xs : OpenSet) → All (Meets xs) needs → All (Meets xs) (keys_read (keys_in p))) → Among labels end → Comes z first c end p → Steady needs labels z first
  first-steady needs labels path.Scan first inside reads among is =
      subst (Steady needs labels z) (sym is) (st_fork_use needs labels z (op.Rewind c end) end (need.Table c) refl refl inside among)
  first-steady needs labels (path.Search s) first inside reads among x =
      let search = op.Search c s.terms s.bounds z.next end in
      subst (Steady needs labels z) (sym x.is) (st_then x.fills.grows (st_within labels reads x.fills.steady) (st_then (g_op x.keyed search) (st_fork_use needs labels x.keyed search end (need.Table c) refl refl inside among) (st_released needs labels (with_op x.keyed search) z.next)))

  pub first-next : (p : Path) (first : Draft) → Comes z first c end p → first.next ≡ z.next
  first-next path.Scan first is = ap (λ (d : Draft). d.next) is
  first-next (path.Search s) first x = ap (λ (d : Draft). d.next) x.is

  pub first-cursors : (p : Path) (first : Draft) → Comes z first c end p → first.cursors ≡ z.cursors
  first-cursors path.Scan first is = ap (λ (d : Draft). d.cursors) is
  first-cursors (path.Search s) first x = ap (λ (d : Draft). d.cursors) x.is ∙ x.cursors

  pub first-units : (p : Path) (first : Draft) → Comes z first c end p → first.units ≡ z.units
  first-units path.Scan first is = ap (λ (d : Draft). d.units) is
  first-units (path.Search s) first x = ap (λ (d : Draft). d.units) x.is ∙ x.units
