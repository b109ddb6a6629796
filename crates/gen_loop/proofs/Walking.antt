-- A walk over a sorter: a body at each row of a FROM, with the cursors of its items back on their rows.
use Rattle.std.proofs.Common.{All, ◌≡◌, ℕ, zero, suc, add-one, ◌+◌, ◌*◌, ◌≤◌, ◌<◌, Bool, List, [], ◌∷◌, ◌++◌, Option, Some, None, ℤ, get_or, length, map, sum_by, refl, sym, ap, ◌∙◌, subst, arith, inl, inr, ◌⊎◌, ⊎_elim}
use Rattle.std.specs.Prelude.{⊤, slice_get, slice_set}
use Rattle.std.specs.List.{AllByRecursion}
use Rattle.std.proofs.Math.ListN.{get_or-map, length-set}
use Rattle.std.proofs.lemmas.Bool.{cases_order}
use Rattle.std.proofs.lemmas.List.{ext_get_or, get_or-set_other, get_or-set_same, length-map}
use Rattle.std.proofs.lemmas.List.Sums.{sum_by-cons}
use Rattle.eng_value.specs.Arrangements.{arranged}
use Rattle.eng_value.specs.Environments.{ItemRow, null_row}
use Rattle.eng_value.specs.StoredRows.{StoredRow}
use Rattle.eng_value.specs.Written.{Written}
use Rattle.eng_value.specs.declared.out.Out.{Out}
use Rattle.eng_value.specs.declared.out.Out.TheVariants.{Good}
use Rattle.eng_value.specs.declared.value.Value.TheVariants.{Null}
use Rattle.eng_value.proofs.Arranging.{arranged-shuffled}
use Rattle.eng_value.proofs.Sorting.{length-shuffled}
use Rattle.gen_loop.specs.Loops.{KeepsWritten, at_row, each}
use Rattle.gen_loop.specs.Sorting.{all_taken, at_row_found, at_row_sorted, position_terms, rowids_of, sorted_row, sought_all, walk_end, walk_top, walked, with_row_taken}
use Rattle.gen_loop.proofs.Cursors.{cursors_opened, length-opened}
use Rattle.gen_loop.proofs.Found.{IsFound, item_row}
use Rattle.gen_loop.proofs.Positions.{arranged-sorted, column-causes, column-rowid, long-outs}
use Rattle.gen_loop.proofs.Seeking.{all-grows, all-next, all-same, all-steady, end-open, found-cursors, found-next, sought-grows, sought-same, sought-steady, t_moves, t_seeks, top-open}
use Rattle.gen_loop.proofs.Tables.{Tables}
use Rattle.gen_loop.proofs.Turns.{memory-same}
use Rattle.plan_tree.specs.Plans.{stands_before}
use Rattle.plan_tree.specs.declared.access.Loop.{Loop}
use Rattle.sql_meaning.specs.Products.{FromRow, in_row}
use Rattle.vm_code.specs.declared.op.Op.{Op}
use Rattle.vm_code.specs.declared.op.Op.TheVariants as op
use Rattle.vm_code.specs.declared.open_cursor.Need.{Need}
use Rattle.vm_code.specs.declared.open_cursor.Need.TheVariants as need
use Rattle.vm_code.specs.Draft.{Draft, bound, with_label, with_op}
use Rattle.vm_code.specs.Track.{Meets, OpenSet, needs_of}
use Rattle.vm_code.specs.Tracked.{HasPlace, Steady}
use Rattle.vm_code.specs.Machine.{Cursor, Closed, Open, Sorted, IsSound, Setting, State, act, columns_from, comes_before, current, cursor_at, dropped, first_sorted, held, last_list, other_lists, outs_from, put_all, read, row_read, sorted_to, with_lists, world_of, World}
use Rattle.vm_code.specs.Frames.{Does, Done, Effect, Fails, Grows, Here, Memory, Outcome, Shut, Sight, and_then, effect_at, environment_of, here, memory_of, needing, placed, sight_of, with_regs}
use Rattle.vm_code.specs.Claims.{Claim, Last, Triple}
use Rattle.vm_code.proofs.Calls.{length-put_all, put_all-in_front, put_all-outs}
use Rattle.vm_code.proofs.Drafts.{extends, g_bound, g_label, g_op, g_released, g_taken, grows_then, long_label}
use Rattle.vm_code.proofs.Effects.{EndsFailed, Keeps, t_does}
use Rattle.vm_code.proofs.Loops.{At, comes_onto, goes_onto, moved, put_aside, t_each}
use Rattle.vm_code.proofs.Registers.{row_now}
use Rattle.vm_code.proofs.Seeks.{IsRowOf, place_for, reads_sought, rowid_out, seeks}
use Rattle.vm_code.proofs.Sorters.{columns-outs, length-columns, t_sorter_data, without_last}
use Rattle.vm_code.proofs.Tracks.{has-bound, needs_one, place-bound, st_bind, st_fork_reads, st_made, st_on, st_reads, st_released, st_taken, st_then, st_within}
use Rattle.vm_code.proofs.Triples.{no_labels, t_draft, t_more, t_seq}

-- ---- registers and cursors

-- one of some registers one after another
read-outs : (regs : List Out) (n first k : ℕ) → k < n → read regs (first + k) ≡ get_or (outs_from regs first n) k (Good Null)
read-outs regs zero first k lt = absurd (omega (arith, lt))
read-outs regs (suc n) first zero lt = ap (read regs) (omega arith)
read-outs regs (suc n) first (suc k) lt = ap (read regs) (omega arith) ∙ read-outs regs n (first + 1) k (omega (arith, lt))

-- the rowid that a row reads
reads-rowid : (o : Option StoredRow) → (row_read o).rowid ≡ rowid_out o
reads-rowid None = refl
reads-rowid (Some r) = refl

abbrev rowid_in : Option StoredRow → Option ℤ
rowid_in None = None
rowid_in (Some r) = Some r.rowid

place-is : (t : ℕ) (o : Option StoredRow) → place_for t o ≡ Open t (rowid_in o)
place-is t None = refl
place-is t (Some r) = refl

-- so much for each
sum-same : {X : Type 0} (n : ℕ) (xs : List X) → sum_by (λ x. n) xs ≡ length xs * n
sum-same n [] = omega arith
sum-same n (x ∷ xs) =
    let more : (length xs + 1) * n ≡ length xs * n + n = omega arith in
    omega (arith, sum_by-cons (λ x. n) x xs, sum-same n xs, more, ap (λ k. k * n) (add-one (length xs)))

-- arranging makes no rows
long-arranged : (before : FromRow → FromRow → Bool) (rows : List FromRow) → length (arranged before rows) ≡ length rows
long-arranged before rows = sym (length-shuffled rows (arranged before rows) (arranged-shuffled before rows))

module _ {body_needs : List Need} (a turn : Draft) (width lo : ℕ) (F : Effect) (most : ℕ) (lo_le : lo ≤ a.next) (cursors_is : a.cursors ≡ width + 1) (does : Does (needing body_needs) (at_row_found a width) turn lo (a.next + width) None F (λ sight causes x. most)) (keeps : KeepsWritten F) (wide : turn.cursors ≡ (at_row_found a width).cursors) where
  abbrev first : ℕ
  first = a.next

  abbrev causes : ℕ
  causes = a.next + width

  abbrev end : ℕ
  end = walk_end a

  abbrev top : ℕ
  top = walk_top a

  abbrev b1 : Draft
  b1 = with_label a

  abbrev b2 : Draft
  b2 = with_label b1

  abbrev b3 : Draft
  b3 = with_row_taken a width

  abbrev sort : Op
  sort = op.SorterSort width (position_terms width) end

  abbrev b4 : Draft
  b4 = with_op b3 sort

  abbrev b5 : Draft
  b5 = at_row_sorted a width

  abbrev load : Op
  load = op.SorterData width first (width + 1)

  abbrev b6 : Draft
  b6 = with_op b5 load

  abbrev b7 : Draft
  b7 = at_row_found a width

  abbrev e1 : Draft
  e1 = with_op turn (op.SorterNext width top)

  abbrev e2 : Draft
  e2 = bound e1 end

  abbrev code : Draft
  code = walked a turn width

  -- ---- labels

  top_n : top ≡ end + 1
  top_n = long_label a

  top_b4 : slice_get b4.labels top ≡ Some None
  top_b4 = top-open a width

  end_turn : slice_get turn.labels end ≡ Some None
  end_turn = end-open a width turn does.grows

  -- ---- drafts

  b2_b3 : Grows b2 b3
  b2_b3 = grows_then (all-grows width b2) (g_taken (all_taken b2 width))

  a_b3 : Grows a b3
  a_b3 = grows_then (g_label a) (grows_then (g_label b1) b2_b3)

  a_b5 : Grows a b5
  a_b5 = g_bound b4 top (grows_then a_b3 (g_op b3 sort)) (omega (arith, top_n)) top_b4

  b5_turn : Grows b5 turn
  b5_turn = grows_then (g_op b5 load) (grows_then (sought-grows first width b6) does.grows)

  a_e2 : Grows a e2
  a_e2 = g_bound e1 end (grows_then a_b5 (grows_then b5_turn (g_op turn (op.SorterNext width top)))) (omega arith) end_turn

  pub walk-grows : Grows a code
  walk-grows = grows_then a_e2 (g_released e2 first)

  room_b5 : first + width + 1 ≤ b5.most
  room_b5 = omega (arith, all-next width b2)

  cursors_b3 : b3.cursors ≡ width + 1
  cursors_b3 = all-same (λ (d : Draft). d.cursors) (λ d. refl) width b2 ∙ cursors_is

  cursors_b7 : b7.cursors ≡ width + 1
  cursors_b7 = found-cursors a width ∙ cursors_is

  -- ---- what is open

  module _ (needs : List Need) (sorter_met : (xs : OpenSet) → All (Meets xs) needs → Meets xs (need.Sorter width)) (tables_met : (xs : OpenSet) → All (Meets xs) needs → Tables width xs) (body_met : (xs : OpenSet) → All (Meets xs) needs → All (Meets xs) body_needs) where
    -- an instruction on the sorter's cursor
    own_met : (o : Op) → needs_of o ≡ need.Sorter width ∷ [] → (xs : OpenSet) → All (Meets xs) needs → All (Meets xs) (needs_of o)
    own_met o is xs met = needs_one o (need.Sorter width) xs is (sorter_met xs met)

    abbrev labels : List ℕ
    labels = top ∷ end ∷ []

    turns : Steady needs labels b2 e2
    turns =
        st_then (all-grows width b2) (all-steady needs labels width b2) (st_then (g_taken (all_taken b2 width)) (st_taken needs labels (all_taken b2 width)) (st_then (g_op b3 sort) (st_fork_reads needs labels b3 sort end refl (own_met sort refl) (inr (inl refl))) (st_on (λ k xs m. m) (st_bind needs labels b4 top (inl refl)) (st_then (g_op b5 load) (st_reads needs labels b5 load refl (own_met load refl)) (st_then (sought-grows first width b6) (sought-steady needs labels first width b6 tables_met) (st_then does.grows (st_within labels body_met does.steady) (st_then (g_op turn (op.SorterNext width top)) (st_fork_reads needs labels turn (op.SorterNext width top) top refl (own_met (op.SorterNext width top) refl) (inl refl)) (st_bind needs labels e1 end (inr (inl refl))))))))))

    top_placed : HasPlace e2 top
    top_placed =
        has-bound e1 end top (does.steady.keeps top ((sought-steady needs labels first width b6 tables_met).keeps top (place-bound b4 top top_b4)))

    pub walk-steady : Steady needs [] a code
    walk-steady =
        st_then a_e2 (st_made end refl (place-bound e1 end end_turn) (st_made top refl top_placed turns)) (st_released needs [] e2 first)

  -- ---- what it does

  module _ (m : Setting) (loops : List Loop) (given : Here → List FromRow) (E : Effect) where
    abbrev pub opened : Here → List Cursor
    opened h0 = cursors_opened loops h0.scene.cursors

    abbrev pub ordered : Here → List FromRow
    ordered h0 = arranged (stands_before width) (given h0)

    abbrev pub at_each : Here → FromRow → Memory → Outcome
    at_each h0 = at_row F (sight_of m h0)

    abbrev last : Last
    last = EndsFailed m E lo 0

    -- these rows are left; each item's cursor is open on its table, wherever it is
    pub record Walking (rs : List FromRow) (h0 h : Here) : Type 0 where
      pub regs : Keeps lo a.next h0.regs h.regs
      pub inputs : h.inputs ≡ h0.inputs
      pub slots : h.scene.slots ≡ h0.scene.slots
      pub many : length h.scene.cursors ≡ length h0.scene.cursors
      pub written : h.shared.written ≡ h0.shared.written
      pub tables : (k : ℕ) → k < width → (t : ℕ) × (place : Option ℤ) × (cursor_at (opened h0) k ≡ Open t None) × (cursor_at h.scene.cursors k ≡ Open t place)
      pub shut : Shut (width + 1) h.scene.cursors
      pub closed : Shut 0 h0.scene.cursors
      pub found : AllByRecursion (IsFound (world_of h0.shared) (opened h0) width) rs
      pub left : effect_at m E lo 0 h0 ≡ each (at_each h0) rs (memory_of lo h)

    abbrev pub off : Cursor
    off = Sorted []

    abbrev on_row : FromRow → List FromRow → Cursor
    on_row r rs = Sorted (sorted_row width r ∷ map (sorted_row width) rs)

    abbrev pub opening : Claim
    opening h0 h = last_list h.store.lists ≡ map (sorted_row width) (given h0)

    abbrev inv : List FromRow → Claim
    inv rs h0 h = Walking rs h0 h

    -- other cursors than the sorter's
    stable : (rs : List FromRow) (h0 h : Here) (x : Cursor) → inv rs h0 h → inv rs h0 (moved h width x)
    stable rs h0 h x w = record {
      regs = w.regs;
      inputs = w.inputs;
      slots = w.slots;
      many = length-set h.scene.cursors width x ∙ w.many;
      written = w.written;
      tables = λ k lt.
          let told = w.tables k lt in
          (told.0, told.1, told.2, get_or-set_other h.scene.cursors width k x Closed (λ same. absurd (omega (arith, same, lt))) ∙ told.3);
      shut = λ k le. get_or-set_other h.scene.cursors width k x Closed (λ same. absurd (omega (arith, same, le))) ∙ w.shut k le;
      closed = w.closed;
      found = w.found;
      left = w.left;
    }

    begins : (at : ℕ → ℕ) (h0 : Here) (s : State) → At width off opening h0 (here s) → act m (Some (placed at sort)) s ≡ comes_onto off on_row (ordered h0) (record s { store = without_last s.store }) width (at end)
    begins at h0 s pre =
        ap (λ l. sorted_to (with_lists s (other_lists s.store.lists)) width (at end) (arranged (comes_before (position_terms width)) l)) pre.1
        ∙ ap (sorted_to (with_lists s (other_lists s.store.lists)) width (at end)) (arranged-sorted width (given h0))
        ∙ by (ordered h0)
      where
        by : (rs : List FromRow) → sorted_to (with_lists s (other_lists s.store.lists)) width (at end) (map (sorted_row width) rs) ≡ comes_onto off on_row rs (record s { store = without_last s.store }) width (at end)
        by [] = refl
        by (r ∷ rs) = refl

    goes : (at : ℕ → ℕ) (rs : List FromRow) (r : FromRow) (s : State) → cursor_at s.scene.cursors width ≡ on_row r rs → act m (Some (placed at (op.SorterNext width top))) s ≡ goes_onto off on_row rs s width (at top)
    goes at rs r s is = ap (λ x. dropped x s width (at top)) is ∙ by rs
      where
        by : (rs : List FromRow) → dropped (on_row r rs) s width (at top) ≡ goes_onto off on_row rs s width (at top)
        by [] = refl
        by (q ∷ qs) = refl

    -- ---- a turn

    module _ (r : FromRow) (rs : List FromRow) where
      -- the registers hold the rowids and the causes of the row
      abbrev Loaded : Here → Type 0
      Loaded h =
          ((k : ℕ) → k < width → read h.regs (first + k) ≡ (item_row r k).rowid) × (read h.regs causes ≡ r.causes)

      -- so many cursors read the rows of their items
      abbrev Sought : ℕ → Here → Here → Type 0
      Sought n h0 h = (k : ℕ) → k < n → current (world_of h0.shared) (cursor_at h.scene.cursors k) ≡ item_row r k

      abbrev before_turn : Claim
      before_turn h0 h = At width (on_row r rs) (λ h0 h. ⊤ × inv (r ∷ rs) h0 h) h0 h

      abbrev seeking : ℕ → Claim
      seeking n h0 h = At width (on_row r rs) (λ h0 h. inv (r ∷ rs) h0 h × Loaded h × Sought n h0 h) h0 h

      abbrev behind_turn : Claim
      behind_turn h0 h = At width (on_row r rs) (inv rs) h0 h

      -- registers from the first free one on are others
      refilled : (h0 h : Here) (regs : List Out) → length regs ≡ length h.regs → ((k : ℕ) → k < first → read regs k ≡ read h.regs k) → inv (r ∷ rs) h0 h → inv (r ∷ rs) h0 (with_regs h regs)
      refilled h0 h regs long same w = record {
        regs = λ k ge lt. same k lt ∙ w.regs k ge lt;
        inputs = w.inputs;
        slots = w.slots;
        many = w.many;
        written = w.written;
        tables = w.tables;
        shut = w.shut;
        closed = w.closed;
        found = w.found;
        left = w.left ∙ ap (each (at_each h0) (r ∷ rs)) (sym (memory-same lo h regs long (λ k lt. same k (omega (arith, lt, lo_le)))));
      }

      abbrev outs : List Out
      outs = rowids_of width r.rows ++ r.causes ∷ []

      loads : Triple m b5 b6 (λ h0. 1) no_labels last before_turn (seeking 0)
      loads = t_sorter_data m b5 width first (width + 1) no_labels last before_turn (seeking 0) (λ h0 h pre many.
          let columns = columns_from (first_sorted (cursor_at h.scene.cursors width)) 0 (width + 1) in
          let regs = put_all h.regs first columns in
          let long : length columns ≡ width + 1 = length-columns (first_sorted (cursor_at h.scene.cursors width)) 0 (width + 1) in
          let columns_are : columns ≡ outs = ap (λ x. columns_from (first_sorted x) 0 (width + 1)) pre.0 ∙ ap (columns_from (sorted_row width r) 0) (sym (long-outs width r)) ∙ columns-outs outs in
          let room : first + length columns ≤ length h.regs = omega (arith, long, many, room_b5) in
          let now : outs_from regs first (width + 1) ≡ outs = ap (outs_from regs first) (sym long) ∙ put_all-outs h.regs first columns room ∙ columns_are in
          let reads : (k : ℕ) → k < width + 1 → read regs (first + k) ≡ get_or outs k (Good Null) = λ k lt. read-outs regs (width + 1) first k lt ∙ ap (λ l. get_or l k (Good Null)) now in
          (pre.0, (refilled h0 h regs (length-put_all h.regs first columns) (λ k lt. put_all-in_front h.regs first columns k lt) pre.1.1, ((λ k lt. reads k (omega (arith, lt)) ∙ column-rowid width r k lt), reads width (omega arith) ∙ column-causes width r), (λ k lt. absurd (omega (arith, lt))))))

      -- one cursor goes back
      seek_one : (n : ℕ) → n < width → Triple m (sought_all b6 first n) (with_op (sought_all b6 first n) (op.SeekRowid n (first + n))) (λ h0. 1) no_labels last (seeking n) (seeking (suc n))
      seek_one n lt = t_moves m (sought_all b6 first n) (op.SeekRowid n (first + n)) n no_labels last (seeking n) (seeking (suc n)) (λ at h0 s sound room pre.
          let w = pre.1.0 in
          let loaded = pre.1.1 in
          let sought = pre.1.2 in
          let told = w.tables n lt in
          let t = told.0 in
          let item = w.found.0.back n t told.2 in
          let o = item.0 in
          let x = place_for t o in
          let same_world = ap (λ (k : Written). k.world) w.written in
          let there : IsRowOf (world_of s.shared) t o = subst (λ v. IsRowOf v t o) (sym same_world) item.2 in
          let reg : read s.regs (first + n) ≡ rowid_out o = loaded.0 n lt ∙ ap (λ (q : ItemRow). q.rowid) item.1 ∙ reads-rowid o in
          let inside : n < length s.scene.cursors = omega (arith, room, cursors_sought n, lt) in
          (x, seeks m n (first + n) t told.1 o s sound told.3 reg there, (get_or-set_other s.scene.cursors n width x Closed (λ same. absurd (omega (arith, same, lt))) ∙ pre.0, (seek_moved n lt h0 (here s) x t (rowid_in o) (place-is t o) told.2 inside w, loaded, (λ k less. ⊎_elim (λ same. ap (λ i. current (world_of h0.shared) (cursor_at (slice_set s.scene.cursors n x) i)) same ∙ ap (current (world_of h0.shared)) (get_or-set_same s.scene.cursors n x Closed inside) ∙ reads_sought (world_of h0.shared) t o (subst IsSound same_world sound) item.2 ∙ sym item.1 ∙ ap (item_row r) (sym same)) (λ other. ap (current (world_of h0.shared)) (get_or-set_other s.scene.cursors n k x Closed (λ same. absurd (not_order n k same other))) ∙ sought k (below n k less other)) (cases_order k n))))))
        where
          cursors_sought : (n : ℕ) → (sought_all b6 first n).cursors ≡ width + 1
          cursors_sought n = sought-same (λ (d : Draft). d.cursors) (λ d o. refl) first n b6 ∙ cursors_b3

          not_order : (n k : ℕ) → k ≡ n → (k < n) ⊎ (n < k) → ⊥
          not_order n k same other = ⊎_elim (λ lt. omega (arith, lt, same)) (λ lt. omega (arith, lt, same)) other

          below : (n k : ℕ) → k < suc n → (k < n) ⊎ (n < k) → k < n
          below n k less other = ⊎_elim (λ lt. lt) (λ lt. absurd (omega (arith, lt, less))) other

          seek_moved : (n : ℕ) → n < width → (h0 h : Here) (x : Cursor) (t : ℕ) (place : Option ℤ) → x ≡ Open t place → cursor_at (opened h0) n ≡ Open t None → n < length h.scene.cursors → inv (r ∷ rs) h0 h → inv (r ∷ rs) h0 (moved h n x)
          seek_moved n lt h0 h x t place is base inside w = record {
            regs = w.regs;
            inputs = w.inputs;
            slots = w.slots;
            many = length-set h.scene.cursors n x ∙ w.many;
            written = w.written;
            tables = λ k less. ⊎_elim (λ same. (t, place, ap (cursor_at (opened h0)) same ∙ base, ap (cursor_at (slice_set h.scene.cursors n x)) same ∙ get_or-set_same h.scene.cursors n x Closed inside ∙ is)) (λ other. let told = w.tables k less in (told.0, told.1, told.2, get_or-set_other h.scene.cursors n k x Closed (λ same. absurd (not_order n k same other)) ∙ told.3)) (cases_order k n);
            shut = λ k le. get_or-set_other h.scene.cursors n k x Closed (λ same. absurd (omega (arith, same, le, lt))) ∙ w.shut k le;
            closed = w.closed;
            found = w.found;
            left = w.left;
          }

      -- what is seen there
      sees_row : (h0 h : Here) → seeking width h0 h → sight_of m h ≡ record (sight_of m h0) { env = in_row (environment_of m h0) r }
      sees_row h0 h pre =
          ap (λ k. sight_of m (record h { shared = record h.shared { written = k } })) w.written
          ∙ ap (λ k. sight_of m (record h { shared = record h.shared { written = h0.shared.written }; inputs = k })) w.inputs
          ∙ ap (λ k. sight_of m (record h { shared = record h.shared { written = h0.shared.written }; inputs = h0.inputs; scene = record h.scene { slots = k } })) w.slots
          ∙ ap (λ l. record (seen_by h.scene.cursors) { env = record (environment_of m h0) { rows = l } }) rows_are
          ∙ ap (λ l. record (sight_of m h0) { env = in_row (environment_of m h0) r; held = l }) holds_are
        where
          w : Walking (r ∷ rs) h0 h
          w = pre.1.0

          seen_by : List Cursor → Sight
          seen_by cursors = sight_of m (record h0 { scene = record h0.scene { cursors = cursors } })

          w0 : World
          w0 = world_of h0.shared

          cases : (P : ℕ → Type 0) (k : ℕ) → (k < width → P k) → (k ≡ width → P k) → (width + 1 ≤ k → P k) → P k
          cases P k low mid high =
              ⊎_elim mid (λ other. ⊎_elim low (λ lt. high (omega (arith, lt))) other) (cases_order k width)

          row_at_place : (k : ℕ) → current w0 (cursor_at h.scene.cursors k) ≡ item_row r k
          row_at_place k =
              cases (λ k. current w0 (cursor_at h.scene.cursors k) ≡ item_row r k) k (pre.1.2 k) (λ same. ap (λ i. current w0 (cursor_at h.scene.cursors i)) same ∙ ap (current w0) pre.0 ∙ sym (w.found.0.none k (omega (arith, same)))) (λ le. ap (current w0) (w.shut k le) ∙ sym (w.found.0.none k (omega (arith, le))))

          holds_none : (k : ℕ) → held (cursor_at h.scene.cursors k) ≡ []
          holds_none k =
              cases (λ k. held (cursor_at h.scene.cursors k) ≡ []) k (λ lt. ap held (w.tables k lt).3) (λ same. ap (λ i. held (cursor_at h.scene.cursors i)) same ∙ ap held pre.0) (λ le. ap held (w.shut k le))

          rows_are : map (current w0) h.scene.cursors ≡ r.rows
          rows_are =
              ext_get_or null_row (map (current w0) h.scene.cursors) r.rows (length-map h.scene.cursors (current w0) ∙ w.many ∙ sym (length-opened loops h0.scene.cursors) ∙ sym w.found.0.long) (λ k lt. sym (row_now w0 h.scene.cursors k) ∙ row_at_place k)

          holds_are : map held h.scene.cursors ≡ map held h0.scene.cursors
          holds_are =
              ext_get_or [] (map held h.scene.cursors) (map held h0.scene.cursors) (length-map h.scene.cursors held ∙ w.many ∙ sym (length-map h0.scene.cursors held)) (λ k lt. get_or-map held h.scene.cursors k Closed ∙ holds_none k ∙ sym (ap held (w.closed k (omega arith))) ∙ sym (get_or-map held h0.scene.cursors k Closed))

      -- the effect of the body is the one of the row
      runs_as : (h0 h : Here) (o : Outcome) → seeking width h0 h → effect_at m F lo causes h ≡ o → effect_at m E lo 0 h0 ≡ and_then o (each (at_each h0) rs)
      runs_as h0 h o pre is =
          pre.1.0.left
          ∙ ap (λ v. and_then v (each (at_each h0) rs)) (ap (λ s. F s r.causes (memory_of lo h)) (sym (sees_row h0 h pre)) ∙ ap (λ v. F (sight_of m h) v (memory_of lo h)) (sym pre.1.1.1) ∙ is)

      body : Triple m b7 turn (λ h0. most) no_labels last (seeking width) behind_turn
      body = t_does m tt (λ h0. most) no_labels last (seeking width) behind_turn does (λ h0 h pre. omega arith) (λ h0 h pre. subst (λ n. Shut n h.scene.cursors) (sym cursors_b7) pre.1.0.shut) (λ h0 h regs x pre is long own same.
          let w = pre.1.0 in (
            pre.0,
            record {
              regs = λ k ge lt. same k ge (omega (arith, lt, found-next a width)) ∙ w.regs k ge lt;
              inputs = w.inputs;
              slots = w.slots;
              many = w.many;
              written = keeps (sight_of m h) (read h.regs causes) (memory_of lo h) x is ∙ w.written;
              tables = w.tables;
              shut = w.shut;
              closed = w.closed;
              found = w.found.1;
              left = runs_as h0 h (Done x) pre is ∙ ap (λ own. each (at_each h0) rs (record x { own = own })) (sym own);
            },
          )) (λ l h0 h regs scene x e pre is long many below slots own same.
          absurd (cc)) (λ h0 h k x pre is.
          (k, x, runs_as h0 h (Fails k x) pre is, refl, refl))

      one_turn : Triple m b5 turn (λ h0. 1 + width + most) no_labels last before_turn behind_turn
      one_turn =
          let all = t_seeks m b6 first width no_labels last seeking seek_one width (omega arith) in
          t_more (λ h0. 1 + width + most) (λ h0. omega arith) (t_seq (t_seq loads all) body)

    -- in front of the walk the rows are in the sorter
    abbrev pub walk_due : Claim
    walk_due h0 h =
        At width off (λ h0 h. opening h0 h × inv (ordered h0) h0 (put_aside without_last h)) h0 h

    pub t_walk : Triple m a code (λ h0. 1 + length (given h0) * (width + 2 + most)) no_labels last walk_due (At width off (Walking []))
    t_walk =
        let takes = t_draft m no_labels last walk_due a_b3 (all-same (λ (d : Draft). length d.code) (λ d. refl) width b2) in
        let loop = t_each width end top sort (op.SorterNext width top) without_last off on_row ordered opening (λ r h. ⊤) inv begins (λ at front rs r h0 s up is pre. goes at rs r s pre.0) (λ front rs r h0 h up is w. tt) top_b4 end_turn (omega (arith, wide, cursors_b7)) (extends b5_turn) stable takes one_turn in
        let frees = t_draft m no_labels last (At width off (inv [])) (g_released e2 first) refl in
        t_more (λ h0. 1 + length (given h0) * (width + 2 + most)) (λ h0. omega (arith, costs h0)) (t_seq loop frees)
      where
        costs : (h0 : Here) → sum_by (λ (r : FromRow). 1 + width + most + 1) (ordered h0) ≡ length (given h0) * (width + 2 + most)
        costs h0 =
            let each : 1 + width + most + 1 ≡ width + 2 + most = omega arith in
            sum-same (1 + width + most + 1) (ordered h0)
            ∙ ap (λ n. n * (1 + width + most + 1)) (long-arranged (stands_before width) (given h0))
            ∙ ap (λ n. length (given h0) * n) each
