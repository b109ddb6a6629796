-- What loops put into a sorter.
use Rattle.std.proofs.Common.{◌≡◌, ℕ, add-one, All, ◌+◌, ◌<◌, List, [], ◌∷◌, ◌++◌, map, None, refl, sym, ap, ◌∙◌, subst, arith, append_assoc, append-nil}
use Rattle.std.specs.Prelude.{slice_index_or}
use Rattle.std.proofs.lemmas.List.FromFn.{map-range_with_len_more}
use Rattle.eng_value.specs.Environments.{Environment, ItemRow, null_row}
use Rattle.eng_value.specs.declared.out.Out.{Out}
use Rattle.gen_loop.specs.Loops.{KeepsWritten, at_row, each, row_seen}
use Rattle.gen_loop.specs.Needs.{rowids_needs}
use Rattle.gen_loop.specs.Sorting.{collect, rowids_of, sorted_row}
use Rattle.sql_meaning.specs.Products.{FromRow}
use Rattle.vm_code.specs.declared.op.Op.TheVariants as op
use Rattle.vm_code.specs.declared.open_cursor.Need.{Need}
use Rattle.vm_code.specs.declared.open_cursor.Need.TheVariants as need
use Rattle.vm_code.specs.Draft.{Draft, released, taken, with_op}
use Rattle.vm_code.specs.Track.{Meets, OpenSet}
use Rattle.vm_code.specs.Tracked.{Steady}
use Rattle.vm_code.specs.Machine.{Setting, added, outs_from, put, read, row_of_outs, world_of}
use Rattle.vm_code.specs.Frames.{Does, Done, Effect, Fills, Grows, Here, Leaves, Memory, Sight, environment_of, memory_of, needing}
use Rattle.vm_code.specs.Claims.{Claim, Last, Triple}
use Rattle.vm_code.proofs.Drafts.{g_op, g_released, g_taken, grows_then}
use Rattle.vm_code.proofs.Effects.{But, EndsDone, EndsFailed, but_none, but_regs, does_of, t_put}
use Rattle.vm_code.proofs.Fills.{fills_more, fills_same, fills_wider, t_fills}
use Rattle.vm_code.proofs.Meeting.{met_left, met_right}
use Rattle.vm_code.proofs.Registers.{outs_last, outs_same, row_now}
use Rattle.vm_code.proofs.Sorters.{t_sorter_insert}
use Rattle.vm_code.proofs.Tracks.{st_op, st_released, st_taken, st_then}
use Rattle.vm_code.proofs.Triples.{no_labels, t_draft, t_more, t_seq}
use Rattle.vm_code.proofs.Values.{leaves_reads}

-- ---- rows one after the other

-- the rows stand behind those of the sorter
pub collects : (width : ℕ) (sight : Sight) (rows : List FromRow) (x : Memory) (front : List ItemRow) (lists : List (List ItemRow)) → x.store.lists ≡ front ∷ lists → each (at_row (collect width) sight) rows x ≡ Done (record x { store = record x.store { lists = (front ++ map (sorted_row width) rows) ∷ lists } })
collects width sight [] x front lists is =
    ap (λ l. Done (record x { store = record x.store { lists = l } })) (is ∙ ap (λ l. l ∷ lists) (sym (append-nil front)))
collects width sight (row ∷ rows) x front lists is =
    let r = sorted_row width row in
    let y : Memory = record x { store = record x.store { lists = added r x.store.lists } } in
    collects width sight rows y (front ++ r ∷ []) lists (ap (added r) is)
    ∙ ap (λ l. Done (record x { store = record x.store { lists = l ∷ lists } })) (append_assoc front (r ∷ []) (map (sorted_row width) rows))

pub collect-keeps : (width : ℕ) → KeepsWritten (collect width)
collect-keeps width sight causes x y e =
    let same : record x { store = record x.store { lists = added (sorted_row width (row_seen sight causes)) x.store.lists } } ≡ y = cc in
    ap (λ (z : Memory). z.shared.written) (sym same)

-- ---- rowids in registers

abbrev pub rowid_at : ℕ → Environment → Out
rowid_at place env = (slice_index_or env.rows place null_row).rowid

pub rowids-more : (width : ℕ) (rows : List ItemRow) → rowids_of width rows ++ (slice_index_or rows width null_row).rowid ∷ [] ≡ rowids_of (width + 1) rows
rowids-more width rows = sym (map-range_with_len_more (λ place. (slice_index_or rows place null_row).rowid) 0 width width (omega arith))

abbrev more_needs : ℕ → List Need
more_needs place = rowids_needs place ++ need.Rows place ∷ []

needs-more : (place : ℕ) → rowids_needs (place + 1) ≡ more_needs place
needs-more place = map-range_with_len_more need.Rows 0 place place (omega arith)

fewer_met : (place : ℕ) (xs : OpenSet) → All (Meets xs) (rowids_needs (place + 1)) → All (Meets xs) (rowids_needs place)
fewer_met place xs met =
    met_left xs (rowids_needs place) (need.Rows place ∷ []) (subst (All (Meets xs)) (needs-more place) met)

own_met : (place : ℕ) (xs : OpenSet) → All (Meets xs) (rowids_needs (place + 1)) → All (Meets xs) (need.Rows place ∷ [])
own_met place xs met =
    met_right xs (rowids_needs place) (need.Rows place ∷ []) (subst (All (Meets xs)) (needs-more place) met)

-- the rowid of one item more
pub fills-rowid : {a b : Draft} (place to : ℕ) → to ≡ b.next → Fills (needing (rowids_needs place)) a b place (λ env. rowids_of place env.rows) (λ env. place) → Fills (needing (rowids_needs (place + 1))) a (with_op (taken b) (op.Rowid place to)) (place + 1) (λ env. rowids_of (place + 1) env.rows) (λ env. place + 1)
fills-rowid {a} {b} place to is before =
    let all = rowids_needs (place + 1) in
    let reads : Leaves (needing all) (taken b) (with_op (taken b) (op.Rowid place to)) to (rowid_at place) (λ env. 1) = leaves_reads (needing all) (taken b) (op.Rowid place to) to (rowid_at place) refl (own_met place) (omega (arith, is)) (omega arith) (λ m at s. ap (λ (r : ItemRow). put s to r.rowid) (row_now (world_of s.shared) s.scene.cursors place)) in
    fills_same (λ env. rowids_of (place + 1) env.rows) (λ env. place + 1) (λ env. rowids-more place env.rows) (λ env. omega arith) (fills_more to (fills_wider all (fewer_met place) before) is reads)

-- ---- the code

module _ (a r : Draft) (width causes : ℕ) (fills : Fills (needing (rowids_needs width)) a r width (λ env. rowids_of width env.rows) (λ env. width)) (causes_lt : causes < a.next) where
  abbrev copy : ℕ
  copy = r.next

  abbrev c1 : Draft
  c1 = taken r

  abbrev c2 : Draft
  c2 = with_op c1 (op.Copy causes copy)

  abbrev c3 : Draft
  c3 = with_op c2 (op.SorterInsert a.next (width + 1))

  abbrev code : Draft
  code = released c3 a.next

  grows_c3 : Grows a c3
  grows_c3 =
      grows_then fills.grows (grows_then (g_taken r) (grows_then (g_op c1 (op.Copy causes copy)) (g_op c2 (op.SorterInsert a.next (width + 1)))))

  abbrev needs : List Need
  needs = rowids_needs width

  steady_c3 : Steady needs [] a c3
  steady_c3 =
      st_then fills.grows fills.steady (st_then (g_taken r) (st_taken needs [] r) (st_then (g_op c1 (op.Copy causes copy)) (st_op needs [] c1 (op.Copy causes copy) (refl, refl)) (st_op needs [] c2 (op.SorterInsert a.next (width + 1)) (refl, refl))))

  module _ (m : Setting) where
    abbrev E : Effect
    E = collect width

    abbrev last : Last
    last = EndsFailed m E 0 causes

    abbrev done : Claim
    done = EndsDone m E 0 causes a.next

    -- registers from the first free one on alone are others
    abbrev kept : Claim
    kept = But a.next a.next

    abbrev rowids : Here → List Out
    rowids h0 = rowids_of width (environment_of m h0).rows

    abbrev started : Claim
    started h0 h = h ≡ h0

    abbrev filled : Claim
    filled h0 h = kept h0 h × (outs_from h.regs a.next width ≡ rowids h0)

    abbrev copied : Claim
    copied h0 h = kept h0 h × (outs_from h.regs a.next (width + 1) ≡ rowids h0 ++ read h0.regs causes ∷ [])

    fetches : Triple m a r (λ h0. width) no_labels last started filled
    fetches = t_fills m tt no_labels last started filled fills (λ h0 h pre. ap (environment_of m) pre) (λ h0 h regs pre long is same.
        (but_regs regs (λ k lt ne. same k lt) (subst (But a.next a.next h0) (sym pre) (but_none a.next a.next h0)), is ∙ ap (λ x. rowids_of width (environment_of m x).rows) pre))

    copies : Triple m r c2 (λ h0. 1) no_labels last filled copied
    copies =
        let put_it = t_put m c1 (op.Copy causes copy) copy (λ h. read h.regs causes) no_labels last filled copied (omega arith) (λ at s. refl) (λ h0 h regs pre long is same. (
          but_regs regs (λ k lt ne. same k (λ e. absurd (omega (arith, e, lt, fills.next)))) pre.0,
          ap (outs_from regs a.next) (add-one width)
              ∙ outs_last regs width a.next
              ∙ ap (λ l. l ++ read regs (a.next + width) ∷ []) (outs_same regs h.regs width a.next (λ k ge lt. same k (λ e. absurd (omega (arith, e, lt, fills.next)))) ∙ pre.1)
              ∙ ap (λ k. rowids h0 ++ read regs k ∷ []) (sym fills.next)
              ∙ ap (λ o. rowids h0 ++ o ∷ []) (is ∙ pre.0.regs causes causes_lt (λ e. absurd (omega (arith, e, causes_lt)))),
        )) in
        t_more (λ h0. 1) (λ h0. omega arith) (t_seq (t_draft m no_labels last filled (g_taken r) refl) put_it)

    memory_was : (h0 h : Here) → kept h0 h → memory_of 0 h ≡ memory_of 0 h0
    memory_was h0 h k =
        ap (λ y. memory_of 0 (record h { store = y })) k.store ∙ ap (λ y. memory_of 0 (record h0 { shared = y })) k.shared

    inserts : Triple m c2 c3 (λ h0. 1) no_labels last copied done
    inserts = t_sorter_insert m c2 a.next (width + 1) no_labels last copied done (λ h0 h pre. (
      (λ k ge lt. pre.0.regs k lt (λ e. absurd (omega (arith, e, lt)))),
      pre.0.scene,
      ap (λ (x : Memory). Done (record x { store = record x.store { lists = added (row_of_outs (rowids h0 ++ read h0.regs causes ∷ [])) x.store.lists } })) (sym (memory_was h0 h pre.0))
          ∙ ap (λ l. Done (record (memory_of 0 h) { store = record h.store { lists = added (row_of_outs l) h.store.lists } })) (sym pre.1),
    ))

    whole : Triple m a code (λ h0. width + 2) no_labels last started done
    whole =
        t_more (λ h0. width + 2) (λ h0. omega arith) (t_seq (t_seq (t_seq fetches copies) inserts) (t_draft m no_labels last done (g_released c3 a.next) refl))

  pub collect-does : Does (needing (rowids_needs width)) a code 0 causes None (collect width) (λ sight held x. width + 2)
  collect-does =
      does_of 0 causes None (collect width) (λ h0 h. h ≡ h0) (grows_then grows_c3 (g_released c3 a.next)) refl (st_then grows_c3 steady_c3 (st_released needs [] c3 a.next)) (λ h shut. refl) (λ m called. whole m)
