-- A loop in which each row that is visited makes a pair.
use Rattle.std.proofs.Common.{◌≡◌, ◌≢◌, ℕ, ◌+◌, ◌≤◌, ◌<◌, Contains, List, [], ◌∷◌, length, map, sum_by, Some, None, refl, sym, ap, ◌∙◌, subst, arith, inl, inr, ⊎_elim}
use Rattle.std.specs.Prelude.{slice_get, slice_set}
use Rattle.eng_value.specs.Environments.{Environment, ItemRow, table_row}
use Rattle.eng_value.specs.StoredRows.{StoredRow}
use Rattle.eng_value.specs.Written.{Written}
use Rattle.eng_value.specs.declared.out.Out.{Out}
use Rattle.gen_loop.specs.Loops.{KeepsWritten, alone_steps, conjuncts_steps, each, loop_steps, paired, passing, path_steps, turn_steps}
use Rattle.gen_loop.specs.Needs.{conjuncts_read, loop_needs}
use Rattle.gen_loop.specs.Stretches.{ArePlaced, Comes, Nests, Stand}
use Rattle.gen_loop.proofs.Paths.{OnPath, first-cursors, first-grows, first-next, first-steady, on_path, sees_off, sees_row, t_path}
use Rattle.gen_loop.proofs.Places.{checks_met, inner_met, keys_met, loop_moves, st_inside, sums-le}
use Rattle.gen_loop.proofs.Turns.{OwesPairs, at_pair, nests_of, outer_row, owes_moved, owes_none, owes_other, owes_regs, owes_start, pair_due, pair_done, t_pair}
use Rattle.plan_tree.specs.Plans.{paired_with, visited_by}
use Rattle.plan_tree.specs.Visits.{at_item, visited}
use Rattle.plan_tree.specs.declared.access.Loop.{Loop}
use Rattle.plan_tree.specs.declared.access.Pairs.TheVariants.{Each}
use Rattle.sql_meaning.specs.Products.{FromRow, sifted, with_item}
use Rattle.vm_code.specs.declared.op.Op.TheVariants as op
use Rattle.vm_code.specs.declared.open_cursor.Need.{Need}
use Rattle.vm_code.specs.declared.open_cursor.Need.TheVariants as need
use Rattle.vm_code.specs.Draft.{Draft, with_op, with_label, bound, taken, released}
use Rattle.vm_code.specs.Tracked.{HasPlace, Steady}
use Rattle.vm_code.specs.Machine.{Cursor, Open, Setting, read, rows_of, world_of}
use Rattle.vm_code.specs.Frames.{Here, with_regs, environment_of, sight_of, Sight, memory_of, Effect, Grows, Shut, Sifts, needing}
use Rattle.vm_code.specs.Claims.{Claim, Labels, Last, Triple}
use Rattle.vm_code.proofs.Drafts.{g_bound, g_label, g_op, g_released, g_taken, grows_then, long_label, open_new, open_old, open_other}
use Rattle.vm_code.proofs.Loops.{At}
use Rattle.vm_code.proofs.Tracks.{has-bound, place-bound, st_bind, st_fork_use, st_made, st_on, st_op, st_released, st_taken, st_then}
use Rattle.vm_code.proofs.Triples.{no_labels, with_claim, t_seq, t_use, t_more, t_draft, t_bind}
use Rattle.vm_code.proofs.Effects.{t_put, EndsDone, EndsFailed}

-- ---- the code

-- the labels of a loop and its register
abbrev pub opening : Draft → Draft
opening a = taken (with_label (with_label (with_label a)))

abbrev pub end_of : Draft → ℕ
end_of a = length a.labels

abbrev pub top_of : Draft → ℕ
top_of a = length (with_label a).labels

abbrev pub next_of : Draft → ℕ
next_of a = length (with_label (with_label a)).labels

-- in front of what a turn begins with
abbrev pub at_turn : Draft → Draft → ℕ → ℕ → ℕ → Draft
at_turn first a top causes mine = with_op (bound first top) (op.Copy causes mine)

-- behind all turns
abbrev pub turned : Draft → ℕ → ℕ → ℕ → ℕ → Draft
turned y c next top end = bound (with_op (bound y next) (op.Next c top)) end

-- the label of a row is open until it has its place
pub top-open : (a first : Draft) (l : Loop) → Comes (opening a) first l.place (end_of a) l.path → slice_get first.labels (top_of a) ≡ Some None
top-open a first l comes =
    (first-grows (opening a) l.place (end_of a) l.path first comes).open_labels (top_of a) (open_old (with_label (with_label a)) (top_of a) (open_new (with_label a)))

module _ {inner : List Need} (a first t y : Draft) (l : Loop) (loops : List Loop) (lo causes : ℕ) (K : Effect) (keeps : KeepsWritten K) (nK : Environment → ℕ) (is_each : l.pairs ≡ Each) (lo_le : lo ≤ causes) (causes_lt : causes < a.next) (comes : Comes (opening a) first l.place (end_of a) l.path) (sifts : Sifts (needing (conjuncts_read l.checks)) (at_turn first a (top_of a) causes a.next) t a.next (next_of a) (sifted l.checks) (λ env. conjuncts_steps l.checks)) (wide : t.cursors ≡ (at_turn first a (top_of a) causes a.next).cursors) (nests : Nests inner loops t y lo a.next K nK) where
  abbrev c : ℕ
  c = l.place

  abbrev mine : ℕ
  mine = a.next

  abbrev end : ℕ
  end = end_of a

  abbrev top : ℕ
  top = top_of a

  abbrev next : ℕ
  next = next_of a

  abbrev z : Draft
  z = opening a

  abbrev d6 : Draft
  d6 = bound first top

  abbrev d7 : Draft
  d7 = at_turn first a top causes mine

  abbrev e1 : Draft
  e1 = bound y next

  abbrev e2 : Draft
  e2 = with_op e1 (op.Next c top)

  abbrev e3 : Draft
  e3 = bound e2 end

  abbrev code : Draft
  code = released e3 mine

  -- ---- labels

  top_n : top ≡ end + 1
  top_n = long_label a

  next_n : next ≡ end + 2
  next_n = omega (arith, top_n, long_label (with_label a))

  end_z : slice_get z.labels end ≡ Some None
  end_z = open_old (with_label (with_label a)) end (open_old (with_label a) end (open_new a))

  pub top_z : slice_get z.labels top ≡ Some None
  top_z = open_old (with_label (with_label a)) top (open_new (with_label a))

  next_z : slice_get z.labels next ≡ Some None
  next_z = open_new (with_label (with_label a))

  z_first : Grows z first
  z_first = first-grows z c end l.path first comes

  pub top_first : slice_get first.labels top ≡ Some None
  top_first = z_first.open_labels top top_z

  to_y : (k : ℕ) → k ≢ top → slice_get z.labels k ≡ Some None → slice_get y.labels k ≡ Some None
  to_y k ne is =
      nests.grows.open_labels k (sifts.grows.open_labels k (open_other first top k ne (z_first.open_labels k is)))

  pub next_y : slice_get y.labels next ≡ Some None
  next_y = to_y next (λ same. absurd (omega (arith, same, top_n, next_n))) next_z

  pub end_e : slice_get e2.labels end ≡ Some None
  end_e =
      open_other y next end (λ same. absurd (omega (arith, same, next_n))) (to_y end (λ same. absurd (omega (arith, same, top_n))) end_z)

  -- ---- drafts

  a_z : Grows a z
  a_z =
      grows_then (g_label a) (grows_then (g_label (with_label a)) (grows_then (g_label (with_label (with_label a))) (g_taken (with_label (with_label (with_label a))))))

  a_d6 : Grows a d6
  a_d6 = g_bound first top (grows_then a_z z_first) (omega (arith, top_n)) top_first

  a_y : Grows a y
  a_y = grows_then a_d6 (grows_then (g_op d6 (op.Copy causes mine)) (grows_then sifts.grows nests.grows))

  a_e3 : Grows a e3
  a_e3 =
      g_bound e2 end (grows_then (g_bound y next a_y (omega (arith, next_n)) next_y) (g_op e1 (op.Next c top))) (omega arith) end_e

  pub grows_code : Grows a code
  grows_code = grows_then a_e3 (g_released e3 mine)

  first_next : first.next ≡ a.next + 1
  first_next = first-next z c end l.path first comes

  first_cursors : first.cursors ≡ a.cursors
  first_cursors = first-cursors z c end l.path first comes

  -- ---- what is open

  abbrev needs : List Need
  needs = loop_needs l inner

  abbrev inside : List ℕ
  inside = next ∷ top ∷ end ∷ []

  own_needed : Contains needs (need.Table c)
  own_needed = loop_moves l inner

  turns : Steady needs inside z e3
  turns =
      st_then z_first (first-steady z c end needs inside l.path first own_needed (keys_met l inner) (inr (inr (inl refl))) comes) (st_on (λ k xs m. m) (st_bind needs inside first top (inr (inl refl))) (st_then (g_op d6 (op.Copy causes mine)) (st_op needs inside d6 (op.Copy causes mine) (refl, refl)) (st_then sifts.grows (st_inside needs inside (checks_met l inner) (λ k among. ⊎_elim (λ same. inl same) (λ no. absurd no) among) sifts.steady) (st_then nests.grows (st_inside needs inside (inner_met l inner) (λ k no. absurd no) nests.steady) (st_on (λ k xs m. m) (st_bind needs inside y next (inl refl)) (st_then (g_op e1 (op.Next c top)) (st_fork_use needs inside e1 (op.Next c top) top (need.Table c) refl refl own_needed (inr (inl refl))) (st_bind needs inside e2 end (inr (inr (inl refl))))))))))

  abbrev b1 : Draft
  b1 = with_label a

  abbrev b2 : Draft
  b2 = with_label b1

  abbrev b3 : Draft
  b3 = with_label b2

  top_placed : HasPlace e3 top
  top_placed =
      has-bound e2 end top (has-bound y next top (nests.steady.keeps top (sifts.steady.keeps top (place-bound first top top_first))))

  next_placed : HasPlace e3 next
  next_placed = has-bound e2 end next (place-bound y next next_y)

  pub steady_code : Steady needs [] a code
  steady_code =
      st_then a_e3 (st_made end refl (place-bound e2 end end_e) (st_made top refl top_placed (st_made next refl next_placed (st_then (g_taken b3) (st_taken needs inside b3) turns)))) (st_released needs [] e3 mine)

  -- ---- what it does

  module _ (m : Setting) (placed : ArePlaced a.cursors (l ∷ loops)) where
    abbrev G : Effect
    G = passing l.checks K

    abbrev last : Last
    last = EndsFailed m (paired l G) lo causes

    abbrev off : Cursor
    off = Open l.table None

    abbrev outer : Here → FromRow
    outer = outer_row m a l loops lo causes G

    abbrev rows_there : Here → List StoredRow
    rows_there h0 = rows_of (world_of h0.shared) l.table

    abbrev visits : Here → List StoredRow
    visits h0 = visited (environment_of m h0) l.path (rows_there h0)

    abbrev pairs : Here → List StoredRow → List FromRow
    pairs h0 rs = map (λ r. with_item c (outer h0) (table_row r)) rs

    abbrev rows_seen : StoredRow → Here → List ItemRow
    rows_seen r h0 = slice_set (environment_of m h0).rows c (table_row r)

    abbrev inv : List StoredRow → Claim
    inv rs h0 h = OwesPairs m a l loops lo causes G (pairs h0 rs) h0 h

    abbrev Nothing : List Out → Type 0
    Nothing regs = Unit {0}

    abbrev due : StoredRow → List StoredRow → Claim
    due r rs =
        pair_due m a l loops lo causes K keeps mine (omega (arith, lo_le, causes_lt)) (omega arith) Nothing (λ r q same u. u) (on_path l.path l.table r rs) (rows_seen r) (λ h0. pairs h0 rs)

    abbrev done_pair : StoredRow → List StoredRow → Claim
    done_pair r rs =
        pair_done m a l loops lo causes K keeps mine (omega (arith, lo_le, causes_lt)) (omega arith) Nothing (λ r q same u. u) (on_path l.path l.table r rs) (λ h0. pairs h0 rs)

    abbrev on_row : StoredRow → List StoredRow → Claim
    on_row r rs h0 h = OnPath l.path c l.table r rs h × inv (r ∷ rs) h0 h

    abbrev started : Claim
    started h0 h = (h ≡ h0) × (Stand (l ∷ loops) h0.scene.cursors × Shut a.cursors h0.scene.cursors)

    copied : (r : StoredRow) (rs : List StoredRow) (g : Labels) → Triple m d6 d7 (λ h0. 1) g last (on_row r rs) (due r rs)
    copied r rs g = t_put m d6 (op.Copy causes mine) mine (λ h. read h.regs causes) g last (on_row r rs) (due r rs) (omega (arith, z_first.most)) (λ at s. refl) (λ h0 h regs pre long is same.
        let held : read regs mine ≡ read h0.regs causes = is ∙ pre.1.regs causes lo_le causes_lt in
        let at : FromRow → _ = at_pair m a l loops lo causes G h0 in
        let with_causes : Out → List FromRow = λ v. record { rows = rows_seen r h0; causes = v } ∷ pairs h0 rs in
        let kept = owes_regs m a l loops lo causes G (omega (arith, lo_le, causes_lt)) (each at (pairs h0 (r ∷ rs))) h0 h regs (λ k lt. same k (λ e. absurd (omega (arith, e, lt)))) long pre.1 in
        (pre.0.0, (sees_row m l.path c l.table r rs h0 h pre.1.only pre.0, owes_other m a l loops lo causes G (each at (pairs h0 (r ∷ rs))) (each at (with_causes (read regs mine))) h0 (with_regs h regs) (ap (λ v. each at (with_causes v) (memory_of lo (with_regs h regs))) (sym held)) kept, tt)))

    turn : (r : StoredRow) (rs : List StoredRow) → Triple m d6 e1 (λ h0. 1 + (conjuncts_steps l.checks + nK (at_item (environment_of m h0) c r))) no_labels last (on_row r rs) (At c (on_path l.path l.table r rs) (inv rs))
    turn r rs =
        let gn : Labels = with_claim next (done_pair r rs) no_labels in
        let pair = t_pair m a l loops lo causes K keeps mine (omega (arith, lo_le, causes_lt)) (omega arith) Nothing (λ r q same u. u) (on_path l.path l.table r rs) (rows_seen r) (λ h0. pairs h0 rs) gn (omega (arith, first_next)) (wide ∙ first_cursors) sifts nests placed (λ h0. nK (at_item (environment_of m h0) c r)) (λ h0. omega arith) (λ h0 h pre. inl (refl, pre)) in
        t_use (on_row r rs) (At c (on_path l.path l.table r rs) (inv rs)) (λ h0 h pre. pre) (λ h0 h pre. (pre.0, pre.1.0)) (t_bind next (done_pair r rs) next_y (λ h0 h pre. pre) (t_seq (copied r rs gn) pair))

    start : (h : Here) → Stand (l ∷ loops) h.scene.cursors → Shut a.cursors h.scene.cursors → At c off (inv (visits h)) h h
    start h stand shut =
        let at : FromRow → _ = at_pair m a l loops lo causes G h in
        (stand.0, owes_other m a l loops lo causes G (paired l G (sight_of m h) (read h.regs causes)) (each at (pairs h (visits h))) h h (ap (λ p. each at (paired_with (environment_of m h) c p (visited_by (environment_of m h) l (outer h)) (outer h)) (memory_of lo h)) is_each) (owes_start m a l loops lo causes G h stand shut))

    before : Triple m a z (λ h0. 0) no_labels last started (λ h0 h. At c off (inv (visits h0)) h0 h)
    before =
        t_use started (λ h0 h. At c off (inv (visits h0)) h0 h) (λ h0 h pre. pre) (λ h0 h pre. subst (λ x. At c off (inv (visits h0)) h0 x) (sym pre.0) (start h0 pre.1.0 pre.1.1)) (t_draft m no_labels last started a_z refl)

    loop : Triple m a e3 (λ h0. 0 + path_steps l.path + (1 + sum_by (λ r. 1 + (conjuncts_steps l.checks + nK (at_item (environment_of m h0) c r)) + 1) (visits h0))) no_labels last started (At c off (inv []))
    loop =
        t_path m a z e1 (λ h0. 0) (λ r h0. 1 + (conjuncts_steps l.checks + nK (at_item (environment_of m h0) c r))) no_labels last started c l.table end top rows_there inv top_z (open_other y next end (λ same. absurd (omega (arith, same, next_n))) (to_y end (λ same. absurd (omega (arith, same, top_n))) end_z)) (omega (arith, placed.0, a_y.cursors)) (λ rs h0 h x o. owes_moved m a l loops lo causes G (each (at_pair m a l loops lo causes G h0) (pairs h0 rs)) h0 h x o) (λ rs h0 h o. ap (λ (k : Written). rows_of k.world l.table) o.only.written) l.path first comes placed.1 (λ rs h0 h pre. ap (λ (s : Sight). s.env) (sees_off m c l.table h0 h pre.1.only pre.0)) (λ rs h0 h regs same long o. owes_regs m a l loops lo causes G (omega (arith, lo_le, causes_lt)) (each (at_pair m a l loops lo causes G h0) (pairs h0 rs)) h0 h regs (λ k lt. same k (omega (arith, lt))) long o) turn before

    ends : Triple m e3 code (λ h0. 0) no_labels last (At c off (inv [])) (EndsDone m (paired l G) lo causes a.next)
    ends =
        t_use (At c off (inv [])) (EndsDone m (paired l G) lo causes a.next) (λ h0 h pre. pre) (λ h0 h pre. owes_none m a l loops lo causes G h0 h pre) (t_draft m no_labels last (At c off (inv [])) (g_released e3 mine) refl)

    enough : (h0 : Here) → 0 + path_steps l.path + (1 + sum_by (λ r. 1 + (conjuncts_steps l.checks + nK (at_item (environment_of m h0) c r)) + 1) (visits h0)) + 0 ≤ loop_steps l nK (environment_of m h0)
    enough h0 =
        let rest : StoredRow → ℕ = λ r. conjuncts_steps l.checks + nK (at_item (environment_of m h0) c r) in
        subst (λ p. 0 + path_steps l.path + (1 + sum_by (λ r. 1 + rest r + 1) (visits h0)) + 0 ≤ path_steps l.path + 1 + alone_steps p (conjuncts_steps l.checks + nK (environment_of m h0)) + sum_by (λ r. turn_steps p + rest r) (visits h0)) (sym is_each) (omega (arith, sums-le (λ r. 1 + rest r + 1) (λ r. 2 + rest r) (visits h0) (λ r. omega arith)))

    does : Triple m a code (λ h0. loop_steps l nK (environment_of m h0)) no_labels last started (EndsDone m (paired l G) lo causes a.next)
    does = t_more (λ h0. loop_steps l nK (environment_of m h0)) enough (t_seq loop ends)

  pub pairs-nest : Nests (loop_needs l inner) (l ∷ loops) a code lo causes (paired l (passing l.checks K)) (loop_steps l nK)
  pairs-nest =
      nests_of needs (l ∷ loops) lo causes (paired l (passing l.checks K)) (λ h0 h. (h ≡ h0) × (Stand (l ∷ loops) h0.scene.cursors × Shut a.cursors h0.scene.cursors)) grows_code refl steady_code (λ h stand shut. (refl, (stand, shut))) (λ m placed. does m placed)
