-- A loop of a LEFT JOIN: a flag tells whether a row was kept, and where none was, the row stays alone.
use Rattle.std.proofs.Common.{◌≡◌, ◌≢◌, ℕ, pos, ◌+◌, ◌≤◌, ◌<◌, Contains, List, [], ◌∷◌, ◌++◌, true, false, length, sum_by, Some, None, refl, sym, ap, ◌∙◌, subst, arith, inl, inr, ◌⊎◌, ⊎_elim}
use Rattle.std.specs.Prelude.{All, slice_get, slice_set}
use Rattle.std.specs.List.{flat_map}
use Rattle.std.specs.Option.{option_map, option_to_list}
use Rattle.std.specs.declared.option.Option.{Option}
use Rattle.std.proofs.lemmas.List.Concat.{flat_map-cons}
use Rattle.bound_tree.specs.Exprs.{BoundExpr}
use Rattle.eng_value.specs.Environments.{Environment, ItemRow, no_causes, table_row}
use Rattle.eng_value.specs.StoredRows.{StoredRow}
use Rattle.eng_value.specs.Written.{Written}
use Rattle.eng_value.specs.declared.out.Out.{Out}
use Rattle.eng_value.specs.declared.out.Out.TheVariants.{Good}
use Rattle.eng_value.specs.declared.value.Value.TheVariants.{Integer}
use Rattle.gen_loop.specs.Loops.{KeepsWritten, alone_steps, conjuncts_steps, each, loop_steps, paired, passing, path_steps, turn_steps}
use Rattle.gen_loop.specs.Needs.{conjuncts_read, loop_needs}
use Rattle.gen_loop.specs.Stretches.{ArePlaced, Comes, Nests, Stand}
use Rattle.gen_loop.proofs.Pairs.{at_turn, end_of, next_of, opening, top_of}
use Rattle.gen_loop.proofs.Paths.{OnPath, first-cursors, first-grows, first-next, first-steady, on_path, sees_off, sees_row, t_path}
use Rattle.gen_loop.proofs.Places.{checks_met, inner_met, keys_met, loop_moves, ons_met, st_inside, sums-le}
use Rattle.gen_loop.proofs.Turns.{OwesPairs, at_pair, nests_of, outer_row, owes_moved, owes_none, owes_other, owes_regs, owes_start, pair_due, pair_done, t_pair, t_tests}
use Rattle.plan_tree.specs.Plans.{ons_in, paired_with, visited_by}
use Rattle.plan_tree.specs.Visits.{at_item, visited}
use Rattle.plan_tree.specs.declared.access.Loop.{Loop}
use Rattle.plan_tree.specs.declared.access.Pairs.TheVariants.{OrAlone}
use Rattle.sql_meaning.specs.Products.{FromRow, or_alone, passed, sifted, with_item}
use Rattle.vm_code.specs.declared.op.Op.TheVariants as op
use Rattle.vm_code.specs.declared.open_cursor.Need.{Need}
use Rattle.vm_code.specs.declared.open_cursor.Need.TheVariants as need
use Rattle.vm_code.specs.Draft.{Draft, with_op, with_label, bound, taken, released}
use Rattle.vm_code.specs.Track.{Meets, OpenSet}
use Rattle.vm_code.specs.Tracked.{HasPlace, Steady}
use Rattle.vm_code.specs.Machine.{Cursor, Open, Setting, advanced, is_known, read, rows_of, world_of}
use Rattle.vm_code.specs.Frames.{Here, with_regs, environment_of, sight_of, Sight, memory_of, Effect, Grows, Memory, Outcome, Shut, Sifts, needing}
use Rattle.vm_code.specs.Claims.{Claim, Labels, Last, Triple}
use Rattle.vm_code.proofs.Drafts.{extends, g_bound, g_label, g_op, g_released, g_taken, grows_then, long_label, open_new, open_old, open_other}
use Rattle.vm_code.proofs.Loops.{At, moved}
use Rattle.vm_code.proofs.Tracks.{has-bound, place-bound, st_bind, st_fork, st_fork_use, st_goto, st_made, st_on, st_op, st_released, st_taken, st_then}
use Rattle.vm_code.proofs.Triples.{no_labels, with_claim, t_seq, t_use, t_more, t_draft, t_bind, t_test, t_either, t_again, t_op_if}
use Rattle.vm_code.proofs.Effects.{t_put, EndsDone, EndsFailed}

-- ---- the code

-- two labels and the flag's register
abbrev pub flagging : Draft → Draft
flagging a = taken (with_label (with_label a))

-- in front of the first row
abbrev pub unset : Draft → Draft
unset a = with_op (opening (flagging a)) (op.Null a.next)

-- at a pair
abbrev pub at_pairs : Draft → ℕ → ℕ → Draft
at_pairs u pair flag = with_op (bound u pair) (op.Integer (pos 1) flag)

abbrev is_set : Out
is_set = Good (Integer (pos 1))

-- the label of a row is open until it has its place, and that of a pair
pub row-open : (a first : Draft) (l : Loop) → Comes (unset a) first l.place (end_of (flagging a)) l.path → slice_get first.labels (top_of (flagging a)) ≡ Some None
row-open a first l comes =
    let b = flagging a in
    (first-grows (unset a) l.place (end_of b) l.path first comes).open_labels (top_of b) (open_old (with_label (with_label b)) (top_of b) (open_new (with_label b)))

pub pair-open : (a first u : Draft) (l : Loop) (ons : List BoundExpr) (causes : ℕ) → Comes (unset a) first l.place (end_of (flagging a)) l.path → Sifts (needing (conjuncts_read ons)) (at_turn first a (top_of (flagging a)) causes (a.next + 1)) u (a.next + 1) (next_of (flagging a)) (sifted ons) (λ env. conjuncts_steps ons) → slice_get u.labels (length a.labels) ≡ Some None
pair-open a first u l ons causes comes sifts =
    let b = flagging a in
    let pair = length a.labels in
    let at_first = (first-grows (unset a) l.place (end_of b) l.path first comes).open_labels pair (open_old (with_label (with_label b)) pair (open_old (with_label b) pair (open_old b pair (open_old (with_label a) pair (open_new a))))) in
    sifts.grows.open_labels pair (open_other first (top_of b) pair (λ same. absurd (omega (arith, same, long_label a, long_label (with_label a), long_label b))) at_first)

module _ {inner : List Need} (a first u t y : Draft) (l : Loop) (ons : List BoundExpr) (loops : List Loop) (lo causes : ℕ) (K : Effect) (keeps : KeepsWritten K) (nK : Environment → ℕ) (is_alone : l.pairs ≡ OrAlone ons) (lo_le : lo ≤ causes) (causes_lt : causes < a.next) (comes : Comes (unset a) first l.place (end_of (flagging a)) l.path) (on_sifts : Sifts (needing (conjuncts_read ons)) (at_turn first a (top_of (flagging a)) causes (a.next + 1)) u (a.next + 1) (next_of (flagging a)) (sifted ons) (λ env. conjuncts_steps ons)) (sifts : Sifts (needing (conjuncts_read l.checks)) (at_pairs u (length a.labels) a.next) t (a.next + 1) (next_of (flagging a)) (sifted l.checks) (λ env. conjuncts_steps l.checks)) (u_wide : u.cursors ≡ first.cursors) (wide : t.cursors ≡ u.cursors) (nests : Nests inner loops t y lo (a.next + 1) K nK) where
  abbrev c : ℕ
  c = l.place

  abbrev flag : ℕ
  flag = a.next

  abbrev mine : ℕ
  mine = a.next + 1

  abbrev pair : ℕ
  pair = length a.labels

  abbrev done : ℕ
  done = length (with_label a).labels

  abbrev end : ℕ
  end = end_of (flagging a)

  abbrev top : ℕ
  top = top_of (flagging a)

  abbrev next : ℕ
  next = next_of (flagging a)

  abbrev z0 : Draft
  z0 = opening (flagging a)

  abbrev z : Draft
  z = unset a

  abbrev d6 : Draft
  d6 = bound first top

  abbrev d7 : Draft
  d7 = with_op d6 (op.Copy causes mine)

  abbrev u1 : Draft
  u1 = bound u pair

  abbrev u2 : Draft
  u2 = with_op u1 (op.Integer (pos 1) flag)

  abbrev e1 : Draft
  e1 = bound y next

  abbrev e2 : Draft
  e2 = with_op e1 (op.Next c top)

  abbrev e3 : Draft
  e3 = bound e2 end

  abbrev f1 : Draft
  f1 = with_op e3 (op.NotNull flag done)

  abbrev f2 : Draft
  f2 = with_op f1 (op.Copy causes mine)

  abbrev f3 : Draft
  f3 = with_op f2 (op.Goto pair)

  abbrev f4 : Draft
  f4 = bound f3 done

  abbrev code : Draft
  code = released f4 flag

  -- ---- labels

  abbrev b1 : Draft
  b1 = with_label a

  abbrev b2 : Draft
  b2 = with_label b1

  abbrev b3 : Draft
  b3 = taken b2

  abbrev b4 : Draft
  b4 = with_label b3

  abbrev b5 : Draft
  b5 = with_label b4

  abbrev b6 : Draft
  b6 = with_label b5

  done_n : done ≡ pair + 1
  done_n = long_label a

  end_n : end ≡ pair + 2
  end_n = omega (arith, done_n, long_label b1)

  top_n : top ≡ pair + 3
  top_n = omega (arith, end_n, long_label b3)

  next_n : next ≡ pair + 4
  next_n = omega (arith, top_n, long_label b4)

  from_two : (k : ℕ) → slice_get b2.labels k ≡ Some None → slice_get z.labels k ≡ Some None
  from_two k is = open_old b5 k (open_old b4 k (open_old b3 k is))

  pair_z : slice_get z.labels pair ≡ Some None
  pair_z = from_two pair (open_old b1 pair (open_new a))

  done_z : slice_get z.labels done ≡ Some None
  done_z = from_two done (open_new b1)

  end_z : slice_get z.labels end ≡ Some None
  end_z = open_old b5 end (open_old b4 end (open_new b3))

  top_z : slice_get z.labels top ≡ Some None
  top_z = open_old b5 top (open_new b4)

  next_z : slice_get z.labels next ≡ Some None
  next_z = open_new b5

  z_first : Grows z first
  z_first = first-grows z c end l.path first comes

  pub top_first : slice_get first.labels top ≡ Some None
  top_first = z_first.open_labels top top_z

  to_u : (k : ℕ) → k ≢ top → slice_get z.labels k ≡ Some None → slice_get u.labels k ≡ Some None
  to_u k ne is = on_sifts.grows.open_labels k (open_other first top k ne (z_first.open_labels k is))

  pub pair_u : slice_get u.labels pair ≡ Some None
  pair_u = to_u pair (λ same. absurd (omega (arith, same, top_n))) pair_z

  to_y : (k : ℕ) → k ≢ top → k ≢ pair → slice_get z.labels k ≡ Some None → slice_get y.labels k ≡ Some None
  to_y k ne other is = nests.grows.open_labels k (sifts.grows.open_labels k (open_other u pair k other (to_u k ne is)))

  pub next_y : slice_get y.labels next ≡ Some None
  next_y =
      to_y next (λ same. absurd (omega (arith, same, top_n, next_n))) (λ same. absurd (omega (arith, same, next_n))) next_z

  end_e1 : slice_get e1.labels end ≡ Some None
  end_e1 =
      open_other y next end (λ same. absurd (omega (arith, same, end_n, next_n))) (to_y end (λ same. absurd (omega (arith, same, end_n, top_n))) (λ same. absurd (omega (arith, same, end_n))) end_z)

  pub end_e : slice_get e2.labels end ≡ Some None
  end_e = end_e1

  pub done_f : slice_get f3.labels done ≡ Some None
  done_f =
      open_other e2 end done (λ same. absurd (omega (arith, same, end_n, done_n))) (open_other y next done (λ same. absurd (omega (arith, same, done_n, next_n))) (to_y done (λ same. absurd (omega (arith, same, done_n, top_n))) (λ same. absurd (omega (arith, same, done_n))) done_z))

  -- ---- drafts

  a_z : Grows a z
  a_z =
      grows_then (g_label a) (grows_then (g_label b1) (grows_then (g_taken b2) (grows_then (g_label b3) (grows_then (g_label b4) (grows_then (g_label b5) (grows_then (g_taken b6) (g_op z0 (op.Null flag))))))))

  a_d6 : Grows a d6
  a_d6 = g_bound first top (grows_then a_z z_first) (omega (arith, top_n)) top_first

  a_u2 : Grows a u2
  a_u2 =
      grows_then (g_bound u pair (grows_then a_d6 (grows_then (g_op d6 (op.Copy causes mine)) on_sifts.grows)) (omega arith) pair_u) (g_op u1 (op.Integer (pos 1) flag))

  a_y : Grows a y
  a_y = grows_then a_u2 (grows_then sifts.grows nests.grows)

  a_e3 : Grows a e3
  a_e3 =
      g_bound e2 end (grows_then (g_bound y next a_y (omega (arith, next_n)) next_y) (g_op e1 (op.Next c top))) (omega (arith, end_n)) end_e

  f1_f2 : Grows f1 f2
  f1_f2 = g_op f1 (op.Copy causes mine)

  a_f4 : Grows a f4
  a_f4 =
      g_bound f3 done (grows_then a_e3 (grows_then (g_op e3 (op.NotNull flag done)) (grows_then f1_f2 (g_op f2 (op.Goto pair))))) (omega (arith, done_n)) done_f

  pub grows_code : Grows a code
  grows_code = grows_then a_f4 (g_released f4 flag)

  first_next : first.next ≡ a.next + 2
  first_next = omega (arith, first-next z c end l.path first comes)

  first_cursors : first.cursors ≡ a.cursors
  first_cursors = first-cursors z c end l.path first comes

  -- ---- what is open

  abbrev needs : List Need
  needs = loop_needs l inner

  abbrev inside : List ℕ
  inside = next ∷ top ∷ end ∷ done ∷ pair ∷ []

  own_needed : Contains needs (need.Table c)
  own_needed = loop_moves l inner

  tested : (xs : OpenSet) → All (Meets xs) needs → All (Meets xs) (conjuncts_read ons)
  tested xs met = subst (λ p. All (Meets xs) (conjuncts_read (ons_in p))) is_alone (ons_met l inner xs met)

  tests_in : {d e : Draft} {own : List Need} → ((xs : OpenSet) → All (Meets xs) needs → All (Meets xs) own) → Steady own (next ∷ []) d e → Steady needs inside d e
  tests_in wider x = st_inside needs inside wider (λ k among. ⊎_elim (λ same. inl same) (λ no. absurd no) among) x

  behind : Steady needs inside y f4
  behind =
      st_on (λ k xs m. m) (st_bind needs inside y next (inl refl)) (st_then (g_op e1 (op.Next c top)) (st_fork_use needs inside e1 (op.Next c top) top (need.Table c) refl refl own_needed (inr (inl refl))) (st_on (λ k xs m. m) (st_bind needs inside e2 end (inr (inr (inl refl)))) (st_then (g_op e3 (op.NotNull flag done)) (st_fork needs inside e3 (op.NotNull flag done) done refl refl (inr (inr (inr (inl refl))))) (st_then f1_f2 (st_op needs inside f1 (op.Copy causes mine) (refl, refl)) (st_goto needs inside f2 pair done (inr (inr (inr (inr (inl refl))))) (inr (inr (inr (inl refl)))))))))

  from_pair : Steady needs inside u f4
  from_pair =
      st_on (λ k xs m. m) (st_bind needs inside u pair (inr (inr (inr (inr (inl refl)))))) (st_then (g_op u1 (op.Integer (pos 1) flag)) (st_op needs inside u1 (op.Integer (pos 1) flag) (refl, refl)) (st_then sifts.grows (tests_in (checks_met l inner) sifts.steady) (st_then nests.grows (st_inside needs inside (inner_met l inner) (λ k no. absurd no) nests.steady) behind)))

  turns : Steady needs inside b6 f4
  turns =
      st_then (g_taken b6) (st_taken needs inside b6) (st_then (g_op z0 (op.Null flag)) (st_op needs inside z0 (op.Null flag) (refl, refl)) (st_then z_first (first-steady z c end needs inside l.path first own_needed (keys_met l inner) (inr (inr (inl refl))) comes) (st_on (λ k xs m. m) (st_bind needs inside first top (inr (inl refl))) (st_then (g_op d6 (op.Copy causes mine)) (st_op needs inside d6 (op.Copy causes mine) (refl, refl)) (st_then on_sifts.grows (tests_in tested on_sifts.steady) from_pair)))))

  kept_y : (k : ℕ) → HasPlace y k → HasPlace f4 k
  kept_y k is = has-bound f3 done k (has-bound e2 end k (has-bound y next k is))

  from_u : (k : ℕ) → HasPlace u1 k → HasPlace y k
  from_u k is = nests.steady.keeps k (sifts.steady.keeps k is)

  top_placed : HasPlace f4 top
  top_placed = kept_y top (from_u top (has-bound u pair top (on_sifts.steady.keeps top (place-bound first top top_first))))

  pair_placed : HasPlace f4 pair
  pair_placed = kept_y pair (from_u pair (place-bound u pair pair_u))

  next_placed : HasPlace f4 next
  next_placed = has-bound f3 done next (has-bound e2 end next (place-bound y next next_y))

  end_placed : HasPlace f4 end
  end_placed = has-bound f3 done end (place-bound e2 end end_e)

  pub steady_code : Steady needs [] a code
  steady_code =
      st_then a_f4 (st_made pair refl pair_placed (st_made done refl (place-bound f3 done done_f) (st_then (g_taken b2) (st_taken needs (done ∷ pair ∷ []) b2) (st_made end refl end_placed (st_made top refl top_placed (st_made next refl next_placed turns)))))) (st_released needs [] f4 flag)

  -- ---- what it does

  module _ (m : Setting) (placed : ArePlaced a.cursors (l ∷ loops)) where
    abbrev G : Effect
    G = passing l.checks K

    abbrev whole : Effect
    whole = paired l G

    abbrev last : Last
    last = EndsFailed m (paired l G) lo causes

    abbrev off : Cursor
    off = Open l.table None

    abbrev outer : Here → FromRow
    outer = outer_row m a l loops lo causes G

    abbrev at : Here → FromRow → Memory → Outcome
    at = at_pair m a l loops lo causes G

    abbrev O : List FromRow → Here → Here → Type 0
    O = OwesPairs m a l loops lo causes G

    abbrev rows_there : Here → List StoredRow
    rows_there h0 = rows_of (world_of h0.shared) l.table

    abbrev visits : Here → List StoredRow
    visits h0 = visited (environment_of m h0) l.path (rows_there h0)

    abbrev pair_of : Here → StoredRow → FromRow
    pair_of h0 r = with_item c (outer h0) (table_row r)

    -- those that the ONs keep
    abbrev kept_of : Here → StoredRow → List FromRow
    kept_of h0 r = passed (environment_of m h0) ons (pair_of h0 r)

    abbrev pairs : Here → List StoredRow → List FromRow
    pairs h0 rs = flat_map (kept_of h0) rs

    abbrev rows_seen : StoredRow → Here → List ItemRow
    rows_seen r h0 = slice_set (environment_of m h0).rows c (table_row r)

    abbrev rows_alone : Here → List ItemRow
    rows_alone h0 = (environment_of m h0).rows

    -- before a row is kept, and after
    abbrev none_yet : List StoredRow → Claim
    none_yet rs h0 h = O (or_alone (outer h0) (pairs h0 rs)) h0 h × (read h.regs flag ≡ no_causes)

    abbrev Flagged : List Out → Type 0
    Flagged regs = read regs flag ≡ is_set

    abbrev some_kept : List StoredRow → Claim
    some_kept rs h0 h = O (pairs h0 rs) h0 h × Flagged h.regs

    abbrev inv : List StoredRow → Claim
    inv rs h0 h = none_yet rs h0 h ⊎ some_kept rs h0 h

    abbrev lo_mark : lo ≤ a.next
    lo_mark = omega (arith, lo_le, causes_lt)

    abbrev stable : (r q : List Out) → ((k : ℕ) → lo ≤ k → k < mine → read q k ≡ read r k) → Flagged r → Flagged q
    stable r q same set = same flag lo_mark (omega arith) ∙ set

    abbrev due : Cursor → (Here → List ItemRow) → (Here → List FromRow) → Claim
    due = pair_due m a l loops lo causes K keeps mine lo_mark (omega arith) Flagged stable

    abbrev gone : Cursor → (Here → List FromRow) → Claim
    gone = pair_done m a l loops lo causes K keeps mine lo_mark (omega arith) Flagged stable

    -- at the label of a pair
    abbrev at_label : Cursor → (Here → List ItemRow) → (Here → List FromRow) → Claim
    at_label x rows rest h0 h =
        At c x (λ h0 h. (sight_of m h ≡ record (sight_of m h0) { env = record (environment_of m h0) { rows = rows h0 } }) × O (record { rows = rows h0; causes = read h.regs mine } ∷ rest h0) h0 h) h0 h

    abbrev started : Claim
    started h0 h = (h ≡ h0) × (Stand (l ∷ loops) h0.scene.cursors × Shut a.cursors h0.scene.cursors)

    -- registers above the mark are others
    refilled : (ps : List FromRow) (h0 h : Here) (regs : List Out) → ((k : ℕ) → k < a.next → read regs k ≡ read h.regs k) → length regs ≡ length h.regs → O ps h0 h → O ps h0 (with_regs h regs)
    refilled ps h0 h regs same long o = owes_regs m a l loops lo causes G lo_mark (each (at h0) ps) h0 h regs same long o

    -- the same pairs
    same_pairs : (ps qs : List FromRow) (h0 h : Here) → ps ≡ qs → O ps h0 h → O qs h0 h
    same_pairs ps qs h0 h e o =
        owes_other m a l loops lo causes G (each (at h0) ps) (each (at h0) qs) h0 h (ap (λ l. each (at h0) l (memory_of lo h)) e) o

    -- ---- the tests of the ON, before a row is kept and after

    module _ (r : StoredRow) (rs : List StoredRow) (owed : Here → List FromRow → List FromRow) (some : (h0 : Here) (p : FromRow) (ps : List FromRow) → owed h0 (p ∷ ps) ≡ p ∷ ps) (b : Out) (g : Labels) where
      abbrev x : Cursor
      x = on_path l.path l.table r rs

      abbrev held : List StoredRow → Claim
      held rs h0 h = O (owed h0 (pairs h0 rs)) h0 h × (read h.regs flag ≡ b)

      abbrev on_row : Claim
      on_row h0 h = OnPath l.path c l.table r rs h × held (r ∷ rs) h0 h

      abbrev copied : Claim
      copied h0 h =
          At c x (λ h0 h. (sight_of m h ≡ record (sight_of m h0) { env = record (environment_of m h0) { rows = rows_seen r h0 } }) × held (r ∷ rs) h0 h × (read h.regs mine ≡ read h0.regs causes)) h0 h

      copies : Triple m d6 d7 (λ h0. 1) g last on_row copied
      copies = t_put m d6 (op.Copy causes mine) mine (λ h. read h.regs causes) g last on_row copied (omega (arith, z_first.most)) (λ at s. refl) (λ h0 h regs pre long is same.
          (pre.0.0, (sees_row m l.path c l.table r rs h0 h pre.1.0.only pre.0, (refilled (owed h0 (pairs h0 (r ∷ rs))) h0 h regs (λ k lt. same k (λ e. absurd (omega (arith, e, lt)))) long pre.1.0, same flag (λ e. absurd (omega (arith, e))) ∙ pre.1.1), is ∙ pre.1.0.regs causes lo_le causes_lt)))

      -- which pairs there are by whether the ON rejects
      pairs_by : (h0 : Here) (o : Option Out) → sifted ons (record (environment_of m h0) { rows = rows_seen r h0 }) (read h0.regs causes) ≡ o → pairs h0 (r ∷ rs) ≡ option_to_list (option_map (λ v. record (pair_of h0 r) { causes = v }) o) ++ pairs h0 rs
      pairs_by h0 o is =
          flat_map-cons (kept_of h0) r rs
          ∙ ap (λ o. option_to_list (option_map (λ v. record (pair_of h0 r) { causes = v }) o) ++ pairs h0 rs) is

      by_test : (h0 h : Here) (o : Option Out) → copied h0 h → sifted ons (environment_of m h) (read h.regs mine) ≡ o → sifted ons (record (environment_of m h0) { rows = rows_seen r h0 }) (read h0.regs causes) ≡ o
      by_test h0 h o pre is =
          ap (sifted ons (record (environment_of m h0) { rows = rows_seen r h0 })) (sym pre.1.2)
          ∙ ap (λ (s : Sight). sifted ons s.env (read h.regs mine)) (sym pre.1.0)
          ∙ is

      tests : ((h0 h : Here) → At c x (held rs) h0 h → g next h0 h) → Triple m d7 u (λ h0. conjuncts_steps ons) g last copied (at_label x (rows_seen r) (λ h0. pairs h0 rs))
      tests drop = t_tests m g last copied (at_label x (rows_seen r) (λ h0. pairs h0 rs)) on_sifts (λ h0 h regs v pre is long has same.
          let below = λ (k : ℕ) (lt : k < a.next). same k (omega (arith, lt, first_next)) (λ e. absurd (omega (arith, e, lt))) in
          let more = ap (owed h0) (pairs_by h0 (Some v) (by_test h0 h (Some v) pre is)) ∙ some h0 (record (pair_of h0 r) { causes = v }) (pairs h0 rs) ∙ ap (λ v. record (pair_of h0 r) { causes = v } ∷ pairs h0 rs) (sym has) in
          (pre.0, (pre.1.0, same_pairs (owed h0 (pairs h0 (r ∷ rs))) (record { rows = rows_seen r h0; causes = read regs mine } ∷ pairs h0 rs) h0 (with_regs h regs) more (refilled (owed h0 (pairs h0 (r ∷ rs))) h0 h regs below long pre.1.1.0)))) (λ h0 h regs pre is long same.
          let below = λ (k : ℕ) (lt : k < a.next). same k (omega (arith, lt, first_next)) (λ e. absurd (omega (arith, e, lt))) in
          let more = ap (owed h0) (pairs_by h0 None (by_test h0 h None pre is)) in
          drop h0 (with_regs h regs) (pre.0, (same_pairs (owed h0 (pairs h0 (r ∷ rs))) (owed h0 (pairs h0 rs)) h0 (with_regs h regs) more (refilled (owed h0 (pairs h0 (r ∷ rs))) h0 h regs below long pre.1.1.0), same flag (omega (arith, first_next)) (λ e. absurd (omega (arith, e))) ∙ pre.1.1.1)))

      on_tests : ((h0 h : Here) → At c x (held rs) h0 h → g next h0 h) → Triple m d6 u (λ h0. 1 + conjuncts_steps ons) g last on_row (at_label x (rows_seen r) (λ h0. pairs h0 rs))
      on_tests drop = t_seq copies (tests drop)

    -- ---- a pair

    flags : (x : Cursor) (rows : Here → List ItemRow) (rest : Here → List FromRow) (g : Labels) → Triple m u1 u2 (λ h0. 1) g last (at_label x rows rest) (due x rows rest)
    flags x rows rest g = t_put m u1 (op.Integer (pos 1) flag) flag (λ h. is_set) g last (at_label x rows rest) (due x rows rest) (omega (arith, z_first.most, on_sifts.grows.most)) (λ at s. refl) (λ h0 h regs pre long is same.
        let held = same mine (λ e. absurd (omega (arith, e))) in
        let ps : Out → List FromRow = λ v. record { rows = rows h0; causes = v } ∷ rest h0 in
        (pre.0, (pre.1.0, same_pairs (ps (read h.regs mine)) (ps (read regs mine)) h0 (with_regs h regs) (ap ps (sym held)) (refilled (ps (read h.regs mine)) h0 h regs (λ k lt. same k (λ e. absurd (omega (arith, e, lt)))) long pre.1.1), is)))

    abbrev pair_steps : (Here → ℕ) → Here → ℕ
    pair_steps N h0 = 1 + (conjuncts_steps l.checks + N h0)

    from_label : (x : Cursor) (rows : Here → List ItemRow) (rest : Here → List FromRow) (N : Here → ℕ) → ((h0 : Here) → nK (record (environment_of m h0) { rows = rows h0 }) ≤ N h0) → (g : Labels) → ((h0 h : Here) → gone x rest h0 h → g next h0 h) → Triple m u1 y (pair_steps N) g last (at_label x rows rest) (gone x rest)
    from_label x rows rest N within g drop =
        t_seq (flags x rows rest g) (t_pair m a l loops lo causes K keeps mine lo_mark (omega arith) Flagged stable x rows rest g (omega (arith, on_sifts.next, first_next)) (wide ∙ u_wide ∙ first_cursors) sifts nests placed N within drop)

    abbrev N_row : StoredRow → Here → ℕ
    N_row r h0 = nK (at_item (environment_of m h0) c r)

    turn : (r : StoredRow) (rs : List StoredRow) → Triple m d6 e1 (λ h0. 1 + conjuncts_steps ons + pair_steps (N_row r) h0) (with_claim done (EndsDone m whole lo causes a.next) no_labels) last (λ h0 h. OnPath l.path c l.table r rs h × inv (r ∷ rs) h0 h) (At c (on_path l.path l.table r rs) (inv rs))
    turn r rs =
        let x = on_path l.path l.table r rs in
        let behind_row : Claim = At c x (inv rs) in
        let g : Labels = with_claim done (EndsDone m whole lo causes a.next) no_labels in
        let gn : Labels = with_claim next behind_row g in
        let label : Claim = at_label x (rows_seen r) (λ h0. pairs h0 rs) in
        let gp : Labels = with_claim pair label gn in
        let p1 : Claim = λ h0 h. OnPath l.path c l.table r rs h × none_yet (r ∷ rs) h0 h in
        let p2 : Claim = λ h0 h. OnPath l.path c l.table r rs h × some_kept (r ∷ rs) h0 h in
        let t1 : Triple m d6 u (λ h0. 1 + conjuncts_steps ons) gp last p1 label = on_tests r rs (λ h0 ps. or_alone (outer h0) ps) (λ h0 p ps. refl) no_causes gp (λ h0 h pre. inr (inl (refl, (pre.0, inl pre.1)))) in
        let t2 : Triple m d6 u (λ h0. 1 + conjuncts_steps ons) gp last p2 label = on_tests r rs (λ h0 ps. ps) (λ h0 p ps. refl) is_set gp (λ h0 h pre. inr (inl (refl, (pre.0, inr pre.1)))) in
        let both : Triple m d6 u (λ h0. 1 + conjuncts_steps ons) gp last (λ h0 h. OnPath l.path c l.table r rs h × inv (r ∷ rs) h0 h) label = t_use (λ h0 h. OnPath l.path c l.table r rs h × inv (r ∷ rs) h0 h) label (λ h0 h pre. ⊎_elim (λ o. inl (pre.0, o)) (λ o. inr (pre.0, o)) pre.1) (λ h0 h pre. pre) (t_either p1 p2 t1 t2) in
        let at_l = t_bind pair label pair_u (λ h0 h pre. pre) both in
        let all = t_seq at_l (from_label x (rows_seen r) (λ h0. pairs h0 rs) (N_row r) (λ h0. omega arith) gn (λ h0 h pre. inl (refl, (pre.0, inr pre.1)))) in
        t_bind next behind_row next_y (λ h0 h pre. (pre.0, inr pre.1)) all

    -- ---- the loop

    abbrev g0 : Labels
    g0 = with_claim done (EndsDone m whole lo causes a.next) no_labels

    start : (h : Here) → Stand (l ∷ loops) h.scene.cursors → Shut a.cursors h.scene.cursors → At c off (λ h0 h. O (or_alone (outer h0) (pairs h0 (visits h0))) h0 h) h h
    start h stand shut =
        (stand.0, owes_other m a l loops lo causes G (paired l G (sight_of m h) (read h.regs causes)) (each (at h) (or_alone (outer h) (pairs h (visits h)))) h h (ap (λ p. each (at h) (paired_with (environment_of m h) c p (visited_by (environment_of m h) l (outer h)) (outer h)) (memory_of lo h)) is_alone) (owes_start m a l loops lo causes G h stand shut))

    before : Triple m a z (λ h0. 1) g0 last started (λ h0 h. At c off (inv (visits h0)) h0 h)
    before =
        let opened : Claim = At c off (λ h0 h. O (or_alone (outer h0) (pairs h0 (visits h0))) h0 h) in
        let open_it : Triple m a z0 (λ h0. 0) g0 last started opened = t_use started opened (λ h0 h pre. pre) (λ h0 h pre. subst (λ x. opened h0 x) (sym pre.0) (start h0 pre.1.0 pre.1.1)) (t_draft m g0 last started (grows_then (g_label a) (grows_then (g_label b1) (grows_then (g_taken b2) (grows_then (g_label b3) (grows_then (g_label b4) (grows_then (g_label b5) (g_taken b6))))))) refl) in
        let unset_it : Triple m z0 z (λ h0. 1) g0 last opened (λ h0 h. At c off (inv (visits h0)) h0 h) = t_put m z0 (op.Null flag) flag (λ h. no_causes) g0 last opened (λ h0 h. At c off (inv (visits h0)) h0 h) (omega arith) (λ at s. refl) (λ h0 h regs pre long is same.
        (pre.0, inl (refilled (or_alone (outer h0) (pairs h0 (visits h0))) h0 h regs (λ k lt. same k (λ e. absurd (omega (arith, e, lt)))) long pre.1, is))) in
        t_more (λ h0. 1) (λ h0. omega arith) (t_seq open_it unset_it)

    moves : (rs : List StoredRow) (h0 h : Here) (x : Cursor) → inv rs h0 h → inv rs h0 (moved h c x)
    moves rs h0 h x i =
        ⊎_elim (λ n. inl (owes_moved m a l loops lo causes G (each (at h0) (or_alone (outer h0) (pairs h0 rs))) h0 h x n.0, n.1)) (λ n. inr (owes_moved m a l loops lo causes G (each (at h0) (pairs h0 rs)) h0 h x n.0, n.1)) i

    refills : (rs : List StoredRow) (h0 h : Here) (regs : List Out) → ((j : ℕ) → j < z.next → read regs j ≡ read h.regs j) → length regs ≡ length h.regs → inv rs h0 h → inv rs h0 (with_regs h regs)
    refills rs h0 h regs same long i =
        let below = λ (k : ℕ) (lt : k < a.next). same k (omega (arith, lt)) in
        ⊎_elim (λ n. inl (refilled (or_alone (outer h0) (pairs h0 rs)) h0 h regs below long n.0, same flag (omega arith) ∙ n.1)) (λ n. inr (refilled (pairs h0 rs) h0 h regs below long n.0, same flag (omega arith) ∙ n.1)) i

    sees : (rs : List StoredRow) (h0 h : Here) → At c off (inv rs) h0 h → environment_of m h ≡ environment_of m h0
    sees rs h0 h pre =
        ⊎_elim (λ n. ap (λ (s : Sight). s.env) (sees_off m c l.table h0 h n.0.only pre.0)) (λ n. ap (λ (s : Sight). s.env) (sees_off m c l.table h0 h n.0.only pre.0)) pre.1

    still : (rs : List StoredRow) (h0 h : Here) → inv rs h0 h → rows_of (world_of h.shared) l.table ≡ rows_there h0
    still rs h0 h i =
        ⊎_elim (λ n. ap (λ (k : Written). rows_of k.world l.table) n.0.only.written) (λ n. ap (λ (k : Written). rows_of k.world l.table) n.0.only.written) i

    abbrev turn_cost : StoredRow → Here → ℕ
    turn_cost r h0 = 1 + conjuncts_steps ons + pair_steps (N_row r) h0

    loop : Triple m a e3 (λ h0. 1 + path_steps l.path + (1 + sum_by (λ r. turn_cost r h0 + 1) (visits h0))) g0 last started (At c off (inv []))
    loop =
        t_path m a z e1 (λ h0. 1) turn_cost g0 last started c l.table end top rows_there inv top_z end_e1 (omega (arith, placed.0, a_y.cursors)) moves still l.path first comes placed.1 sees refills turn before

    -- ---- alone

    over : (h0 h : Here) → At c off (some_kept []) h0 h → EndsDone m whole lo causes a.next h0 h
    over h0 h pre = owes_none m a l loops lo causes G h0 h (pre.0, pre.1.0)

    -- no row was kept
    abbrev alone : Claim
    alone = At c off (λ h0 h. O (outer h0 ∷ []) h0 h)

    asks : Triple m e3 f1 (λ h0. 1) g0 last (At c off (inv [])) alone
    asks = t_test m e3 (op.NotNull flag done) done (λ h. is_known (read h.regs flag)) g0 last (At c off (inv [])) alone (λ at s. refl) (λ h0 h pre b. inl (refl, ⊎_elim (λ n. let no : false ≡ true = ap is_known (sym n.1) ∙ b in absurd (cc)) (λ n. over h0 h (pre.0, n)) pre.1)) (λ h0 h pre b. ⊎_elim (λ n. (pre.0, n.0)) (λ n. let no : true ≡ false = ap is_known (sym n.1) ∙ b in absurd (cc)) pre.1)

    abbrev lone : Claim
    lone = at_label off rows_alone (λ h0. [])

    copies_again : Triple m f1 f2 (λ h0. 1) g0 last alone lone
    copies_again = t_put m f1 (op.Copy causes mine) mine (λ h. read h.regs causes) g0 last alone lone (omega (arith, z_first.most, on_sifts.grows.most, sifts.grows.most, nests.grows.most)) (λ at s. refl) (λ h0 h regs pre long is same.
        let held : read regs mine ≡ read h0.regs causes = is ∙ pre.1.regs causes lo_le causes_lt in
        let ps : Out → List FromRow = λ v. record { rows = rows_alone h0; causes = v } ∷ [] in
        (pre.0, (sees_off m c l.table h0 h pre.1.only pre.0, same_pairs (outer h0 ∷ []) (ps (read regs mine)) h0 (with_regs h regs) (ap ps (sym held)) (refilled (outer h0 ∷ []) h0 h regs (λ k lt. same k (λ e. absurd (omega (arith, e, lt)))) long pre.1))))

    abbrev N_alone : Here → ℕ
    N_alone h0 = nK (environment_of m h0)

    second : Triple m u1 f1 (λ h0. pair_steps N_alone h0 + 1 + 1) g0 last lone (λ h0 h. ⊥)
    second =
        let was : Claim = gone off (λ h0. []) in
        let ge : Labels = with_claim end was g0 in
        let gn : Labels = with_claim next was ge in
        let body = t_bind next was next_y (λ h0 h pre. pre) (from_label off rows_alone (λ h0. []) N_alone (λ h0. omega arith) gn (λ h0 h pre. inl (refl, pre))) in
        let goes : Triple m e1 e2 (λ h0. 1) ge last was was = t_op_if m e1 (op.Next c top) (λ h. h) ge last was was (λ at h0 s pre. ap (λ x. advanced x s c (at top)) pre.0) (λ h. (refl, refl)) (λ h0 h most wide pre. pre) in
        let at_end = t_bind end was end_e (λ h0 h pre. pre) (t_seq body goes) in
        let test : Triple m e3 f1 (λ h0. 1) g0 last was (λ h0 h. ⊥) = t_test m e3 (op.NotNull flag done) done (λ h. is_known (read h.regs flag)) g0 last was (λ h0 h. ⊥) (λ at s. refl) (λ h0 h pre b. inl (refl, over h0 h (pre.0, pre.1))) (λ h0 h pre b. let no : true ≡ false = ap is_known (sym pre.1.1) ∙ b in absurd (cc)) in
        t_seq at_end test

    again : Triple m f2 f3 (λ h0. 1 + (pair_steps N_alone h0 + 1 + 1)) g0 last lone (λ h0 h. ⊥)
    again = t_again u f1 f2 pair (λ h0. pair_steps N_alone h0 + 1 + 1) g0 last lone pair_u second (extends f1_f2)

    abbrev ended : Claim
    ended = EndsDone m whole lo causes a.next

    all : Triple m a code (λ h0. 1 + path_steps l.path + (1 + sum_by (λ r. turn_cost r h0 + 1) (visits h0)) + 1 + 1 + (1 + (pair_steps N_alone h0 + 1 + 1)) + 0) no_labels last started ended
    all =
        let way = t_bind done ended done_f (λ h0 h no. absurd no) (t_seq (t_seq (t_seq loop asks) copies_again) again) in
        t_seq way (t_draft m no_labels last ended (g_released f4 flag) refl)

    enough : (h0 : Here) → 1 + path_steps l.path + (1 + sum_by (λ r. turn_cost r h0 + 1) (visits h0)) + 1 + 1 + (1 + (pair_steps N_alone h0 + 1 + 1)) + 0 ≤ loop_steps l nK (environment_of m h0)
    enough h0 =
        let rest : StoredRow → ℕ = λ r. conjuncts_steps l.checks + N_row r h0 in
        let fewer = sums-le (λ r. turn_cost r h0 + 1) (λ r. turn_steps (OrAlone ons) + rest r) (visits h0) (λ r. omega arith) in
        subst (λ p. 1 + path_steps l.path + (1 + sum_by (λ r. turn_cost r h0 + 1) (visits h0)) + 1 + 1 + (1 + (pair_steps N_alone h0 + 1 + 1)) + 0 ≤ path_steps l.path + 1 + alone_steps p (conjuncts_steps l.checks + nK (environment_of m h0)) + sum_by (λ r. turn_steps p + rest r) (visits h0)) (sym is_alone) (omega (arith, fewer))

    does : Triple m a code (λ h0. loop_steps l nK (environment_of m h0)) no_labels last started ended
    does = t_more (λ h0. loop_steps l nK (environment_of m h0)) enough all

  pub alone-nest : Nests (loop_needs l inner) (l ∷ loops) a code lo causes (paired l (passing l.checks K)) (loop_steps l nK)
  alone-nest =
      nests_of needs (l ∷ loops) lo causes (paired l (passing l.checks K)) (λ h0 h. (h ≡ h0) × (Stand (l ∷ loops) h0.scene.cursors × Shut a.cursors h0.scene.cursors)) grows_code refl steady_code (λ h stand shut. (refl, (stand, shut))) (λ m placed. does m placed)
