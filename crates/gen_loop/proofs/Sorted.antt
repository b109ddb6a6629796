-- The code of a plan whose rows are sorted: its loops put them into a sorter, which is opened behind the cursors of the items, and a walk over it follows.
use Rattle.std.proofs.Common.{All, ◌≡◌, ℕ, ◌+◌, ◌≤◌, ◌<◌, List, [], ◌∷◌, ◌++◌, None, length, map, refl, sym, ap, ◌∙◌, subst, arith}
use Rattle.std.specs.Prelude.{true, if◌then◌else◌, slice_set}
use Rattle.std.proofs.Math.ListN.{length-set}
use Rattle.std.proofs.lemmas.List.{get_or-set_other, get_or-set_same, length-map, set-get_or}
use Rattle.eng_value.specs.Arrangements.{arranged}
use Rattle.eng_value.specs.Environments.{no_causes, null_row}
use Rattle.eng_value.specs.declared.out.Out.{Out}
use Rattle.eng_value.proofs.Arranging.{arranged-shuffled}
use Rattle.eng_value.proofs.Shuffling.{all-shuffled}
use Rattle.gen_loop.specs.Loops.{KeepsWritten, at_row, each, from_cost, from_effect, gathered_steps, gathering, row_seen, sorted_steps}
use Rattle.gen_loop.specs.Needs.{NamesBelow, gathering_needs, plan_reads, rowids_needs}
use Rattle.gen_loop.specs.Sorting.{Walks, at_row_found, collect, sorted_row, walked}
use Rattle.gen_loop.specs.Stretches.{Apart, AreSpread, ArePlaced, Nests, Stand, opened_all}
use Rattle.gen_loop.proofs.Around.{begun, opened_now, sees-opened, t_begins}
use Rattle.gen_loop.proofs.Collecting.{collects}
use Rattle.gen_loop.proofs.Cursors.{closed_again, cursors_opened, length-closed, length-opened, opened-cursors, opened-grows, opened-next, shut-opened, stand-at, stand-opened}
use Rattle.gen_loop.proofs.Found.{IsFound, found-gathered, found-none}
use Rattle.gen_loop.proofs.Rules.{HasRoom, t_room}
use Rattle.gen_loop.proofs.Spread.{among-spread, placed-spread}
use Rattle.gen_loop.proofs.Tables.{AndSorter, Tables, met-named, met-plan, met-rowids, met-tables, names-nothing, opens-loops, opens-sorter, st_closed, tables-there, tables_needs, with_sorter}
use Rattle.gen_loop.proofs.Turns.{memory-same, t_nests}
use Rattle.gen_loop.proofs.Walking as walk
use Rattle.gen_loop.proofs.Walking.{walk-grows, walk-steady}
use Rattle.plan_tree.specs.Plans.{gathered, stands_before}
use Rattle.plan_tree.specs.declared.access.JoinPlan.{JoinPlan}
use Rattle.plan_tree.specs.declared.access.Loop.{Loop}
use Rattle.sql_meaning.specs.Products.{FromRow}
use Rattle.vm_code.specs.declared.op.Op.TheVariants as op
use Rattle.vm_code.specs.declared.open_cursor.Need.{Need}
use Rattle.vm_code.specs.declared.open_cursor.Need.TheVariants as need
use Rattle.vm_code.specs.Draft.{Draft, with_cursor, with_op}
use Rattle.vm_code.specs.Track.{Meets, OpenSet}
use Rattle.vm_code.specs.Tracked.{Steady}
use Rattle.vm_code.specs.Machine.{Cursor, Closed, Sorted, Setting, Shared, Store, closed_from, current, cursor_at, held, last_list, read, world_of}
use Rattle.vm_code.specs.Frames.{Does, Done, Effect, Fails, Grows, Here, Memory, Shut, Sight, effect_at, environment_of, memory_of, needing, sight_of}
use Rattle.vm_code.specs.Claims.{Claim, Last, Triple}
use Rattle.vm_code.proofs.Drafts.{g_cursor, g_op, grows_then}
use Rattle.vm_code.proofs.Effects.{EndsDone, EndsFailed, does_of}
use Rattle.vm_code.proofs.Loops.{At, moved, put_aside}
use Rattle.vm_code.proofs.Meeting.{met_both, met_head, met_left, met_more, met_right, met_tail}
use Rattle.vm_code.proofs.NewRows.{sees_moved}
use Rattle.vm_code.proofs.Registers.{row_now}
use Rattle.vm_code.proofs.Sorters.{t_sorter_open, with_sorters, without_last}
use Rattle.vm_code.proofs.Tracks.{st_then, st_wider}
use Rattle.vm_code.proofs.Triples.{no_labels, t_draft, t_more, t_op, t_seq}

-- ---- cursors

stand-apart : (loops : List Loop) (c : ℕ) (x : Cursor) (cursors : List Cursor) → Apart c loops → Stand loops cursors → Stand loops (slice_set cursors c x)
stand-apart [] c x cursors apart stand = tt
stand-apart (l ∷ loops) c x cursors apart stand =
    (get_or-set_other cursors c l.place x Closed apart.0 ∙ stand.0, stand-apart loops c x cursors apart.1 stand.1)

placed-apart : (loops : List Loop) (n : ℕ) → ArePlaced n loops → Apart n loops
placed-apart [] n placed = tt
placed-apart (l ∷ loops) n placed = ((λ same. absurd (omega (arith, same, placed.0))), placed-apart loops n placed.3)

module _ {body : List Need} (a r : Draft) (p : JoinPlan) (lo : ℕ) (F : Effect) (most : ℕ) (lo_le : lo ≤ a.next) (first : a.cursors ≡ 0) (spread : AreSpread p.loops) (nests : Nests (gathering_needs p (rowids_needs (length p.loops))) p.loops (with_sorter (opened_all a p.loops) (length p.loops)) r 0 0 (gathering p (collect (length p.loops))) (gathered_steps p (length p.loops + 2))) (r_wide : r.cursors ≡ (with_sorter (opened_all a p.loops) (length p.loops)).cursors) (turn : Draft) (does : Does (needing body) (at_row_found r (length p.loops)) turn lo (r.next + length p.loops) None F (λ sight causes x. most)) (keeps : KeepsWritten F) (wide : turn.cursors ≡ (at_row_found r (length p.loops)).cursors) where
  abbrev loops : List Loop
  loops = p.loops

  abbrev width : ℕ
  width = length loops

  abbrev b : Draft
  b = opened_all a loops

  abbrev s : Draft
  s = with_sorter b width

  abbrev w : Draft
  w = walked r turn width

  abbrev code : Draft
  code = with_op w (op.CloseFrom 0)

  -- the rows in the order of the FROM
  abbrev E : Effect
  E sight causes x = each (at_row F sight) (arranged (stands_before width) (gathered sight.env p (row_seen sight no_causes))) x

  b_cursors : b.cursors ≡ width
  b_cursors = omega (arith, opened-cursors loops a, first)

  s_cursors : s.cursors ≡ width + 1
  s_cursors = omega (arith, b_cursors)

  r_cursors : r.cursors ≡ width + 1
  r_cursors = r_wide ∙ s_cursors

  r_next : r.next ≡ a.next
  r_next = nests.next ∙ opened-next loops a

  placed : ArePlaced width loops
  placed = placed-spread loops width spread (omega arith)

  placed_s : ArePlaced s.cursors loops
  placed_s = placed-spread loops s.cursors spread (omega (arith, s_cursors))

  -- ---- drafts

  walk_grows : Grows r w
  walk_grows = walk-grows r turn width lo F most (omega (arith, lo_le, r_next)) r_cursors does keeps wide

  grows_code : Grows a code
  grows_code =
      grows_then (opened-grows loops a) (grows_then (g_cursor b) (grows_then (g_op (with_cursor b) (op.SorterOpen width)) (grows_then nests.grows (grows_then walk_grows (g_op w (op.CloseFrom 0))))))

  -- ---- what is open

  abbrev collector_needs : List Need
  collector_needs = gathering_needs p (rowids_needs width)

  abbrev behind_tables : List Need
  behind_tables = body ++ collector_needs

  abbrev behind_sorter : List Need
  behind_sorter = tables_needs width ++ behind_tables

  -- of the loops and of the walk
  abbrev needs : List Need
  needs = need.Sorter width ∷ behind_sorter

  abbrev reads : List Need
  reads = plan_reads p ++ body

  finds : NamesBelow width reads → (ys : OpenSet) → AndSorter width ys → All (Meets ys) needs
  finds names ys there =
      let all = met-named width ys reads there.0 names in
      let turns = met_right ys (plan_reads p) body all in
      let collects = met-plan p (rowids_needs width) ys spread there.0 (met_left ys (plan_reads p) body all) (met-rowids width ys there.0) in
      met_more ys (need.Sorter width) behind_sorter there.1 (met_both ys (tables_needs width) behind_tables (met-tables width ys there.0) (met_both ys body collector_needs turns collects))

  module _ (xs : OpenSet) (met : All (Meets xs) needs) where
    sorter_met : Meets xs (need.Sorter width)
    sorter_met = met_head xs (need.Sorter width) behind_sorter met

    rest_met : All (Meets xs) behind_sorter
    rest_met = met_tail xs (need.Sorter width) behind_sorter met

    tables_met : Tables width xs
    tables_met = tables-there width xs (met_left xs (tables_needs width) behind_tables rest_met)

    bodies_met : All (Meets xs) behind_tables
    bodies_met = met_right xs (tables_needs width) behind_tables rest_met

    body_met : All (Meets xs) body
    body_met = met_left xs body collector_needs bodies_met

    collector_met : All (Meets xs) collector_needs
    collector_met = met_right xs body collector_needs bodies_met

  between : Steady needs [] s w
  between =
      st_then nests.grows (st_wider collector_met nests.steady) (walk-steady r turn width lo F most (omega (arith, lo_le, r_next)) r_cursors does keeps wide needs sorter_met tables_met body_met)

  steady_by : {more : List Need} → (All (Meets []) more → NamesBelow width reads) → Steady more [] a code
  steady_by names =
      st_closed a s w first (opens-sorter a b width (sym b_cursors) (opens-loops loops a spread)) (λ met. finds (names met)) between

  pub rows-steady : NamesBelow (length p.loops) (plan_reads p ++ body) → Steady [] [] a (with_op (walked r turn (length p.loops)) (op.CloseFrom 0))
  rows-steady names = steady_by (λ met. names)

  steady_code : Steady reads [] a code
  steady_code = steady_by (λ met. names-nothing width reads met)

  -- ---- what it does

  module _ (m : Setting) where
    abbrev last : Last
    last = EndsFailed m E lo 0

    abbrev done : Claim
    done = EndsDone m E lo 0 a.next

    abbrev opened : Here → List Cursor
    opened h0 = cursors_opened loops h0.scene.cursors

    -- the rows that the loops give
    abbrev given : Here → List FromRow
    given h0 = gathered (environment_of m h0) p (row_seen (sight_of m h0) no_causes)

    abbrev sorter : Cursor
    sorter = Sorted []

    abbrev with_open : Here → Here
    with_open h0 = record h0 { scene = record h0.scene { cursors = opened h0 } }

    -- all cursors are open, and the sorter has no row
    abbrev ready : Here → Here
    ready h0 = moved (with_sorters (with_open h0) ([] ∷ h0.store.lists)) width sorter

    abbrev collecting : Claim
    collecting h0 h = (h ≡ ready h0) × Shut 0 h0.scene.cursors

    abbrev collecting_there : Claim
    collecting_there h0 h = collecting h0 h × HasRoom s h

    abbrev due : Claim
    due = walk.walk_due r turn width lo F most (omega (arith, lo_le, r_next)) r_cursors does keeps wide m loops given E

    abbrev walked_all : Claim
    walked_all = At width sorter (walk.Walking r turn width lo F most (omega (arith, lo_le, r_next)) r_cursors does keeps wide m loops given E [])

    opens_sorter : Triple m b s (λ h0. 1) no_labels last (opened_now loops) collecting
    opens_sorter =
        let free = t_draft m no_labels last (opened_now loops) (g_cursor b) refl in
        let opens = t_sorter_open m (with_cursor b) width no_labels last (opened_now loops) collecting (omega (arith, b_cursors)) (λ h0 h pre lt. (ap (λ x. moved (with_sorters x ([] ∷ x.store.lists)) width sorter) pre.0, pre.1)) in
        t_more (λ h0. 1) (λ h0. omega arith) (t_seq free opens)

    -- the sorter is seen by nothing
    sees : (h0 h : Here) → collecting h0 h → sight_of m h ≡ sight_of m h0
    sees h0 h pre =
        ap (sight_of m) pre.0
        ∙ sees_moved m (with_open h0) width sorter (ap held closed)
        ∙ ap (λ l. record (sight_of m (with_open h0)) { env = record (environment_of m (with_open h0)) { rows = l } }) (moved_there_row closed)
        ∙ sees-opened m loops h0 pre.1
      where
        closed : cursor_at (opened h0) width ≡ Closed
        closed = shut-opened loops width h0.scene.cursors placed (λ k le. pre.1 k (omega arith)) width (omega arith)

        moved_there_row : cursor_at (opened h0) width ≡ Closed → slice_set (map (current (world_of h0.shared)) (opened h0)) width null_row ≡ map (current (world_of h0.shared)) (opened h0)
        moved_there_row is =
            let rows = map (current (world_of h0.shared)) (opened h0) in
            ap (slice_set rows width) (sym (ap (current (world_of h0.shared)) is) ∙ row_now (world_of h0.shared) (opened h0) width) ∙ set-get_or rows width null_row

    wide_enough : (h0 h : Here) → collecting_there h0 h → width < length h0.scene.cursors
    wide_enough h0 h pre =
        omega (arith, pre.1.cursors, s_cursors, ap (λ (x : Here). length x.scene.cursors) pre.0.0, length-set (opened h0) width sorter, length-opened loops h0.scene.cursors)

    stands : (h0 h : Here) → collecting_there h0 h → Stand loops (opened h0)
    stands h0 h pre =
        stand-opened loops width h0.scene.cursors placed (omega (arith, wide_enough h0 h pre))

    -- what the loops leave in the sorter
    gives : (h0 h : Here) → collecting h0 h → effect_at m (gathering p (collect width)) 0 0 h ≡ Done (record (memory_of 0 h) { store = record h0.store { lists = map (sorted_row width) (given h0) ∷ h0.store.lists } })
    gives h0 h pre =
        ap (λ (k : Sight). gathering p (collect width) k (read h.regs 0) (memory_of 0 h)) (sees h0 h pre)
        ∙ collects width (sight_of m h0) (given h0) (memory_of 0 h) [] h0.store.lists (ap (λ (x : Here). x.store.lists) pre.0)
        ∙ ap (λ (y : Store). Done (record (memory_of 0 h) { store = record y { lists = map (sorted_row width) (given h0) ∷ h0.store.lists } })) (ap (λ (x : Here). x.store) pre.0)

    no_row : (h0 h : Here) → collecting_there h0 h → IsFound (world_of h0.shared) (opened h0) width (row_seen (sight_of m h0) no_causes)
    no_row h0 h pre =
        let w0 = world_of h0.shared in
        found-none (environment_of m h0) (opened h0) width (omega (arith, wide_enough h0 h pre, length-opened loops h0.scene.cursors)) (row_seen (sight_of m h0) no_causes) (length-map h0.scene.cursors (current w0) ∙ sym (length-opened loops h0.scene.cursors)) (λ k. sym (row_now w0 h0.scene.cursors k) ∙ ap (current w0) (pre.0.1 k (omega arith)))

    gathers : Triple m s r (λ h0. gathered_steps p (width + 2) (environment_of m h0)) no_labels last collecting due
    gathers = t_room collecting due (t_nests m (λ h0. gathered_steps p (width + 2) (environment_of m h0)) no_labels last collecting_there due nests placed_s (λ h0 h pre. omega (arith, ap (λ (k : Sight). gathered_steps p (width + 2) k.env) (sees h0 h pre.0))) (λ h0 h pre.
        subst (λ (x : Here). Stand loops x.scene.cursors) (sym pre.0.0) (stand-apart loops width sorter (opened h0) (placed-apart loops width placed) (stands h0 h pre))) (λ h0 h pre.
        subst (λ (x : Here). Shut s.cursors x.scene.cursors) (sym pre.0.0) (λ k le. get_or-set_other (opened h0) width k sorter Closed (λ same. absurd (omega (arith, same, le, s_cursors))) ∙ shut-opened loops width h0.scene.cursors placed (λ j ge. pre.0.1 j (omega arith)) k (omega (arith, le, s_cursors)))) (λ h0 h regs x pre is long own same.
        sorted_then h0 h regs x pre (done_is (record (memory_of 0 h) { store = record h0.store { lists = map (sorted_row width) (given h0) ∷ h0.store.lists } }) x (sym (gives h0 h pre.0) ∙ is)) long (λ k lt. same k (omega arith) (omega (arith, lt, opened-next loops a)))) (λ h0 h k x pre is.
        absurd (never (record (memory_of 0 h) { store = record h0.store { lists = map (sorted_row width) (given h0) ∷ h0.store.lists } }) k x (sym (gives h0 h pre.0) ∙ is))))
      where
        done_is : (x y : Memory) → Done x ≡ Done y → x ≡ y
        done_is x y e = cc

        never : (x : Memory) (k : _) (y : Memory) → Done x ≡ Fails k y → ⊥
        never x k y e = cc

        sorted_then : (h0 h : Here) (regs : List Out) (x : Memory) → collecting_there h0 h → record (memory_of 0 h) { store = record h0.store { lists = map (sorted_row width) (given h0) ∷ h0.store.lists } } ≡ x → length regs ≡ length h.regs → ((k : ℕ) → k < a.next → read regs k ≡ read h.regs k) → due h0 (record h { regs = regs; store = x.store; shared = x.shared })
        sorted_then h0 h regs x pre is long same =
            let w0 = world_of h0.shared in
            let cursors : h.scene.cursors ≡ slice_set (opened h0) width sorter = ap (λ (y : Here). y.scene.cursors) pre.0.0 in
            let regs_h : h.regs ≡ h0.regs = ap (λ (y : Here). y.regs) pre.0.0 in
            let shared_is : x.shared ≡ h0.shared = ap (λ (y : Memory). y.shared) (sym is) ∙ ap (λ (y : Here). y.shared) pre.0.0 in
            let kept : (k : ℕ) → k < a.next → read regs k ≡ read h0.regs k = λ k lt. same k lt ∙ ap (λ l. read l k) regs_h in
            let stand = stands h0 h pre in
            let all = found-gathered (environment_of m h0) (opened h0) width (omega (arith, wide_enough h0 h pre, length-opened loops h0.scene.cursors)) p placed stand (row_seen (sight_of m h0) no_causes) (no_row h0 h pre) in (
              ap (λ l. cursor_at l width) cursors ∙ get_or-set_same (opened h0) width sorter Closed (omega (arith, wide_enough h0 h pre, length-opened loops h0.scene.cursors)),
              (
                ap (λ (y : Memory). last_list y.store.lists) (sym is),
                record {
                  regs = λ k ge lt. kept k (omega (arith, lt, r_next));
                  inputs = ap (λ (y : Here). y.inputs) pre.0.0;
                  slots = ap (λ (y : Here). y.scene.slots) pre.0.0;
                  many = ap (λ (l : List Cursor). length l) cursors ∙ length-set (opened h0) width sorter ∙ length-opened loops h0.scene.cursors;
                  written = ap (λ (y : Shared). y.written) shared_is;
                  tables = λ k lt.
                      let found = stand-at loops (opened h0) k stand (among-spread loops k spread lt) in
                      (found.0, None, found.1, ap (λ l. cursor_at l k) cursors ∙ get_or-set_other (opened h0) width k sorter Closed (λ e. absurd (omega (arith, e, lt))) ∙ found.1);
                  shut = λ k le. ap (λ l. cursor_at l k) cursors ∙ get_or-set_other (opened h0) width k sorter Closed (λ e. absurd (omega (arith, e, le))) ∙ shut-opened loops width h0.scene.cursors placed (λ j ge. pre.0.1 j (omega arith)) k (omega (arith, le));
                  closed = pre.0.1;
                  found = all-shuffled (IsFound w0 (opened h0) width) (arranged-shuffled (stands_before width) (given h0)) all;
                  left = ap (each (at_row F (sight_of m h0)) (arranged (stands_before width) (given h0))) (sym (memory_back h0 h regs x pre is long kept));
                },
              ),
            )
          where
            memory_back : (h0 h : Here) (regs : List Out) (x : Memory) → collecting_there h0 h → record (memory_of 0 h) { store = record h0.store { lists = map (sorted_row width) (given h0) ∷ h0.store.lists } } ≡ x → length regs ≡ length h.regs → ((k : ℕ) → k < a.next → read regs k ≡ read h0.regs k) → memory_of lo (put_aside without_last (record h { regs = regs; store = x.store; shared = x.shared })) ≡ memory_of lo h0
            memory_back h0 h regs x pre is long kept =
                ap (λ (y : Memory). memory_of lo (put_aside without_last (record h { regs = regs; store = y.store; shared = y.shared }))) (sym is)
                ∙ ap (λ (y : Shared). memory_of lo (record h0 { regs = regs; shared = y })) (ap (λ (y : Here). y.shared) pre.0.0)
                ∙ memory-same lo h0 regs (long ∙ ap (λ (y : Here). length y.regs) pre.0.0) (λ k lt. kept k (omega (arith, lt, lo_le)))

    closes : Triple m w code (λ h0. 1) no_labels last walked_all done
    closes = t_op m w (op.CloseFrom 0) (λ h. record h { scene = record h.scene { cursors = closed_from 0 h.scene.cursors } }) no_labels last walked_all done (λ at s. refl) (λ h. (refl, length-closed 0 h.scene.cursors)) (λ h0 h many wide pre. (
      (λ k ge lt. pre.1.regs k ge (omega (arith, lt, r_next))),
      ap (λ l. record h.scene { cursors = l }) (closed_again h.scene.cursors h0.scene.cursors pre.1.many pre.1.closed) ∙ ap (λ l. record h0.scene { slots = l }) pre.1.slots,
      pre.1.left,
    ))

    whole : Triple m a code (λ h0. length loops + 1 + sorted_steps p most (environment_of m h0)) no_labels last begun done
    whole =
        let walks = walk.t_walk r turn width lo F most (omega (arith, lo_le, r_next)) r_cursors does keeps wide m loops given E in
        t_more (λ h0. length loops + 1 + sorted_steps p most (environment_of m h0)) (λ h0. omega arith) (t_seq (t_seq (t_seq (t_seq (t_begins m last loops a) opens_sorter) gathers) walks) closes)

  pub rows-do : Does (needing (plan_reads p ++ body)) a code lo 0 None E (λ sight causes x. length loops + 1 + sorted_steps p most sight.env)
  rows-do =
      does_of lo 0 None E begun grows_code r_next steady_code (λ h shut. (refl, subst (λ n. Shut n h.scene.cursors) first shut)) (λ m called. whole m)

-- a plan whose rows are sorted
module _ (a r w : Draft) (p : JoinPlan) (body : List Need) (lo : ℕ) (F : Effect) (most : ℕ) (lo_le : lo ≤ a.next) (first : a.cursors ≡ 0) (sorted : p.sort ≡ true) (nests : Nests (gathering_needs p (rowids_needs (length p.loops))) p.loops (with_sorter (opened_all a p.loops) (length p.loops)) r 0 0 (gathering p (collect (length p.loops))) (gathered_steps p (length p.loops + 2))) (wide : r.cursors ≡ (with_sorter (opened_all a p.loops) (length p.loops)).cursors) (walks : Walks body r w (length p.loops) lo F most) (spread : AreSpread p.loops) where
  abbrev given_needs : List Need
  given_needs = plan_reads p ++ body

  pub sorted-steady : NamesBelow (length p.loops) (plan_reads p ++ body) → Steady [] [] a (with_op w (op.CloseFrom 0))
  sorted-steady names =
      subst (λ d. Steady [] [] a (with_op d (op.CloseFrom 0))) (sym walks.is) (rows-steady a r p lo F most lo_le first spread nests wide walks.turn walks.does walks.keeps walks.cursors names)

  pub sorted-does : Does (needing (plan_reads p ++ body)) a (with_op w (op.CloseFrom 0)) lo 0 None (from_effect p F) (from_cost p most)
  sorted-does =
      let all = rows-do a r p lo F most lo_le first spread nests wide walks.turn walks.does walks.keeps walks.cursors in
      let ordered = subst (λ b. Does (needing given_needs) a (with_op (walked r walks.turn (length p.loops)) (op.CloseFrom 0)) lo 0 None (λ sight causes x. each (at_row F sight) (if b then arranged (stands_before (length p.loops)) (gathered sight.env p (row_seen sight no_causes)) else gathered sight.env p (row_seen sight no_causes)) x) (λ sight causes x. length p.loops + 1 + (if b then sorted_steps p most sight.env else gathered_steps p most sight.env))) (sym sorted) all in
      subst (λ d. Does (needing given_needs) a (with_op d (op.CloseFrom 0)) lo 0 None (from_effect p F) (from_cost p most)) (sym walks.is) ordered
