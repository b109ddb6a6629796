-- The loops of a plan behind its checks.
use Rattle.std.proofs.Common.{◌≡◌, ℕ, ◌+◌, ◌≤◌, ◌<◌, List, [], ◌∷◌, ◌++◌, length, Some, None, refl, sym, ap, ◌∙◌, subst, arith, inl}
use Rattle.std.specs.Prelude.{slice_get, slice_set}
use Rattle.std.proofs.Math.ListN.{length-set}
use Rattle.std.proofs.lemmas.List.{get_or-set_other, get_or-set_same}
use Rattle.eng_value.specs.Environments.{no_causes}
use Rattle.eng_value.specs.declared.out.Out.{Out}
use Rattle.gen_loop.specs.Loops.{KeepsWritten, conjuncts_steps, gathered_steps, gathering, nested, nested_steps, passing}
use Rattle.gen_loop.specs.Needs.{conjuncts_read}
use Rattle.gen_loop.specs.Stretches.{ArePlaced, Nests, Stand}
use Rattle.gen_loop.proofs.Ordered.{from-nested, nested-keeps, passing-none, passing-some}
use Rattle.gen_loop.proofs.Places.{st_inside}
use Rattle.gen_loop.proofs.Turns.{memory-same, nests_of, t_nests, t_tests}
use Rattle.plan_tree.specs.declared.access.JoinPlan.{JoinPlan}
use Rattle.plan_tree.specs.declared.access.Loop.{Loop}
use Rattle.sql_meaning.specs.Products.{sifted}
use Rattle.vm_code.specs.declared.op.Op.TheVariants as op
use Rattle.vm_code.specs.declared.open_cursor.Need.{Need}
use Rattle.vm_code.specs.Draft.{Draft, bound, released, taken, with_label, with_op}
use Rattle.vm_code.specs.Tracked.{Steady}
use Rattle.vm_code.specs.Machine.{Scene, Setting, read}
use Rattle.vm_code.specs.Frames.{Done, Effect, Fails, Grows, Here, Memory, Outcome, Shut, Sifts, Sight, effect_at, environment_of, memory_of, needing, sight_of, with_regs}
use Rattle.vm_code.specs.Claims.{Claim, Labels, Last, Triple}
use Rattle.vm_code.proofs.Drafts.{g_bound, g_label, g_op, g_released, g_taken, grows_then, open_new}
use Rattle.vm_code.proofs.Effects.{EndsDone, EndsFailed, Keeps}
use Rattle.vm_code.proofs.Meeting.{met_left, met_right}
use Rattle.vm_code.proofs.Tracks.{st_label, st_op, st_released, st_taken, st_then}
use Rattle.vm_code.proofs.Triples.{no_labels, t_bind, t_draft, t_more, t_op, t_seq, t_use, with_claim}

-- in front of the checks
abbrev pub checking : Draft → Draft
checking a = with_op (taken (with_label a)) (op.Null a.next)

module _ {inner : List Need} (a t y : Draft) (p : JoinPlan) (lo : ℕ) (F : Effect) (most : ℕ) (keeps : KeepsWritten F) (lo_le : lo ≤ a.next) (sifts : Sifts (needing (conjuncts_read p.checks)) (checking a) t a.next (length a.labels) (sifted p.checks) (λ env. conjuncts_steps p.checks)) (wide : t.cursors ≡ a.cursors) (nests : Nests inner p.loops t y lo a.next (nested p.loops F) (nested_steps p.loops most)) where
  abbrev loops : List Loop
  loops = p.loops

  abbrev causes : ℕ
  causes = a.next

  abbrev end : ℕ
  end = length a.labels

  abbrev b1 : Draft
  b1 = with_label a

  abbrev b2 : Draft
  b2 = taken b1

  abbrev b3 : Draft
  b3 = checking a

  abbrev e1 : Draft
  e1 = bound y end

  abbrev code : Draft
  code = released e1 causes

  abbrev K : Effect
  K = nested loops F

  abbrev E : Effect
  E = gathering p F

  pub end_y : slice_get y.labels end ≡ Some None
  end_y = nests.grows.open_labels end (sifts.grows.open_labels end (open_new a))

  b1_y : Grows b1 y
  b1_y = grows_then (g_taken b1) (grows_then (g_op b2 (op.Null causes)) (grows_then sifts.grows nests.grows))

  a_e1 : Grows a e1
  a_e1 = g_bound y end (grows_then (g_label a) b1_y) (omega arith) end_y

  grows_code : Grows a code
  grows_code = grows_then a_e1 (g_released e1 causes)

  abbrev needs : List Need
  needs = conjuncts_read p.checks ++ inner

  abbrev inside : List ℕ
  inside = end ∷ []

  between : Steady needs [] a e1
  between =
      st_label end refl b1_y (st_then (g_taken b1) (st_taken needs inside b1) (st_then (g_op b2 (op.Null causes)) (st_op needs inside b2 (op.Null causes) (refl, refl)) (st_then sifts.grows (st_inside needs inside (λ xs met. met_left xs (conjuncts_read p.checks) inner met) (λ k among. among) sifts.steady) (st_inside needs inside (λ xs met. met_right xs (conjuncts_read p.checks) inner met) (λ k no. absurd no) nests.steady))))

  steady_code : Steady needs [] a code
  steady_code = st_then a_e1 between (st_released needs [] e1 causes)

  module _ (m : Setting) (placed : ArePlaced a.cursors loops) where
    abbrev last : Last
    last = EndsFailed m E lo 0

    abbrev done : Claim
    done = EndsDone m E lo 0 a.next

    -- in front of the loops and behind them: this is left to be done
    record Within (rest : Memory → Outcome) (h0 h : Here) : Type 0 where
      regs : Keeps lo a.next h0.regs h.regs
      inputs : h.inputs ≡ h0.inputs
      scene : h.scene ≡ h0.scene
      written : h.shared.written ≡ h0.shared.written
      stand : Stand loops h0.scene.cursors
      shut : Shut a.cursors h0.scene.cursors
      left : effect_at m E lo 0 h0 ≡ rest (memory_of lo h)

    sees : (rest : Memory → Outcome) (h0 h : Here) → Within rest h0 h → sight_of m h ≡ sight_of m h0
    sees rest h0 h w =
        ap (λ s. sight_of m (record h { scene = s })) w.scene
        ∙ ap (λ k. sight_of m (record h { scene = h0.scene; inputs = k })) w.inputs
        ∙ ap (λ k. sight_of m (record h0 { shared = record h.shared { written = k } })) w.written

    refilled : (rest : Memory → Outcome) (h0 h : Here) (regs : List Out) → ((k : ℕ) → k < a.next → read regs k ≡ read h.regs k) → length regs ≡ length h.regs → Within rest h0 h → Within rest h0 (with_regs h regs)
    refilled rest h0 h regs same long w = record {
      regs = λ k ge lt. same k lt ∙ w.regs k ge lt;
      inputs = w.inputs;
      scene = w.scene;
      written = w.written;
      stand = w.stand;
      shut = w.shut;
      left = w.left ∙ ap rest (sym (memory-same lo h regs long (λ k lt. same k (omega (arith, lt, lo_le)))));
    }

    other : (rest others : Memory → Outcome) (h0 h : Here) → rest (memory_of lo h) ≡ others (memory_of lo h) → Within rest h0 h → Within others h0 h
    other rest others h0 h e w =
        record { regs = w.regs; inputs = w.inputs; scene = w.scene; written = w.written; stand = w.stand; shut = w.shut; left = w.left ∙ e }

    abbrev started : Claim
    started h0 h = (h ≡ h0) × (Stand loops h0.scene.cursors × Shut a.cursors h0.scene.cursors)

    abbrev checks_due : Claim
    checks_due h0 h =
        Within (passing p.checks K (sight_of m h0) no_causes) h0 h × (read h.regs causes ≡ no_causes)

    abbrev loops_due : Claim
    loops_due h0 h = Within (K (sight_of m h0) (read h.regs causes)) h0 h

    abbrev finished : Claim
    finished h0 h = Within Done h0 h

    abbrev g : Labels
    g = with_claim end finished no_labels

    at_start : (h0 : Here) → Stand loops h0.scene.cursors → Shut a.cursors h0.scene.cursors → Within (passing p.checks K (sight_of m h0) no_causes) h0 h0
    at_start h0 stand shut = record {
      regs = λ k ge lt. refl;
      inputs = refl;
      scene = refl;
      written = refl;
      stand = stand;
      shut = shut;
      left = from-nested F (sight_of m h0) p (read h0.regs 0) (memory_of lo h0);
    }

    clears : Triple m a b3 (λ h0. 1) no_labels last started checks_due
    clears =
        let free = t_draft m no_labels last started (grows_then (g_label a) (g_taken b1)) refl in
        let null : Triple m b2 b3 (λ h0. 1) no_labels last started checks_due = t_op m b2 (op.Null causes) (λ h. with_regs h (slice_set h.regs causes no_causes)) no_labels last started checks_due (λ at s. refl) (λ h. (length-set h.regs causes no_causes, refl)) (λ h0 h many wide pre.
        let w = subst (λ x. Within (passing p.checks K (sight_of m h0) no_causes) h0 x) (sym pre.0) (at_start h0 pre.1.0 pre.1.1) in
        let regs = slice_set h.regs causes no_causes in
        (refilled (passing p.checks K (sight_of m h0) no_causes) h0 h regs (λ k lt. get_or-set_other h.regs causes k no_causes _ (λ same. absurd (omega (arith, same, lt)))) (length-set h.regs causes no_causes) w, get_or-set_same h.regs causes no_causes _ (omega (arith, many)))) in
        t_more (λ h0. 1) (λ h0. omega arith) (t_seq free null)

    by_test : (h0 h : Here) (o : _) → checks_due h0 h → sifted p.checks (environment_of m h) (read h.regs causes) ≡ o → sifted p.checks (environment_of m h0) no_causes ≡ o
    by_test h0 h o pre is =
        ap (sifted p.checks (environment_of m h0)) (sym pre.1)
        ∙ ap (λ (s : Sight). sifted p.checks s.env (read h.regs causes)) (sym (sees (passing p.checks K (sight_of m h0) no_causes) h0 h pre.0))
        ∙ is

    tests : Triple m b3 t (λ h0. conjuncts_steps p.checks) g last checks_due loops_due
    tests = t_tests m g last checks_due loops_due sifts (λ h0 h regs v pre is long has same.
        let below = λ (k : ℕ) (lt : k < a.next). same k (omega (arith, lt)) (λ e. absurd (omega (arith, e, lt))) in
        let rest = passing p.checks K (sight_of m h0) no_causes in
        let next = K (sight_of m h0) (read regs causes) in
        refilled next h0 h regs below long (other rest next h0 h (passing-some K (sight_of m h0) p.checks no_causes v (memory_of lo h) (by_test h0 h (Some v) pre is) ∙ ap (λ w. K (sight_of m h0) w (memory_of lo h)) (sym has)) pre.0)) (λ h0 h regs pre is long same.
        let below = λ (k : ℕ) (lt : k < a.next). same k (omega (arith, lt)) (λ e. absurd (omega (arith, e, lt))) in
        let rest = passing p.checks K (sight_of m h0) no_causes in
        inl (refl, refilled Done h0 h regs below long (other rest Done h0 h (passing-none K (sight_of m h0) p.checks no_causes (memory_of lo h) (by_test h0 h None pre is)) pre.0)))

    cursors_at : (rest : Memory → Outcome) (h0 h : Here) → Within rest h0 h → h.scene.cursors ≡ h0.scene.cursors
    cursors_at rest h0 h w = ap (λ (s : Scene). s.cursors) w.scene

    runs_as : (h0 h : Here) (o : Outcome) → loops_due h0 h → effect_at m K lo causes h ≡ o → effect_at m E lo 0 h0 ≡ o
    runs_as h0 h o pre is =
        pre.left
        ∙ ap (λ s. K s (read h.regs causes) (memory_of lo h)) (sym (sees (K (sight_of m h0) (read h.regs causes)) h0 h pre))
        ∙ is

    keeps_loops : KeepsWritten K
    keeps_loops = nested-keeps loops F keeps

    nest : Triple m t y (λ h0. nested_steps loops most (environment_of m h0)) g last loops_due finished
    nest = t_nests m (λ h0. nested_steps loops most (environment_of m h0)) g last loops_due finished nests (subst (λ n. ArePlaced n loops) (sym wide) placed) (λ h0 h pre. omega (arith, ap (λ (s : Sight). nested_steps loops most s.env) (sees (K (sight_of m h0) (read h.regs causes)) h0 h pre))) (λ h0 h pre.
        subst (Stand loops) (sym (cursors_at (K (sight_of m h0) (read h.regs causes)) h0 h pre)) pre.stand) (λ h0 h pre.
        subst (Shut t.cursors) (sym (cursors_at (K (sight_of m h0) (read h.regs causes)) h0 h pre)) (subst (λ n. Shut n h0.scene.cursors) (sym wide) pre.shut)) (λ h0 h regs w pre is long own same.
        record {
          regs = λ k ge lt. same k ge (omega (arith, lt, sifts.next)) ∙ pre.regs k ge lt;
          inputs = pre.inputs;
          scene = pre.scene;
          written = keeps_loops (sight_of m h) (read h.regs causes) (memory_of lo h) w is ∙ pre.written;
          stand = pre.stand;
          shut = pre.shut;
          left = runs_as h0 h (Done w) pre is ∙ ap (λ own. Done (record w { own = own })) (sym own);
        }) (λ h0 h k w pre is.
        (k, w, runs_as h0 h (Fails k w) pre is, refl, refl))

    whole : Triple m a code (λ h0. gathered_steps p most (environment_of m h0)) no_labels last started done
    whole =
        let middle : Triple m b3 e1 (λ h0. conjuncts_steps p.checks + nested_steps loops most (environment_of m h0)) no_labels last checks_due finished = t_bind end finished end_y (λ h0 h w. w) (t_seq tests nest) in
        let ends : Triple m e1 code (λ h0. 0) no_labels last finished done = t_use finished done (λ h0 h w. w) (λ h0 h w. (w.regs, w.scene, w.left)) (t_draft m no_labels last finished (g_released e1 causes) refl) in
        t_more (λ h0. gathered_steps p most (environment_of m h0)) (λ h0. omega arith) (t_seq (t_seq clears middle) ends)

  pub gathered-nest : Nests (conjuncts_read p.checks ++ inner) p.loops a (released (bound y (length a.labels)) a.next) lo 0 (gathering p F) (gathered_steps p most)
  gathered-nest =
      nests_of needs p.loops lo 0 (gathering p F) (λ h0 h. (h ≡ h0) × (Stand p.loops h0.scene.cursors × Shut a.cursors h0.scene.cursors)) grows_code refl steady_code (λ h stand shut. (refl, (stand, shut))) (λ m placed. whole m placed)
