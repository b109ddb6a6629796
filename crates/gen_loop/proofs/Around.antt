-- The code of a plan whose loops give the rows in its order: its cursors are opened, its loops stand between, and the cursors are closed.
use Rattle.std.proofs.Common.{◌≡◌, ℕ, ◌+◌, ◌≤◌, ◌<◌, All, List, [], ◌++◌, length, None, refl, sym, ap, ◌∙◌, subst, arith}
use Rattle.std.specs.Prelude.{false, if◌then◌else◌}
use Rattle.eng_value.specs.Arrangements.{arranged}
use Rattle.eng_value.specs.Environments.{Environment, no_causes}
use Rattle.gen_loop.specs.Loops.{at_row, each, from_cost, from_effect, gathered_steps, gathering, row_seen, sorted_steps}
use Rattle.gen_loop.specs.Needs.{NamesBelow, gathering_needs, plan_reads}
use Rattle.gen_loop.specs.Stretches.{AreSpread, ArePlaced, Nests, Stand, opened_all}
use Rattle.gen_loop.proofs.Cursors.{IsAt, closed_again, cursors_opened, length-closed, length-opened, opened-cursors, opened-grows, opened-next, same-opened, shut-opened, stand-opened, t_opens}
use Rattle.gen_loop.proofs.Rules.{HasRoom, t_room}
use Rattle.gen_loop.proofs.Spread.{placed-spread}
use Rattle.gen_loop.proofs.Tables.{Tables, found-plan, names-nothing, opens-loops, st_closed}
use Rattle.gen_loop.proofs.Turns.{t_nests}
use Rattle.plan_tree.specs.Plans.{gathered, stands_before}
use Rattle.plan_tree.specs.declared.access.JoinPlan.{JoinPlan}
use Rattle.plan_tree.specs.declared.access.Loop.{Loop}
use Rattle.vm_code.specs.declared.op.Op.TheVariants as op
use Rattle.vm_code.specs.declared.open_cursor.Need.{Need}
use Rattle.vm_code.specs.Draft.{Draft, with_op}
use Rattle.vm_code.specs.Track.{Meets, OpenSet}
use Rattle.vm_code.specs.Tracked.{Steady}
use Rattle.vm_code.specs.Machine.{Cursor, Scene, Setting, closed_from, current, held, read, world_of}
use Rattle.vm_code.specs.Frames.{Does, Done, Effect, Grows, Here, Shut, Sight, effect_at, environment_of, memory_of, needing, sight_of}
use Rattle.vm_code.specs.Claims.{Claim, Last, Triple}
use Rattle.vm_code.proofs.Drafts.{g_op, grows_then}
use Rattle.vm_code.proofs.Effects.{EndsDone, EndsFailed, does_of}
use Rattle.vm_code.proofs.Triples.{exits_by, no_labels, t_more, t_op, t_seq}

-- what is seen where the cursors of loops are open on no row
pub sees-opened : (m : Setting) (loops : List Loop) (h0 : Here) → Shut 0 h0.scene.cursors → sight_of m (record h0 { scene = record h0.scene { cursors = cursors_opened loops h0.scene.cursors } }) ≡ sight_of m h0
sees-opened m loops h0 shut =
    let w0 = world_of h0.shared in
    let cursors = h0.scene.cursors in
    let rows = same-opened (current w0) (λ table. refl) loops cursors (λ k. ap (current w0) (shut k (omega arith))) in
    let holds = same-opened held (λ table. refl) loops cursors (λ k. ap held (shut k (omega arith))) in
    ap (λ l. record (sight_of m (record h0 { scene = record h0.scene { cursors = cursors_opened loops cursors } })) { env = record (environment_of m h0) { rows = l } }) rows
    ∙ ap (λ l. record (sight_of m h0) { held = l }) holds

-- the cursors are open
abbrev pub opened_now : List Loop → Claim
opened_now loops h0 h = IsAt (λ h0. cursors_opened loops h0.scene.cursors) h0 h × Shut 0 h0.scene.cursors

abbrev pub begun : Claim
begun h0 h = (h ≡ h0) × Shut 0 h0.scene.cursors

pub t_begins : (m : Setting) (e : Last) (loops : List Loop) (a : Draft) → Triple m a (opened_all a loops) (λ h0. length loops) no_labels e begun (opened_now loops)
t_begins m e loops a =
    let all = t_opens m no_labels e loops a (λ h0. h0.scene.cursors) in
    record { extends = all.extends; runs = λ u at h h0 s room start pre. exits_by m at (length loops) (λ l. no_labels l h0) (e h0) s (length (opened_all a loops).code) (IsAt (λ h0. cursors_opened loops h0.scene.cursors) h0) (opened_now loops h0) (λ h is. (is, pre.1)) (all.runs u at h h0 s room start pre.0) }

module _ {inner : List Need} (a y : Draft) (loops : List Loop) (lo : ℕ) (E : Effect) (nE : Environment → ℕ) (first : a.cursors ≡ 0) (spread : AreSpread loops) (nests : Nests inner loops (opened_all a loops) y lo 0 E nE) (reads : List Need) (found : NamesBelow (length loops) reads → (ys : OpenSet) → Tables (length loops) ys → All (Meets ys) inner) where
  abbrev b : Draft
  b = opened_all a loops

  abbrev code : Draft
  code = with_op y (op.CloseFrom 0)

  width : b.cursors ≡ length loops
  width = omega (arith, opened-cursors loops a, first)

  placed : ArePlaced b.cursors loops
  placed = placed-spread loops b.cursors spread (omega (arith, width))

  grows_code : Grows a code
  grows_code = grows_then (opened-grows loops a) (grows_then nests.grows (g_op y (op.CloseFrom 0)))

  pub loops-steady : NamesBelow (length loops) reads → Steady [] [] a code
  loops-steady names = st_closed a b y first (opens-loops loops a spread) (λ met. found names) nests.steady

  steady_code : Steady reads [] a code
  steady_code =
      st_closed a b y first (opens-loops loops a spread) (λ met. found (names-nothing (length loops) reads met)) nests.steady

  module _ (m : Setting) where
    abbrev last : Last
    last = EndsFailed m E lo 0

    abbrev done : Claim
    done = EndsDone m E lo 0 a.next

    abbrev opened : Here → List Cursor
    opened h0 = cursors_opened loops h0.scene.cursors

    -- behind the loops
    record Given (h0 h : Here) : Type 0 where
      regs : (k : ℕ) → lo ≤ k → k < a.next → read h.regs k ≡ read h0.regs k
      scene : h.scene ≡ record h0.scene { cursors = opened h0 }
      shut : Shut 0 h0.scene.cursors
      left : effect_at m E lo 0 h0 ≡ Done (memory_of lo h)

    abbrev given : Claim
    given h0 h = Given h0 h

    sees : (h0 h : Here) → opened_now loops h0 h → sight_of m h ≡ sight_of m h0
    sees h0 h pre = ap (sight_of m) pre.0 ∙ sees-opened m loops h0 pre.1

    same_effect : (h0 h : Here) → opened_now loops h0 h → effect_at m E lo 0 h ≡ effect_at m E lo 0 h0
    same_effect h0 h pre =
        ap (λ s. E s (read h.regs 0) (memory_of lo h)) (sees h0 h pre)
        ∙ ap (λ (x : Here). E (sight_of m h0) (read x.regs 0) (memory_of lo x)) pre.0

    cursors_there : (h0 h : Here) → opened_now loops h0 h → h.scene.cursors ≡ opened h0
    cursors_there h0 h pre = ap (λ (x : Here). x.scene.cursors) pre.0

    abbrev due : Claim
    due h0 h = opened_now loops h0 h × HasRoom b h

    rows : Triple m b y (λ h0. nE (environment_of m h0)) no_labels last (opened_now loops) given
    rows = t_room (opened_now loops) given (t_nests m (λ h0. nE (environment_of m h0)) no_labels last due given nests placed (λ h0 h pre. omega (arith, ap (λ (s : Sight). nE s.env) (sees h0 h pre.0))) (λ h0 h pre.
        let there = cursors_there h0 h pre.0 in
        subst (Stand loops) (sym there) (stand-opened loops b.cursors h0.scene.cursors placed (omega (arith, pre.1.cursors, ap (λ (l : List Cursor). length l) there, length-opened loops h0.scene.cursors)))) (λ h0 h pre.
        subst (Shut b.cursors) (sym (cursors_there h0 h pre.0)) (shut-opened loops b.cursors h0.scene.cursors placed (λ k le. pre.0.1 k (omega arith)))) (λ h0 h regs w pre is long own same.
        record {
          regs = λ k ge lt. same k ge (omega (arith, lt, opened-next loops a)) ∙ ap (λ (x : Here). read x.regs k) pre.0.0;
          scene = ap (λ (x : Here). x.scene) pre.0.0;
          shut = pre.0.1;
          left = sym (same_effect h0 h pre.0) ∙ is ∙ ap (λ own. Done (record w { own = own })) (sym own);
        }) (λ h0 h k w pre is.
        (k, w, sym (same_effect h0 h pre.0) ∙ is, refl, refl)))

    closes : Triple m y code (λ h0. 1) no_labels last given done
    closes = t_op m y (op.CloseFrom 0) (λ h. record h { scene = record h.scene { cursors = closed_from 0 h.scene.cursors } }) no_labels last given done (λ at s. refl) (λ h. (refl, length-closed 0 h.scene.cursors)) (λ h0 h many wide w.
        (w.regs, ap (λ (s : Scene). record s { cursors = closed_from 0 s.cursors }) w.scene ∙ ap (λ l. record h0.scene { cursors = l }) (closed_again (opened h0) h0.scene.cursors (length-opened loops h0.scene.cursors) w.shut), w.left))

    whole : Triple m a code (λ h0. length loops + 1 + nE (environment_of m h0)) no_labels last begun done
    whole =
        t_more (λ h0. length loops + 1 + nE (environment_of m h0)) (λ h0. omega arith) (t_seq (t_seq (t_begins m last loops a) rows) closes)

  pub loops-do : Does (needing reads) a code lo 0 None E (λ sight causes x. length loops + 1 + nE sight.env)
  loops-do =
      does_of lo 0 None E begun grows_code (nests.next ∙ opened-next loops a) steady_code (λ h shut. (refl, subst (λ n. Shut n h.scene.cursors) first shut)) (λ m called. whole m)

-- a plan whose rows are not sorted
module _ (a y : Draft) (p : JoinPlan) (body : List Need) (lo : ℕ) (F : Effect) (most : ℕ) (unsorted : p.sort ≡ false) (first : a.cursors ≡ 0) (nests : Nests (gathering_needs p body) p.loops (opened_all a p.loops) y lo 0 (gathering p F) (gathered_steps p most)) where
  abbrev plan_needs : List Need
  plan_needs = plan_reads p ++ body

  pub plan-steady : AreSpread p.loops → NamesBelow (length p.loops) (plan_reads p ++ body) → Steady [] [] a (with_op y (op.CloseFrom 0))
  plan-steady spread names =
      loops-steady a y p.loops lo (gathering p F) (gathered_steps p most) first spread nests plan_needs (found-plan p body spread) names

  pub plan-does : AreSpread p.loops → Does (needing (plan_reads p ++ body)) a (with_op y (op.CloseFrom 0)) lo 0 None (from_effect p F) (from_cost p most)
  plan-does spread =
      subst (λ b. Does (needing plan_needs) a (with_op y (op.CloseFrom 0)) lo 0 None (λ sight causes x. each (at_row F sight) (if b then arranged (stands_before (length p.loops)) (gathered sight.env p (row_seen sight no_causes)) else gathered sight.env p (row_seen sight no_causes)) x) (λ sight causes x. length p.loops + 1 + (if b then sorted_steps p most sight.env else gathered_steps p most sight.env))) (sym unsorted) (loops-do a y p.loops lo (gathering p F) (gathered_steps p most) first spread nests plan_needs (found-plan p body spread))
