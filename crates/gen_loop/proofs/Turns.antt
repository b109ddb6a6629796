-- What is known in a turn of a loop, and what is done with a pair.
use Rattle.std.proofs.Common.{◌≡◌, ◌≢◌, ℕ, zero, suc, ◌+◌, ◌≤◌, ◌<◌, List, [], ◌∷◌, length, take, Some, None, refl, sym, ap, ◌∙◌, subst, arith}
use Rattle.std.specs.Prelude.{slice_set}
use Rattle.std.specs.declared.option.Option.{Option}
use Rattle.std.proofs.lemmas.List.{get_or-set_other, set-set}
use Rattle.eng_value.specs.Causes.{CauseSet}
use Rattle.eng_value.specs.Environments.{Environment, ItemRow}
use Rattle.eng_value.specs.declared.out.Out.{Out}
use Rattle.gen_loop.specs.Loops.{KeepsWritten, at_row, conjuncts_steps, each, paired, passing, row_seen}
use Rattle.gen_loop.specs.Stretches.{Apart, ArePlaced, Nests, Stand}
use Rattle.gen_loop.proofs.Ordered.{passing-none, passing-some}
use Rattle.gen_loop.proofs.Paths.{OnlyMoved, moved_there}
use Rattle.plan_tree.specs.declared.access.Loop.{Loop}
use Rattle.sql_meaning.specs.Products.{FromRow, sifted}
use Rattle.vm_code.specs.declared.open_cursor.Need.{Need}
use Rattle.vm_code.specs.Draft.{Draft}
use Rattle.vm_code.specs.Tracked.{Steady}
use Rattle.vm_code.specs.Machine.{Cursor, Closed, Open, Scene, Setting, State, GivesUp, Leads, Reaches, cursor_at, leads_to, read}
use Rattle.vm_code.specs.Frames.{Here, here, there, with_regs, environment_of, sight_of, Sight, Memory, memory_of, Outcome, Done, Fails, Quit, Did, Does, Effect, effect_at, Grows, Shut, Sifted, Sifts, and_then, needing}
use Rattle.vm_code.specs.Claims.{Claim, Labels, Last, Exits, on, off, ends, Triple}
use Rattle.vm_code.proofs.Runs.{leads_more}
use Rattle.vm_code.proofs.Drafts.{extends}
use Rattle.vm_code.proofs.Loops.{At, moved}
use Rattle.vm_code.proofs.Triples.{no_labels, t_seq}
use Rattle.vm_code.proofs.Effects.{Keeps, EndsDone, EndsFailed}

-- ---- registers and cursors

take-same : (n : ℕ) (r q : List Out) → length r ≡ length q → ((k : ℕ) → k < n → read r k ≡ read q k) → take n r ≡ take n q
take-same zero r q e f = refl
take-same (suc n) [] [] e f = refl
take-same (suc n) [] (y ∷ ys) e f = absurd (omega (arith, e))
take-same (suc n) (x ∷ xs) [] e f = absurd (omega (arith, e))
take-same (suc n) (x ∷ xs) (y ∷ ys) e f =
    ap (λ l. x ∷ l) (take-same n xs ys (omega (arith, e)) (λ k lt. f (suc k) (omega arith))) ∙ ap (λ z. z ∷ take n ys) (f 0 (omega arith))

-- what code works on is the same where no register of its own is another
pub memory-same : (lo : ℕ) (h : Here) (regs : List Out) → length regs ≡ length h.regs → ((k : ℕ) → k < lo → read regs k ≡ read h.regs k) → memory_of lo (with_regs h regs) ≡ memory_of lo h
memory-same lo h regs long same =
    ap (λ l. record { own = l; store = h.store; shared = h.shared }) (take-same lo regs h.regs long same)

-- where a cursor moves the others stay
others_stay : (c k : ℕ) (x : Cursor) (before now : List Cursor) → slice_set now c x ≡ before → k ≢ c → cursor_at now k ≡ cursor_at before k
others_stay c k x before now e ne =
    sym (get_or-set_other now c k x Closed ne) ∙ ap (λ l. cursor_at l k) e

stand_still : (loops : List Loop) (c : ℕ) (x : Cursor) (before now : List Cursor) → slice_set now c x ≡ before → Apart c loops → Stand loops before → Stand loops now
stand_still [] c x before now e apart stand = tt
stand_still (l ∷ loops) c x before now e apart stand =
    (others_stay c l.place x before now e apart.0 ∙ stand.0, stand_still loops c x before now e apart.1 stand.1)

shut_still : (n c : ℕ) (x : Cursor) (before now : List Cursor) → slice_set now c x ≡ before → c < n → Shut n before → Shut n now
shut_still n c x before now e lt shut k le =
    others_stay c k x before now e (λ same. absurd (omega (arith, le, same, lt))) ∙ shut k le

-- ---- stretches inside others

-- tests whose cost is known
pub t_tests : (m : Setting) {a b : Draft} {causes label n : ℕ} {needs : List Need} {f : Environment → Out → Option Out} (g : Labels) (e : Last) (p q : Claim) → Sifts (needing needs) a b causes label f (λ env. n) → ((h0 h : Here) (regs : List Out) (v : Out) → p h0 h → f (environment_of m h) (read h.regs causes) ≡ Some v → length regs ≡ length h.regs → read regs causes ≡ v → ((k : ℕ) → k < a.next → k ≢ causes → read regs k ≡ read h.regs k) → q h0 (with_regs h regs)) → ((h0 h : Here) (regs : List Out) → p h0 h → f (environment_of m h) (read h.regs causes) ≡ None → length regs ≡ length h.regs → ((k : ℕ) → k < a.next → k ≢ causes → read regs k ≡ read h.regs k) → g label h0 (with_regs h regs)) → Triple m a b (λ h0. n) g e p q
t_tests m {a} {b} {causes} {label} {n} {needs} {f} g e p q x keeps drops = record {
  extends = extends x.grows;
  runs = λ u at h h0 s room start pre.
      by at h0 s pre (f (environment_of m (here s)) (read s.regs causes)) refl (x.sifts m tt u at h s room start);
}
  where
    by : (at : ℕ → ℕ) (h0 : Here) (s : State) → p h0 (here s) → (o : Option Out) → f (environment_of m (here s)) (read s.regs causes) ≡ o → Sifted m n s (length b.code) (at label) a.next causes o → Exits m at n (λ l. g l h0) (e h0) s (length b.code) (q h0)
    by at h0 s pre (Some v) is l = on (record {
      regs = l.regs;
      scene = s.scene;
      store = s.store;
      shared = s.shared;
      way = l.way;
      long = l.long;
      wide = refl;
      holds = keeps h0 (here s) l.regs v pre is l.long l.has l.keeps;
    })
    by at h0 s pre None is (v, l) = off label (record {
      regs = l.regs;
      scene = s.scene;
      store = s.store;
      shared = s.shared;
      way = l.way;
      long = l.long;
      wide = refl;
      holds = drops h0 (here s) l.regs pre is l.long l.keeps;
    })

-- loops inside a stretch
pub t_nests : (m : Setting) {needs : List Need} {loops : List Loop} {a b : Draft} {lo causes : ℕ} {f : Effect} {n : Environment → ℕ} (k : Here → ℕ) (g : Labels) (e : Last) (p q : Claim) → Nests needs loops a b lo causes f n → ArePlaced a.cursors loops → ((h0 h : Here) → p h0 h → n (environment_of m h) ≤ k h0) → ((h0 h : Here) → p h0 h → Stand loops h.scene.cursors) → ((h0 h : Here) → p h0 h → Shut a.cursors h.scene.cursors) → ((h0 h : Here) (regs : List Out) (x : Memory) → p h0 h → effect_at m f lo causes h ≡ Done x → length regs ≡ length h.regs → take lo regs ≡ x.own → Keeps lo a.next h.regs regs → q h0 (record h { regs = regs; store = x.store; shared = x.shared })) → ((h0 h : Here) (c : CauseSet) (x : Memory) → p h0 h → effect_at m f lo causes h ≡ Fails c x → e h0 (GivesUp c) x.shared) → Triple m a b k g e p q
t_nests m {needs} {loops} {a} {b} {lo} {causes} {f} {n} k g e p q d placed within stand shut done fails = record {
  extends = extends d.grows;
  runs = λ u at h h0 s room start pre.
      by at h0 s pre (effect_at m f lo causes (here s)) refl (d.does m placed u at h s room start (stand h0 (here s) pre) (shut h0 (here s) pre));
}
  where
    by : (at : ℕ → ℕ) (h0 : Here) (s : State) → p h0 (here s) → (o : Outcome) → effect_at m f lo causes (here s) ≡ o → Did m (n (environment_of m (here s))) s (length b.code) None lo a.next a.cursors o → Exits m at (k h0) (λ l. g l h0) (e h0) s (length b.code) (q h0)
    by at h0 s pre (Done x) is d = on (record {
      regs = d.regs;
      scene = s.scene;
      store = x.store;
      shared = x.shared;
      way = leads_more m (k h0) (within h0 (here s) pre) d.way;
      long = d.long;
      wide = refl;
      holds = done h0 (here s) d.regs x pre is d.long d.own d.keeps;
    })
    by at h0 s pre (Quit x) is d = absurd d
    by at h0 s pre (Fails c x) is d = ends (GivesUp c) x.shared (leads_more m (k h0) (within h0 (here s) pre) d) (fails h0 (here s) c x pre is)

-- a stretch as loops
pub nests_of : {a b : Draft} {n : Environment → ℕ} (needs : List Need) (loops : List Loop) (lo causes : ℕ) (f : Effect) (p : Claim) → Grows a b → b.next ≡ a.next → Steady needs [] a b → ((h : Here) → Stand loops h.scene.cursors → Shut a.cursors h.scene.cursors → p h h) → ((m : Setting) → ArePlaced a.cursors loops → Triple m a b (λ h0. n (environment_of m h0)) no_labels (EndsFailed m f lo causes) p (EndsDone m f lo causes a.next)) → Nests needs loops a b lo causes f n
nests_of {a} {b} {n} needs loops lo causes f p grows next steady start x = record {
  grows = grows;
  next = next;
  steady = steady;
  does = λ m placed u at h s room pc stand shut. by m at s ((x m placed).runs u at h (here s) s room pc (start (here s) stand shut));
}
  where
    cost : Setting → State → ℕ
    cost m s = n (environment_of m (here s))

    by : (m : Setting) (at : ℕ → ℕ) (s : State) → Exits m at (cost m s) (λ l. no_labels l (here s)) (EndsFailed m f lo causes (here s)) s (length b.code) (EndsDone m f lo causes a.next (here s)) → Did m (cost m s) s (length b.code) None lo a.next a.cursors (effect_at m f lo causes (here s))
    by m at s (on h) = subst (Did m (cost m s) s (length b.code) None lo a.next a.cursors) (sym h.holds.2) (record {
      regs = h.regs;
      way = subst (λ c. Reaches m (cost m s) s (there s (length b.code) h.regs c h.store h.shared)) h.holds.1 h.way;
      long = h.long;
      own = refl;
      keeps = h.holds.0;
    })
    by m at s (off l h) = absurd h.holds
    by m at s (ends o shared z ok) =
        subst (Did m (cost m s) s (length b.code) None lo a.next a.cursors) (sym ok.2) (subst (λ y. Leads m (cost m s) s (leads_to (GivesUp ok.0) s.stack y)) (sym ok.4) (subst (λ v. Leads m (cost m s) s (leads_to v s.stack shared)) ok.3 z))

-- the same effect and cost
pub nests_same : {needs : List Need} {loops : List Loop} {a b : Draft} {lo causes : ℕ} {f : Effect} {n : Environment → ℕ} (g : Effect) → ((sight : Sight) (v : Out) (x : Memory) → f sight v x ≡ g sight v x) → Nests needs loops a b lo causes f n → Nests needs loops a b lo causes g n
nests_same {needs} {loops} {a} {b} {lo} {causes} {f} {n} g e d = record {
  grows = d.grows;
  next = d.next;
  steady = d.steady;
  does = λ m placed u at h s room pc stand shut.
      subst (Did m (n (environment_of m (here s))) s (length b.code) None lo a.next a.cursors) (e (sight_of m (here s)) (read s.regs causes) (memory_of lo (here s))) (d.does m placed u at h s room pc stand shut);
}

-- a body that no loop is around
pub nests_body : {needs : List Need} {a b : Draft} {lo causes most : ℕ} {f : Effect} → Does (needing needs) a b lo causes None f (λ sight held x. most) → Nests needs [] a b lo causes f (λ env. most)
nests_body d = record {
  grows = d.grows;
  next = d.next;
  steady = d.steady;
  does = λ m placed u at h s room pc stand shut. d.does m tt u at h s room pc shut;
}

-- ---- a loop

module _ (m : Setting) (a : Draft) (l : Loop) (loops : List Loop) (lo causes : ℕ) (G : Effect) where
  abbrev pub c : ℕ
  c = l.place

  abbrev pub off_rows : Cursor
  off_rows = Open l.table None

  abbrev pub whole : Effect
  whole = paired l G

  -- the rows around the loop
  abbrev pub outer_row : Here → FromRow
  outer_row h0 = row_seen (sight_of m h0) (read h0.regs causes)

  abbrev pub at_pair : Here → FromRow → Memory → Outcome
  at_pair h0 = at_row G (sight_of m h0)

  -- this is left to be done
  pub record Owes (rest : Memory → Outcome) (h0 h : Here) : Type 0 where
    pub regs : Keeps lo a.next h0.regs h.regs
    pub only : OnlyMoved l.place l.table h0 h
    pub stand : Stand loops h0.scene.cursors
    pub shut : Shut a.cursors h0.scene.cursors
    pub left : effect_at m (paired l G) lo causes h0 ≡ rest (memory_of lo h)

  -- namely what is done with these pairs
  abbrev pub OwesPairs : List FromRow → Here → Here → Type 0
  OwesPairs pairs h0 h = Owes (each (at_pair h0) pairs) h0 h

  pub owes_other : (rest other : Memory → Outcome) (h0 h : Here) → rest (memory_of lo h) ≡ other (memory_of lo h) → Owes rest h0 h → Owes other h0 h
  owes_other rest other h0 h e o = record { regs = o.regs; only = o.only; stand = o.stand; shut = o.shut; left = o.left ∙ e }

  -- a cursor that moves changes nothing else
  pub owes_moved : (rest : Memory → Outcome) (h0 h : Here) (x : Cursor) → Owes rest h0 h → Owes rest h0 (moved h l.place x)
  owes_moved rest h0 h x o = record {
    regs = o.regs;
    only = record {
      inputs = o.only.inputs;
      scene = ap (λ k. record h.scene { cursors = k }) (set-set h.scene.cursors l.place x (Open l.table None)) ∙ o.only.scene;
      off = o.only.off;
      written = o.only.written;
    };
    stand = o.stand;
    shut = o.shut;
    left = o.left;
  }

  -- nor do registers from the mark on
  pub owes_regs : lo ≤ a.next → (rest : Memory → Outcome) (h0 h : Here) (regs : List Out) → ((k : ℕ) → k < a.next → read regs k ≡ read h.regs k) → length regs ≡ length h.regs → Owes rest h0 h → Owes rest h0 (with_regs h regs)
  owes_regs le rest h0 h regs same long o = record {
    regs = λ k ge lt. same k lt ∙ o.regs k ge lt;
    only = record { inputs = o.only.inputs; scene = o.only.scene; off = o.only.off; written = o.only.written };
    stand = o.stand;
    shut = o.shut;
    left = o.left ∙ ap rest (sym (memory-same lo h regs long (λ k lt. same k (omega (arith, lt, le)))));
  }

  pub owes_start : (h : Here) → Stand (l ∷ loops) h.scene.cursors → Shut a.cursors h.scene.cursors → Owes (λ x. paired l G (sight_of m h) (read h.regs causes) x) h h
  owes_start h stand shut = record {
    regs = λ k ge lt. refl;
    only = record {
      inputs = refl;
      scene = ap (λ k. record h.scene { cursors = k }) (moved_there l.place (Open l.table None) h.scene.cursors stand.0);
      off = stand.0;
      written = refl;
    };
    stand = stand.1;
    shut = shut;
    left = refl;
  }

  -- at the end all is as it was
  pub owes_none : (h0 h : Here) → At l.place (Open l.table None) (λ h0 h. OwesPairs [] h0 h) h0 h → EndsDone m (paired l G) lo causes a.next h0 h
  owes_none h0 h pre =
      (pre.1.regs, ap (λ k. record h.scene { cursors = k }) (sym (moved_there l.place (Open l.table None) h.scene.cursors pre.0)) ∙ pre.1.only.scene, pre.1.left)

-- ---- what is done with a pair

module _ (m : Setting) (a : Draft) (l : Loop) (loops : List Loop) (lo causes : ℕ) (K : Effect) (keeps : KeepsWritten K) (mine : ℕ) (lo_le : lo ≤ a.next) (mine_le : a.next ≤ mine) (Z : List Out → Type 0) (stable : (r q : List Out) → ((k : ℕ) → lo ≤ k → k < mine → read q k ≡ read r k) → Z r → Z q) where
  abbrev G : Effect
  G = passing l.checks K

  abbrev O : (Memory → Outcome) → Here → Here → Type 0
  O = Owes m a l loops lo causes G

  abbrev pair_at : Here → FromRow → Memory → Outcome
  pair_at h0 = at_row G (sight_of m h0)

  -- what is seen where these rows are
  abbrev pub seen_at : Here → List ItemRow → Sight
  seen_at h0 rows = record (sight_of m h0) { env = record (environment_of m h0) { rows = rows } }

  -- the pair of these rows, whose causes the register holds, is the next one
  abbrev pub pair_due : Cursor → (Here → List ItemRow) → (Here → List FromRow) → Claim
  pair_due x rows rest h0 h =
      At l.place x (λ h0 h. (sight_of m h ≡ seen_at h0 (rows h0)) × O (each (pair_at h0) (record { rows = rows h0; causes = read h.regs mine } ∷ rest h0)) h0 h × Z h.regs) h0 h

  abbrev pub pair_done : Cursor → (Here → List FromRow) → Claim
  pair_done x rest h0 h = At l.place x (λ h0 h. O (each (pair_at h0) (rest h0)) h0 h × Z h.regs) h0 h

  module _ (x : Cursor) (rows : Here → List ItemRow) (rest : Here → List FromRow) where
    -- behind the checks
    abbrev body_due : Claim
    body_due h0 h =
        At l.place x (λ h0 h. (sight_of m h ≡ seen_at h0 (rows h0)) × O (λ y. and_then (K (seen_at h0 (rows h0)) (read h.regs mine) y) (each (pair_at h0) (rest h0))) h0 h × Z h.regs) h0 h

    module _ {d t y : Draft} {next : ℕ} {check_needs inner : List Need} {nK : Environment → ℕ} (g : Labels) (mine_lt : mine < d.next) (depth : t.cursors ≡ a.cursors) (sifts : Sifts (needing check_needs) d t mine next (sifted l.checks) (λ env. conjuncts_steps l.checks)) (nests : Nests inner loops t y lo mine K nK) (placed : ArePlaced a.cursors (l ∷ loops)) (N : Here → ℕ) (within : (h0 : Here) → nK (record (environment_of m h0) { rows = rows h0 }) ≤ N h0) (rejected : (h0 h : Here) → pair_done x rest h0 h → g next h0 h) where
      abbrev last : Last
      last = EndsFailed m (paired l G) lo causes

      -- registers but for the pair's causes are as they were
      refilled : (k : Memory → Outcome) (h0 h : Here) (regs : List Out) → length regs ≡ length h.regs → ((j : ℕ) → j < d.next → j ≢ mine → read regs j ≡ read h.regs j) → O k h0 h → O k h0 (with_regs h regs)
      refilled k h0 h regs long same o =
          owes_regs m a l loops lo causes G lo_le k h0 h regs (λ j lt. same j (omega arith) (omega arith)) long o

      kept : (h regs : _) → ((j : ℕ) → j < d.next → j ≢ mine → read regs j ≡ read h j) → Z h → Z regs
      kept h regs same z = stable h regs (λ j ge lt. same j (omega arith) (omega arith)) z

      by_checks : (h0 h : Here) (o : Option Out) → pair_due x rows rest h0 h → sifted l.checks (environment_of m h) (read h.regs mine) ≡ o → sifted l.checks (seen_at h0 (rows h0)).env (read h.regs mine) ≡ o
      by_checks h0 h o pre is = ap (λ (s : Sight). sifted l.checks s.env (read h.regs mine)) (sym pre.1.0) ∙ is

      checks : Triple m d t (λ h0. conjuncts_steps l.checks) g last (pair_due x rows rest) body_due
      checks = t_tests m g last (pair_due x rows rest) body_due sifts (λ h0 h regs v pre is long has same.
          (pre.0, (pre.1.0, refilled (λ w. and_then (K (seen_at h0 (rows h0)) (read regs mine) w) (each (pair_at h0) (rest h0))) h0 h regs long same (owes_other m a l loops lo causes G (each (pair_at h0) (record { rows = rows h0; causes = read h.regs mine } ∷ rest h0)) (λ w. and_then (K (seen_at h0 (rows h0)) (read regs mine) w) (each (pair_at h0) (rest h0))) h0 h (ap (λ o. and_then o (each (pair_at h0) (rest h0))) (passing-some K (seen_at h0 (rows h0)) l.checks (read h.regs mine) v (memory_of lo h) (by_checks h0 h (Some v) pre is) ∙ ap (λ w. K (seen_at h0 (rows h0)) w (memory_of lo h)) (sym has))) pre.1.1), kept h.regs regs same pre.1.2))) (λ h0 h regs pre is long same.
          rejected h0 (with_regs h regs) (pre.0, (refilled (each (pair_at h0) (rest h0)) h0 h regs long same (owes_other m a l loops lo causes G (each (pair_at h0) (record { rows = rows h0; causes = read h.regs mine } ∷ rest h0)) (each (pair_at h0) (rest h0)) h0 h (ap (λ o. and_then o (each (pair_at h0) (rest h0))) (passing-none K (seen_at h0 (rows h0)) l.checks (read h.regs mine) (memory_of lo h) (by_checks h0 h None pre is))) pre.1.1), kept h.regs regs same pre.1.2)))

      cursors_in : (h0 h : Here) → O (λ y. and_then (K (seen_at h0 (rows h0)) (read h.regs mine) y) (each (pair_at h0) (rest h0))) h0 h → slice_set h.scene.cursors l.place (Open l.table None) ≡ h0.scene.cursors
      cursors_in h0 h o = ap (λ (s : Scene). s.cursors) o.only.scene

      -- the effect of the loops inside is the one of the pair
      runs_as : (h0 h : Here) (o : Outcome) → body_due h0 h → effect_at m K lo mine h ≡ o → effect_at m (paired l G) lo causes h0 ≡ and_then o (each (pair_at h0) (rest h0))
      runs_as h0 h o pre is =
          pre.1.1.left
          ∙ ap (λ w. and_then w (each (pair_at h0) (rest h0))) (ap (λ s. K s (read h.regs mine) (memory_of lo h)) (sym pre.1.0) ∙ is)

      body : Triple m t y N g last body_due (pair_done x rest)
      body = t_nests m N g last body_due (pair_done x rest) nests (subst (λ n. ArePlaced n loops) (sym depth) placed.3) (λ h0 h pre. omega (arith, within h0, ap (λ (s : Sight). nK s.env) pre.1.0)) (λ h0 h pre. stand_still loops l.place (Open l.table None) h0.scene.cursors h.scene.cursors (cursors_in h0 h pre.1.1) placed.2 pre.1.1.stand) (λ h0 h pre. subst (λ n. Shut n h.scene.cursors) (sym depth) (shut_still a.cursors l.place (Open l.table None) h0.scene.cursors h.scene.cursors (cursors_in h0 h pre.1.1) placed.0 pre.1.1.shut)) (λ h0 h regs w pre is long own same. (
        pre.0,
        (
          record {
            regs = λ k ge lt. same k ge (omega (arith, lt, sifts.next)) ∙ pre.1.1.regs k ge lt;
            only = record {
              inputs = pre.1.1.only.inputs;
              scene = pre.1.1.only.scene;
              off = pre.1.1.only.off;
              written = keeps (sight_of m h) (read h.regs mine) (memory_of lo h) w is ∙ pre.1.1.only.written;
            };
            stand = pre.1.1.stand;
            shut = pre.1.1.shut;
            left = runs_as h0 h (Done w) pre is ∙ ap (λ own. each (pair_at h0) (rest h0) (record w { own = own })) (sym own);
          },
          stable h.regs regs (λ k ge lt. same k ge (omega (arith, lt, sifts.next))) pre.1.2,
        ),
      )) (λ h0 h k w pre is.
          (k, w, runs_as h0 h (Fails k w) pre is, refl, refl))

      pub t_pair : Triple m d y (λ h0. conjuncts_steps l.checks + N h0) g last (pair_due x rows rest) (pair_done x rest)
      t_pair = t_seq checks body
