-- Code that turns and decides values as stretches by claims, and stretches as such code.
use Rattle.std.proofs.Common.{◌≡◌, ◌≢◌, ℕ, ◌+◌, ◌≤◌, ◌<◌, List, [], ◌∷◌, length, map, Option, Some, None, refl, sym, ap, ◌∙◌, subst, arith, inl, ⊎_elim}
use Rattle.std.specs.Prelude.{slice_get}
use Rattle.eng_value.specs.Environments.{Environment}
use Rattle.eng_value.specs.HostMeanings.{HostMeanings}
use Rattle.eng_value.specs.declared.out.Out.{Out}
use Rattle.gen_expr.proofs.Covering.{Covers}
use Rattle.gen_expr.specs.Parts.{Turns, Decides, Decided, first_of, out_or}
use Rattle.vm_code.specs.declared.open_cursor.Need.{Need}
use Rattle.vm_code.specs.declared.op.Op.{Op}
use Rattle.vm_code.specs.declared.operand.Operand.{Operand}
use Rattle.vm_code.specs.Draft.{Draft, with_op, with_label, bound, taken, given_back, released}
use Rattle.vm_code.specs.Tracked.{Steady}
use Rattle.vm_code.specs.Machine.{Setting, State, act, operand_in, operand_of, put, read, Reaches}
use Rattle.vm_code.specs.Frames.{placed, Grows, Here, here, with_regs, Left, Leaves, Offers, environment_of, needing}
use Rattle.vm_code.specs.Claims.{Claim, Labels, Last, Falls, Exits, on, off, ends, Triple}
use Rattle.vm_code.proofs.Drafts.{extends, grows_none, grows_then, g_op, g_taken, g_given_back, g_label, g_bound, g_released, open_new}
use Rattle.vm_code.proofs.Tracks.{st_given_back, st_label, st_none, st_reads, st_released, st_taken, st_then, st_wider, st_within}
use Rattle.vm_code.proofs.Effects.{But, but_none, but_regs, but_env, left_as, t_leaves, t_put, leaves_of}
use Rattle.vm_code.proofs.Operands.{Takes}
use Rattle.vm_code.proofs.Runs.{leads_more}
use Rattle.vm_code.proofs.Triples.{no_labels, no_last, with_claim, t_seq, t_use, t_more, t_draft, t_bind}

-- ---- operands

-- what operands read while the registers below a mark are kept
abbrev pub Reads : Setting → Here → ℕ → List Operand → List Out → Type 0
Reads m h mark os vs =
    (q : List Out) → ((k : ℕ) → k < mark → read q k ≡ read h.regs k) → map (operand_in m q h.inputs h.scene h.shared) os ≡ vs

pub t_offers : (m : Setting) {needs : List Need} {a b : Draft} {os : List Operand} {f : Environment → List Out} {n : ℕ} (g : Labels) (e : Last) (p q : Claim) → Offers (needing needs) a b os f (λ env. n) → ((h0 h : Here) (regs : List Out) → p h0 h → Reads m (with_regs h regs) b.next os (f (environment_of m h)) → ((k : ℕ) → k < a.next → read regs k ≡ read h.regs k) → q h0 (with_regs h regs)) → Triple m a b (λ w. n) g e p q
t_offers m {needs} {a} {b} {os} {f} {n} g e p q x goes = record {
  extends = extends x.grows;
  runs = λ u at h h0 s room start pre.
      let l = x.offers m tt u at h s room start in
      on (record {
        regs = l.regs;
        scene = s.scene;
        store = s.store;
        shared = s.shared;
        way = l.way;
        long = l.long;
        wide = refl;
        holds = goes h0 (here s) l.regs pre l.has l.keeps;
      });
}

-- ---- values that turn

pub turns_leaves : {needs : List Need} {a b : Draft} {to n : ℕ} {f : Environment → Out} (held : ℕ) → Leaves (needing needs) a b to (λ env. f env) (λ env. n) → Turns needs a b held to (λ env x y. f env) n
turns_leaves {needs} held l = record { grows = l.grows; next = l.next; steady = l.steady; turns = λ m u at h s room start. l.leaves m tt u at h s room start }

pub leaves_turns : {needs : List Need} {a b : Draft} {to n : ℕ} {f : Environment → Out} (held : ℕ) → Turns needs a b held to (λ env x y. f env) n → Leaves (needing needs) a b to (λ env. f env) (λ env. n)
leaves_turns {needs} held t = record { grows = t.grows; next = t.next; steady = t.steady; leaves = λ m called u at h s room start. t.turns m u at h s room start }

-- the same of functions that agree, in more instructions
pub turns_as : {needs : List Need} {a b : Draft} {held to i : ℕ} {f : Environment → Out → Out → Out} (g : Environment → Out → Out → Out) (n : ℕ) → ((env : Environment) (x y : Out) → f env x y ≡ g env x y) → i ≤ n → Turns needs a b held to f i → Turns needs a b held to g n
turns_as {needs} {a} {b} {held} {to} {i} {f} g n same le t = record {
  grows = t.grows;
  next = t.next;
  steady = t.steady;
  turns = λ m u at h s room start.
      let x = t.turns m u at h s room start in
      record { regs = x.regs; way = leads_more m n le x.way; long = x.long; has = x.has ∙ same (environment_of m (here s)) (read s.regs held) (read s.regs to); keeps = x.keeps };
}

-- the same where more is so of cursors
pub turns_wider : {needs : List Need} {a b : Draft} {held to n : ℕ} {f : Environment → Out → Out → Out} (more : List Need) → Covers more needs → Turns needs a b held to f n → Turns more a b held to f n
turns_wider {needs} more covers t =
    record { grows = t.grows; next = t.next; steady = st_wider covers t.steady; turns = t.turns }

-- the frame is the one of the start
abbrev pub as_begun : Claim
as_begun h0 h = h ≡ h0

pub begun_but : (mark to : ℕ) (h0 h : Here) → h ≡ h0 → But mark to h0 h
begun_but mark to h0 h e = subst (λ z. But mark to z h) e (but_none mark to h)

pub begun_is : {A : Type 0} (f : Here → A) (h0 h : Here) → h ≡ h0 → f h ≡ f h0
begun_is f h0 h e = ap f e

abbrev turned_at : Setting → (Environment → Out → Out → Out) → ℕ → ℕ → Here → Out
turned_at m f held to h = f (environment_of m h) (read h.regs held) (read h.regs to)

abbrev pub Turned : Setting → ℕ → ℕ → ℕ → (Environment → Out → Out → Out) → Claim
Turned m mark held to f h0 h = But mark to h0 h × (read h.regs to ≡ f (environment_of m h0) (read h0.regs held) (read h0.regs to))

pub turns_of : {needs : List Need} {a b : Draft} {n : ℕ} (held to : ℕ) (f : Environment → Out → Out → Out) → Grows a b → b.next ≡ a.next → Steady needs [] a b → ((m : Setting) → Triple m a b (λ w. n) no_labels no_last as_begun (Turned m a.next held to f)) → Turns needs a b held to f n
turns_of {needs} {a} {b} {n} held to f grows next steady x = record {
  grows = grows;
  next = next;
  steady = steady;
  turns = λ m u at h s room pc. by m at s ((x m).runs u at h (here s) s room pc refl);
}
  where
    by : (m : Setting) (at : ℕ → ℕ) (s : State) → Exits m at n (λ l h. ⊥) (λ o shared. ⊥) s (length b.code) (Turned m a.next held to f (here s)) → Left m n s (length b.code) a.next to (turned_at m f held to (here s))
    by m at s (off l h) = absurd h.holds
    by m at s (ends o shared z h) = absurd h
    by m at s (on h) = record {
      regs = h.regs;
      way = left_as m n s (length b.code) h.regs h.scene h.store h.shared h.holds.0.scene h.holds.0.store h.holds.0.shared h.way;
      long = h.long;
      has = h.holds.1;
      keeps = h.holds.0.regs;
    }

pub t_turns : (m : Setting) {needs : List Need} {a b : Draft} {held to n : ℕ} {f : Environment → Out → Out → Out} (g : Labels) (e : Last) (p q : Claim) → Turns needs a b held to f n → ((h0 h : Here) (regs : List Out) → p h0 h → read regs to ≡ f (environment_of m h) (read h.regs held) (read h.regs to) → ((k : ℕ) → k < a.next → k ≢ to → read regs k ≡ read h.regs k) → q h0 (with_regs h regs)) → Triple m a b (λ w. n) g e p q
t_turns m {needs} {a} {b} {held} {to} {n} {f} g e p q x goes = record {
  extends = extends x.grows;
  runs = λ u at h h0 s room start pre.
      let l = x.turns m u at h s room start in
      on (record {
        regs = l.regs;
        scene = s.scene;
        store = s.store;
        shared = s.shared;
        way = l.way;
        long = l.long;
        wide = refl;
        holds = goes h0 (here s) l.regs pre l.has l.keeps;
      });
}

-- a value by the value that another register holds, which is free behind it
pub leaves_held : {needs : List Need} (a b c : Draft) (held to i n : ℕ) (g : Environment → Out) (f : Environment → Out → Out) → held ≡ a.next → Leaves (needing needs) (taken a) b held (λ env. g env) (λ env. i) → Turns needs b c held to (λ env x y. f env x) n → to < a.next → Leaves (needing needs) a (given_back c) to (λ env. f env (g env)) (λ env. i + n)
leaves_held {needs} a b c held to i n g f is_next l t lt =
    leaves_of to (λ env. f env (g env)) as_begun (grows_then (g_taken a) (grows_then l.grows (grows_then t.grows (g_given_back c)))) (omega (arith, l.next, t.next)) (st_then (g_taken a) (st_taken needs [] a) (st_then l.grows l.steady (st_then t.grows t.steady (st_given_back needs [] c)))) (λ h. refl) (λ m called.
    let there_is : Claim = λ h0 h. But a.next to h0 h × (read h.regs held ≡ g (environment_of m h0)) in
    let done : Claim = λ h0 h. But a.next to h0 h × (read h.regs to ≡ f (environment_of m h0) (g (environment_of m h0))) in
    let take = t_draft m no_labels no_last as_begun (g_taken a) refl in
    let first : Triple m (taken a) b (λ w. i) no_labels no_last as_begun there_is = t_leaves m called no_labels no_last as_begun there_is l (λ h0 h pre. ap (environment_of m) pre) (λ h0 h regs pre long is same.
    (but_regs regs (λ k below ne. same k (omega arith) (omega (arith, is_next))) (begun_but a.next to h0 h pre), is ∙ ap (λ (z : Here). g (environment_of m z)) pre)) in
    let second : Triple m b c (λ w. n) no_labels no_last there_is done = t_turns m no_labels no_last there_is done t (λ h0 h regs pre is same.
    (but_regs regs (λ k below ne. same k (omega (arith, l.next)) ne) pre.0, is ∙ ap (λ env. f env (read h.regs held)) (but_env m pre.0) ∙ ap (f (environment_of m h0)) pre.1)) in
    let back = t_draft m no_labels no_last done (g_given_back c) refl in
    t_more (λ w. i + n) (λ w. omega arith) (t_seq (t_seq (t_seq take first) second) back))

-- operands, and an instruction that takes them and the value of the other register
pub turns_by : {needs : List Need} (a b : Draft) (op : Op) (os : List Operand) (held first to n : ℕ) (f : Environment → List Out) (u : HostMeanings → Out → List Out → Out) → Takes os op → first ≡ a.next → Offers (needing needs) a b os (λ env. f env) (λ env. n) → to < a.next → held < a.next → ((m : Setting) (at : ℕ → ℕ) (s : State) → act m (Some (placed at op)) s ≡ put s to (u m.hosts (read s.regs held) (map (operand_of m s) os))) → Turns needs a (released (with_op b op) first) held to (λ env x y. u env.hosts x (f env)) (n + 1)
turns_by {needs} a b op os held first to n f u plain first_is x lt held_lt law =
    turns_of held to (λ env y z. u env.hosts y (f env)) (grows_then x.grows (grows_then (g_op b op) (g_released (with_op b op) first))) first_is (st_then x.grows x.steady (st_then (g_op b op) (st_reads needs [] b op plain.0 (λ xs met. plain.1 xs (x.needs xs met))) (st_released needs [] (with_op b op) first))) (λ m.
    let mid : Claim = λ h0 h. But a.next to h0 h × (read h.regs held ≡ read h0.regs held) × Reads m h b.next os (f (environment_of m h0)) in
    let done : Claim = Turned m a.next held to (λ env y z. u env.hosts y (f env)) in
    let offered : Triple m a b (λ w. n) no_labels no_last as_begun mid = t_offers m no_labels no_last as_begun mid x (λ h0 h regs pre reads same.
    (but_regs regs (λ k below ne. same k below) (begun_but a.next to h0 h pre), same held held_lt ∙ ap (λ (z : Here). read z.regs held) pre, λ q kept. reads q kept ∙ ap (λ (z : Here). f (environment_of m z)) pre)) in
    let last : Triple m b (with_op b op) (λ w. 1) no_labels no_last mid done = t_put m b op to (λ h. u m.hosts (read h.regs held) (map (operand_in m h.regs h.inputs h.scene h.shared) os)) no_labels no_last mid done (omega (arith, x.next, x.counted)) (law m) (λ h0 h regs pre long is same.
    (but_regs regs (λ k below ne. same k ne) pre.0, is ∙ ap (λ v. u m.hosts v (map (operand_in m h.regs h.inputs h.scene h.shared) os)) pre.1 ∙ ap (u m.hosts (read h0.regs held)) (pre.2 h.regs (λ k below. refl)))) in
    let free = t_draft m no_labels no_last done (g_released (with_op b op) first) refl in
    t_more (λ w. n + 1) (λ w. omega arith) (t_seq (t_seq offered last) free))

-- ---- values that are decided

abbrev decision_at : Setting → (Environment → Out → Option Out) → ℕ → Here → Option Out
decision_at m f held h = f (environment_of m h) (read h.regs held)

abbrev pub Won : Setting → ℕ → ℕ → ℕ → (Environment → Out → Option Out) → Claim
Won m mark held to f h0 h = But mark to h0 h × (f (environment_of m h0) (read h0.regs held) ≡ Some (read h.regs to))

abbrev pub Open : Setting → ℕ → ℕ → ℕ → (Environment → Out → Option Out) → Claim
Open m mark held to f h0 h = But mark to h0 h × (f (environment_of m h0) (read h0.regs held) ≡ None)

pub decides_of : {needs : List Need} {a b : Draft} {n : ℕ} (held to label : ℕ) (f : Environment → Out → Option Out) → Grows a b → b.next ≡ a.next → Steady needs (label ∷ []) a b → ((m : Setting) → Triple m a b (λ w. n) (with_claim label (Won m a.next held to f) no_labels) no_last as_begun (Open m a.next held to f)) → Decides needs a b held to label f n
decides_of {needs} {a} {b} {n} held to label f grows next steady x = record {
  grows = grows;
  next = next;
  steady = steady;
  decides = λ m u at h s room pc. by m at s ((x m).runs u at h (here s) s room pc refl);
}
  where
    wins : (m : Setting) (at : ℕ → ℕ) (s : State) (l : ℕ) → l ≡ label → (h : Falls m n s (at l) (λ h. Unit {0})) → Won m a.next held to f (here s) (record { regs = h.regs; inputs = s.inputs; scene = h.scene; store = h.store; shared = h.shared }) → Decided m n s (length b.code) (at label) a.next to (decision_at m f held (here s))
    wins m at s l is h ok = subst (Decided m n s (length b.code) (at label) a.next to) (sym ok.1) (record {
      regs = h.regs;
      way = subst (λ k. Reaches m n s (record s { pc = at k; regs = h.regs })) is (left_as m n s (at l) h.regs h.scene h.store h.shared ok.0.scene ok.0.store ok.0.shared h.way);
      long = h.long;
      has = refl;
      keeps = ok.0.regs;
    })

    by : (m : Setting) (at : ℕ → ℕ) (s : State) → Exits m at n (λ l. with_claim label (Won m a.next held to f) no_labels l (here s)) (λ o shared. ⊥) s (length b.code) (Open m a.next held to f (here s)) → Decided m n s (length b.code) (at label) a.next to (decision_at m f held (here s))
    by m at s (on h) = subst (Decided m n s (length b.code) (at label) a.next to) (sym h.holds.1) (
      read h.regs to,
      record {
        regs = h.regs;
        way = left_as m n s (length b.code) h.regs h.scene h.store h.shared h.holds.0.scene h.holds.0.store h.holds.0.shared h.way;
        long = h.long;
        has = refl;
        keeps = h.holds.0.regs;
      },
    )
    by m at s (off l h) =
        ⊎_elim (λ ok. wins m at s l ok.0 (record { regs = h.regs; scene = h.scene; store = h.store; shared = h.shared; way = h.way; long = h.long; wide = h.wide; holds = tt }) ok.1) (λ no. absurd no) h.holds
    by m at s (ends o shared z h) = absurd h

pub t_decides : (m : Setting) {needs : List Need} {a b : Draft} {held to label n : ℕ} {f : Environment → Out → Option Out} (g : Labels) (e : Last) (p q : Claim) → Decides needs a b held to label f n → ((h0 h : Here) (regs : List Out) → p h0 h → f (environment_of m h) (read h.regs held) ≡ None → ((k : ℕ) → k < a.next → k ≢ to → read regs k ≡ read h.regs k) → q h0 (with_regs h regs)) → ((h0 h : Here) (regs : List Out) → p h0 h → f (environment_of m h) (read h.regs held) ≡ Some (read regs to) → ((k : ℕ) → k < a.next → k ≢ to → read regs k ≡ read h.regs k) → g label h0 (with_regs h regs)) → Triple m a b (λ w. n) g e p q
t_decides m {needs} {a} {b} {held} {to} {label} {n} {f} g e p q x goes wins = record {
  extends = extends x.grows;
  runs = λ u at h h0 s room start pre.
      by at h0 s pre (decision_at m f held (here s)) refl (x.decides m u at h s room start);
}
  where
    by : (at : ℕ → ℕ) (h0 : Here) (s : State) → p h0 (here s) → (o : Option Out) → decision_at m f held (here s) ≡ o → Decided m n s (length b.code) (at label) a.next to o → Exits m at n (λ l. g l h0) (e h0) s (length b.code) (q h0)
    by at h0 s pre None is (v, l) = on (record {
      regs = l.regs;
      scene = s.scene;
      store = s.store;
      shared = s.shared;
      way = l.way;
      long = l.long;
      wide = refl;
      holds = goes h0 (here s) l.regs pre is l.keeps;
    })
    by at h0 s pre (Some v) is l = off label (record {
      regs = l.regs;
      scene = s.scene;
      store = s.store;
      shared = s.shared;
      way = l.way;
      long = l.long;
      wide = refl;
      holds = wins h0 (here s) l.regs pre (is ∙ ap Some (sym l.has)) l.keeps;
    })

pub decides_none : (needs : List Need) (a : Draft) (held to label : ℕ) → Decides needs a a held to label (λ env x. None) 0
decides_none needs a held to label =
    let none : Environment → Out → Option Out = λ env x. None in
    decides_of held to label none (grows_none a) refl (st_none needs (label ∷ []) a) (λ m.
    let g : Labels = with_claim label (Won m a.next held to none) no_labels in
    let done : Claim = Open m a.next held to none in
    t_use as_begun done (λ h0 h pre. pre) (λ h0 h pre. (begun_but a.next to h0 h pre, refl)) (t_draft m g no_last as_begun (grows_none a) refl))

-- one decision behind another, which reads its register as the first does
pub decides_then : {needs : List Need} {a b c : Draft} {held to label i n : ℕ} {f g : Environment → Out → Option Out} → Decides needs a b held to label f i → Decides needs b c held to label g n → ((env : Environment) (r q : List Out) → ((k : ℕ) → k < a.next → k ≢ to → read r k ≡ read q k) → g env (read r held) ≡ g env (read q held)) → Decides needs a c held to label (λ env x. first_of (f env x) (g env x)) (i + n)
decides_then {needs} {a} {b} {c} {held} {to} {label} {i} {n} {f} {g} x y stay =
    let all : Environment → Out → Option Out = λ env z. first_of (f env z) (g env z) in
    decides_of held to label all (grows_then x.grows y.grows) (y.next ∙ x.next) (st_then x.grows x.steady y.steady) (λ m.
    let labels : Labels = with_claim label (Won m a.next held to all) no_labels in
    let done : Claim = Open m a.next held to all in
    let mid : Claim = Open m a.next held to f in
    let first : Triple m a b (λ w. i) labels no_last as_begun mid = t_decides m labels no_last as_begun mid x (λ h0 h regs pre is same.
    (but_regs regs same (begun_but a.next to h0 h pre), sym (begun_is (decision_at m f held) h0 h pre) ∙ is))
    (λ h0 h regs pre is same. inl (refl, (but_regs regs same (begun_but a.next to h0 h pre), ap (λ o. first_of o (decision_at m g held h0)) (sym (begun_is (decision_at m f held) h0 h pre) ∙ is)))) in
    let then_is : (h0 h : Here) → mid h0 h → decision_at m all held h0 ≡ decision_at m g held h = λ h0 h pre.
    ap (λ o. first_of o (decision_at m g held h0)) pre.1 ∙ sym (ap (λ env. g env (read h.regs held)) (but_env m pre.0) ∙ stay (environment_of m h0) h.regs h0.regs pre.0.regs) in
    let second : Triple m b c (λ w. n) labels no_last mid done = t_decides m labels no_last mid done y (λ h0 h regs pre is same.
    (but_regs regs (λ k below ne. same k (omega (arith, x.next)) ne) pre.0, then_is h0 h pre ∙ is))
    (λ h0 h regs pre is same. inl (refl, (but_regs regs (λ k below ne. same k (omega (arith, x.next)) ne) pre.0, then_is h0 h pre ∙ is))) in
    t_seq first second)

-- the same of functions that agree, in more instructions
pub decides_as : {needs : List Need} {a b : Draft} {held to label i : ℕ} {f : Environment → Out → Option Out} (g : Environment → Out → Option Out) (n : ℕ) → ((env : Environment) (x : Out) → f env x ≡ g env x) → i ≤ n → Decides needs a b held to label f i → Decides needs a b held to label g n
decides_as {needs} {a} {b} {held} {to} {label} {i} {f} g n same le x = decides_of held to label g x.grows x.next x.steady (λ m. t_more (λ w. n) (λ w. le) (t_decides m (labels m) no_last as_begun (done m) x (λ h0 h regs pre is keeps.
    (but_regs regs keeps (begun_but a.next to h0 h pre), agree m h0 h pre ∙ is)) (λ h0 h regs pre is keeps. inl (refl, (but_regs regs keeps (begun_but a.next to h0 h pre), agree m h0 h pre ∙ is)))))
  where
    labels : Setting → Labels
    labels m = with_claim label (Won m a.next held to g) no_labels

    done : Setting → Claim
    done m = Open m a.next held to g

    agree : (m : Setting) (h0 h : Here) → h ≡ h0 → decision_at m g held h0 ≡ decision_at m f held h
    agree m h0 h pre = sym (same (environment_of m h0) (read h0.regs held)) ∙ sym (begun_is (decision_at m f held) h0 h pre)

-- the same where more is so of cursors
pub decides_wider : {needs : List Need} {a b : Draft} {held to label n : ℕ} {f : Environment → Out → Option Out} (more : List Need) → Covers more needs → Decides needs a b held to label f n → Decides more a b held to label f n
decides_wider {needs} more covers x =
    record { grows = x.grows; next = x.next; steady = st_wider covers x.steady; decides = x.decides }

-- what is decided, or else the value of the code behind
pub turns_decided : {needs : List Need} (a b c : Draft) (held to label i n : ℕ) (f : Environment → Out → Option Out) (g : Environment → Out) → label ≡ length a.labels → Decides needs (with_label a) b held to label f i → Leaves (needing needs) b c to (λ env. g env) (λ env. n) → Turns needs a (bound c label) held to (λ env x y. out_or (f env x) (g env)) (i + n)
turns_decided {needs} a b c held to label i n f g label_is x l =
    let all : Environment → Out → Out → Out = λ env z y. out_or (f env z) (g env) in
    turns_of held to all (g_bound c label (grows_then (g_label a) (grows_then x.grows l.grows)) (omega (arith, label_is)) is_open) (l.next ∙ x.next) (st_label label label_is (grows_then x.grows l.grows) (st_then x.grows x.steady (st_within (label ∷ []) (λ xs met. met) l.steady))) (λ m.
    let done : Claim = Turned m a.next held to all in
    let labels : Labels = with_claim label done no_labels in
    let mid : Claim = Open m a.next held to f in
    let start = t_draft m labels no_last as_begun (g_label a) refl in
    let first : Triple m (with_label a) b (λ w. i) labels no_last as_begun mid = t_decides m labels no_last as_begun mid x (λ h0 h regs pre is same.
    (but_regs regs same (begun_but a.next to h0 h pre), sym (begun_is (decision_at m f held) h0 h pre) ∙ is))
    (λ h0 h regs pre is same. inl (refl, (but_regs regs same (begun_but a.next to h0 h pre), sym (ap (λ o. out_or o (g (environment_of m h0))) (sym (begun_is (decision_at m f held) h0 h pre) ∙ is))))) in
    let second : Triple m b c (λ w. n) labels no_last mid done = t_leaves m tt labels no_last mid done l (λ h0 h pre. but_env m pre.0) (λ h0 h regs pre long is same.
    (but_regs regs (λ k below ne. same k (omega (arith, x.next)) ne) pre.0, is ∙ ap g (but_env m pre.0) ∙ sym (ap (λ o. out_or o (g (environment_of m h0))) pre.1))) in
    let whole = t_bind label done is_open (λ h0 h pre. pre) (t_seq (t_seq start first) second) in
    t_more (λ w. i + n) (λ w. omega arith) whole)
  where
    is_open : slice_get c.labels label ≡ Some None
    is_open = l.grows.open_labels label (x.grows.open_labels label (subst (λ k. slice_get (with_label a).labels k ≡ Some None) (sym label_is) (open_new a)))

-- ---- one turn behind another

pub turns_none : (needs : List Need) (a : Draft) (held to : ℕ) → Turns needs a a held to (λ env x y. y) 0
turns_none needs a held to =
    let same : Environment → Out → Out → Out = λ env x y. y in
    turns_of held to same (grows_none a) refl (st_none needs [] a) (λ m.
    t_use as_begun (Turned m a.next held to same) (λ h0 h pre. pre) (λ h0 h pre. (begun_but a.next to h0 h pre, ap (λ (z : Here). read z.regs to) pre)) (t_draft m no_labels no_last as_begun (grows_none a) refl))

pub turns_then : {needs : List Need} {a b c : Draft} {held to i n : ℕ} {f g : Environment → Out → Out → Out} → Turns needs a b held to f i → Turns needs b c held to g n → held < a.next → held ≢ to → Turns needs a c held to (λ env x y. g env x (f env x y)) (i + n)
turns_then {needs} {a} {b} {c} {held} {to} {i} {n} {f} {g} x y lt ne =
    let all : Environment → Out → Out → Out = λ env z v. g env z (f env z v) in
    turns_of held to all (grows_then x.grows y.grows) (y.next ∙ x.next) (st_then x.grows x.steady y.steady) (λ m.
    let mid : Claim = Turned m a.next held to f in
    let done : Claim = Turned m a.next held to all in
    let first : Triple m a b (λ w. i) no_labels no_last as_begun mid = t_turns m no_labels no_last as_begun mid x (λ h0 h regs pre is same.
    (but_regs regs same (begun_but a.next to h0 h pre), is ∙ begun_is (turned_at m f held to) h0 h pre)) in
    let second : Triple m b c (λ w. n) no_labels no_last mid done = t_turns m no_labels no_last mid done y (λ h0 h regs pre is same.
    (but_regs regs (λ k below other. same k (omega (arith, x.next)) other) pre.0, is ∙ ap (λ env. g env (read h.regs held) (read h.regs to)) (but_env m pre.0) ∙ ap (λ z. g (environment_of m h0) z (read h.regs to)) (pre.0.regs held lt ne) ∙ ap (g (environment_of m h0) (read h0.regs held)) pre.1)) in
    t_seq first second)
