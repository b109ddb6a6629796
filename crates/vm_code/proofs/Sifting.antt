-- Code that sifts: it gathers causes in a register, or goes to a label.
use Rattle.std.proofs.Common.{◌≡◌, ◌≢◌, ℕ, ◌+◌, ◌<◌, List, [], ◌∷◌, length, All, Some, None, refl, sym, ◌∙◌, subst, arith, ⊎_elim}
use Rattle.std.specs.declared.option.Option.{Option}
use Rattle.std.specs.Option.{option_and_then}
use Rattle.eng_value.specs.Environments.{Environment}
use Rattle.eng_value.specs.declared.out.Out.{Out}
use Rattle.vm_code.specs.declared.open_cursor.Need.{Need}
use Rattle.vm_code.specs.Track.{Meets, OpenSet}
use Rattle.vm_code.specs.Draft.{Draft}
use Rattle.vm_code.specs.Tracked.{Steady}
use Rattle.vm_code.specs.Machine.{Setting, State, read, Reaches}
use Rattle.vm_code.specs.Frames.{Here, here, there, with_regs, environment_of, Given, Left, Sifted, Sifts, Grows}
use Rattle.vm_code.specs.Claims.{Claim, Labels, Last, Exits, on, off, ends, Falls, Triple}
use Rattle.vm_code.proofs.Runs.{leads_then, leads_more, reaches_none}
use Rattle.vm_code.proofs.Drafts.{extends, grows_none, grows_then}
use Rattle.vm_code.proofs.Tracks.{st_none, st_then, st_wider}
use Rattle.vm_code.proofs.Triples.{no_labels, no_last, with_claim, ready_less}
use Rattle.vm_code.proofs.Effects.{But, left_as, same_cost}

-- ---- as a stretch, and inside another

pub sifts_of : {given : Given} {a b : Draft} {n : Environment → ℕ} (causes label : ℕ) (f : Environment → Out → Option Out) (p : Claim) → Grows a b → b.next ≡ a.next → Steady given.needs (label ∷ []) a b → ((h : Here) → p h h) → ((m : Setting) → given.calls m → Triple m a b (λ h0. n (environment_of m h0)) (with_claim label (λ h0 h. But a.next causes h0 h × (f (environment_of m h0) (read h0.regs causes) ≡ None)) no_labels) no_last p (λ h0 h. But a.next causes h0 h × (f (environment_of m h0) (read h0.regs causes) ≡ Some (read h.regs causes)))) → Sifts given a b causes label f n
sifts_of {given} {a} {b} {n} causes label f p grows next steady start x = record {
  grows = grows;
  next = next;
  steady = steady;
  sifts = λ m called u at h s room pc. by m at s ((x m called).runs u at h (here s) s room pc (start (here s)));
}
  where
    cost : Setting → State → ℕ
    cost m s = n (environment_of m (here s))

    left : (m : Setting) (s : State) (place : ℕ) (h : Falls m (cost m s) s place (But a.next causes (here s))) → Left m (cost m s) s place a.next causes (read h.regs causes)
    left m s place h = record {
      regs = h.regs;
      way = left_as m (cost m s) s place h.regs h.scene h.store h.shared h.holds.scene h.holds.store h.holds.shared h.way;
      long = h.long;
      has = refl;
      keeps = h.holds.regs;
    }

    by : (m : Setting) (at : ℕ → ℕ) (s : State) → Exits m at (cost m s) (λ l. with_claim label (λ h0 h. But a.next causes h0 h × (f (environment_of m h0) (read h0.regs causes) ≡ None)) no_labels l (here s)) (λ o shared. ⊥) s (length b.code) (λ h. But a.next causes (here s) h × (f (environment_of m (here s)) (read s.regs causes) ≡ Some (read h.regs causes))) → Sifted m (cost m s) s (length b.code) (at label) a.next causes (f (environment_of m (here s)) (read s.regs causes))
    by m at s (on h) =
        subst (Sifted m (cost m s) s (length b.code) (at label) a.next causes) (sym h.holds.1) (left m s (length b.code) (record { regs = h.regs; scene = h.scene; store = h.store; shared = h.shared; way = h.way; long = h.long; wide = h.wide; holds = h.holds.0 }))
    by m at s (ends o shared z h) = absurd h
    by m at s (off l h) =
        ⊎_elim (λ ok. subst (Sifted m (cost m s) s (length b.code) (at label) a.next causes) (sym ok.1.1) (read h.regs causes, left m s (at label) (record { regs = h.regs; scene = h.scene; store = h.store; shared = h.shared; way = subst (λ k. Reaches m (cost m s) s (there s (at k) h.regs h.scene h.store h.shared)) ok.0 h.way; long = h.long; wide = h.wide; holds = ok.1.0 }))) (λ no. absurd no) h.holds

-- code that sifts, inside another stretch, where the cost is the one of the start
pub t_sifts : (m : Setting) {given : Given} {a b : Draft} {causes label : ℕ} {f : Environment → Out → Option Out} {n : Environment → ℕ} (called : given.calls m) (g : Labels) (e : Last) (p q : Claim) → Sifts given a b causes label f n → ((h0 h : Here) → p h0 h → environment_of m h ≡ environment_of m h0) → ((h0 h : Here) (regs : List Out) (v : Out) → p h0 h → f (environment_of m h) (read h.regs causes) ≡ Some v → length regs ≡ length h.regs → read regs causes ≡ v → ((k : ℕ) → k < a.next → k ≢ causes → read regs k ≡ read h.regs k) → q h0 (with_regs h regs)) → ((h0 h : Here) (regs : List Out) → p h0 h → f (environment_of m h) (read h.regs causes) ≡ None → length regs ≡ length h.regs → ((k : ℕ) → k < a.next → k ≢ causes → read regs k ≡ read h.regs k) → g label h0 (with_regs h regs)) → Triple m a b (λ h0. n (environment_of m h0)) g e p q
t_sifts m {given} {a} {b} {causes} {label} {f} {n} called g e p q x still keeps drops = record {
  extends = extends x.grows;
  runs = λ u at h h0 s room start pre.
      by at h0 s pre (f (environment_of m (here s)) (read s.regs causes)) refl (x.sifts m called u at h s room start);
}
  where
    by : (at : ℕ → ℕ) (h0 : Here) (s : State) → p h0 (here s) → (o : Option Out) → f (environment_of m (here s)) (read s.regs causes) ≡ o → Sifted m (n (environment_of m (here s))) s (length b.code) (at label) a.next causes o → Exits m at (n (environment_of m h0)) (λ l. g l h0) (e h0) s (length b.code) (q h0)
    by at h0 s pre (Some v) is l = on (record {
      regs = l.regs;
      scene = s.scene;
      store = s.store;
      shared = s.shared;
      way = leads_more m (n (environment_of m h0)) (same_cost n (still h0 (here s) pre)) l.way;
      long = l.long;
      wide = refl;
      holds = keeps h0 (here s) l.regs v pre is l.long l.has l.keeps;
    })
    by at h0 s pre None is (v, l) = off label (record {
      regs = l.regs;
      scene = s.scene;
      store = s.store;
      shared = s.shared;
      way = leads_more m (n (environment_of m h0)) (same_cost n (still h0 (here s) pre)) l.way;
      long = l.long;
      wide = refl;
      holds = drops h0 (here s) l.regs pre is l.long l.keeps;
    })

-- ---- one after the other

pub sifts_none : (given : Given) (a : Draft) (causes label : ℕ) → Sifts given a a causes label (λ env found. Some found) (λ env. 0)
sifts_none given a causes label = record {
  grows = grows_none a;
  next = refl;
  steady = st_none given.needs (label ∷ []) a;
  sifts = λ m called u at h s room start. record {
    regs = s.regs;
    way = subst (λ p. Reaches m 0 s (record s { pc = p })) start (reaches_none m s);
    long = refl;
    has = refl;
    keeps = λ k lt ne. refl;
  };
}

sifted_then : (m : Setting) (i n : ℕ) (s : State) (p1 p2 out mark causes : ℕ) (o : Option Out) (g : Out → Option Out) → Sifted m i s p1 out mark causes o → ((r : List Out) → length r ≡ length s.regs → Sifted m n (record s { pc = p1; regs = r }) p2 out mark causes (g (read r causes))) → Sifted m (i + n) s p2 out mark causes (option_and_then g o)
sifted_then m i n s p1 p2 out mark causes None g x k =
    (x.0, record { regs = x.1.regs; way = leads_more m (i + n) (omega arith) x.1.way; long = x.1.long; has = x.1.has; keeps = x.1.keeps })
sifted_then m i n s p1 p2 out mark causes (Some v) g l k =
    on_to (g v) (subst (λ u. Sifted m n (record s { pc = p1; regs = l.regs }) p2 out mark causes (g u)) l.has (k l.regs l.long))
  where
    after : (place : ℕ) (u : Out) → Left m n (record s { pc = p1; regs = l.regs }) place mark causes u → Left m (i + n) s place mark causes u
    after place u y = record {
      regs = y.regs;
      way = leads_then m l.way y.way;
      long = y.long ∙ l.long;
      has = y.has;
      keeps = λ j lt ne. y.keeps j lt ne ∙ l.keeps j lt ne;
    }

    on_to : (o : Option Out) → Sifted m n (record s { pc = p1; regs = l.regs }) p2 out mark causes o → Sifted m (i + n) s p2 out mark causes o
    on_to (Some u) y = after p2 u y
    on_to None y = (y.0, after out y.0 y.1)

pub sifts_then : {given : Given} {a b c : Draft} {i n : Environment → ℕ} (causes label : ℕ) (f g : Environment → Out → Option Out) → Sifts given a b causes label f i → Sifts given b c causes label g n → Sifts given a c causes label (λ env v. option_and_then (g env) (f env v)) (λ env. i env + n env)
sifts_then {given} {a} {b} {c} {i} {n} causes label f g x y = record {
  grows = grows_then x.grows y.grows;
  next = y.next ∙ x.next;
  steady = st_then x.grows x.steady y.steady;
  sifts = λ m called u at h s room start.
      let hb = y.grows.holds m.prog u at h in
      let env = environment_of m (here s) in
      sifted_then m (i env) (n env) s (length b.code) (length c.code) (at label) a.next causes (f env (read s.regs causes)) (g env) (x.sifts m called u at hb s (ready_less room y.grows.most y.grows.cursors) start) (λ r long.
      subst (λ k. Sifted m (n env) (record s { pc = length b.code; regs = r }) (length c.code) (at label) k causes (g env (read r causes))) x.next (y.sifts m called u at h (record s { pc = length b.code; regs = r }) (record { unit = room.unit; regs = omega (arith, room.regs, long); cursors = room.cursors; sound = room.sound }) refl));
}

-- the same of functions and costs that agree
pub sifts_same : {given : Given} {a b : Draft} {i : Environment → ℕ} (causes label : ℕ) (f g : Environment → Out → Option Out) (n : Environment → ℕ) → ((env : Environment) (v : Out) → f env v ≡ g env v) → ((env : Environment) → i env ≡ n env) → Sifts given a b causes label f i → Sifts given a b causes label g n
sifts_same {given} {a} {b} {i} causes label f g n e k x = record {
  grows = x.grows;
  next = x.next;
  steady = x.steady;
  sifts = λ m called u at h s room start.
      let env = environment_of m (here s) in
      subst (Sifted m (n env) s (length b.code) (at label) a.next causes) (e env (read s.regs causes)) (subst (λ j. Sifted m j s (length b.code) (at label) a.next causes (f env (read s.regs causes))) (k env) (x.sifts m called u at h s room start));
}

-- the same where more is so of cursors
pub sifts_wider : {given : Given} {a b : Draft} {causes label : ℕ} {f : Environment → Out → Option Out} {n : Environment → ℕ} (more : List Need) → ((xs : OpenSet) → All (Meets xs) more → All (Meets xs) given.needs) → Sifts given a b causes label f n → Sifts (record given { needs = more }) a b causes label f n
sifts_wider {given} {a} {b} {causes} {label} {f} {n} more wider x =
    record { grows = x.grows; next = x.next; steady = st_wider wider x.steady; sifts = x.sifts }
