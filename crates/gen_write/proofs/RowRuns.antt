-- The code of rows, one after the other.
use Rattle.std.proofs.Common.{◌≡◌, ℕ, zero, suc, ◌+◌, ◌*◌, ◌≤◌, ◌<◌, List, [], ◌∷◌, ◌++◌, length, map, take, get_or, Some, None, refl, sym, ap, ◌∙◌, subst, arith}
use Rattle.std.specs.declared.option.Option.{Option}
use Rattle.std.proofs.lemmas.List.{length-map, take_all, take_more}
use Rattle.eng_value.specs.Causes.{CauseSet}
use Rattle.eng_value.specs.Environments.{Environment, no_causes}
use Rattle.eng_value.specs.declared.out.Out.{Out}
use Rattle.eng_value.specs.declared.out.Out.TheVariants.{Good}
use Rattle.eng_value.specs.declared.value.Value.{Value}
use Rattle.gen_write.specs.Stretches.{AreAllKept, AreKept, IsSet, Puts, Ran, SameBut, SteadyAt, kept_out, scene_on, seen_from}
use Rattle.gen_write.specs.Writes.{Course, and_on, failed, finished, row_put, rows_run, unless_failed}
use Rattle.gen_write.specs.declared.source.Kept.{Kept}
use Rattle.gen_write.proofs.Courses.{rows_run-last}
use Rattle.gen_write.proofs.Opens.{at_none, at_then, table_open}
use Rattle.sql_meaning.specs.declared.bound.BoundInsert.{BoundInsert}
use Rattle.vm_code.specs.Draft.{Draft}
use Rattle.vm_code.specs.Machine.{World, IsSound, Shared, Setting, State, GivesUp, Reaches, Leads, leads_to, read, world_of}
use Rattle.vm_code.specs.Frames.{Grows, Here, here, there}
use Rattle.vm_code.specs.Claims.{Claim, Labels, Last, Exits, on, off, ends, Triple}
use Rattle.vm_code.proofs.Runs.{leads_more, leads_then, reaches_none}
use Rattle.vm_code.proofs.Drafts.{extends, grows_none, grows_then}
use Rattle.vm_code.proofs.Kept.{sound_after}
use Rattle.vm_code.proofs.Triples.{no_labels, ready_less}

-- ---- one course and then another

abbrev pub PutsFirst : Type 0 → Draft → Draft → BoundInsert → ℕ → List (List Kept) → ℕ → ℕ → Type 0
PutsFirst fits a b insert causes source i most =
    Puts fits a b insert.table causes (AreAllKept causes a.next source) (λ env rows. rows_run env insert (take i rows)) most

pub puts_none : (fits : Type 0) (a : Draft) (causes : ℕ) (b : BoundInsert) (source : List (List Kept)) (most : ℕ) → PutsFirst fits a a b causes source 0 (0 * most)
puts_none fits a causes b source most = record {
  grows = grows_none a;
  next = refl;
  steady = λ fit. at_none table_open a;
  puts = λ m u at h s room start set w rows kept_now. record {
    regs = s.regs;
    way = leads_more m (0 * most) (omega arith) (subst (λ p. Reaches m 0 s (record s { pc = p })) start (reaches_none m s));
    long = refl;
    calm = set.calm;
    keeps = λ k lt ne. refl;
  };
}

ran_then : (m : Setting) (i n : ℕ) (s : State) (p1 p2 mark causes : ℕ) (o : Option CauseSet) (x : Shared) (f : Shared → Course) → IsSound (world_of s.shared) → Ran m i s p1 mark causes o x → ((regs : List Out) → length regs ≡ length s.regs → read regs causes ≡ no_causes → SameBut causes mark s.regs regs → IsSound (world_of x) → Ran m n (record s { pc = p1; regs = regs; shared = x }) p2 mark causes (f x).causes (f x).shared) → Ran m (i + n) s p2 mark causes (unless_failed o x f).causes (unless_failed o x f).shared
ran_then m i n s p1 p2 mark causes (Some why) x f up z next = leads_more m (i + n) (omega arith) z
ran_then m i n s p1 p2 mark causes None x f up l next =
    by (f x).causes (f x).shared (next l.regs l.long l.calm l.keeps (sound_after l.way up))
  where
    by : (o : Option CauseSet) (y : Shared) → Ran m n (record s { pc = p1; regs = l.regs; shared = x }) p2 mark causes o y → Ran m (i + n) s p2 mark causes o y
    by (Some why) y z = leads_then m l.way z
    by None y v = record {
      regs = v.regs;
      way = leads_then m l.way v.way;
      long = v.long ∙ l.long;
      calm = v.calm;
      keeps = λ k lt ne. v.keeps k lt ne ∙ l.keeps k lt ne;
    }

ran_more : (m : Setting) (i n : ℕ) → i ≤ n → (s : State) (place mark causes : ℕ) (o : Option CauseSet) (y : Shared) → Ran m i s place mark causes o y → Ran m n s place mark causes o y
ran_more m i n le s place mark causes (Some why) y z = leads_more m n le z
ran_more m i n le s place mark causes None y l =
    record { regs = l.regs; way = leads_more m n le l.way; long = l.long; calm = l.calm; keeps = l.keeps }

-- what is kept of one row is part of what is kept of all
row_kept : (f : List Kept → List Out) (source : List (List Kept)) (rows : List (List Value)) (i : ℕ) (row : List Kept) → map f source ≡ map (map Good) rows → i < length source → row ≡ get_or source i row → f row ≡ map Good (get_or rows i [])
row_kept f [] rows i row e lt is = absurd (omega (arith, lt))
row_kept f (k ∷ source) [] i row e lt is = cc
row_kept f (k ∷ source) (v ∷ rows) zero row e lt is = ap f is ∙ cc
row_kept f (k ∷ source) (v ∷ rows) (suc i) row e lt is = row_kept f source rows i row (cc) (omega arith) is

-- there are as many rows as are kept
rows_long : (causes mark : ℕ) (source : List (List Kept)) (rows : List (List Value)) (regs : List Out) → AreAllKept causes mark source rows regs → length source ≡ length rows
rows_long causes mark source rows regs e =
    sym (length-map source (map (kept_out regs))) ∙ ap length (e regs (λ k lt ne. refl)) ∙ length-map rows (map Good)

-- one row more
pub puts_row : {fits : Type 0} {a b d : Draft} {causes : ℕ} (insert : BoundInsert) (source : List (List Kept)) (i most : ℕ) (row : List Kept) → i < length source → row ≡ get_or source i row → PutsFirst fits a b insert causes source i (i * most) → Puts fits b d insert.table causes (AreKept causes b.next row) (λ env. row_put env insert) most → PutsFirst fits a d insert causes source (i + 1) ((i + 1) * most)
puts_row {fits} {a} {b} {d} {causes} insert source i most row lt is x y = record {
  grows = grows_then x.grows y.grows;
  next = y.next ∙ x.next;
  steady = λ fit. at_then (x.steady fit) (y.steady fit);
  puts = λ m u at h s room start set w rows kept_now.
      let env = seen_from m w in
      let values = get_or rows i [] in
      let first = rows_run env insert (take i rows) in
      let inside : i < length rows = omega (arith, lt, rows_long causes a.next source rows s.regs kept_now) in
      let more : take (i + 1) rows ≡ take i rows ++ values ∷ [] = take_more rows i [] inside in
      let all : and_on (first s.shared) (row_put env insert values) ≡ rows_run env insert (take (i + 1) rows) s.shared = rows_run-last env insert (take i rows) values s.shared ∙ ap (λ l. rows_run env insert l s.shared) (sym more) in
      let both = ran_then m (i * most) most s (length b.code) (length d.code) a.next causes (first s.shared).causes (first s.shared).shared (row_put env insert values) room.sound (x.puts m u at (y.grows.holds m.prog u at h) s (ready_less room y.grows.most y.grows.cursors) start set w rows kept_now) (λ regs long calm_then same up.
      let t : State = record s { pc = length b.code; regs = regs; shared = (first s.shared).shared } in
      let row_now : AreKept causes b.next row values t.regs = λ q agree. row_kept (map (kept_out q)) source rows i row (kept_now q (λ k below ne. agree k (omega (arith, below, x.next)) ne ∙ same k below ne)) lt is in
      subst (λ k. Ran m most t (length d.code) k causes (row_put env insert values t.shared).causes (row_put env insert values t.shared).shared) x.next (y.puts m u at h t (record { unit = room.unit; regs = omega (arith, room.regs, long); cursors = room.cursors; sound = up }) refl (record { scene = set.scene; args = set.args; calm = calm_then }) w values row_now)) in
      let steps : i * most + most ≤ (i + 1) * most = omega arith in
      ran_more m (i * most + most) ((i + 1) * most) steps s (length d.code) a.next causes (rows_run env insert (take (i + 1) rows) s.shared).causes (rows_run env insert (take (i + 1) rows) s.shared).shared (subst (λ (c : Course). Ran m (i * most + most) s (length d.code) a.next causes c.causes c.shared) all both);
}

-- all rows
pub puts_all : {fits : Type 0} {a b : Draft} {causes : ℕ} (insert : BoundInsert) (source : List (List Kept)) (i most : ℕ) → i ≡ length source → PutsFirst fits a b insert causes source i (i * most) → Puts fits a b insert.table causes (AreAllKept causes a.next source) (λ env. rows_run env insert) (length source * most)
puts_all {fits} {a} {b} {causes} insert source i most i_is x = record {
  grows = x.grows;
  next = x.next;
  steady = x.steady;
  puts = λ m u at h s room start set w rows kept_now.
      let env = seen_from m w in
      let whole : take i rows ≡ rows = take_all i rows (omega (arith, i_is, rows_long causes a.next source rows s.regs kept_now)) in
      subst (λ l. Ran m (length source * most) s (length b.code) a.next causes (rows_run env insert l s.shared).causes (rows_run env insert l s.shared).shared) whole (subst (λ n. Ran m (n * most) s (length b.code) a.next causes (rows_run env insert (take i rows) s.shared).causes (rows_run env insert (take i rows) s.shared).shared) i_is (x.puts m u at h s room start set w rows kept_now));
}

-- ---- as stretches

-- the machine came to the end with what the course finished with, and no causes; the other registers below the mark, and all else of the frame, are as they were
pub record HasRun (course : Shared → Course) (mark causes : ℕ) (h0 h : Here) : Type 0 where
  pub regs : SameBut causes mark h0.regs h.regs
  pub calm : read h.regs causes ≡ no_causes
  pub scene : h.scene ≡ h0.scene
  pub store : h.store ≡ h0.store
  pub is : course h0.shared ≡ finished h.shared

abbrev pub HasFailed : (Shared → Course) → Last
HasFailed course h0 o x = (why : CauseSet) × (o ≡ GivesUp why) × (course h0.shared ≡ failed why x)

-- a stretch that takes the course
pub puts_of : {X : Type 0} {fits : Type 0} {a b : Draft} {most : ℕ} (table causes : ℕ) (IsThere : X → List Out → Type 0) (course : Environment → X → Shared → Course) (p : Setting → World → X → Claim) → Grows a b → b.next ≡ a.next → (fits → SteadyAt table_open a b) → ((m : Setting) (w : World) (x : X) (s : State) → IsSound (world_of s.shared) → IsSet table causes s → IsThere x s.regs → p m w x (here s) (here s)) → ((m : Setting) (w : World) (x : X) → Triple m a b (λ h0. most) no_labels (HasFailed (course (seen_from m w) x)) (p m w x) (HasRun (course (seen_from m w) x) a.next causes)) → Puts fits a b table causes IsThere course most
puts_of {X} {fits} {a} {b} {most} table causes IsThere course p grows next steady begins run = record {
  grows = grows;
  next = next;
  steady = steady;
  puts = λ m u at h s room start set w x kept_now.
      by m at s (course (seen_from m w) x) ((run m w x).runs u at h (here s) s room start (begins m w x s room.sound set kept_now));
}
  where
    by : (m : Setting) (at : ℕ → ℕ) (s : State) (f : Shared → Course) → Exits m at most (λ l h. ⊥) (HasFailed f (here s)) s (length b.code) (HasRun f a.next causes (here s)) → Ran m most s (length b.code) a.next causes (f s.shared).causes (f s.shared).shared
    by m at s f (off l h) = absurd h.holds
    by m at s f (ends o y z h) =
        subst (λ (c : Course). Ran m most s (length b.code) a.next causes c.causes c.shared) (sym h.2) (subst (λ v. Leads m most s (leads_to v s.stack y)) h.1 z)
    by m at s f (on h) = subst (λ (c : Course). Ran m most s (length b.code) a.next causes c.causes c.shared) (sym h.holds.is) (record {
      regs = h.regs;
      way = subst (λ y. Reaches m most s (there s (length b.code) h.regs s.scene y h.shared)) h.holds.store (subst (λ c. Reaches m most s (there s (length b.code) h.regs c h.store h.shared)) h.holds.scene h.way);
      long = h.long;
      calm = h.holds.calm;
      keeps = h.holds.regs;
    })

-- what is there in front of a row, as a claim
pub record IsSetAt (table causes : ℕ) (h : Here) : Type 0 where
  pub scene : h.scene ≡ scene_on table
  pub args : h.inputs.args ≡ []
  pub calm : read h.regs causes ≡ no_causes

-- code that takes the course of what is there, inside another stretch
pub t_puts : (m : Setting) {X : Type 0} {fits : Type 0} {a b : Draft} {table causes most : ℕ} {IsThere : X → List Out → Type 0} {course : Environment → X → Shared → Course} (w : Here → World) (what : Here → X) (g : Labels) (e : Last) (p q : Claim) → Puts fits a b table causes IsThere course most → ((h0 h : Here) → p h0 h → IsSetAt table causes h × IsThere (what h0) h.regs) → ((h0 h : Here) (regs : List Out) (x : Shared) → p h0 h → course (seen_from m (w h0)) (what h0) h.shared ≡ finished x → q h0 (record h { regs = regs; shared = x })) → ((h0 h : Here) (why : CauseSet) (x : Shared) → p h0 h → course (seen_from m (w h0)) (what h0) h.shared ≡ failed why x → e h0 (GivesUp why) x) → Triple m a b (λ h0. most) g e p q
t_puts m {X} {fits} {a} {b} {table} {causes} {most} {IsThere} {course} w what g e p q x known goes fails = record {
  extends = extends x.grows;
  runs = λ u at h h0 s room start pre.
      let now = known h0 (here s) pre in
      let c = course (seen_from m (w h0)) (what h0) s.shared in
      by at h0 s pre c.causes c.shared refl (x.puts m u at h s room start (record { scene = now.0.scene; args = now.0.args; calm = now.0.calm }) (w h0) (what h0) now.1);
}
  where
    by : (at : ℕ → ℕ) (h0 : Here) (s : State) → p h0 (here s) → (o : Option CauseSet) (y : Shared) → course (seen_from m (w h0)) (what h0) s.shared ≡ record { causes = o; shared = y } → Ran m most s (length b.code) a.next causes o y → Exits m at most (λ l. g l h0) (e h0) s (length b.code) (q h0)
    by at h0 s pre None y is l =
        on (record { regs = l.regs; scene = s.scene; store = s.store; shared = y; way = l.way; long = l.long; wide = refl; holds = goes h0 (here s) l.regs y pre is })
    by at h0 s pre (Some why) y is z = ends (GivesUp why) y z (fails h0 (here s) why y pre is)
