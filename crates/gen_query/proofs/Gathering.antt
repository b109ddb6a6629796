-- Results in registers one after another, and their causes in one register.
use Rattle.std.proofs.Common.{◌≡◌, ◌≢◌, ℕ, suc, ◌+◌, ◌-◌, ◌≤◌, ◌<◌, List, [], ◌∷◌, length, map, fold, refl, sym, ap, ◌∙◌, subst, arith}
use Rattle.std.proofs.lemmas.List.Sums.{fold-append}
use Rattle.eng_value.specs.Applied.{merged}
use Rattle.eng_value.specs.Environments.{Environment, with_causes}
use Rattle.eng_value.specs.declared.out.Out.{Out}
use Rattle.gen_query.specs.Stretches.{Gathers}
use Rattle.sql_meaning.specs.Expression.{value_of}
use Rattle.bound_tree.specs.Exprs.{BoundExpr}
use Rattle.vm_code.specs.declared.op.Op.TheVariants as op
use Rattle.vm_code.specs.Draft.{Draft, with_op}
use Rattle.vm_code.specs.Machine.{Setting, State, outs_from, read, Reaches}
use Rattle.vm_code.specs.Frames.{Here, here, with_regs}
use Rattle.vm_code.specs.Claims.{Claim, Labels, Last, on, Triple}
use Rattle.vm_code.proofs.Runs.{leads_then, reaches_none, reaches_op}
use Rattle.vm_code.proofs.Drafts.{at_op, extends, g_op, grows_none, grows_then, long_op}
use Rattle.vm_code.proofs.Tracks.{st_none, st_op, st_then}
use Rattle.vm_code.proofs.Registers.{outs_last}
use Rattle.vm_code.proofs.Triples.{ready_less}
use Rattle.std.proofs.Math.ListN.{length-set}
use Rattle.std.proofs.lemmas.List.{get_or-set_same, get_or-set_other}
use Rattle.std.specs.Prelude.{slice_set}

-- ---- results

abbrev pub values_in : List BoundExpr → Environment → List Out
values_in es env = map (λ e. value_of e env) es

-- ---- causes

pub gathers_none : (a : Draft) (first causes : ℕ) → Gathers a a first 0 causes
gathers_none a first causes = record {
  grows = grows_none a;
  next = refl;
  steady = st_none [] [] a;
  gathers = λ m u at h s room start. record {
    regs = s.regs;
    way = subst (λ p. Reaches m 0 s (record s { pc = p })) start (reaches_none m s);
    long = refl;
    has = refl;
    keeps = λ k lt ne. refl;
  };
}

-- a register more
pub gathers_more : (a b : Draft) (first count causes : ℕ) → causes < first → first + count < a.next → a.next ≤ a.most → Gathers a b first count causes → Gathers a (with_op b (op.Merge (first + count) causes)) first (count + 1) causes
gathers_more a b first count causes apart inside counted x = record {
  grows = grows_then x.grows (g_op b (op.Merge (first + count) causes));
  next = x.next;
  steady = st_then x.grows x.steady (st_op [] [] b (op.Merge (first + count) causes) (refl, refl));
  gathers = λ m u at h s room start.
      let hb = (g_op b (op.Merge (first + count) causes)).holds m.prog u at h in
      let l = x.gathers m u at hb s (ready_less room (omega arith) (omega arith)) start in
      let v = merged (read l.regs (first + count)) (read l.regs causes) in
      let t : State = record s { pc = length b.code; regs = l.regs } in
      let way : Reaches m 1 t (record t { pc = length b.code + 1; regs = slice_set l.regs causes v }) = reaches_op m t (record t { pc = length b.code + 1; regs = slice_set l.regs causes v }) u (length b.code) (op.Merge (first + count) causes) room.unit refl (at_op b (op.Merge (first + count) causes) m.prog u at h) refl in
      let fits : causes < length l.regs = omega (arith, l.long, room.regs, x.grows.most, apart, inside, counted) in
      let last : read l.regs (first + count) ≡ read s.regs (first + count) = l.keeps (first + count) inside (omega (arith, apart)) in
      let is : v ≡ fold with_causes (read s.regs causes) (outs_from s.regs first (suc count)) = ap (λ o. merged o (read l.regs causes)) last ∙ ap (merged (read s.regs (first + count))) l.has ∙ sym (fold-append with_causes (read s.regs causes) (outs_from s.regs first count) (read s.regs (first + count) ∷ [])) ∙ ap (fold with_causes (read s.regs causes)) (sym (outs_last s.regs count first)) in
      let one : suc count ≡ count + 1 = omega arith in
      record {
        regs = slice_set l.regs causes v;
        way = subst (λ k. Reaches m (count + 1) s (record s { pc = k; regs = slice_set l.regs causes v })) (sym (long_op b (op.Merge (first + count) causes))) (leads_then m l.way way);
        long = length-set l.regs causes v ∙ l.long;
        has = get_or-set_same l.regs causes v _ fits ∙ is ∙ ap (λ n. fold with_causes (read s.regs causes) (outs_from s.regs first n)) one;
        keeps = λ k lt ne. get_or-set_other l.regs causes k v _ ne ∙ l.keeps k lt ne;
      };
}

-- the same by the number of the register
pub gathers_next : (a b : Draft) (first from causes : ℕ) → causes < first → first ≤ from → from < a.next → a.next ≤ a.most → Gathers a b first (from - first) causes → Gathers a (with_op b (op.Merge from causes)) first (from + 1 - first) causes
gathers_next a b first from causes apart le inside counted x =
    let is : first + (from - first) ≡ from = omega arith in
    let more : from - first + 1 ≡ from + 1 - first = omega arith in
    subst (λ n. Gathers a (with_op b (op.Merge from causes)) first n causes) more (subst (λ r. Gathers a (with_op b (op.Merge r causes)) first (from - first + 1) causes) is (gathers_more a b first (from - first) causes apart (omega arith) counted x))

-- code that gathers causes, inside another stretch
pub t_gathers : (m : Setting) {a b : Draft} {first count causes : ℕ} (g : Labels) (e : Last) (p q : Claim) → Gathers a b first count causes → ((h0 h : Here) (regs : List Out) → p h0 h → length regs ≡ length h.regs → read regs causes ≡ fold with_causes (read h.regs causes) (outs_from h.regs first count) → ((k : ℕ) → k < a.next → k ≢ causes → read regs k ≡ read h.regs k) → q h0 (with_regs h regs)) → Triple m a b (λ h0. count) g e p q
t_gathers m g e p q x goes = record {
  extends = extends x.grows;
  runs = λ u at h h0 s room start pre.
      let l = x.gathers m u at h s room start in
      on (record {
        regs = l.regs;
        scene = s.scene;
        store = s.store;
        shared = s.shared;
        way = l.way;
        long = l.long;
        wide = refl;
        holds = goes h0 (here s) l.regs pre l.long l.has l.keeps;
      });
}
