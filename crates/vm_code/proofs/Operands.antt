-- Operands that read values, and the instructions that take them.
use Rattle.std.proofs.Common.{◌≡◌, ℕ, ◌+◌, ◌≤◌, ◌<◌, List, [], ◌∷◌, ◌++◌, length, map, All, Some, refl, sym, ap, ◌∙◌, subst, arith}
use Rattle.std.specs.List.{flat_map}
use Rattle.std.specs.Prelude.{slice_set}
use Rattle.std.proofs.Math.ListN.{length-set}
use Rattle.std.proofs.lemmas.List.{append-nil, append_assoc, get_or-set_same, get_or-set_other, map-append}
use Rattle.std.proofs.lemmas.List.Concat.{flat_map-append, flat_map-cons}
use Rattle.eng_value.specs.Environments.{Environment, ItemRow, column_of, row_at}
use Rattle.eng_value.specs.HostMeanings.{HostMeanings}
use Rattle.eng_value.specs.declared.out.Out.{Out}
use Rattle.vm_code.specs.declared.op.Op.{Op}
use Rattle.vm_code.specs.declared.operand.Operand.{Operand}
use Rattle.vm_code.specs.declared.operand.Operand.TheVariants as operand
use Rattle.vm_code.specs.declared.open_cursor.Need.{Need}
use Rattle.vm_code.specs.declared.way.Way.TheVariants as way
use Rattle.vm_code.specs.Track.{Meets, OpenSet, needs_of, operand_needs, way_of}
use Rattle.vm_code.specs.Draft.{Draft, with_op, taken, released}
use Rattle.vm_code.specs.Machine.{Setting, State, act, operand_in, operand_of, put, parameter_at, read, world_of, Reaches}
use Rattle.vm_code.specs.Frames.{placed, Here, here, environment_of, Given, Leaves, Offers}
use Rattle.vm_code.proofs.Runs.{leads_then, reaches_none, reaches_op, leads_more}
use Rattle.vm_code.proofs.Drafts.{grows_then, grows_none, g_op, g_taken, g_released, at_op, long_op}
use Rattle.vm_code.proofs.Meeting.{met_both, met_none}
use Rattle.vm_code.proofs.Tracks.{st_none, st_reads, st_released, st_taken, st_then, st_wider}
use Rattle.vm_code.proofs.Registers.{row_now}
use Rattle.vm_code.proofs.Triples.{ready_less}

-- what an operand reads that is no register: a function of the environment
pub record IsPlain (o : Operand) (f : Environment → Out) : Type 0 where
  pub reads : (m : Setting) (h : Here) (q : List Out) → operand_in m q h.inputs h.scene h.shared o ≡ f (environment_of m h)

pub constant_plain : (out : Out) → IsPlain (operand.Constant out) (λ env. out)
constant_plain out = record { reads = λ m h q. refl }

pub parameter_plain : (k : ℕ) → IsPlain (operand.Parameter k) (λ env. parameter_at env.params k)
parameter_plain k = record { reads = λ m h q. refl }

pub argument_plain : (k : ℕ) → IsPlain (operand.Argument k) (λ env. read env.arguments k)
argument_plain k = record { reads = λ m h q. refl }

pub column_plain : (c k : ℕ) → IsPlain (operand.Column c k) (λ env. column_of (row_at env c) k)
column_plain c k =
    record { reads = λ m h q. ap (λ row. column_of row k) (row_now (world_of h.shared) h.scene.cursors c) }

pub rowid_plain : (c : ℕ) → IsPlain (operand.Rowid c) (λ env. (row_at env c).rowid)
rowid_plain c =
    record { reads = λ m h q. ap (λ (row : ItemRow). row.rowid) (row_now (world_of h.shared) h.scene.cursors c) }

-- ---- what operands read is open

-- an instruction that goes on, and reads cursors by these operands alone
abbrev pub Takes : List Operand → Op → Type 0
Takes os op =
    (way_of op ≡ way.Continues) × ((xs : OpenSet) → All (Meets xs) (flat_map operand_needs os) → All (Meets xs) (needs_of op))

pub takes_all : (os : List Operand) (op : Op) → way_of op ≡ way.Continues → needs_of op ≡ flat_map operand_needs os → Takes os op
takes_all os op on needs_is = (on, λ xs met. subst (All (Meets xs)) (sym needs_is) met)

one_needs : (o : Operand) → flat_map operand_needs (o ∷ []) ≡ operand_needs o
one_needs o = flat_map-cons operand_needs o [] ∙ append-nil (operand_needs o)

pub takes_one : (a : Operand) (op : Op) → way_of op ≡ way.Continues → needs_of op ≡ operand_needs a → Takes (a ∷ []) op
takes_one a op on needs_is = takes_all (a ∷ []) op on (needs_is ∙ sym (one_needs a))

pub takes_two : (a b : Operand) (op : Op) → way_of op ≡ way.Continues → needs_of op ≡ operand_needs a ++ operand_needs b → Takes (a ∷ b ∷ []) op
takes_two a b op on needs_is =
    takes_all (a ∷ b ∷ []) op on (needs_is ∙ ap (λ l. operand_needs a ++ l) (sym (one_needs b)) ∙ sym (flat_map-cons operand_needs a (b ∷ [])))

pub takes_three : (a b c : Operand) (op : Op) → way_of op ≡ way.Continues → needs_of op ≡ operand_needs a ++ operand_needs b ++ operand_needs c → Takes (a ∷ b ∷ c ∷ []) op
takes_three a b c op on needs_is =
    takes_all (a ∷ b ∷ c ∷ []) op on (needs_is ∙ append_assoc (operand_needs a) (operand_needs b) (operand_needs c) ∙ ap (λ l. operand_needs a ++ (operand_needs b ++ l)) (sym (one_needs c)) ∙ ap (λ l. operand_needs a ++ l) (sym (flat_map-cons operand_needs b (c ∷ []))) ∙ sym (flat_map-cons operand_needs a (b ∷ c ∷ [])))

one_met : (xs : OpenSet) (o : Operand) → All (Meets xs) (operand_needs o) → All (Meets xs) (flat_map operand_needs (o ∷ []))
one_met xs o met = subst (All (Meets xs)) (sym (one_needs o)) met

-- ---- code in front of which they stand

-- no operand
pub offers_none : (given : Given) (a : Draft) → a.next ≤ a.most → Offers given a a [] (λ env. []) (λ env. 0)
offers_none given a counted = record {
  grows = grows_none a;
  next = omega arith;
  counted = counted;
  steady = st_none given.needs [] a;
  needs = λ xs met. met_none xs;
  offers = λ m called u at h s room start. record {
    regs = s.regs;
    way = subst (λ n. Reaches m 0 s (record s { pc = n })) start (reaches_none m s);
    long = refl;
    has = λ q same. refl;
    keeps = λ k lt. refl;
  };
}

-- one that takes no code, and needs no more than is so of cursors
pub offers_plain : (given : Given) (a : Draft) (o : Operand) (f : Environment → Out) → IsPlain o f → ((xs : OpenSet) → All (Meets xs) given.needs → All (Meets xs) (operand_needs o)) → a.next ≤ a.most → Offers given a a (o ∷ []) (λ env. f env ∷ []) (λ env. 0)
offers_plain given a o f plain needed counted = record {
  grows = grows_none a;
  next = omega arith;
  counted = counted;
  steady = st_none given.needs [] a;
  needs = λ xs met. one_met xs o (needed xs met);
  offers = λ m called u at h s room start. record {
    regs = s.regs;
    way = subst (λ n. Reaches m 0 s (record s { pc = n })) start (reaches_none m s);
    long = refl;
    has = λ q same. ap (λ v. v ∷ []) (plain.reads m (here s) q);
    keeps = λ k lt. refl;
  };
}

-- a value in a register that is taken for it
pub offers_value : {given : Given} {a b : Draft} {f : Environment → Out} {n : Environment → ℕ} (r : ℕ) → r ≡ a.next → Leaves given (taken a) b r f n → Offers given a b (operand.Register r ∷ []) (λ env. f env ∷ []) n
offers_value {given} {a} {b} {f} {n} r r_is x = record {
  grows = grows_then (g_taken a) x.grows;
  next = omega (arith, x.next);
  counted = omega (arith, x.next, x.grows.most);
  steady = st_then (g_taken a) (st_taken given.needs [] a) x.steady;
  needs = λ xs met. one_met xs (operand.Register r) (met_none xs);
  offers = λ m called u at h s room start.
      let y = x.leaves m called u at h s room start in
      record {
        regs = y.regs;
        way = y.way;
        long = y.long;
        has = λ q same. ap (λ v. v ∷ []) (same r (omega (arith, r_is, x.next)) ∙ y.has);
        keeps = λ k lt. y.keeps k (omega arith) (omega (arith, r_is));
      };
}

-- some operands, and then others
pub offers_then : {given : Given} {a b c : Draft} {os ps : List Operand} {f g : Environment → List Out} {i n : Environment → ℕ} → Offers given a b os f i → Offers given b c ps g n → Offers given a c (os ++ ps) (λ env. f env ++ g env) (λ env. i env + n env)
offers_then {given} {a} {b} {c} {os} {ps} {f} {g} {i} {n} x y = record {
  grows = grows_then x.grows y.grows;
  next = omega (arith, x.next, y.next);
  counted = y.counted;
  steady = st_then x.grows x.steady y.steady;
  needs = λ xs met. subst (All (Meets xs)) (sym (flat_map-append operand_needs os ps)) (met_both xs (flat_map operand_needs os) (flat_map operand_needs ps) (x.needs xs met) (y.needs xs met));
  offers = λ m called u at h s room start.
      let v = x.offers m called u at (y.grows.holds m.prog u at h) s (ready_less room y.grows.most y.grows.cursors) start in
      let t : State = record s { pc = length b.code; regs = v.regs } in
      let w = y.offers m called u at h t (record { unit = room.unit; regs = omega (arith, room.regs, v.long); cursors = room.cursors; sound = room.sound }) refl in
      record {
        regs = w.regs;
        way = leads_then m v.way w.way;
        long = w.long ∙ v.long;
        has = λ q same. map-append (operand_in m q s.inputs s.scene s.shared) os ps ∙ ap (λ l. l ++ map (operand_in m q s.inputs s.scene s.shared) ps) (v.has q (λ k lt. same k (omega (arith, y.next)) ∙ w.keeps k lt)) ∙ ap (λ l. f (environment_of m (here s)) ++ l) (w.has q same);
        keeps = λ k lt. w.keeps k (omega (arith, x.next)) ∙ v.keeps k lt;
      };
}

-- the same of functions and costs that agree
pub offers_same : {given : Given} {a b : Draft} {os : List Operand} {f : Environment → List Out} {i : Environment → ℕ} (g : Environment → List Out) (n : Environment → ℕ) → ((env : Environment) → f env ≡ g env) → ((env : Environment) → i env ≤ n env) → Offers given a b os f i → Offers given a b os g n
offers_same {given} {a} {b} {os} {f} {i} g n same cost x = record {
  grows = x.grows;
  next = x.next;
  counted = x.counted;
  steady = x.steady;
  needs = x.needs;
  offers = λ m called u at h s room start.
      let y = x.offers m called u at h s room start in
      record {
        regs = y.regs;
        way = leads_more m (n (environment_of m (here s))) (cost (environment_of m (here s))) y.way;
        long = y.long;
        has = λ q kept. y.has q kept ∙ same (environment_of m (here s));
        keeps = y.keeps;
      };
}

-- operands, and an instruction that makes a value of what they read; their registers are free behind it
pub leaves_by : {given : Given} {a b : Draft} {os : List Operand} {f : Environment → List Out} {n : Environment → ℕ} (op : Op) (to : ℕ) (u : HostMeanings → List Out → Out) → Takes os op → Offers given a b os f n → to < a.next → ((m : Setting) (at : ℕ → ℕ) (s : State) → act m (Some (placed at op)) s ≡ put s to (u m.hosts (map (operand_of m s) os))) → Leaves given a (released (with_op b op) a.next) to (λ env. u env.hosts (f env)) (λ env. n env + 1)
leaves_by {given} {a} {b} {os} {f} {n} op to u on x lt law = record {
  grows = grows_then x.grows (grows_then (g_op b op) (g_released (with_op b op) a.next));
  next = refl;
  steady = st_then x.grows x.steady (st_then (g_op b op) (st_reads given.needs [] b op on.0 (λ xs met. on.1 xs (x.needs xs met))) (st_released given.needs [] (with_op b op) a.next));
  leaves = λ m called k at h s room start.
      let hb = (g_released (with_op b op) a.next).holds m.prog k at h in
      let y = x.offers m called k at ((g_op b op).holds m.prog k at hb) s (ready_less room (omega arith) (omega arith)) start in
      let env = environment_of m (here s) in
      let t : State = record s { pc = length b.code; regs = y.regs } in
      let is : map (operand_of m t) os ≡ f env = y.has y.regs (λ k lt. refl) in
      let regs = slice_set y.regs to (u m.hosts (f env)) in
      let within : to < length y.regs = omega (arith, y.long, room.regs, x.next, x.counted) in
      let step = reaches_op m t (record t { pc = length b.code + 1; regs = regs }) k (length b.code) (placed at op) room.unit refl (at_op b op m.prog k at hb) (law m at t ∙ ap (λ vs. put t to (u m.hosts vs)) is) in
      record {
        regs = regs;
        way = subst (λ i. Reaches m (n env + 1) s (record s { pc = i; regs = regs })) (sym (long_op b op)) (leads_then m y.way step);
        long = length-set y.regs to (u m.hosts (f env)) ∙ y.long;
        has = get_or-set_same y.regs to (u m.hosts (f env)) _ within;
        keeps = λ j below ne. get_or-set_other y.regs to j (u m.hosts (f env)) _ ne ∙ y.keeps j below;
      };
}

-- the same where more is so of cursors
pub offers_wider : {given : Given} {a b : Draft} {os : List Operand} {f : Environment → List Out} {n : Environment → ℕ} (more : List Need) → ((xs : OpenSet) → All (Meets xs) more → All (Meets xs) given.needs) → Offers given a b os f n → Offers (record given { needs = more }) a b os f n
offers_wider {given} {a} {b} {os} {f} {n} more wider x = record {
  grows = x.grows;
  next = x.next;
  counted = x.counted;
  steady = st_wider wider x.steady;
  needs = λ xs met. x.needs xs (wider xs met);
  offers = x.offers;
}
