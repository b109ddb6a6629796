-- What columns store, in registers one after another, and their causes in one register.
use Rattle.std.proofs.Common.{All, ◌≡◌, ◌≢◌, ℕ, zero, suc, ◌+◌, ◌≤◌, ◌<◌, List, [], ◌∷◌, ◌++◌, length, map, fold, get_or, take, true, sum_by, Some, None, refl, sym, ap, ◌∙◌, subst, arith, length-append}
use Rattle.std.specs.Prelude.{slice_get, slice_index_or, slice_set}
use Rattle.std.specs.declared.option.Option.{Option}
use Rattle.std.proofs.Math.ListN.{length-set}
use Rattle.std.proofs.lemmas.List.{get_or-set_same, get_or-set_other, length-map, map-append, take_more}
use Rattle.std.proofs.lemmas.List.Sums.{fold-append, sum_by-append}
use Rattle.bound_tree.specs.Exprs.{BoundExpr}
use Rattle.eng_value.specs.Applied.{merged}
use Rattle.eng_value.specs.Casts.{store_as}
use Rattle.eng_value.specs.Environments.{Environment, no_causes, with_causes}
use Rattle.eng_value.specs.Outs.{turned}
use Rattle.eng_value.specs.declared.affinity.Affinity.{Affinity}
use Rattle.eng_value.specs.declared.affinity.Affinity.TheVariants as affinity
use Rattle.eng_value.specs.declared.out.Out.{Out}
use Rattle.eng_value.specs.declared.out.Out.TheVariants.{Good}
use Rattle.eng_value.specs.declared.value.Value.{Value}
use Rattle.eng_value.specs.declared.value.Value.TheVariants.{Null, Integer, Text, Blob}
use Rattle.gen_expr.specs.Steps.{steps_of}
use Rattle.gen_write.specs.Stretches.{AreHeld, AreKept, HoldsKept, HoldsLiteral, Loads, SameBut, Stored, Stores, kept_at, kept_out, out_loaded, stays, with_stored}
use Rattle.gen_write.specs.Writes.{column_steps, column_with, stored_steps}
use Rattle.gen_write.specs.declared.source.Kept.{Kept}
use Rattle.gen_write.specs.declared.source.Kept.TheVariants as kept
use Rattle.sql_meaning.specs.Expression.{literal_out, value_of}
use Rattle.sql_meaning.specs.Rows.{stored_for, value_for}
use Rattle.sql_words.specs.declared.literal.Literal.{Literal}
use Rattle.sql_words.specs.declared.literal.Literal.TheVariants as literal
use Rattle.sql_meaning.specs.declared.bound.PutColumn.{PutColumn}
use Rattle.vm_code.specs.declared.op.Op.{Op}
use Rattle.vm_code.specs.declared.op.Op.TheVariants as op
use Rattle.vm_code.specs.Draft.{Draft, with_op, taken}
use Rattle.vm_code.specs.declared.open_cursor.Need.{Need}
use Rattle.vm_code.specs.Track.{Meets, OpenSet}
use Rattle.vm_code.specs.Tracked.{GoesOn, Steady}
use Rattle.vm_code.specs.Machine.{On, Setting, State, act, outs_from, put, read, Reaches}
use Rattle.vm_code.specs.Frames.{placed, Grows, Here, Holds, Left, Ready, environment_of, here, with_regs, Given, Leaves}
use Rattle.vm_code.specs.Claims.{Claim, Labels, Last, on, Triple}
use Rattle.vm_code.proofs.Runs.{leads_more, leads_then, reaches_none, reaches_op}
use Rattle.vm_code.proofs.Drafts.{at_op, extends, g_op, g_taken, grows_none, grows_then, long_op}
use Rattle.vm_code.proofs.Tracks.{st_none, st_op, st_taken, st_then, st_wider}
use Rattle.vm_code.proofs.Registers.{outs_same}
use Rattle.vm_code.proofs.Triples.{ready_less}

-- ---- a value is loaded

-- what is loaded of a row's values is the one at the place
pub loaded_is : (env : Environment) (row : List Kept) (values : List Value) (q : List Out) (place : Option ℕ) → map (kept_out q) row ≡ map Good values → out_loaded q (kept_at row place) ≡ value_for env values place None
loaded_is env row values q None e = refl
loaded_is env row values q (Some place) e = by row values place e
  where
    by : (row : List Kept) (values : List Value) (k : ℕ) → map (kept_out q) row ≡ map Good values → out_loaded q (slice_get row k) ≡ Good (slice_index_or values k Null)
    by [] [] k e = refl
    by [] (v ∷ values) k e = cc
    by (x ∷ row) [] k e = cc
    by (x ∷ row) (v ∷ values) zero e = cc
    by (x ∷ row) (v ∷ values) (suc k) e = by row values k (cc)

-- by one instruction
pub loads_op : (given : Given) (d : Draft) (o : Op) (to : ℕ) (k : Option Kept) → GoesOn o → to < d.next → d.next ≤ d.most → ((m : Setting) (at : ℕ → ℕ) (s : State) → act m (Some (placed at o)) s ≡ put s to (out_loaded s.regs k)) → Loads given d (with_op d o) to k
loads_op given d o to k plain lt counted law = record {
  grows = g_op d o;
  next = refl;
  steady = st_op given.needs [] d o plain;
  loads = λ m called u at h s room start.
      let v = out_loaded s.regs k in
      let last : State = record s { pc = length d.code + 1; regs = slice_set s.regs to v } in
      let way : Reaches m 1 s last = reaches_op m s last u (length d.code) (placed at o) room.unit start (at_op d o m.prog u at h) (law m at s ∙ ap (λ p. On (record s { pc = p + 1; regs = slice_set s.regs to v })) start) in
      record {
        regs = slice_set s.regs to v;
        way = subst (λ p. Reaches m 1 s (record s { pc = p; regs = slice_set s.regs to v })) (sym (long_op d o)) way;
        long = length-set s.regs to v;
        has = get_or-set_same s.regs to v _ (omega (arith, room.regs, lt, counted));
        keeps = λ j below ne. get_or-set_other s.regs to j v _ ne;
      };
}

pub loads_null : (given : Given) (d : Draft) (to : ℕ) → to < d.next → d.next ≤ d.most → Loads given d (with_op d (op.Null to)) to None
loads_null given d to lt counted = loads_op given d (op.Null to) to None (refl, refl) lt counted (λ m at s. refl)

pub loads_register : (given : Given) (d : Draft) (r to : ℕ) → to < d.next → d.next ≤ d.most → Loads given d (with_op d (op.Copy r to)) to (Some (kept.Register r))
loads_register given d r to lt counted =
    loads_op given d (op.Copy r to) to (Some (kept.Register r)) (refl, refl) lt counted (λ m at s. refl)

-- by the code of a literal
pub loads_literal : {given : Given} {a b : Draft} (to : ℕ) (k : Kept) (l : Literal) → ((regs : List Out) → kept_out regs k ≡ literal_out l) → Leaves given a b to (λ env. literal_out l) (λ env. 1) → Loads given a b to (Some k)
loads_literal to k l is x = record {
  grows = x.grows;
  next = x.next;
  steady = x.steady;
  loads = λ m called u at h s room start.
      let y = x.leaves m called u at h s room start in
      record {
        regs = y.regs;
        way = y.way;
        long = y.long;
        has = y.has ∙ sym (is s.regs);
        keeps = y.keeps;
      };
}

-- ---- columns

pub stores_none : (given : Given) (a : Draft) (causes : ℕ) (row : List Kept) → a.next ≤ a.most → Stores given a a causes row []
stores_none given a causes row counted = record {
  grows = grows_none a;
  next = omega arith;
  counted = counted;
  steady = st_none given.needs [] a;
  stores = λ m called u at h s room start values kept_now. record {
    regs = s.regs;
    way = subst (λ p. Reaches m 0 s (record s { pc = p })) start (reaches_none m s);
    long = refl;
    has = refl;
    gathers = refl;
    keeps = λ k lt ne. refl;
  };
}

outs_append : (r : List Out) (n k first : ℕ) → outs_from r first (n + k) ≡ outs_from r first n ++ outs_from r (first + n) k
outs_append r zero k first =
    let count : 0 + k ≡ k = omega arith in
    let place : first ≡ first + 0 = omega arith in
    ap (outs_from r first) count ∙ ap (λ j. outs_from r j k) place
outs_append r (suc n) k first =
    let count : suc n + k ≡ suc (n + k) = omega arith in
    let place : first + 1 + n ≡ first + suc n = omega arith in
    ap (outs_from r first) count
    ∙ ap (λ l. read r first ∷ l) (outs_append r n k (first + 1))
    ∙ ap (λ j. read r first ∷ (outs_from r (first + 1) n ++ outs_from r j k)) place

outs_both : (r : List Out) (first : ℕ) (os ps : List Out) → outs_from r first (length os) ≡ os → outs_from r (first + length os) (length ps) ≡ ps → outs_from r first (length (os ++ ps)) ≡ os ++ ps
outs_both r first os ps old new =
    ap (outs_from r first) (length-append os ps)
    ∙ outs_append r (length os) (length ps) first
    ∙ ap (λ z. z ++ outs_from r (first + length os) (length ps)) old
    ∙ ap (λ z. os ++ z) new

-- as many as there are columns
pub stored-long : (env : Environment) (columns : List PutColumn) (values : List Value) → length (stored_for env columns values) ≡ length columns
stored-long env columns values =
    length-map columns (λ (c : PutColumn). turned (store_as c.affinity) (value_for env values c.place c.default))

pub stored-append : (env : Environment) (xs ys : List PutColumn) (values : List Value) → stored_for env (xs ++ ys) values ≡ stored_for env xs values ++ stored_for env ys values
stored-append env xs ys values = map-append (λ (c : PutColumn). turned (store_as c.affinity) (value_for env values c.place c.default)) xs ys

-- some columns and then others
pub stores_then : {given : Given} {a b c : Draft} (causes : ℕ) (row : List Kept) (xs ys : List PutColumn) → causes < a.next → Stores given a b causes row xs → Stores given b c causes row ys → Stores given a c causes row (xs ++ ys)
stores_then {given} {a} {b} {c} causes row xs ys below x y = record {
  grows = grows_then x.grows y.grows;
  next = omega (arith, x.next, y.next, length-append xs ys);
  counted = y.counted;
  steady = st_then x.grows x.steady y.steady;
  stores = λ m called u at h s room start values kept_now.
      let env = environment_of m (here s) in
      let os = stored_for env xs values in
      let ps = stored_for env ys values in
      let outs : stored_for env (xs ++ ys) values ≡ os ++ ps = stored-append env xs ys values in
      let long_os : length os ≡ length xs = stored-long env xs values in
      let l = x.stores m called u at (y.grows.holds m.prog u at h) s (ready_less room y.grows.most y.grows.cursors) start values kept_now in
      let t : State = record s { pc = length b.code; regs = l.regs } in
      let kept_then : AreKept causes b.next row values t.regs = λ q same. kept_now q (λ k lt ne. same k (omega (arith, lt, x.next)) ne ∙ l.keeps k lt ne) in
      let v = y.stores m called u at h t (record { unit = room.unit; regs = omega (arith, room.regs, l.long); cursors = room.cursors; sound = room.sound }) refl values kept_then in
      let old : outs_from v.regs a.next (length os) ≡ os = outs_same v.regs l.regs (length os) a.next (λ k le lt. v.keeps k (omega (arith, x.next, lt, long_os)) (omega (arith, le, below))) ∙ l.has in
      let place : a.next + length os ≡ b.next = omega (arith, x.next, long_os) in
      let new : outs_from v.regs (a.next + length os) (length ps) ≡ ps = ap (λ j. outs_from v.regs j (length ps)) place ∙ v.has in
      record {
        regs = v.regs;
        way = leads_more m (sum_by column_steps (xs ++ ys)) (omega (arith, sum_by-append column_steps xs ys)) (leads_then m l.way v.way);
        long = v.long ∙ l.long;
        has = subst (λ z. outs_from v.regs a.next (length z) ≡ z) (sym outs) (outs_both v.regs a.next os ps old new);
        gathers = v.gathers ∙ ap (λ o. fold with_causes o ps) l.gathers ∙ sym (fold-append with_causes (read s.regs causes) os ps) ∙ ap (fold with_causes (read s.regs causes)) (sym outs);
        keeps = λ k lt ne. v.keeps k (omega (arith, x.next, lt)) ne ∙ l.keeps k lt ne;
      };
}

-- where more is so of cursors
pub stores_wider : {given : Given} {a b : Draft} {causes : ℕ} {row : List Kept} {columns : List PutColumn} (more : List Need) → ((xs : OpenSet) → All (Meets xs) more → All (Meets xs) given.needs) → Stores given a b causes row columns → Stores (record given { needs = more }) a b causes row columns
stores_wider more wider x = record {
  grows = x.grows;
  next = x.next;
  counted = x.counted;
  steady = st_wider wider x.steady;
  stores = x.stores;
}

-- ---- one column

-- code that leaves in a register what is to be stored
abbrev pub LeavesFor : Given → Draft → Draft → ℕ → ℕ → List Kept → (Environment → List Value → Out) → ℕ → Type 0
LeavesFor given a z to causes row f most =
    (m : Setting) → given.calls m → (u : ℕ) (at : ℕ → ℕ) → Holds z m.prog u at → (s : State) → Ready z u s → s.pc ≡ length a.code → (values : List Value) → AreKept causes a.next row values s.regs
    → Left m most s (length z.code) (a.next + 1) to (f (environment_of m (here s)) values)

pub loads_for : {given : Given} (a : Draft) {z : Draft} (to causes : ℕ) (row : List Kept) (place : Option ℕ) → Loads given (taken a) z to (kept_at row place) → LeavesFor given a z to causes row (λ env values. value_for env values place None) 1
loads_for a to causes row place x m called u at h s room start values kept_now =
    let l = x.loads m called u at h s room start in
    record {
      regs = l.regs;
      way = l.way;
      long = l.long;
      has = l.has ∙ loaded_is (environment_of m (here s)) row values s.regs place (kept_now s.regs (λ k lt ne. refl));
      keeps = l.keeps;
    }

pub default_for : {given : Given} (a : Draft) {z : Draft} (to causes : ℕ) (row : List Kept) (x : BoundExpr) → Leaves given (taken a) z to (λ env. value_of x env) (λ env. steps_of x) → LeavesFor given a z to causes row (λ env values. value_for env values None (Some x)) (steps_of x)
default_for a to causes row e x m called u at h s room start values kept_now = x.leaves m called u at h s room start

pub stores_column : {given : Given} {a z : Draft} (c : PutColumn) (row : List Kept) (to causes most : ℕ) → to ≡ a.next → causes < a.next → a.next ≤ a.most → most + 2 ≤ column_steps c → Grows (taken a) z → z.next ≡ a.next + 1 → Steady given.needs [] (taken a) z → LeavesFor given a z to causes row (λ env values. value_for env values c.place c.default) most → Stores given a (with_stored z c.affinity to causes) causes row (c ∷ [])
stores_column {given} {a} {z} c row to causes most to_is below counted few grows next steady x =
    let affinity = op.Affinity to c.affinity in
    let merge = op.Merge to causes in
    let b = with_op z affinity in
    record {
      grows = grows_then (g_taken a) (grows_then grows (grows_then (g_op z affinity) (g_op b merge)));
      next = omega (arith, next);
      counted = omega (arith, next, grows.most);
      steady = st_then (g_taken a) (st_taken given.needs [] a) (st_then grows steady (st_then (g_op z affinity) (st_op given.needs [] z affinity (refl, refl)) (st_op given.needs [] b merge (refl, refl))));
      stores = λ m called u at h s room start values kept_now.
          let out = turned (store_as c.affinity) (value_for (environment_of m (here s)) values c.place c.default) in
          let hb = (g_op b merge).holds m.prog u at h in
          let hz = (g_op z affinity).holds m.prog u at hb in
          let l = x m called u at hz s (ready_less room (omega arith) (omega arith)) start values kept_now in
          let long : to < length l.regs = omega (arith, l.long, room.regs, grows.most, to_is) in
          let turned_out = turned (store_as c.affinity) (read l.regs to) in
          let q = slice_set l.regs to turned_out in
          let stored : read q to ≡ out = get_or-set_same l.regs to turned_out _ long ∙ ap (turned (store_as c.affinity)) l.has in
          let v = merged (read q to) (read q causes) in
          let t : State = record s { pc = length z.code; regs = l.regs } in
          let then : State = record t { pc = length z.code + 1; regs = q } in
          let then_at : State = record then { pc = length b.code } in
          let last : State = record then { pc = length b.code + 1; regs = slice_set q causes v } in
          let first_way : Reaches m 1 t then = reaches_op m t then u (length z.code) affinity room.unit refl (at_op z affinity m.prog u at hb) refl in
          let first_at : Reaches m 1 t then_at = subst (λ p. Reaches m 1 t (record then { pc = p })) (sym (long_op z affinity)) first_way in
          let way : Reaches m 1 then_at last = reaches_op m then_at last u (length b.code) merge room.unit refl (at_op b merge m.prog u at h) refl in
          let fits : causes < length q = omega (arith, length-set l.regs to turned_out, long, to_is, below) in
          let apart : causes ≢ to = omega (arith, to_is, below) in
          let same : read q causes ≡ read s.regs causes = get_or-set_other l.regs to causes turned_out _ apart ∙ l.keeps causes (omega arith) apart in
          record {
            regs = slice_set q causes v;
            way = subst (λ p. Reaches m (sum_by column_steps (c ∷ [])) s (record s { pc = p; regs = slice_set q causes v })) (sym (long_op b merge)) (leads_more m (sum_by column_steps (c ∷ [])) (omega (arith, few)) (leads_then m l.way (leads_then m first_at way)));
            long = length-set q causes v ∙ length-set l.regs to turned_out ∙ l.long;
            has = ap (λ o. o ∷ []) (get_or-set_other q causes a.next v _ (omega (arith, below)) ∙ ap (read q) (sym to_is) ∙ stored);
            gathers = get_or-set_same q causes v _ fits ∙ ap (λ o. merged o (read q causes)) stored ∙ ap (merged out) same;
            keeps = λ k lt ne. get_or-set_other q causes k v _ ne ∙ get_or-set_other l.regs to k turned_out _ (omega (arith, to_is, lt)) ∙ l.keeps k (omega arith) (omega (arith, to_is, lt));
          };
    }

-- the same of a column that takes the same value
pub stores_as : {given : Given} {a b : Draft} (causes : ℕ) (row : List Kept) (c d : PutColumn) → ((env : Environment) (values : List Value) → stored_for env (c ∷ []) values ≡ stored_for env (d ∷ []) values) → column_steps c ≤ column_steps d → Stores given a b causes row (c ∷ []) → Stores given a b causes row (d ∷ [])
stores_as {given} {a} {b} causes row c d same few x = record {
  grows = x.grows;
  next = x.next;
  counted = x.counted;
  steady = x.steady;
  stores = λ m called u at h s room start values kept_now.
      let l = x.stores m called u at h s room start values kept_now in
      subst (Stored m (sum_by column_steps (d ∷ [])) s (length b.code) a.next causes) (same (environment_of m (here s)) values) (record {
        regs = l.regs;
        way = leads_more m (sum_by column_steps (d ∷ [])) (omega (arith, few)) l.way;
        long = l.long;
        has = l.has;
        gathers = l.gathers;
        keeps = l.keeps;
      });
}

pub held_as : (row : List Kept) (c d : PutColumn) → ((env : Environment) (values : List Value) → stored_for env (c ∷ []) values ≡ stored_for env (d ∷ []) values) → AreHeld row (c ∷ []) → AreHeld row (d ∷ [])
held_as row c d same x q values env kept_now = ap (fold with_causes no_causes) (sym (same env values)) ∙ x q values env kept_now

-- ---- what is held

stays_is : (a : Affinity) (v : Value) → stays a v ≡ true → store_as a v ≡ Good v
unfolding store_as
stays_is affinity.Integer Null e = refl
stays_is affinity.Integer (Integer n) e = refl
stays_is affinity.Integer (Text t) e = absurd (cc)
stays_is affinity.Integer (Blob t) e = refl
stays_is affinity.Numeric Null e = refl
stays_is affinity.Numeric (Integer n) e = refl
stays_is affinity.Numeric (Text t) e = absurd (cc)
stays_is affinity.Numeric (Blob t) e = refl
stays_is affinity.Real v e = absurd (cc)
stays_is affinity.Text Null e = refl
stays_is affinity.Text (Integer n) e = absurd (cc)
stays_is affinity.Text (Text t) e = refl
stays_is affinity.Text (Blob t) e = refl
stays_is affinity.Blob v e = refl
stays_is affinity.None v e = refl

held_place : (a : Affinity) (k : Option Kept) (v : Out) (q : List Out) → HoldsKept a k → out_loaded q k ≡ v → (w : Value) × (v ≡ Good w) × (turned (store_as a) v ≡ v)
held_place a None v q h e = (Null, sym e, ap (turned (store_as a)) (sym e) ∙ stays_is a Null h ∙ e)
held_place a (Some (kept.Literal l)) v q h e = by l.now h e
  where
    by : (l : Literal) → HoldsLiteral a l → literal_out l ≡ v → (w : Value) × (v ≡ Good w) × (turned (store_as a) v ≡ v)
    by (literal.Value w) h e = (w, sym e, ap (turned (store_as a)) (sym e) ∙ stays_is a w h ∙ e)
    by (literal.Bad why) h e = absurd h
held_place a (Some (kept.Register r)) v q h e = absurd h

-- a column that stores its value as it is
pub held_one : (a : Affinity) (place : Option ℕ) (row : List Kept) → HoldsKept a (kept_at row place) → AreHeld row (column_with a place None ∷ [])
held_one a place row h q values env same =
    let known = held_place a (kept_at row place) (value_for env values place None) q h (loaded_is env row values q place same) in
    ap (λ o. with_causes no_causes o) (known.2 ∙ known.1)

pub stores_held : {given : Given} {a z : Draft} (affinity : Affinity) (place : Option ℕ) (row : List Kept) (to causes : ℕ) → to ≡ a.next → causes < a.next → a.next ≤ a.most → HoldsKept affinity (kept_at row place) → Loads given (taken a) z to (kept_at row place) → Stores given a z causes row (column_with affinity place None ∷ [])
stores_held {given} {a} {z} affinity place row to causes to_is below counted held x =
    let few : 1 ≤ column_steps (column_with affinity place None) = one_within place in
    record {
      grows = grows_then (g_taken a) x.grows;
      next = omega (arith, x.next);
      counted = omega (arith, x.next, x.grows.most);
      steady = st_then (g_taken a) (st_taken given.needs [] a) x.steady;
      stores = λ m called u at h s room start values kept_now.
          let env = environment_of m (here s) in
          let same = kept_now s.regs (λ k lt ne. refl) in
          let known = held_place affinity (kept_at row place) (value_for env values place None) s.regs held (loaded_is env row values s.regs place same) in
          let l = loads_for a to causes row place x m called u at h s (ready_less room (omega arith) (omega arith)) start values kept_now in
          let apart : causes ≢ to = omega (arith, to_is, below) in
          record {
            regs = l.regs;
            way = leads_more m (sum_by column_steps (column_with affinity place None ∷ [])) (omega (arith, few)) l.way;
            long = l.long;
            has = ap (λ o. o ∷ []) (ap (read l.regs) (sym to_is) ∙ l.has ∙ sym known.2);
            gathers = l.keeps causes (omega arith) apart ∙ sym (ap (λ o. with_causes (read s.regs causes) o) (known.2 ∙ known.1));
            keeps = λ k lt ne. l.keeps k (omega arith) (omega (arith, to_is, lt));
          };
    }
  where
    one_within : (place : Option ℕ) → 1 ≤ stored_steps place None
    one_within None = omega arith
    one_within (Some k) = omega arith

pub value_few : (affinity : Affinity) (place : Option ℕ) → 1 + 2 ≤ column_steps (column_with affinity place None)
value_few affinity None = omega arith
value_few affinity (Some k) = omega arith

pub held_none : (row : List Kept) → AreHeld row []
held_none row q values env same = refl

pub held_then : (row : List Kept) (xs ys : List PutColumn) → AreHeld row xs → AreHeld row ys → AreHeld row (xs ++ ys)
held_then row xs ys x y q values env same =
    ap (fold with_causes no_causes) (stored-append env xs ys values)
    ∙ fold-append with_causes no_causes (stored_for env xs values) (stored_for env ys values)
    ∙ ap (λ o. fold with_causes o (stored_for env ys values)) (x q values env same)
    ∙ y q values env same

-- a column more of a list
pub held_next : (row : List Kept) (all : List PutColumn) (i : ℕ) (d : PutColumn) → i < length all → AreHeld row (take i all) → AreHeld row (get_or all i d ∷ []) → AreHeld row (take (i + 1) all)
held_next row all i d lt x y = subst (AreHeld row) (sym (take_more all i d lt)) (held_then row (take i all) (get_or all i d ∷ []) x y)

-- code that stores columns, inside another stretch
pub t_stores : (m : Setting) {given : Given} {a b : Draft} {causes : ℕ} {row : List Kept} {columns : List PutColumn} (called : given.calls m) (values : List Value) (g : Labels) (e : Last) (p q : Claim) → Stores given a b causes row columns → ((h0 h : Here) → p h0 h → AreKept causes a.next row values h.regs) → ((h0 h : Here) (regs : List Out) → p h0 h → let outs = stored_for (environment_of m h) columns values in outs_from regs a.next (length outs) ≡ outs → read regs causes ≡ fold with_causes (read h.regs causes) outs → SameBut causes a.next h.regs regs → q h0 (with_regs h regs)) → Triple m a b (λ h0. sum_by column_steps columns) g e p q
t_stores m called values g e p q x kept_now goes = record {
  extends = extends x.grows;
  runs = λ u at h h0 s room start pre.
      let l = x.stores m called u at h s room start values (kept_now h0 (here s) pre) in
      on (record {
        regs = l.regs;
        scene = s.scene;
        store = s.store;
        shared = s.shared;
        way = l.way;
        long = l.long;
        wide = refl;
        holds = goes h0 (here s) l.regs pre l.has l.gathers l.keeps;
      });
}

-- the next column
pub stores_next : {given : Given} {a b c : Draft} (causes : ℕ) (row : List Kept) (columns : List PutColumn) (i : ℕ) (default : PutColumn) → causes < a.next → i < length columns → Stores given a b causes row (take i columns) → Stores given b c causes row (get_or columns i default ∷ []) → Stores given a c causes row (take (i + 1) columns)
stores_next {given} {a} {b} {c} causes row columns i default below lt x y =
    subst (Stores given a c causes row) (sym (take_more columns i default lt)) (stores_then causes row (take i columns) (get_or columns i default ∷ []) below x y)
