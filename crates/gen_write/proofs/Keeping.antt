-- The source is evaluated and kept.
use Rattle.std.proofs.Common.{All, ◌≡◌, ℕ, ◌+◌, ◌≤◌, ◌<◌, List, [], ◌∷◌, ◌++◌, true, false, length, map, fold, sum_by, Some, None, refl, sym, ap, ◌∙◌, subst, arith, ⊎_elim, length-append}
use Rattle.std.specs.Prelude.{slice_set}
use Rattle.std.specs.declared.option.Option.{Option}
use Rattle.std.proofs.Math.ListN.{length-set}
use Rattle.std.proofs.lemmas.Bool.{cases_lt}
use Rattle.std.proofs.lemmas.List.{get_or-set_same, get_or-set_other, map-append}
use Rattle.std.proofs.lemmas.List.Sums.{fold-append, sum_by_push}
use Rattle.bound_tree.specs.Exprs as e
use Rattle.bound_tree.specs.Exprs.{BoundExpr}
use Rattle.eng_value.specs.Applied.{merged}
use Rattle.eng_value.specs.Causes.{CauseSet}
use Rattle.eng_value.specs.Environments.{Environment, no_causes, with_causes}
use Rattle.eng_value.specs.declared.out.Out.{Out}
use Rattle.eng_value.specs.declared.out.Out.TheVariants.{Good}
use Rattle.eng_value.specs.declared.value.Value.{Value}
use Rattle.gen_expr.specs.Steps.{steps_of}
use Rattle.gen_write.specs.Stretches.{AreAllKept, Held, KeepsRows, KeepsValues, SameBut, Sourced, SourcedBy, items_for, kept_out, values_in, with_bad_refused}
use Rattle.gen_write.specs.Writes.{plain_literal, plain_of, read_steps, steps_unless, value_steps}
use Rattle.gen_write.specs.declared.source.Kept.{Kept}
use Rattle.gen_write.specs.declared.source.Kept.TheVariants as kept
use Rattle.gen_write.proofs.Causing.{calm-good, given_of-append, item-bad, item-good, refusal_of-append, refusal_of-bad}
use Rattle.gen_write.proofs.Sizing.{refused-busy, refused-more}
use Rattle.gen_write.proofs.Refusals.{grows_refused, steady_refused, t_refused}
use Rattle.sql_meaning.specs.Expression.{literal_out, value_of}
use Rattle.sql_meaning.specs.Statement as meaning
use Rattle.sql_meaning.specs.Statement.{Item, Row, Failed, given_of, item_of, refusal_of, shown}
use Rattle.sql_words.specs.declared.literal.Literal.{Literal}
use Rattle.sql_words.specs.declared.literal.Literal.TheVariants as literal
use Rattle.vm_code.specs.declared.op.Op.TheVariants as op
use Rattle.vm_code.specs.Draft.{Draft, taken, with_op}
use Rattle.vm_code.specs.declared.open_cursor.Need.{Need}
use Rattle.vm_code.specs.Track.{Meets, OpenSet}
use Rattle.vm_code.specs.Machine.{GivesUp, Leads, Reaches, Setting, State, is_bad, leads_to, leaving_of, read}
use Rattle.vm_code.specs.Frames.{Given, Gave, Here, Leaves, environment_of, here, there}
use Rattle.vm_code.specs.Claims.{Claim, Exits, Last, off, on, ends}
use Rattle.vm_code.proofs.Runs.{leads_more, leads_then, reaches_none, reaches_op}
use Rattle.vm_code.proofs.Drafts.{at_op, g_op, g_taken, grows_none, grows_then, long_op}
use Rattle.vm_code.proofs.Tracks.{st_none, st_op, st_taken, st_then, st_wider}
use Rattle.vm_code.proofs.Triples.{ready_less}

-- ---- the expressions of a row

pub keeps_none : (given : Given) (a : Draft) (causes : ℕ) → a.next ≤ a.most → KeepsValues given a a causes [] []
keeps_none given a causes counted = record {
  grows = grows_none a;
  next = omega arith;
  counted = counted;
  steady = st_none given.needs [] a;
  calm = λ same env. refl;
  busy = λ lt. absurd (omega (arith, lt));
  keeps = λ m called u at h s room start. record {
    regs = s.regs;
    way = subst (λ p. Reaches m 0 s (record s { pc = p })) start (reaches_none m s);
    long = refl;
    has = λ q same. refl;
    gathers = refl;
    keeps = λ k lt ne. refl;
  };
}

-- some and then one more
pub keeps_then : {given : Given} {a b c : Draft} (causes : ℕ) (es : List BoundExpr) (e : BoundExpr) (row : List Kept) (k : Kept) → causes < a.next → KeepsValues given a b causes es row → KeepsValues given b c causes (e ∷ []) (k ∷ []) → KeepsValues given a c causes (es ++ e ∷ []) (row ++ k ∷ [])
keeps_then {given} {a} {b} {c} causes es e row k below x y = record {
  grows = grows_then x.grows y.grows;
  next = omega (arith, x.next, y.next);
  counted = y.counted;
  steady = st_then x.grows x.steady y.steady;
  calm = λ same env.
      let first = x.calm (omega (arith, same, x.next, y.next)) env in
      let last = y.calm (omega (arith, same, x.next, y.next)) env in
      ap (fold with_causes no_causes) (map-append (λ e. value_of e env) es (e ∷ [])) ∙ fold-append with_causes no_causes (values_in es env) (values_in (e ∷ []) env) ∙ ap (λ o. fold with_causes o (values_in (e ∷ []) env)) first ∙ last;
  busy = λ lt.
      let more = sum_by_push value_steps es e in
      ⊎_elim (λ below_b. omega (arith, x.busy below_b, more)) (λ le. omega (arith, y.busy (omega (arith, lt, le)), more)) (cases_lt a.next b.next);
  keeps = λ m called u at h s room start.
      let env = environment_of m (here s) in
      let l = x.keeps m called u at (y.grows.holds m.prog u at h) s (ready_less room y.grows.most y.grows.cursors) start in
      let t : State = record s { pc = length b.code; regs = l.regs } in
      let v = y.keeps m called u at h t (record { unit = room.unit; regs = omega (arith, room.regs, l.long); cursors = room.cursors; sound = room.sound }) refl in
      let outs = map-append (λ e. value_of e env) es (e ∷ []) in
      record {
        regs = v.regs;
        way = leads_more m (sum_by value_steps (es ++ e ∷ [])) (omega (arith, sum_by_push value_steps es e)) (leads_then m l.way v.way);
        long = v.long ∙ l.long;
        has = λ q same.
            map-append (kept_out q) row (k ∷ [])
            ∙ ap (λ z. z ++ map (kept_out q) (k ∷ [])) (l.has q (λ j lt ne. same j (omega (arith, lt, y.next)) ne ∙ v.keeps j lt ne))
            ∙ ap (λ z. values_in es env ++ z) (v.has q same)
            ∙ sym outs;
        gathers = v.gathers ∙ ap (λ o. fold with_causes o (values_in (e ∷ []) env)) l.gathers ∙ sym (fold-append with_causes (read s.regs causes) (values_in es env) (values_in (e ∷ []) env)) ∙ ap (fold with_causes (read s.regs causes)) (sym outs);
        keeps = λ j lt ne. v.keeps j (omega (arith, x.next, lt)) ne ∙ l.keeps j lt ne;
      };
}

-- where more is so of cursors
pub keeps_wider : {given : Given} {a b : Draft} {causes : ℕ} {es : List BoundExpr} {row : List Kept} (more : List Need) → ((xs : OpenSet) → All (Meets xs) more → All (Meets xs) given.needs) → KeepsValues given a b causes es row → KeepsValues (record given { needs = more }) a b causes es row
keeps_wider more wider x = record {
  grows = x.grows;
  next = x.next;
  counted = x.counted;
  steady = st_wider wider x.steady;
  calm = x.calm;
  busy = x.busy;
  keeps = x.keeps;
}

-- a literal that has a value comes to that
plain_is : (l k : Literal) → plain_of l ≡ Some k → (v : Value) × (literal_out l ≡ Good v) × (literal_out k ≡ Good v)
plain_is (literal.Value v) k e = let same : literal.Value v ≡ k = cc in (v, refl, ap literal_out (sym same))
plain_is (literal.Bad why) k e = cc

plain_value : (x : BoundExpr) (k : Literal) → plain_literal x ≡ Some k → (v : Value) × ((env : Environment) → value_of x env ≡ Good v) × (literal_out k ≡ Good v)
plain_value (e.Literal l) k is = let known = plain_is l k is in (known.0, (λ env. known.1), known.2)
plain_value other k is = cc

-- one that is loaded where it is put
pub keeps_plain : (given : Given) (a : Draft) (causes : ℕ) (e : BoundExpr) (k : Kept) (l : Literal) → a.next ≤ a.most → plain_literal e ≡ Some l → ((regs : List Out) → kept_out regs k ≡ literal_out l) → KeepsValues given a a causes (e ∷ []) (k ∷ [])
keeps_plain given a causes e k l counted is kept_is =
    let known = plain_value e l is in
    record {
      grows = grows_none a;
      next = omega arith;
      counted = counted;
      steady = st_none given.needs [] a;
      calm = λ same env. ap (λ o. with_causes no_causes o) (known.1 env);
      busy = λ lt. absurd (omega (arith, lt));
      keeps = λ m called u at h s room start. record {
        regs = s.regs;
        way = leads_more m (sum_by value_steps (e ∷ [])) (omega arith) (subst (λ p. Reaches m 0 s (record s { pc = p })) start (reaches_none m s));
        long = refl;
        has = λ q same. ap (λ o. o ∷ []) (kept_is q ∙ known.2 ∙ sym (known.1 (environment_of m (here s))));
        gathers = sym (ap (λ o. with_causes (read s.regs causes) o) (known.1 (environment_of m (here s))));
        keeps = λ j lt ne. refl;
      };
    }

-- one that is kept in a register
pub keeps_register : {given : Given} {a z : Draft} (causes r : ℕ) (e : BoundExpr) → plain_literal e ≡ None → r ≡ a.next → causes < a.next → a.next ≤ a.most → Leaves given (taken a) z r (λ env. value_of e env) (λ env. steps_of e) → KeepsValues given a (with_op z (op.Merge r causes)) causes (e ∷ []) (kept.Register r ∷ [])
keeps_register {given} {a} {z} causes r e other r_is below counted x = record {
  grows = grows_then (g_taken a) (grows_then x.grows (g_op z (op.Merge r causes)));
  next = omega (arith, x.next);
  counted = omega (arith, x.next, x.grows.most);
  steady = st_then (g_taken a) (st_taken given.needs [] a) (st_then x.grows x.steady (st_op given.needs [] z (op.Merge r causes) (refl, refl)));
  calm = λ same env. absurd (omega (arith, same, x.next));
  busy = λ lt. omega (arith, ap (λ o. steps_unless o (steps_of e)) other);
  keeps = λ m called u at h s room start.
      let env = environment_of m (here s) in
      let cost : steps_of e + 1 ≤ sum_by value_steps (e ∷ []) = omega (arith, ap (λ o. steps_unless o (steps_of e)) other) in
      let hz = (g_op z (op.Merge r causes)).holds m.prog u at h in
      let q = x.leaves m called u at hz s (ready_less room (omega arith) (omega arith)) start in
      let v = merged (read q.regs r) (read q.regs causes) in
      let t : State = record s { pc = length z.code; regs = q.regs } in
      let last : State = record t { pc = length z.code + 1; regs = slice_set q.regs causes v } in
      let way : Reaches m 1 t last = reaches_op m t last u (length z.code) (op.Merge r causes) room.unit refl (at_op z (op.Merge r causes) m.prog u at h) refl in
      let fits : causes < length q.regs = omega (arith, q.long, room.regs, x.grows.most, below, counted) in
      let same : read q.regs causes ≡ read s.regs causes = q.keeps causes (omega arith) (omega (arith, r_is, below)) in
      record {
        regs = slice_set q.regs causes v;
        way = subst (λ k. Reaches m (sum_by value_steps (e ∷ [])) s (record s { pc = k; regs = slice_set q.regs causes v })) (sym (long_op z (op.Merge r causes))) (leads_more m (sum_by value_steps (e ∷ [])) cost (leads_then m q.way way));
        long = length-set q.regs causes v ∙ q.long;
        has = λ w kept_same. ap (λ o. o ∷ []) (kept_same r (omega (arith, r_is, x.next)) (omega (arith, r_is, below)) ∙ get_or-set_other q.regs causes r v _ (omega (arith, r_is, below)) ∙ q.has);
        gathers = get_or-set_same q.regs causes v _ fits ∙ ap (λ o. merged o (read q.regs causes)) q.has ∙ ap (merged (value_of e env)) same;
        keeps = λ k lt ne. get_or-set_other q.regs causes k v _ ne ∙ q.keeps k (omega arith) (omega (arith, r_is, lt));
      };
}

-- ---- a row

-- its values are those of what is kept, where none is bad
values_kept : (causes mark : ℕ) (row : List Kept) (outs : List Out) (regs : List Out) → is_bad (fold with_causes no_causes outs) ≡ false → ((q : List Out) → SameBut causes mark regs q → map (kept_out q) row ≡ outs) → AreAllKept causes mark (row ∷ []) (map meaning.good_or_null outs ∷ []) regs
values_kept causes mark row outs regs e has = λ q same. ap (λ l. l ∷ []) (has q same ∙ (calm-good outs e).1)

-- a good one
sourced_good : (m : Setting) (most : ℕ) (s : State) (place low high causes : ℕ) (row : List Kept) (outs : List Out) → is_bad (fold with_causes no_causes outs) ≡ false → read s.regs causes ≡ no_causes → Held m most s place low high causes row outs → SourcedBy m most s place low high causes (row ∷ []) (refusal_of (item_of no_causes outs ∷ [])) (given_of (item_of no_causes outs ∷ []))
sourced_good m most s place low high causes row outs e calm l =
    subst (λ i. SourcedBy m most s place low high causes (row ∷ []) (refusal_of (i ∷ [])) (given_of (i ∷ []))) (sym (item-good outs e)) (record {
      regs = l.regs;
      way = l.way;
      long = l.long;
      has = values_kept causes high row outs l.regs e l.has;
      calm = l.gathers ∙ ap (λ o. fold with_causes o outs) calm ∙ (calm-good outs e).0;
      keeps = l.keeps;
    })

-- one that takes no register is good
pub keeps_row_calm : {given : Given} {a b : Draft} (causes : ℕ) (es : List BoundExpr) (row : List Kept) → b.next ≤ a.next → KeepsValues given a b causes es row → KeepsRows given a b causes (es ∷ []) (row ∷ [])
keeps_row_calm {given} {a} {b} causes es row none x = record {
  grows = x.grows;
  next = x.next;
  counted = x.counted;
  steady = x.steady;
  wide = refl;
  keeps = λ m called u at h s room start calm.
      let env = environment_of m (here s) in
      let l = x.keeps m called u at h s room start in
      let good = ap is_bad (x.calm (omega (arith, none, x.next)) env) in
      sourced_good m (sum_by read_steps (es ∷ [])) s (length b.code) a.next b.next causes row (values_in es env) good calm (record {
        regs = l.regs;
        way = leads_more m (sum_by read_steps (es ∷ [])) (omega (arith, refused-more (sum_by value_steps es))) l.way;
        long = l.long;
        has = l.has;
        gathers = l.gathers;
        keeps = l.keeps;
      });
}

-- and behind another the unit gives up where it is bad
module _ {given : Given} {a b : Draft} (causes : ℕ) (es : List BoundExpr) (row : List Kept) (takes : a.next < b.next) (x : KeepsValues given a b causes es row) where
  abbrev refused : Draft
  refused = with_bad_refused b causes

  abbrev is_same : Claim
  is_same h0 h = h ≡ h0

  abbrev is_good : Claim
  is_good h0 h = (h ≡ h0) × (is_bad (read h0.regs causes) ≡ false)

  abbrev has_refused : Last
  has_refused h0 o shared = (is_bad (read h0.regs causes) ≡ true) × (o ≡ leaving_of (read h0.regs causes)) × (shared ≡ h0.shared)

  module _ (m : Setting) (at : ℕ → ℕ) (s : State) (calm : read s.regs causes ≡ no_causes) (outs : List Out) (l : Held m (sum_by value_steps es) s (length b.code) a.next b.next causes row outs) where
    abbrev most : ℕ
    most = sum_by read_steps (es ∷ [])

    abbrev middle : State
    middle = record s { pc = length b.code; regs = l.regs }

    within : sum_by value_steps es + 3 ≤ most
    within = omega (arith, refused-busy (sum_by value_steps es) (x.busy takes))

    all : read l.regs causes ≡ fold with_causes no_causes outs
    all = l.gathers ∙ ap (λ o. fold with_causes o outs) calm

    by : Exits m at 3 (λ k h. ⊥) (has_refused (here middle)) middle (length refused.code) (is_good (here middle)) → SourcedBy m most s (length refused.code) a.next b.next causes (row ∷ []) (refusal_of (item_of no_causes outs ∷ [])) (given_of (item_of no_causes outs ∷ []))
    by (off k h) = absurd h.holds
    by (ends o shared z h) =
        let bad = item-bad outs (fold with_causes no_causes outs) (ap is_bad (sym all) ∙ h.0) in
        let leaves : o ≡ GivesUp bad.0 = h.1 ∙ ap leaving_of (all ∙ bad.1) in
        let way : Gave m 3 middle bad.0 s.shared = subst (λ w. Gave m 3 middle bad.0 w) h.2 (subst (λ w. Leads m 3 middle (leads_to w middle.stack shared)) leaves z) in
        subst (λ i. SourcedBy m most s (length refused.code) a.next b.next causes (row ∷ []) (refusal_of (i ∷ [])) (given_of (i ∷ []))) (sym bad.2) (leads_more m most within (leads_then m l.way way))
    by (on h) =
        let same = h.holds.0 in
        sourced_good m most s (length refused.code) a.next b.next causes row outs (ap is_bad (sym all) ∙ h.holds.1) calm (record {
          regs = l.regs;
          way = leads_more m most within (leads_then m l.way (subst (λ (z : Here). Reaches m 3 middle (there middle (length refused.code) z.regs z.scene z.store z.shared)) same h.way));
          long = l.long;
          has = l.has;
          gathers = l.gathers;
          keeps = l.keeps;
        })

  pub keeps_row_refused : KeepsRows given a refused causes (es ∷ []) (row ∷ [])
  keeps_row_refused = record {
    grows = grows_then x.grows (grows_refused b causes);
    next = x.next;
    counted = x.counted;
    steady = st_then x.grows x.steady (steady_refused b causes given.needs);
    wide = refl;
    keeps = λ m called u at h s room start calm.
        let env = environment_of m (here s) in
        let l = x.keeps m called u at ((grows_refused b causes).holds m.prog u at h) s (ready_less room (omega arith) (omega arith)) start in
        let t : State = record s { pc = length b.code; regs = l.regs } in
        let triple = t_refused b causes m has_refused is_same is_good (λ h0 h pre e. (pre, ap (λ (z : Here). is_bad (read z.regs causes)) (sym pre) ∙ e)) (λ h0 h pre e. (ap (λ (z : Here). is_bad (read z.regs causes)) (sym pre) ∙ e, ap (λ (z : Here). leaving_of (read z.regs causes)) pre, ap (λ (z : Here). z.shared) pre)) in
        by m at s calm (values_in es env) l (triple.runs u at h (here t) t (record { unit = room.unit; regs = omega (arith, room.regs, l.long); cursors = room.cursors; sound = room.sound }) refl refl);
  }

-- ---- rows

pub keeps_no_rows : (given : Given) (a : Draft) (causes : ℕ) → a.next ≤ a.most → KeepsRows given a a causes [] []
keeps_no_rows given a causes counted = record {
  grows = grows_none a;
  next = omega arith;
  counted = counted;
  steady = st_none given.needs [] a;
  wide = refl;
  keeps = λ m called u at h s room start calm. record {
    regs = s.regs;
    way = subst (λ p. Reaches m 0 s (record s { pc = p })) start (reaches_none m s);
    long = refl;
    has = λ q same. refl;
    calm = calm;
    keeps = λ k lt ne. refl;
  };
}

-- where more is so of cursors
pub keeps_rows_wider : {given : Given} {a b : Draft} {causes : ℕ} {rows : List (List BoundExpr)} {source : List (List Kept)} (more : List Need) → ((xs : OpenSet) → All (Meets xs) more → All (Meets xs) given.needs) → KeepsRows given a b causes rows source → KeepsRows (record given { needs = more }) a b causes rows source
keeps_rows_wider more wider x = record {
  grows = x.grows;
  next = x.next;
  counted = x.counted;
  steady = st_wider wider x.steady;
  wide = x.wide;
  keeps = x.keeps;
}

-- a stretch behind one that kept the values of rows
module _ (m : Setting) (i n most : ℕ) (within : i + n ≤ most) (s : State) (p1 p2 low middle high causes : ℕ) (le : low ≤ middle) (up : middle ≤ high) (ks ls : List (List Kept)) where
  sourced_more : (rows others : List (List Value)) (l : Sourced m i s p1 low middle causes ks rows) → Sourced m n (record s { pc = p1; regs = l.regs }) p2 middle high causes ls others → Sourced m most s p2 low high causes (ks ++ ls) (rows ++ others)
  sourced_more rows others l v = record {
    regs = v.regs;
    way = leads_more m most within (leads_then m l.way v.way);
    long = v.long ∙ l.long;
    has = λ q same.
        map-append (map (kept_out q)) ks ls
        ∙ ap (λ z. z ++ map (map (kept_out q)) ls) (l.has q (λ j lt ne. same j (omega (arith, lt, up)) ne ∙ v.keeps j lt ne))
        ∙ ap (λ z. map (map Good) rows ++ z) (v.has q same)
        ∙ sym (map-append (map Good) rows others);
    calm = v.calm;
    keeps = λ j lt ne. v.keeps j (omega (arith, lt, le)) ne ∙ l.keeps j lt ne;
  }

  sourced_behind : (rows : List (List Value)) (l : Sourced m i s p1 low middle causes ks rows) (k : Option CauseSet) (others : List (List Value)) → SourcedBy m n (record s { pc = p1; regs = l.regs }) p2 middle high causes ls k others → SourcedBy m most s p2 low high causes (ks ++ ls) k (rows ++ others)
  sourced_behind rows l (Some why) others v = leads_more m most within (leads_then m l.way v)
  sourced_behind rows l None others v = sourced_more rows others l v

  sourced_then : (xs ys : List Item) (k : Option CauseSet) → refusal_of xs ≡ k → SourcedBy m i s p1 low middle causes ks k (given_of xs) → ((regs : List Out) → length regs ≡ length s.regs → read regs causes ≡ no_causes → SourcedBy m n (record s { pc = p1; regs = regs }) p2 middle high causes ls (refusal_of ys) (given_of ys)) → SourcedBy m most s p2 low high causes (ks ++ ls) (refusal_of (xs ++ ys)) (given_of (xs ++ ys))
  sourced_then xs ys (Some why) e l next =
      subst (λ o. SourcedBy m most s p2 low high causes (ks ++ ls) o (given_of (xs ++ ys))) (sym (refusal_of-bad xs ys why e)) (leads_more m most (omega (arith, within)) l)
  sourced_then xs ys None e l next =
      subst (λ o. SourcedBy m most s p2 low high causes (ks ++ ls) o (given_of (xs ++ ys))) (sym (refusal_of-append xs ys e)) (subst (SourcedBy m most s p2 low high causes (ks ++ ls) (refusal_of ys)) (sym (given_of-append xs ys e)) (sourced_behind (given_of xs) l (refusal_of ys) (given_of ys) (next l.regs l.long l.calm)))

-- one row more
pub keeps_rows_then : {given : Given} {a b c : Draft} (causes : ℕ) (rows : List (List BoundExpr)) (es : List BoundExpr) (source : List (List Kept)) (row : List Kept) → KeepsRows given a b causes rows source → KeepsRows given b c causes (es ∷ []) (row ∷ []) → KeepsRows given a c causes (rows ++ es ∷ []) (source ++ row ∷ [])
keeps_rows_then {given} {a} {b} {c} causes rows es source row x y = record {
  grows = grows_then x.grows y.grows;
  next = omega (arith, x.next, y.next);
  counted = y.counted;
  steady = st_then x.grows x.steady y.steady;
  wide = omega (arith, x.wide, length-append rows (es ∷ []), length-append source (row ∷ []));
  keeps = λ m called u at h s room start calm.
      let env = environment_of m (here s) in
      let most = sum_by read_steps (rows ++ es ∷ []) in
      let first = x.keeps m called u at (y.grows.holds m.prog u at h) s (ready_less room y.grows.most y.grows.cursors) start calm in
      let all = sourced_then m (sum_by read_steps rows) (sum_by read_steps (es ∷ [])) most (omega (arith, sum_by_push read_steps rows es)) s (length b.code) (length c.code) a.next b.next c.next causes x.next y.next source (row ∷ []) (items_for rows env) (items_for (es ∷ []) env) (refusal_of (items_for rows env)) refl first (λ regs long calm_then.
      y.keeps m called u at h (record s { pc = length b.code; regs = regs }) (record { unit = room.unit; regs = omega (arith, room.regs, long); cursors = room.cursors; sound = room.sound }) refl calm_then) in
      subst (λ items. SourcedBy m most s (length c.code) a.next c.next causes (source ++ row ∷ []) (refusal_of items) (given_of items)) (sym (map-append (λ row. shown row env no_causes) rows (es ∷ []))) all;
}
