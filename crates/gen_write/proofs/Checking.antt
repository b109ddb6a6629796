-- The CHECKs of a row.
use Rattle.std.proofs.Common.{All, ◌≡◌, ℕ, ◌+◌, ◌≤◌, ◌<◌, Bool, true, false, List, [], ◌∷◌, ◌++◌, length, sum_by, take, get_or, Option, Some, None, cond, refl, sym, ap, ◌∙◌, subst, arith, inl, inr}
use Rattle.std.specs.Prelude.{slice_get, not, pos}
use Rattle.std.specs.Ordering.{int_eq}
use Rattle.std.proofs.lemmas.List.{take_more}
use Rattle.std.proofs.lemmas.List.Sums.{sum_by-append}
use Rattle.bound_tree.specs.Exprs.{BoundExpr}
use Rattle.eng_value.specs.Casts.{to_number}
use Rattle.eng_value.specs.Causes.{CauseSet, only}
use Rattle.eng_value.specs.Environments.{Environment}
use Rattle.eng_value.specs.Outs.{turned, truth_value}
use Rattle.eng_value.specs.Truths.{truth_in, truth_of, truth_of_number}
use Rattle.eng_value.specs.Written.{Written}
use Rattle.eng_value.specs.declared.cause.Cause.TheVariants.{Constraint}
use Rattle.eng_value.specs.declared.cause.ConstraintKind.TheVariants as constraint
use Rattle.eng_value.specs.declared.out.Out.{Out}
use Rattle.eng_value.specs.declared.out.Out.TheVariants.{Good, Bad}
use Rattle.eng_value.specs.declared.truth.Truth.{Truth}
use Rattle.eng_value.specs.declared.truth.Truth.TheVariants as truth
use Rattle.eng_value.specs.declared.value.Value.{Value}
use Rattle.eng_value.specs.declared.value.Value.TheVariants.{Null, Integer, Text, Blob}
use Rattle.gen_expr.specs.Steps.{steps_of}
use Rattle.gen_write.specs.Stretches.{Checks, ChecksRow, Passed, PassedBy, broken_by, first_broken, unless_broken_by}
use Rattle.gen_write.specs.Writes.{check_steps}
use Rattle.sql_meaning.specs.Expression.{value_of}
use Rattle.sql_meaning.specs.Rows.{checked, passed}
use Rattle.sql_meaning.specs.Steps.{Effect, Fails, ◌then◌, done}
use Rattle.vm_code.specs.declared.op.Op.TheVariants as op
use Rattle.vm_code.specs.Draft.{Draft, bound, given_back, taken, with_label, with_op}
use Rattle.vm_code.specs.declared.open_cursor.Need.{Need}
use Rattle.vm_code.specs.Track.{Meets, OpenSet}
use Rattle.vm_code.specs.Tracked.{Steady}
use Rattle.vm_code.specs.Machine.{GivesUp, Leads, Reaches, Setting, State, is_accepted, is_bad, is_true, leads_to, leaving_of, read}
use Rattle.vm_code.specs.Frames.{Given, Grows, Here, Leaves, environment_of, here, with_regs}
use Rattle.vm_code.specs.Claims.{Claim, Exits, Labels, Last, Triple, ends, off, on}
use Rattle.vm_code.proofs.Runs.{leads_more, leads_then, reaches_none}
use Rattle.vm_code.proofs.Drafts.{extends, g_bound, g_given_back, g_label, g_op, g_taken, grows_none, grows_then, long_label, open_new, open_old, open_other}
use Rattle.vm_code.proofs.Tracks.{has-bound, place-bound, st_bind, st_fork, st_given_back, st_leave, st_made, st_none, st_on, st_op, st_taken, st_then, st_wider, st_within}
use Rattle.vm_code.proofs.Effects.{But, but_none, but_regs, left_as, t_leaves_at, t_put}
use Rattle.vm_code.proofs.Triples.{no_labels, ready_less, t_bind, t_draft, t_halt_bad, t_more, t_seq, t_test, with_claim}

-- ---- the truth of a truth

truth_of-truth_value : (zero : Bool) → truth_of (Good (truth_value zero)) ≡ Good (truth_value zero)
unfolding truth_of
truth_of-truth_value true = refl
truth_of-truth_value false = refl

truth_of-number : (number : Out) → let t = turned (λ v. Good (truth_of_number v)) number in truth_of t ≡ t
unfolding truth_of
truth_of-number (Good Null) = refl
truth_of-number (Good (Integer n)) = truth_of-truth_value (not (int_eq n (pos 0)))
truth_of-number (Good (Text text)) = refl
truth_of-number (Good (Blob bytes)) = refl
truth_of-number (Bad causes) = refl

truth_of-twice : (a : Out) → truth_of (truth_of a) ≡ truth_of a
unfolding truth_of
truth_of-twice a = truth_of-number (turned to_number a)

-- ---- what lets a row pass

accepted_none : (table : List ℕ) (t : Truth) → is_true true t ≡ true → broken_by table t ≡ None
accepted_none table truth.True e = refl
accepted_none table truth.False e = absurd (cc)
accepted_none table truth.Unknown e = refl
accepted_none table (truth.Failed causes) e = absurd (cc)

false_breaks : (table : List ℕ) (t : Out) → is_true true (truth_in t) ≡ false → is_bad t ≡ false → broken_by table (truth_in t) ≡ Some (only (Constraint constraint.Check table))
false_breaks table (Bad causes) e f = absurd (cc)
false_breaks table (Good v) e f = by (truth_in (Good v)) (not_failed v) e
  where
    not_failed : (v : Value) (causes : CauseSet) → truth_in (Good v) ≡ truth.Failed causes → ⊥
    not_failed Null causes is = cc
    not_failed (Integer n) causes is = zero (int_eq n (pos 0)) is
      where
        zero : (b : Bool) → cond b truth.False truth.True ≡ truth.Failed causes → ⊥
        zero true is = cc
        zero false is = cc
    not_failed (Text t) causes is = cc
    not_failed (Blob t) causes is = cc

    by : (t : Truth) → ((causes : CauseSet) → t ≡ truth.Failed causes → ⊥) → is_true true t ≡ false → broken_by table t ≡ Some (only (Constraint constraint.Check table))
    by truth.True never e = absurd (cc)
    by truth.False never e = refl
    by truth.Unknown never e = absurd (cc)
    by (truth.Failed causes) never e = absurd (never causes refl)

bad_breaks : (table : List ℕ) (t : Out) → is_bad t ≡ true → (why : CauseSet) × (t ≡ Bad why) × (broken_by table (truth_in t) ≡ Some why)
bad_breaks table (Good v) e = absurd (cc)
bad_breaks table (Bad causes) e = (causes, refl, refl)

-- ---- CHECKs in order

broken-none : (o : Option CauseSet) → unless_broken_by o None ≡ o
broken-none None = refl
broken-none (Some causes) = refl

pub first_broken-append : (table : List ℕ) (xs ys : List BoundExpr) (env : Environment) → first_broken table (xs ++ ys) env ≡ unless_broken_by (first_broken table xs env) (first_broken table ys env)
first_broken-append table [] ys env = refl
first_broken-append table (c ∷ xs) ys env =
    ap (unless_broken_by (broken_by table (truth_in (truth_of (value_of c env))))) (first_broken-append table xs ys env)
    ∙ by (broken_by table (truth_in (truth_of (value_of c env))))
  where
    by : (o : Option CauseSet) → unless_broken_by o (unless_broken_by (first_broken table xs env) (first_broken table ys env)) ≡ unless_broken_by (unless_broken_by o (first_broken table xs env)) (first_broken table ys env)
    by None = refl
    by (Some causes) = refl

pub first_broken-same : (table : List ℕ) (checks : List BoundExpr) (x y : Environment) → ((c : BoundExpr) → value_of c x ≡ value_of c y) → first_broken table checks x ≡ first_broken table checks y
first_broken-same table [] x y same = refl
first_broken-same table (c ∷ checks) x y same =
    ap (λ o. unless_broken_by (broken_by table (truth_in (truth_of o))) (first_broken table checks x)) (same c)
    ∙ ap (unless_broken_by (broken_by table (truth_in (truth_of (value_of c y))))) (first_broken-same table checks x y same)

-- the definition's word for it
abbrev pub effect_by : Option CauseSet → Written → Effect
effect_by None x = done x
effect_by (Some causes) x = Fails causes x

pub checked-is : (table : List ℕ) (checks : List BoundExpr) (env : Environment) (x : Written) → checked table checks env x ≡ effect_by (first_broken table checks env) x
checked-is table [] env x = refl
checked-is table (c ∷ checks) env x = by (truth_in (truth_of (value_of c env))) (checked-is table checks env x)
  where
    by : (t : Truth) → checked table checks env x ≡ effect_by (first_broken table checks env) x → (passed table t x then λ u x. checked table checks env x) ≡ effect_by (unless_broken_by (broken_by table t) (first_broken table checks env)) x
    by truth.True e = e
    by truth.False e = refl
    by truth.Unknown e = e
    by (truth.Failed causes) e = refl

-- ---- their code

pub checks_none : (given : Given) (a : Draft) (table : List ℕ) → Checks given a a table []
checks_none given a table = record {
  grows = grows_none a;
  next = refl;
  steady = st_none given.needs [] a;
  passes = λ m called u at h s room start. record {
    regs = s.regs;
    way = leads_more m (sum_by check_steps []) (omega arith) (subst (λ p. Reaches m 0 s (record s { pc = p })) start (reaches_none m s));
    long = refl;
    keeps = λ k lt. refl;
  };
}

pub checks_then : {given : Given} {a b d : Draft} (table : List ℕ) (xs ys : List BoundExpr) → Checks given a b table xs → Checks given b d table ys → Checks given a d table (xs ++ ys)
checks_then {given} {a} {b} {d} table xs ys x y = record {
  grows = grows_then x.grows y.grows;
  next = y.next ∙ x.next;
  steady = st_then x.grows x.steady y.steady;
  passes = λ m called u at h s room start.
      let env = environment_of m (here s) in
      let i = sum_by check_steps xs in
      let n = sum_by check_steps ys in
      let both : PassedBy m (i + n) s (length d.code) a.next (unless_broken_by (first_broken table xs env) (first_broken table ys env)) = by m i n s (first_broken table xs env) (first_broken table ys env) (x.passes m called u at (y.grows.holds m.prog u at h) s (ready_less room y.grows.most y.grows.cursors) start) (λ l.
      let t : State = record s { pc = length b.code; regs = l.regs } in
      y.passes m called u at h t (record { unit = room.unit; regs = omega (arith, room.regs, l.long); cursors = room.cursors; sound = room.sound }) refl) in
      let steps : i + n ≤ sum_by check_steps (xs ++ ys) = omega (arith, sum_by-append check_steps xs ys) in
      subst (PassedBy m (sum_by check_steps (xs ++ ys)) s (length d.code) a.next) (sym (first_broken-append table xs ys env)) (more m (i + n) (sum_by check_steps (xs ++ ys)) steps s (unless_broken_by (first_broken table xs env) (first_broken table ys env)) both);
}
  where
    more : (m : Setting) (i n : ℕ) → i ≤ n → (s : State) (o : Option CauseSet) → PassedBy m i s (length d.code) a.next o → PassedBy m n s (length d.code) a.next o
    more m i n le s None l = record { regs = l.regs; way = leads_more m n le l.way; long = l.long; keeps = l.keeps }
    more m i n le s (Some why) z = leads_more m n le z

    on_from : (m : Setting) (i n : ℕ) (s : State) (l : Passed m i s (length b.code) a.next) (o : Option CauseSet) → PassedBy m n (record s { pc = length b.code; regs = l.regs }) (length d.code) b.next o → PassedBy m (i + n) s (length d.code) a.next o
    on_from m i n s l None v = record { regs = v.regs; way = leads_then m l.way v.way; long = v.long ∙ l.long; keeps = λ k lt. v.keeps k (omega (arith, lt, x.next)) ∙ l.keeps k lt }
    on_from m i n s l (Some why) z = leads_then m l.way z

    by : (m : Setting) (i n : ℕ) (s : State) (o p : Option CauseSet) → PassedBy m i s (length b.code) a.next o → ((l : Passed m i s (length b.code) a.next) → PassedBy m n (record s { pc = length b.code; regs = l.regs }) (length d.code) b.next p) → PassedBy m (i + n) s (length d.code) a.next (unless_broken_by o p)
    by m i n s None p l next = on_from m i n s l p (next l)
    by m i n s (Some why) p z next = leads_more m (i + n) (omega arith) z

-- one CHECK more of a list
pub checks_next : {given : Given} {a b d : Draft} (table : List ℕ) (all : List BoundExpr) (i : ℕ) (default : BoundExpr) → i < length all → Checks given a b table (take i all) → Checks given b d table (get_or all i default ∷ []) → Checks given a d table (take (i + 1) all)
checks_next {given} {a} {b} {d} table all i default lt x y =
    subst (Checks given a d table) (sym (take_more all i default lt)) (checks_then table (take i all) (get_or all i default ∷ []) x y)

-- where more is so of cursors
pub checks_wider : {given : Given} {a b : Draft} {table : List ℕ} {checks : List BoundExpr} (more : List Need) → ((xs : OpenSet) → All (Meets xs) more → All (Meets xs) given.needs) → Checks given a b table checks → Checks (record given { needs = more }) a b table checks
checks_wider more wider x = record { grows = x.grows; next = x.next; steady = st_wider wider x.steady; passes = x.passes }

-- ---- one of them

-- where it comes to, and where it gives up
record HasPassed (f : Here → Option CauseSet) (mark : ℕ) (h0 h : Here) : Type 0 where
  pub regs : (k : ℕ) → k < mark → read h.regs k ≡ read h0.regs k
  pub scene : h.scene ≡ h0.scene
  pub store : h.store ≡ h0.store
  pub shared : h.shared ≡ h0.shared
  pub is : f h0 ≡ None

abbrev IsBroken : (Here → Option CauseSet) → Last
IsBroken f h0 o x = (why : CauseSet) × (o ≡ GivesUp why) × (f h0 ≡ Some why) × (x ≡ h0.shared)

module _ {given : Given} (d z : Draft) (table : List ℕ) (c : BoundExpr) (x : Leaves given (taken (with_label (with_label d))) z d.next (λ env. truth_of (value_of c env)) (λ env. steps_of c + 1)) where
  abbrev truth_at : ℕ
  truth_at = d.next

  abbrev let_on : ℕ
  let_on = length d.labels

  abbrev bad : ℕ
  bad = length (with_label d).labels

  abbrev two : Draft
  two = with_label (with_label d)

  abbrev taking : Draft
  taking = taken two

  abbrev deciding : Draft
  deciding = with_op z (op.If truth_at let_on true)

  abbrev testing : Draft
  testing = with_op deciding (op.IsBad truth_at bad)

  abbrev breaking : Draft
  breaking = with_op testing (op.Bad (Constraint constraint.Check table) truth_at)

  abbrev halting : Draft
  halting = with_op (bound breaking bad) (op.HaltBad truth_at)

  abbrev pub check_code : Draft
  check_code = given_back (bound halting let_on)

  grows_taking : Grows d taking
  grows_taking = grows_then (g_label d) (grows_then (g_label (with_label d)) (g_taken two))

  apart : let_on < bad
  apart = omega (arith, long_label d)

  bad_open : slice_get breaking.labels bad ≡ Some None
  bad_open = x.grows.open_labels bad (open_new (with_label d))

  passed_open : slice_get halting.labels let_on ≡ Some None
  passed_open =
      open_other breaking bad let_on (λ e. absurd (omega (arith, e, apart))) (x.grows.open_labels let_on (open_old (with_label d) let_on (open_new d)))

  grows_z : Grows d z
  grows_z = grows_then grows_taking x.grows

  grows_breaking : Grows z breaking
  grows_breaking =
      grows_then (g_op z (op.If truth_at let_on true)) (grows_then (g_op deciding (op.IsBad truth_at bad)) (g_op testing (op.Bad (Constraint constraint.Check table) truth_at)))

  grows_bound : Grows d (bound halting let_on)
  grows_bound =
      g_bound halting let_on (grows_then (g_bound breaking bad (grows_then grows_z grows_breaking) (omega (arith, apart)) bad_open) (g_op (bound breaking bad) (op.HaltBad truth_at))) (omega arith) passed_open

  abbrev inside : List ℕ
  inside = bad ∷ let_on ∷ []

  steady_bound : Steady given.needs [] d (bound halting let_on)
  steady_bound =
      st_made let_on refl (place-bound halting let_on passed_open) (st_made bad refl (has-bound halting let_on bad (place-bound breaking bad bad_open)) (st_then (g_taken two) (st_taken given.needs inside two) (st_then x.grows (st_within inside (λ xs met. met) x.steady) (st_then (g_op z (op.If truth_at let_on true)) (st_fork given.needs inside z (op.If truth_at let_on true) let_on refl refl (inr (inl refl))) (st_then (g_op deciding (op.IsBad truth_at bad)) (st_fork given.needs inside deciding (op.IsBad truth_at bad) bad refl refl (inl refl)) (st_then (g_op testing (op.Bad (Constraint constraint.Check table) truth_at)) (st_op given.needs inside testing (op.Bad (Constraint constraint.Check table) truth_at) (refl, refl)) (st_on (λ l xs m. m) (st_bind given.needs inside breaking bad (inl refl)) (st_leave given.needs inside (bound breaking bad) (op.HaltBad truth_at) let_on refl refl (inr (inl refl))))))))))

  module _ (m : Setting) where
    abbrev why_of : Here → Option CauseSet
    why_of h0 = first_broken table (c ∷ []) (environment_of m h0)

    abbrev out_of : Here → Out
    out_of h0 = truth_of (value_of c (environment_of m h0))

    why_is : (h0 : Here) → why_of h0 ≡ broken_by table (truth_in (out_of h0))
    why_is h0 = broken-none (broken_by table (truth_in (out_of h0)))

    abbrev starts : Claim
    starts h0 h = h ≡ h0

    abbrev left : Claim
    left h0 h = But truth_at truth_at h0 h × (read h.regs truth_at ≡ out_of h0)

    abbrev undecided : Claim
    undecided h0 h = left h0 h × (is_true true (truth_in (out_of h0)) ≡ false)

    abbrev broken : Claim
    broken h0 h = left h0 h × (why_of h0 ≡ Some (only (Constraint constraint.Check table)))

    abbrev bad_now : Claim
    bad_now h0 h = But truth_at truth_at h0 h × ((why : CauseSet) × (read h.regs truth_at ≡ Bad why) × (why_of h0 ≡ Some why))

    abbrev has_passed : Claim
    has_passed h0 h = HasPassed why_of truth_at h0 h

    abbrev last : Last
    last = IsBroken why_of

    accepted : (h0 h : Here) (b : Bool) → left h0 h → is_accepted true (read h.regs truth_at) ≡ b → is_true true (truth_in (out_of h0)) ≡ b
    accepted h0 h b pre is =
        ap (λ o. is_true true (truth_in o)) (sym (truth_of-twice (value_of c (environment_of m h0))))
        ∙ ap (is_accepted true) (sym pre.1)
        ∙ is

    checks : given.calls m → Triple m d check_code (λ h0. steps_of c + 5) no_labels last starts has_passed
    checks called =
        let inner : Labels = with_claim let_on has_passed no_labels in
        let innermost : Labels = with_claim bad bad_now inner in
        let label = t_draft m innermost last starts grows_taking refl in
        let leave = t_leaves_at m called (λ h0. steps_of c + 1) innermost last starts left x (λ h0 h pre. omega arith) (λ h0 h regs pre long is same.
        let from : But truth_at truth_at h0 h = subst (λ k. But truth_at truth_at h0 k) (sym pre) (but_none truth_at truth_at h0) in
        (but_regs regs (λ k lt ne. same k (omega (arith, lt)) ne) from, is ∙ ap (λ k. truth_of (value_of c (environment_of m k))) pre)) in
        let decide = t_test m z (op.If truth_at let_on true) let_on (λ h. is_accepted true (read h.regs truth_at)) innermost last left undecided (λ at s. refl) (λ h0 h pre b. inr (inl (refl, record { regs = λ k lt. pre.0.regs k lt (omega (arith, lt)); scene = pre.0.scene; store = pre.0.store; shared = pre.0.shared; is = why_is h0 ∙ accepted_none table (truth_in (out_of h0)) (accepted h0 h true pre b) }))) (λ h0 h pre b. (pre, accepted h0 h false pre b)) in
        let test = t_test m deciding (op.IsBad truth_at bad) bad (λ h. is_bad (read h.regs truth_at)) innermost last undecided broken (λ at s. refl) (λ h0 h pre b.
        let known = bad_breaks table (out_of h0) (ap is_bad (sym pre.0.1) ∙ b) in
        inl (refl, (pre.0.0, (known.0, pre.0.1 ∙ known.1, why_is h0 ∙ known.2)))) (λ h0 h pre b. (pre.0, why_is h0 ∙ false_breaks table (out_of h0) pre.1 (ap is_bad (sym pre.0.1) ∙ b))) in
        let break = t_put m testing (op.Bad (Constraint constraint.Check table) truth_at) truth_at (λ h. Bad (only (Constraint constraint.Check table))) innermost last broken bad_now (omega (arith, x.grows.most)) (λ at s. refl) (λ h0 h regs pre long is same. (but_regs regs (λ k lt ne. same k ne) pre.0.0, (only (Constraint constraint.Check table), is, pre.1))) in
        let at_bad = t_bind bad bad_now bad_open (λ h0 h pre. pre) (t_seq (t_seq (t_seq (t_seq label leave) decide) test) break) in
        let halt = t_halt_bad m (bound breaking bad) truth_at inner last bad_now (λ h0 h pre. (pre.1.0, ap leaving_of pre.1.1, pre.1.2, pre.0.shared)) in
        let at_passed = t_bind let_on has_passed passed_open (λ h0 h no. absurd no) (t_seq at_bad halt) in
        let back = t_draft m no_labels last has_passed (g_given_back (bound halting let_on)) refl in
        t_more (λ h0. steps_of c + 5) (λ h0. omega arith) (t_seq at_passed back)

  checks_by : (m : Setting) (at : ℕ → ℕ) (s : State) (f : Here → Option CauseSet) (most : ℕ) → Exits m at most (λ l h. ⊥) (IsBroken f (here s)) s (length check_code.code) (HasPassed f d.next (here s)) → PassedBy m most s (length check_code.code) d.next (f (here s))
  checks_by m at s f most (off l h) = absurd h.holds
  checks_by m at s f most (ends o shared w h) =
      subst (PassedBy m most s (length check_code.code) d.next) (sym h.2) (subst (λ y. Leads m most s (leads_to (GivesUp h.0) s.stack y)) h.3 (subst (λ v. Leads m most s (leads_to v s.stack shared)) h.1 w))
  checks_by m at s f most (on h) = subst (PassedBy m most s (length check_code.code) d.next) (sym h.holds.is) (record {
    regs = h.regs;
    way = left_as m most s (length check_code.code) h.regs h.scene h.store h.shared h.holds.scene h.holds.store h.holds.shared h.way;
    long = h.long;
    keeps = h.holds.regs;
  })

  pub checks_one : Checks given d check_code table (c ∷ [])
  checks_one = record {
    grows = grows_then grows_bound (g_given_back (bound halting let_on));
    next = omega (arith, x.next);
    steady = st_then grows_bound steady_bound (st_given_back given.needs [] (bound halting let_on));
    passes = λ m called u at h s room start.
        let run = (checks m called).runs u at h (here s) s room start refl in
        let all = checks_by m at s (λ k. first_broken table (c ∷ []) (environment_of m k)) (steps_of c + 5) run in
        within m s (steps_of c + 5) (sum_by check_steps (c ∷ [])) (omega arith) (first_broken table (c ∷ []) (environment_of m (here s))) all;
  }
    where
      within : (m : Setting) (s : State) (i n : ℕ) → i ≤ n → (o : Option CauseSet) → PassedBy m i s (length check_code.code) d.next o → PassedBy m n s (length check_code.code) d.next o
      within m s i n le None l = record { regs = l.regs; way = leads_more m n le l.way; long = l.long; keeps = l.keeps }
      within m s i n le (Some why) w = leads_more m n le w

-- ---- inside another stretch

pub t_passes : (m : Setting) {given : Given} {a b : Draft} {table : List ℕ} {checks : List BoundExpr} (called : given.calls m) (g : Labels) (e : Last) (p q : Claim) → Checks given a b table checks → ((h0 h : Here) (regs : List Out) → p h0 h → first_broken table checks (environment_of m h) ≡ None → ((k : ℕ) → k < a.next → read regs k ≡ read h.regs k) → q h0 (with_regs h regs)) → ((h0 h : Here) (why : CauseSet) → p h0 h → first_broken table checks (environment_of m h) ≡ Some why → e h0 (GivesUp why) h.shared) → Triple m a b (λ h0. sum_by check_steps checks) g e p q
t_passes m {given} {a} {b} {table} {checks} called g e p q x goes fails = record {
  extends = extends x.grows;
  runs = λ u at h h0 s room start pre.
      by at h0 s pre (first_broken table checks (environment_of m (here s))) refl (x.passes m called u at h s room start);
}
  where
    by : (at : ℕ → ℕ) (h0 : Here) (s : State) → p h0 (here s) → (o : Option CauseSet) → first_broken table checks (environment_of m (here s)) ≡ o → PassedBy m (sum_by check_steps checks) s (length b.code) a.next o → Exits m at (sum_by check_steps checks) (λ l. g l h0) (e h0) s (length b.code) (q h0)
    by at h0 s pre None is l =
        on (record { regs = l.regs; scene = s.scene; store = s.store; shared = s.shared; way = l.way; long = l.long; wide = refl; holds = goes h0 (here s) l.regs pre is l.keeps })
    by at h0 s pre (Some why) is w = ends (GivesUp why) s.shared w (fails h0 (here s) why pre is)

-- ---- all of them, where there are some

pub checks_row_none : (given : Given) (a : Draft) (table : List ℕ) (checks : List BoundExpr) (rowid first count : ℕ) → length checks ≡ 0 → ChecksRow given a a table checks rowid first count
checks_row_none given a table [] rowid first count e = refl
checks_row_none given a table (k ∷ ks) rowid first count e = absurd (omega (arith, e))

pub checks_row_some : (given : Given) (a z b : Draft) (table : List ℕ) (checks : List BoundExpr) (rowid first count : ℕ) → 0 < length checks → Checks given (with_op a (op.RowOf 0 rowid first count)) z table checks → b ≡ with_op z (op.Close 0) → ChecksRow given a b table checks rowid first count
checks_row_some given a z b table [] rowid first count lt x e = absurd (omega (arith, lt))
checks_row_some given a z b table (k ∷ ks) rowid first count lt x e = record { last = z; checked = x; is = e }

pub checks_row_next : (given : Given) (a b : Draft) (table : List ℕ) (checks : List BoundExpr) (rowid first count : ℕ) → ChecksRow given a b table checks rowid first count → b.next ≡ a.next
checks_row_next given a b table [] rowid first count e = ap (λ (d : Draft). d.next) e
checks_row_next given a b table (k ∷ ks) rowid first count x = ap (λ (d : Draft). d.next) x.is ∙ x.checked.next
