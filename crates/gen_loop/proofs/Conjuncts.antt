-- Conjuncts one after the other.
use Rattle.std.proofs.Common.{◌≡◌, ◌≢◌, ℕ, ◌+◌, ◌≤◌, ◌<◌, List, [], ◌∷◌, ◌++◌, Bool, true, false, length, sum_by, if◌then◌else◌, Some, None, refl, sym, ap, ◌∙◌, subst, arith, inl, ⊎_elim}
use Rattle.std.proofs.lemmas.List.Sums.{sum_by_push}
use Rattle.std.specs.declared.option.Option.{Option}
use Rattle.std.specs.Option.{option_and_then}
use Rattle.std.specs.Ordering.{int_eq}
use Rattle.eng_value.specs.Applied.{merged}
use Rattle.eng_value.specs.Environments.{Environment}
use Rattle.eng_value.specs.Outs.{truth_value, turned}
use Rattle.eng_value.specs.Casts.{to_number}
use Rattle.eng_value.specs.Truths.{truth_in, truth_of, truth_of_number}
use Rattle.eng_value.specs.declared.out.Out.{Out}
use Rattle.eng_value.specs.declared.out.Out.TheVariants.{Good, Bad}
use Rattle.eng_value.specs.declared.truth.Truth.{Truth}
use Rattle.eng_value.specs.declared.truth.Truth.TheVariants as truth
use Rattle.eng_value.specs.declared.value.Value.{Value}
use Rattle.eng_value.specs.declared.value.Value.TheVariants.{Null, Integer, Text, Blob}
use Rattle.gen_expr.specs.Needs.{needs_of}
use Rattle.gen_expr.specs.Steps.{steps_of}
use Rattle.gen_loop.specs.Loops.{conjuncts_steps}
use Rattle.gen_loop.specs.Needs.{conjuncts_read}
use Rattle.gen_loop.proofs.Places.{front_met, last_met}
use Rattle.sql_meaning.specs.Expression.{value_of}
use Rattle.sql_meaning.specs.Products.{after_conjunct, if_some, sifted}
use Rattle.bound_tree.specs.Exprs.{BoundExpr}
use Rattle.vm_code.specs.declared.op.Op.TheVariants as op
use Rattle.vm_code.specs.declared.open_cursor.Need.{Need}
use Rattle.vm_code.specs.Draft.{Draft, with_op, taken, given_back}
use Rattle.vm_code.specs.Tracked.{Steady}
use Rattle.vm_code.specs.Machine.{Setting, read, is_false, is_rejected}
use Rattle.vm_code.specs.Frames.{Grows, Here, environment_of, Leaves, Sifts, needing}
use Rattle.vm_code.specs.Claims.{Claim, Labels, Triple}
use Rattle.vm_code.proofs.Drafts.{grows_then, g_op, g_taken, g_given_back}
use Rattle.vm_code.proofs.Tracks.{st_fork, st_given_back, st_op, st_taken, st_then, st_within}
use Rattle.vm_code.proofs.Sifting.{sifts_of, sifts_same, sifts_then, sifts_wider}
use Rattle.vm_code.proofs.Triples.{no_labels, no_last, with_claim, t_seq, t_more, t_draft, t_test}
use Rattle.vm_code.proofs.Effects.{t_put, t_leaves, But, but_none, but_regs, but_env}

-- ---- truths

-- a truth is its own truth
truth_of_truth : (b : Bool) → truth_in (truth_of (Good (truth_value b))) ≡ truth_in (Good (truth_value b))
unfolding truth_of
truth_of_truth true = refl
truth_of_truth false = refl

truth_of_known : (v : Value) → truth_in (truth_of (Good (truth_of_number v))) ≡ truth_in (Good (truth_of_number v))
unfolding truth_of
truth_of_known Null = refl
truth_of_known (Integer n) = truth_of_truth _
truth_of_known (Text text) = refl
truth_of_known (Blob bytes) = refl

truth_of_turned : (a : Out) → truth_in (truth_of (turned (λ v. Good (truth_of_number v)) a)) ≡ truth_in (turned (λ v. Good (truth_of_number v)) a)
unfolding truth_of
truth_of_turned (Good v) = truth_of_known v
truth_of_turned (Bad causes) = refl

pub truth-twice : (a : Out) → truth_in (truth_of (truth_of a)) ≡ truth_in (truth_of a)
unfolding truth_of
truth-twice a = truth_of_turned (turned to_number a)

-- what the causes so far become, where the truth's own register does not reject
merged_truth : (a causes : Out) → is_false true (truth_in a) ≡ false → Some (merged a causes) ≡ after_conjunct causes (truth_in a)
merged_truth (Good Null) causes e = cc
merged_truth (Good (Integer n)) causes e = by (int_eq n (Rattle.std.proofs.Common.pos 0)) e
  where
    by : (b : Bool) → is_false true (if b then truth.False else truth.True) ≡ false → Some causes ≡ after_conjunct causes (if b then truth.False else truth.True)
    by true e = cc
    by false e = refl
merged_truth (Good (Text text)) causes e = cc
merged_truth (Good (Blob bytes)) causes e = cc
merged_truth (Bad why) causes e = refl

rejected_truth : (t : Truth) (causes : Out) → is_false true t ≡ true → after_conjunct causes t ≡ None
rejected_truth truth.True causes e = cc
rejected_truth truth.False causes e = refl
rejected_truth truth.Unknown causes e = refl
rejected_truth (truth.Failed why) causes e = cc

-- ---- one conjunct

module _ (a c : Draft) (conjunct : BoundExpr) (value causes label : ℕ) (v_is : value ≡ a.next) (x : Leaves (needing (needs_of conjunct)) (taken a) c value (λ env. truth_of (value_of conjunct env)) (λ env. steps_of conjunct + 1)) (below : causes < a.next) where
  abbrev jumped : Draft
  jumped = with_op c (op.IfNot value label true)

  -- the causes are added to those that their register holds
  abbrev adding : Draft
  adding = with_op jumped (op.Merge value causes)

  abbrev needs : List Need
  needs = needs_of conjunct

  abbrev outside : List ℕ
  outside = label ∷ []

  abbrev sifted_by : Environment → Out → Option Out
  sifted_by env found = after_conjunct found (truth_in (truth_of (value_of conjunct env)))

  abbrev started : Claim
  started h0 h = But a.next causes h0 h × (read h.regs causes ≡ read h0.regs causes)

  module _ (m : Setting) where
    abbrev truth_at : Here → Out
    truth_at h = truth_of (value_of conjunct (environment_of m h))

    abbrev outcome_at : Here → Option Out
    outcome_at h = sifted_by (environment_of m h) (read h.regs causes)

    abbrev known : Claim
    known h0 h = started h0 h × (read h.regs value ≡ truth_at h0)

    abbrev kept : Claim
    kept h0 h = known h0 h × (is_false true (truth_in (truth_at h0)) ≡ false)

    abbrev end : Claim
    end h0 h = But a.next causes h0 h × (outcome_at h0 ≡ Some (read h.regs causes))

    abbrev dropped : Claim
    dropped h0 h = But a.next causes h0 h × (outcome_at h0 ≡ None)

    abbrev labels : Labels
    labels = with_claim label dropped no_labels

    gets : Triple m a c (λ h0. steps_of conjunct + 1) labels no_last started known
    gets =
        let take = t_draft m labels no_last started (g_taken a) refl in
        let leave = t_leaves m tt labels no_last started known x (λ h0 h pre. but_env m pre.0) (λ h0 h regs pre long is same.
        ((but_regs regs (λ k lt ne. same k (omega arith) (omega (arith, v_is))) pre.0, same causes (omega arith) (omega (arith, v_is)) ∙ pre.1), is ∙ ap (λ env. truth_of (value_of conjunct env)) (but_env m pre.0))) in
        t_more (λ h0. steps_of conjunct + 1) (λ h0. omega arith) (t_seq take leave)

    jumps : Triple m c jumped (λ h0. 1) labels no_last known kept
    jumps = t_test m c (op.IfNot value label true) label (λ h. is_rejected true (read h.regs value)) labels no_last known kept (λ at s. refl) (λ h0 h pre b. inl (refl, (pre.0.0, rejected_truth (truth_in (truth_at h0)) (read h0.regs causes) (rejects h0 h pre ∙ b)))) (λ h0 h pre b. (pre, rejects h0 h pre ∙ b))
      where
        rejects : (h0 h : Here) → known h0 h → is_false true (truth_in (truth_at h0)) ≡ is_rejected true (read h.regs value)
        rejects h0 h pre =
            ap (is_false true) (sym (truth-twice (value_of conjunct (environment_of m h0)))) ∙ ap (is_rejected true) (sym pre.1)

    adds : Triple m jumped (given_back adding) (λ h0. 1) labels no_last kept end
    adds =
        let merge = t_put m jumped (op.Merge value causes) causes (λ h. merged (read h.regs value) (read h.regs causes)) labels no_last kept end (omega (arith, x.grows.most)) (λ at s. refl) (λ h0 h regs pre long is same. (
          but_regs regs (λ k lt ne. same k ne) pre.0.0.0,
          sym (merged_truth (truth_at h0) (read h0.regs causes) pre.1) ∙ ap Some (sym (is ∙ ap (λ v. merged v (read h.regs causes)) pre.0.1 ∙ ap (merged (truth_at h0)) pre.0.0.1)),
        )) in
        t_more (λ h0. 1) (λ h0. omega arith) (t_seq merge (t_draft m labels no_last end (g_given_back adding) refl))

    tests : Triple m a (given_back adding) (λ h0. steps_of conjunct + 3) labels no_last started end
    tests = t_more (λ h0. steps_of conjunct + 3) (λ h0. omega arith) (t_seq (t_seq gets jumps) adds)

  grows_test : Grows a (given_back adding)
  grows_test =
      grows_then (g_taken a) (grows_then x.grows (grows_then (g_op c (op.IfNot value label true)) (grows_then (g_op jumped (op.Merge value causes)) (g_given_back adding))))

  steady_test : Steady needs outside a (given_back adding)
  steady_test =
      st_then (g_taken a) (st_taken needs outside a) (st_then x.grows (st_within outside (λ xs met. met) x.steady) (st_then (g_op c (op.IfNot value label true)) (st_fork needs outside c (op.IfNot value label true) label refl refl (inl refl)) (st_then (g_op jumped (op.Merge value causes)) (st_op needs outside jumped (op.Merge value causes) (refl, refl)) (st_given_back needs outside adding))))

  pub sifts_conjunct : Sifts (needing (needs_of conjunct)) a (given_back adding) causes label (λ env found. after_conjunct found (truth_in (truth_of (value_of conjunct env)))) (λ env. steps_of conjunct + 3)
  sifts_conjunct =
      sifts_of causes label sifted_by started grows_test (omega (arith, x.next)) steady_test (λ h. (but_none a.next causes h, refl)) (λ m called. tests m)

-- ---- one after the other

-- the definitions' word and the library's
and_then-if_some : (o : Option Out) (f : Out → Option Out) → option_and_then f o ≡ if_some o f
and_then-if_some None f = refl
and_then-if_some (Some v) f = refl

if_some_twice : (o : Option Out) (f g : Out → Option Out) → if_some (if_some o f) g ≡ if_some o (λ v. if_some (f v) g)
if_some_twice None f g = refl
if_some_twice (Some v) f g = refl

if_some_same : (o : Option Out) (f g : Out → Option Out) → ((v : Out) → f v ≡ g v) → if_some o f ≡ if_some o g
if_some_same None f g e = refl
if_some_same (Some v) f g e = e v

if_some_id : (o : Option Out) → if_some o (λ v. Some v) ≡ o
if_some_id None = refl
if_some_id (Some v) = refl

abbrev by_conjunct : BoundExpr → Environment → Out → Option Out
by_conjunct c env found = after_conjunct found (truth_in (truth_of (value_of c env)))

sifted_last : (cs : List BoundExpr) (c : BoundExpr) (env : Environment) (v : Out) → if_some (sifted cs env v) (by_conjunct c env) ≡ sifted (cs ++ c ∷ []) env v
sifted_last [] c env v = sym (if_some_id (by_conjunct c env v))
sifted_last (d ∷ cs) c env v =
    if_some_twice (by_conjunct d env v) (sifted cs env) (by_conjunct c env)
    ∙ if_some_same (by_conjunct d env v) (λ x. if_some (sifted cs env x) (by_conjunct c env)) (sifted (cs ++ c ∷ []) env) (λ x. sifted_last cs c env x)

steps_last : (cs : List BoundExpr) (c : BoundExpr) → conjuncts_steps cs + (steps_of c + 3) ≡ conjuncts_steps (cs ++ c ∷ [])
steps_last cs c = sym (sum_by_push (λ d. steps_of d + 3) cs c)

-- a conjunct more
pub sifts_more : {a b z : Draft} (causes label : ℕ) (cs : List BoundExpr) (c : BoundExpr) → Sifts (needing (conjuncts_read cs)) a b causes label (λ env. sifted cs env) (λ env. conjuncts_steps cs) → Sifts (needing (needs_of c)) b z causes label (λ env found. after_conjunct found (truth_in (truth_of (value_of c env)))) (λ env. steps_of c + 3) → Sifts (needing (conjuncts_read (cs ++ c ∷ []))) a z causes label (λ env. sifted (cs ++ c ∷ []) env) (λ env. conjuncts_steps (cs ++ c ∷ []))
sifts_more causes label cs c x y =
    let all = conjuncts_read (cs ++ c ∷ []) in
    sifts_same causes label (λ env v. option_and_then (by_conjunct c env) (sifted cs env v)) (λ env. sifted (cs ++ c ∷ []) env) (λ env. conjuncts_steps (cs ++ c ∷ [])) (λ env v. and_then-if_some (sifted cs env v) (by_conjunct c env) ∙ sifted_last cs c env v) (λ env. steps_last cs c) (sifts_then causes label (λ env. sifted cs env) (λ env. by_conjunct c env) (sifts_wider all (λ xs met. front_met xs needs_of cs c met) x) (sifts_wider all (λ xs met. last_met xs needs_of cs c met) y))
