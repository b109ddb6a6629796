-- What each form of expression needs of the code for its parts.
use Rattle.std.proofs.Common.{◌≡◌, ◌≢◌, Bool, ℕ, ◌+◌, ◌≤◌, ◌<◌, List, [], ◌∷◌, length, Option, Some, None, pos, refl, sym, ap, ◌∙◌, subst, arith, inl, inr}
use Rattle.std.specs.Prelude.{slice_get, true, false}
use Rattle.eng_value.specs.Applied.{binary_of, falsehood_of, merged, or_equal}
use Rattle.eng_value.specs.Collations.{keys_of}
use Rattle.eng_value.specs.Comparisons.{comparison_of}
use Rattle.eng_value.specs.Environments.{Environment}
use Rattle.eng_value.specs.Truths.{and_of, or_of, truth_in, truth_of}
use Rattle.eng_value.specs.declared.compare_op.CompareOp.TheVariants as compare
use Rattle.eng_value.specs.declared.operators.BinaryOperator.{BinaryOperator}
use Rattle.eng_value.specs.declared.operators.BinaryOperator.TheVariants as binary
use Rattle.eng_value.specs.declared.operators.Sides.{Sides}
use Rattle.eng_value.specs.declared.out.Out.{Out}
use Rattle.eng_value.specs.declared.out.Out.TheVariants.{Good, Bad}
use Rattle.eng_value.specs.declared.value.Value.TheVariants.{Null, Integer}
use Rattle.gen_expr.specs.declared.parts.Operands.{Operands}
use Rattle.gen_expr.specs.Parts.{Turns, Decides, IsDecidedBy, decided_by, decided_known, has_truth, jump_on, with_arm_left, with_arm_tested, with_between, with_known_left, with_left_tested, with_member_begun, with_or_equal}
use Rattle.gen_expr.proofs.Covering.{covers_high, covers_low, covers_only}
use Rattle.gen_expr.proofs.Deciding.{decided_bad, decided_rejected, decided_accepted, known_null, known_other}
use Rattle.gen_expr.proofs.Stretches.{as_begun, begun_but, Reads, Turned, Won, Open, turns_of, t_offers, t_turns, decides_of}
use Rattle.sql_meaning.specs.Expression.{between_of}
use Rattle.vm_code.specs.declared.open_cursor.Need.{Need}
use Rattle.vm_code.specs.declared.op.Op.{Op}
use Rattle.vm_code.specs.declared.op.Op.TheVariants as op
use Rattle.vm_code.specs.declared.operand.Operand.{Operand}
use Rattle.vm_code.specs.declared.operand.Operand.TheVariants as operand
use Rattle.vm_code.specs.Draft.{Draft, bound, released, with_op, with_label, taken}
use Rattle.vm_code.specs.Track.{needs_of, way_of}
use Rattle.vm_code.specs.Tracked.{Among, Steady}
use Rattle.vm_code.specs.declared.way.Way.TheVariants as way
use Rattle.vm_code.specs.Machine.{Setting, State, act, jump_if, operand_in, read, is_bad, is_null, is_rejected}
use Rattle.vm_code.specs.Frames.{Grows, Here, Leaves, Offers, environment_of, needing, placed}
use Rattle.vm_code.specs.Claims.{Claim, Labels, Triple}
use Rattle.vm_code.proofs.Drafts.{grows_then, g_op, g_taken, g_label, g_bound, g_released, open_new}
use Rattle.vm_code.proofs.Tracks.{place-bound, st_fork, st_goto, st_label, st_made, st_op, st_reads, st_released, st_taken, st_then, st_within}
use Rattle.vm_code.proofs.Effects.{But, but_regs, but_env, t_leaves, t_put, leaves_of}
use Rattle.vm_code.proofs.Triples.{no_labels, no_last, with_claim, t_seq, t_more, t_draft, t_bind, t_test, t_goto}

-- ---- functions of the values that operands read, in their order

abbrev pub of_one : (Out → Out) → List Out → Out
of_one f (x ∷ rest) = f x
of_one f [] = Good Null

abbrev pub of_two : (Out → Out → Out) → List Out → Out
of_two f (x ∷ y ∷ rest) = f x y
of_two f other = Good Null

abbrev pub of_three : (Out → Out → Out → Out) → List Out → Out
of_three f (x ∷ y ∷ z ∷ rest) = f x y z
of_three f other = Good Null

-- ---- BETWEEN

pub between_leaves : {needs : List Need} (a b : Draft) (above below : Sides) (o : Operands) (first to n : ℕ) (f g k : Environment → Out) → first ≡ a.next → Offers (needing needs) a b (o.first ∷ o.second ∷ o.third ∷ []) (λ env. f env ∷ g env ∷ k env ∷ []) (λ env. n) → to < a.next → Leaves (needing needs) a (with_between b above below o first to) to (λ env. between_of (keys_of env.hosts) above below (f env) (g env) (k env)) (λ env. n + 3)
between_leaves {needs} a b above below o first to n f g k first_is x lt =
    let os = o.first ∷ o.second ∷ o.third ∷ [] in
    let low_op = op.Binary (binary.Compare compare.Ge above) o.first o.second b.next in
    let high_op = op.Binary (binary.Compare compare.Le below) o.first o.third to in
    let and_op = op.Binary binary.And (operand.Register b.next) (operand.Register to) to in
    let d1 = with_op (taken b) low_op in
    let d2 = with_op d1 high_op in
    let d3 = with_op d2 and_op in
    let values : Environment → List Out = λ env. f env ∷ g env ∷ k env ∷ [] in
    let at_least : Environment → Out = λ env. comparison_of (keys_of env.hosts) compare.Ge above (f env) (g env) in
    let at_most : Environment → Out = λ env. comparison_of (keys_of env.hosts) compare.Le below (f env) (k env) in
    leaves_of to (λ env. between_of (keys_of env.hosts) above below (f env) (g env) (k env)) as_begun (grows_then x.grows (grows_then (g_taken b) (grows_then (g_op (taken b) low_op) (grows_then (g_op d1 high_op) (grows_then (g_op d2 and_op) (g_released d3 first)))))) first_is (st_then x.grows x.steady (st_then (g_taken b) (st_taken needs [] b) (st_then (g_op (taken b) low_op) (st_reads needs [] (taken b) low_op refl (λ xs met. covers_low o.first o.second o.third xs (x.needs xs met))) (st_then (g_op d1 high_op) (st_reads needs [] d1 high_op refl (λ xs met. covers_high o.first o.second o.third xs (x.needs xs met))) (st_then (g_op d2 and_op) (st_op needs [] d2 and_op (refl, refl)) (st_released needs [] d3 first)))))) (λ h. refl) (λ m called.
    let reads : Here → Operand → Out = λ h. operand_in m h.regs h.inputs h.scene h.shared in
    let c1 : Claim = λ h0 h. But a.next to h0 h × Reads m h b.next os (values (environment_of m h0)) in
    let c2 : Claim = λ h0 h. But a.next to h0 h × Reads m h b.next os (values (environment_of m h0)) × (read h.regs b.next ≡ at_least (environment_of m h0)) in
    let c3 : Claim = λ h0 h. But a.next to h0 h × (read h.regs b.next ≡ at_least (environment_of m h0)) × (read h.regs to ≡ at_most (environment_of m h0)) in
    let done : Claim = λ h0 h. But a.next to h0 h × (read h.regs to ≡ and_of (at_least (environment_of m h0)) (at_most (environment_of m h0))) in
    let offered : Triple m a b (λ w. n) no_labels no_last as_begun c1 = t_offers m no_labels no_last as_begun c1 x (λ h0 h regs pre read_so same.
    (but_regs regs (λ i below_i ne. same i below_i) (begun_but a.next to h0 h pre), λ q kept. read_so q kept ∙ ap (λ (z : Here). values (environment_of m z)) pre)) in
    let take = t_draft m no_labels no_last c1 (g_taken b) refl in
    let low : Triple m (taken b) d1 (λ w. 1) no_labels no_last c1 c2 = t_put m (taken b) low_op b.next (λ h. comparison_of (keys_of m.hosts) compare.Ge above (reads h o.first) (reads h o.second)) no_labels no_last c1 c2 (omega arith) (λ at s. refl) (λ h0 h regs pre long is same.
    (but_regs regs (λ i below_i ne. same i (omega (arith, x.next))) pre.0, λ q kept. pre.1 q (λ i below_i. kept i below_i ∙ same i (omega arith)), is ∙ ap (of_two (comparison_of (keys_of m.hosts) compare.Ge above)) (pre.1 h.regs (λ i below_i. refl)))) in
    let high : Triple m d1 d2 (λ w. 1) no_labels no_last c2 c3 = t_put m d1 high_op to (λ h. comparison_of (keys_of m.hosts) compare.Le below (reads h o.first) (reads h o.third)) no_labels no_last c2 c3 (omega (arith, x.next)) (λ at s. refl) (λ h0 h regs pre long is same.
    (but_regs regs (λ i below_i ne. same i ne) pre.0, same b.next (omega (arith, x.next)) ∙ pre.2, is ∙ ap (of_three (λ v low high. comparison_of (keys_of m.hosts) compare.Le below v high)) (pre.1 h.regs (λ i below_i. refl)))) in
    let both : Triple m d2 d3 (λ w. 1) no_labels no_last c3 done = t_put m d2 and_op to (λ h. and_of (read h.regs b.next) (read h.regs to)) no_labels no_last c3 done (omega (arith, x.next)) (λ at s. refl) (λ h0 h regs pre long is same.
    (but_regs regs (λ i below_i ne. same i ne) pre.0, is ∙ ap (λ v. and_of v (read h.regs to)) pre.1 ∙ ap (and_of (at_least (environment_of m h0))) pre.2)) in
    let free = t_draft m no_labels no_last done (g_released d3 first) refl in
    t_more (λ w. n + 3) (λ w. omega arith) (t_seq (t_seq (t_seq (t_seq (t_seq offered take) low) high) both) free))

-- ---- operators whose left side may decide alone

jumps_on : (m : Setting) (wanted : Bool) (register target : ℕ) (at : ℕ → ℕ) (s : State) → act m (Some (placed at (jump_on wanted register target))) s ≡ jump_if (has_truth wanted (read s.regs register)) s (at target)
jumps_on m true register target at s = refl
jumps_on m false register target at s = refl

forks_on : (wanted : Bool) (register target : ℕ) → way_of (jump_on wanted register target) ≡ way.Forks target
forks_on true register target = refl
forks_on false register target = refl

uses_none : (wanted : Bool) (register target : ℕ) → needs_of (jump_on wanted register target) ≡ []
uses_none true register target = refl
uses_none false register target = refl

pub decided_leaves : {needs : List Need} (a b c : Draft) (operator : BinaryOperator) (wanted : Bool) (right : Operand) (to end first i n : ℕ) (f g : Environment → Out) → IsDecidedBy operator wanted → Leaves (needing needs) a b to (λ env. truth_of (f env)) (λ env. i) → end ≡ length b.labels → first ≡ b.next → Offers (needing needs) (with_left_tested b wanted to) c (right ∷ []) (λ env. g env ∷ []) (λ env. n) → to < a.next → a.next ≤ a.most → Leaves (needing needs) a (bound (released (with_op c (op.Binary operator (operand.Register to) right to)) first) end) to (λ env. binary_of (keys_of env.hosts) operator (f env) (g env)) (λ env. i + n + 2)
decided_leaves {needs} a b c operator wanted right to end first i n f g decided l end_is first_is x lt counted =
    let all : Environment → Out = λ env. binary_of (keys_of env.hosts) operator (f env) (g env) in
    leaves_of to all as_begun grown (first_is ∙ l.next) steady (λ h. refl) (λ m called.
    let done : Claim = λ h0 h. But a.next to h0 h × (read h.regs to ≡ all (environment_of m h0)) in
    let labels : Labels = with_claim end done no_labels in
    let c2 : Claim = λ h0 h. But a.next to h0 h × (read h.regs to ≡ truth_of (f (environment_of m h0))) in
    let c3 : Claim = λ h0 h. c2 h0 h × Reads m h c.next (right ∷ []) (g (environment_of m h0) ∷ []) in
    let left : Triple m a b (λ w. i) labels no_last as_begun c2 = t_leaves m tt labels no_last as_begun c2 l (λ h0 h pre. ap (environment_of m) pre) (λ h0 h regs pre long is same.
    (but_regs regs same (begun_but a.next to h0 h pre), is ∙ ap (λ (z : Here). truth_of (f (environment_of m z))) pre)) in
    let label = t_draft m labels no_last c2 (g_label b) refl in
    let tested : Triple m d1 d3 (λ w. 1) labels no_last c2 c2 = t_test m d1 test_op (length b.labels) (λ h. has_truth wanted (read h.regs to)) labels no_last c2 c2 (jumps_on m wanted to (length b.labels))
    (λ h0 h pre is. inl (sym end_is, (pre.0, pre.1 ∙ (decided (keys_of m.hosts) (f (environment_of m h0)) (g (environment_of m h0))).1 (ap (has_truth wanted) (sym pre.1) ∙ is))))
    (λ h0 h pre is. pre) in
    let offered : Triple m d3 c (λ w. n) labels no_last c2 c3 = t_offers m labels no_last c2 c3 x (λ h0 h regs pre reads same.
    ((but_regs regs (λ k below other. same k (omega (arith, l.next))) pre.0, same to (omega (arith, l.next)) ∙ pre.1), λ q kept. reads q kept ∙ ap (λ env. g env ∷ []) (but_env m pre.0))) in
    let last : Triple m c d4 (λ w. 1) labels no_last c3 done = t_put m c last_op to (λ h. binary_of (keys_of m.hosts) operator (read h.regs to) (operand_in m h.regs h.inputs h.scene h.shared right)) labels no_last c3 done (omega (arith, l.next, x.next, x.counted)) (λ at s. refl) (λ h0 h regs pre long is same.
    (but_regs regs (λ k below ne. same k ne) pre.0.0, is ∙ ap (λ v. binary_of (keys_of m.hosts) operator v (operand_in m h.regs h.inputs h.scene h.shared right)) pre.0.1 ∙ ap (of_one (binary_of (keys_of m.hosts) operator (truth_of (f (environment_of m h0))))) (pre.1 h.regs (λ k below. refl)) ∙ (decided (keys_of m.hosts) (f (environment_of m h0)) (g (environment_of m h0))).0)) in
    let free = t_draft m labels no_last done (g_released d4 first) refl in
    let whole = t_bind {g = no_labels} end done is_open (λ h0 h pre. pre) (t_seq (t_seq (t_seq (t_seq (t_seq left label) tested) offered) last) free) in
    t_more (λ w. i + n + 2) (λ w. omega arith) whole)
  where
    test_op : Op
    test_op = jump_on wanted to (length b.labels)

    last_op : Op
    last_op = op.Binary operator (operand.Register to) right to

    d1 : Draft
    d1 = with_label b

    d3 : Draft
    d3 = with_op d1 test_op

    d4 : Draft
    d4 = with_op c last_op

    d5 : Draft
    d5 = released d4 first

    is_open : slice_get d5.labels end ≡ Some None
    is_open = x.grows.open_labels end (subst (λ k. slice_get (with_label b).labels k ≡ Some None) (sym end_is) (open_new b))

    behind : Grows d1 d5
    behind = grows_then (g_op d1 test_op) (grows_then x.grows (grows_then (g_op c last_op) (g_released d4 first)))

    grown : Grows a (bound d5 end)
    grown = grows_then l.grows (g_bound d5 end (grows_then (g_label b) behind) (omega (arith, end_is)) is_open)

    inside : List ℕ
    inside = end ∷ []

    steady : Steady needs [] a (bound d5 end)
    steady = st_then l.grows l.steady (st_label end end_is behind (st_then (g_op d1 test_op) (st_fork needs inside d1 test_op (length b.labels) (forks_on wanted to (length b.labels)) (uses_none wanted to (length b.labels)) (inl end_is)) (st_then x.grows (st_within inside (λ xs met. met) x.steady) (st_then (g_op c last_op) (st_reads needs inside c last_op refl (λ xs met. covers_only right xs (x.needs xs met))) (st_released needs inside d4 first)))))

-- ---- IN: none is equal so far, and one operand more that may be

falsehood-merged : (a : Out) → merged a (Good (Integer (pos 0))) ≡ falsehood_of a
falsehood-merged (Good v) = refl
falsehood-merged (Bad causes) = refl

pub begun_turns : {needs : List Need} (a : Draft) (held to : ℕ) → to < a.next → a.next ≤ a.most → held < a.next → held ≢ to → Turns needs a (with_member_begun a held to) held to (λ env x y. falsehood_of x) 2
begun_turns {needs} a held to lt counted held_lt ne =
    let false_op = op.Integer (pos 0) to in
    let merge_op = op.Merge held to in
    let d1 = with_op a false_op in
    turns_of held to (λ env x y. falsehood_of x) (grows_then (g_op a false_op) (g_op d1 merge_op)) refl (st_then (g_op a false_op) (st_op needs [] a false_op (refl, refl)) (st_op needs [] d1 merge_op (refl, refl))) (λ m.
    let mid : Claim = λ h0 h. But a.next to h0 h × (read h.regs to ≡ Good (Integer (pos 0))) in
    let done : Claim = Turned m a.next held to (λ env x y. falsehood_of x) in
    let start : Triple m a d1 (λ w. 1) no_labels no_last as_begun mid = t_put m a false_op to (λ h. Good (Integer (pos 0))) no_labels no_last as_begun mid (omega arith) (λ at s. refl) (λ h0 h regs pre long is same.
    (but_regs regs (λ k below other. same k other) (begun_but a.next to h0 h pre), is)) in
    let merge : Triple m d1 (with_op d1 merge_op) (λ w. 1) no_labels no_last mid done = t_put m d1 merge_op to (λ h. merged (read h.regs held) (read h.regs to)) no_labels no_last mid done (omega arith) (λ at s. refl) (λ h0 h regs pre long is same.
    (but_regs regs (λ k below other. same k other) pre.0, is ∙ ap (merged (read h.regs held)) pre.1 ∙ falsehood-merged (read h.regs held) ∙ ap falsehood_of (pre.0.regs held held_lt ne))) in
    t_seq start merge)

pub or_equal_turns : {needs : List Need} (a b d : Draft) (sides : Sides) (other : Operand) (held first to i n : ℕ) (f : Environment → Out → Out → Out) (g : Environment → Out) → first ≡ b.next → Turns needs a b held to f i → Offers (needing needs) b d (other ∷ []) (λ env. g env ∷ []) (λ env. n) → to < a.next → held < a.next → held ≢ to → Turns needs a (with_or_equal d sides held other first to) held to (λ env x y. or_equal (keys_of env.hosts) sides x (f env x y) (g env)) (i + n + 2)
or_equal_turns {needs} a b d sides other held first to i n f g first_is t l lt held_lt ne =
    let compared = op.Binary (binary.Compare compare.Eq sides) (operand.Register held) other d.next in
    let joined = op.Binary binary.Or (operand.Register to) (operand.Register d.next) to in
    let d1 = with_op (taken d) compared in
    let d2 = with_op d1 joined in
    let all : Environment → Out → Out → Out = λ env x y. or_equal (keys_of env.hosts) sides x (f env x y) (g env) in
    turns_of held to all (grows_then t.grows (grows_then l.grows (grows_then (g_taken d) (grows_then (g_op (taken d) compared) (grows_then (g_op d1 joined) (g_released d2 first)))))) (first_is ∙ t.next) (st_then t.grows t.steady (st_then l.grows l.steady (st_then (g_taken d) (st_taken needs [] d) (st_then (g_op (taken d) compared) (st_reads needs [] (taken d) compared refl (λ xs met. covers_only other xs (l.needs xs met))) (st_then (g_op d1 joined) (st_op needs [] d1 joined (refl, refl)) (st_released needs [] d2 first)))))) (λ m.
    let done : Claim = Turned m a.next held to all in
    let c1 : Claim = Turned m a.next held to f in
    let c2 : Claim = λ h0 h. c1 h0 h × Reads m h d.next (other ∷ []) (g (environment_of m h0) ∷ []) in
    let c3 : Claim = λ h0 h. c1 h0 h × (read h.regs d.next ≡ comparison_of (keys_of m.hosts) compare.Eq sides (read h0.regs held) (g (environment_of m h0))) in
    let before : Triple m a b (λ w. i) no_labels no_last as_begun c1 = t_turns m no_labels no_last as_begun c1 t (λ h0 h regs pre is same.
    (but_regs regs same (begun_but a.next to h0 h pre), is ∙ ap (λ (z : Here). f (environment_of m z) (read z.regs held) (read z.regs to)) pre)) in
    let offered : Triple m b d (λ w. n) no_labels no_last c1 c2 = t_offers m no_labels no_last c1 c2 l (λ h0 h regs pre reads same.
    ((but_regs regs (λ k below other_k. same k (omega (arith, t.next))) pre.0, same to (omega (arith, t.next)) ∙ pre.1), λ q kept. reads q kept ∙ ap (λ env. g env ∷ []) (but_env m pre.0))) in
    let take = t_draft m no_labels no_last c2 (g_taken d) refl in
    let compare_it : Triple m (taken d) d1 (λ w. 1) no_labels no_last c2 c3 = t_put m (taken d) compared d.next (λ h. comparison_of (keys_of m.hosts) compare.Eq sides (read h.regs held) (operand_in m h.regs h.inputs h.scene h.shared other)) no_labels no_last c2 c3 (omega arith) (λ at s. refl) (λ h0 h regs pre long is same.
    ((but_regs regs (λ k below other_k. same k (omega (arith, l.next, t.next))) pre.0.0, same to (omega (arith, l.next, t.next)) ∙ pre.0.1), is ∙ ap (λ x. comparison_of (keys_of m.hosts) compare.Eq sides x (operand_in m h.regs h.inputs h.scene h.shared other)) (pre.0.0.regs held held_lt ne) ∙ ap (of_one (comparison_of (keys_of m.hosts) compare.Eq sides (read h0.regs held))) (pre.1 h.regs (λ k below. refl)))) in
    let join : Triple m d1 d2 (λ w. 1) no_labels no_last c3 done = t_put m d1 joined to (λ h. or_of (read h.regs to) (read h.regs d.next)) no_labels no_last c3 done (omega (arith, l.next, t.next)) (λ at s. refl) (λ h0 h regs pre long is same.
    (but_regs regs (λ k below other_k. same k other_k) pre.0.0, is ∙ ap (λ x. or_of x (read h.regs d.next)) pre.0.1 ∙ ap (or_of (f (environment_of m h0) (read h0.regs held) (read h0.regs to))) pre.1)) in
    let free = t_draft m no_labels no_last done (g_released d2 first) refl in
    t_more (λ w. i + n + 2) (λ w. omega arith) (t_seq (t_seq (t_seq (t_seq (t_seq before offered) take) compare_it) join) free))

-- ---- CASE: one arm

pub arm_decides : {needs : List Need} (a t v : Draft) (held to next end i n : ℕ) (c : Environment → Out → Out) (g : Environment → Out) → next ≡ length t.labels → Turns needs a t held to (λ env x y. truth_of (c env x)) i → Leaves (needing needs) (with_arm_tested t to end) v to (λ env. g env) (λ env. n) → to < a.next → a.next ≤ a.most → Decides needs a (with_arm_left v end next) held to end (λ env x. decided_by (truth_in (truth_of (c env x))) (g env)) (i + n + 3)
arm_decides {needs} a t v held to next end i n c g next_is x l lt counted =
    let all : Environment → Out → Option Out = λ env y. decided_by (truth_in (truth_of (c env y))) (g env) in
    let d1 = with_label t in
    let d3 = with_op d1 (op.IsBad to end) in
    let d4 = with_op d3 (op.IfNot to (length t.labels) true) in
    decides_of held to end all grown (l.next ∙ x.next) steady (λ m.
    let won : Claim = Won m a.next held to all in
    let done : Claim = Open m a.next held to all in
    let g1 : Labels = with_claim end won no_labels in
    let g2 : Labels = with_claim next done g1 in
    let cond_at : Here → Out = λ h0. c (environment_of m h0) (read h0.regs held) in
    let c2 : Claim = λ h0 h. But a.next to h0 h × (read h.regs to ≡ truth_of (cond_at h0)) in
    let c3 : Claim = λ h0 h. But a.next to h0 h × (read h.regs to ≡ truth_of (cond_at h0)) × (is_bad (truth_of (cond_at h0)) ≡ false) in
    let c4 : Claim = λ h0 h. But a.next to h0 h × (all (environment_of m h0) (read h0.regs held) ≡ Some (g (environment_of m h0))) in
    let first : Triple m a t (λ w. i) g2 no_last as_begun c2 = t_turns m g2 no_last as_begun c2 x (λ h0 h regs pre is same.
    (but_regs regs same (begun_but a.next to h0 h pre), is ∙ ap (λ (z : Here). truth_of (c (environment_of m z) (read z.regs held))) pre)) in
    let label = t_draft m g2 no_last c2 (g_label t) refl in
    let bad : Triple m d1 d3 (λ w. 1) g2 no_last c2 c3 = t_test m d1 (op.IsBad to end) end (λ h. is_bad (read h.regs to)) g2 no_last c2 c3 (λ at s. refl)
    (λ h0 h pre is. inr (inl (refl, (pre.0, decided_bad (truth_of (cond_at h0)) (g (environment_of m h0)) (ap is_bad (sym pre.1) ∙ is) ∙ ap Some (sym pre.1)))))
    (λ h0 h pre is. (pre.0, pre.1, ap is_bad (sym pre.1) ∙ is)) in
    let rejected : Triple m d3 d4 (λ w. 1) g2 no_last c3 c4 = t_test m d3 (op.IfNot to (length t.labels) true) (length t.labels) (λ h. is_rejected true (read h.regs to)) g2 no_last c3 c4 (λ at s. refl)
    (λ h0 h pre is. inl (sym next_is, (pre.0, decided_rejected (cond_at h0) (g (environment_of m h0)) (ap (is_rejected true) (sym pre.1) ∙ is))))
    (λ h0 h pre is. (pre.0, decided_accepted (cond_at h0) (g (environment_of m h0)) pre.2 (ap (is_rejected true) (sym pre.1) ∙ is))) in
    let value : Triple m d4 v (λ w. n) g2 no_last c4 won = t_leaves m tt g2 no_last c4 won l (λ h0 h pre. but_env m pre.0) (λ h0 h regs pre long is same.
    (but_regs regs (λ k below ne. same k (omega (arith, x.next)) ne) pre.0, pre.1 ∙ ap Some (sym (is ∙ ap g (but_env m pre.0))))) in
    let leave = t_goto m v end g2 no_last won (λ h0 h pre. inr (inl (refl, pre))) in
    let whole = t_bind {g = g1} next done is_open (λ h0 h pre. absurd pre) (t_seq (t_seq (t_seq (t_seq (t_seq first label) bad) rejected) value) leave) in
    t_more (λ w. i + n + 3) (λ w. omega arith) whole)
  where
    opened : slice_get (with_arm_tested t to end).labels next ≡ Some None
    opened = subst (λ k. slice_get (with_label t).labels k ≡ Some None) (sym next_is) (open_new t)

    is_open : slice_get (with_op v (op.Goto end)).labels next ≡ Some None
    is_open = l.grows.open_labels next opened

    tested : Grows t (with_arm_tested t to end)
    tested = grows_then (g_label t) (grows_then (g_op _ (op.IsBad to end)) (g_op _ (op.IfNot to (length t.labels) true)))

    inside : List ℕ
    inside = next ∷ end ∷ []

    -- the label of the next arm is the one that the test goes to
    at_next : Among inside (length t.labels)
    at_next = inl next_is

    steady : Steady needs (end ∷ []) a (with_arm_left v end next)
    steady = st_then x.grows (st_within (end ∷ []) (λ xs met. met) x.steady) (st_made next next_is (place-bound (with_op v (op.Goto end)) next is_open) (st_then (g_op _ (op.IsBad to end)) (st_fork needs inside _ (op.IsBad to end) end refl refl (inr (inl refl))) (st_then (g_op _ (op.IfNot to (length t.labels) true)) (st_fork needs inside _ (op.IfNot to (length t.labels) true) (length t.labels) refl refl at_next) (st_then l.grows (st_within inside (λ xs met. met) l.steady) (st_goto needs inside v end next (inr (inl refl)) (inl refl))))))

    grown : Grows a (with_arm_left v end next)
    grown = grows_then x.grows (g_bound (with_op v (op.Goto end)) next (grows_then tested (grows_then l.grows (g_op v (op.Goto end)))) (omega (arith, next_is)) is_open)

-- ---- coalesce: one operand

pub known_decides : {needs : List Need} (a b : Draft) (held to end n : ℕ) (g : Environment → Out) → Leaves (needing needs) a b to (λ env. g env) (λ env. n) → Decides needs a (with_known_left b to end) held to end (λ env x. decided_known (g env)) (n + 2)
known_decides {needs} a b held to end n g l =
    let next = length b.labels in
    let all : Environment → Out → Option Out = λ env y. decided_known (g env) in
    let d1 = with_label b in
    let d2 = with_op d1 (op.IsNull to next) in
    decides_of held to end all grown l.next steady (λ m.
    let won : Claim = Won m a.next held to all in
    let done : Claim = Open m a.next held to all in
    let g1 : Labels = with_claim end won no_labels in
    let g2 : Labels = with_claim next done g1 in
    let c1 : Claim = λ h0 h. But a.next to h0 h × (read h.regs to ≡ g (environment_of m h0)) in
    let first : Triple m a b (λ w. n) g2 no_last as_begun c1 = t_leaves m tt g2 no_last as_begun c1 l (λ h0 h pre. ap (environment_of m) pre) (λ h0 h regs pre long is same.
    (but_regs regs same (begun_but a.next to h0 h pre), is ∙ ap (λ (z : Here). g (environment_of m z)) pre)) in
    let label = t_draft m g2 no_last c1 (g_label b) refl in
    let null : Triple m d1 d2 (λ w. 1) g2 no_last c1 won = t_test m d1 (op.IsNull to next) next (λ h. is_null (read h.regs to)) g2 no_last c1 won (λ at s. refl)
    (λ h0 h pre is. inl (refl, (pre.0, known_null (g (environment_of m h0)) (ap is_null (sym pre.1) ∙ is))))
    (λ h0 h pre is. (pre.0, known_other (g (environment_of m h0)) (ap is_null (sym pre.1) ∙ is) ∙ ap Some (sym pre.1))) in
    let leave = t_goto m d2 end g2 no_last won (λ h0 h pre. inr (inl (refl, pre))) in
    let whole = t_bind {g = g1} next done (open_new b) (λ h0 h pre. absurd pre) (t_seq (t_seq (t_seq first label) null) leave) in
    t_more (λ w. n + 2) (λ w. omega arith) whole)
  where
    inside : List ℕ
    inside = length b.labels ∷ end ∷ []

    steady : Steady needs (end ∷ []) a (with_known_left b to end)
    steady = st_then l.grows (st_within (end ∷ []) (λ xs met. met) l.steady) (st_made (length b.labels) refl (place-bound (with_op (with_op (with_label b) (op.IsNull to (length b.labels))) (op.Goto end)) (length b.labels) (open_new b)) (st_then (g_op (with_label b) (op.IsNull to (length b.labels))) (st_fork needs inside (with_label b) (op.IsNull to (length b.labels)) (length b.labels) refl refl (inl refl)) (st_goto needs inside (with_op (with_label b) (op.IsNull to (length b.labels))) end (length b.labels) (inr (inl refl)) (inl refl))))

    grown : Grows a (with_known_left b to end)
    grown = grows_then l.grows (g_bound (with_op (with_op (with_label b) (op.IsNull to (length b.labels))) (op.Goto end)) (length b.labels) (grows_then (g_label b) (grows_then (g_op (with_label b) (op.IsNull to (length b.labels))) (g_op _ (op.Goto end)))) (omega arith) (open_new b))
