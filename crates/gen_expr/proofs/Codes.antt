-- The code of each kind of expression, by the code of its parts.
use Rattle.std.proofs.Common.{◌≡◌, ◌≢◌, ◌∙◌, Bool, ℕ, zero, suc, ◌+◌, ◌≤◌, ◌<◌, List, [], ◌∷◌, ◌++◌, length, map, fold, take, get_or, refl, sym, ap, subst, arith, Some, ◌⊎◌, inl, inr}
use Rattle.std.specs.List.{flat_map}
use Rattle.std.specs.Prelude.{sum_by}
use Rattle.std.proofs.lemmas.List.{append-nil, take_more}
use Rattle.std.proofs.lemmas.List.Concat.{flat_map-cons}
use Rattle.std.proofs.lemmas.List.Sums.{fold-append, sum_by-cons}
use Rattle.bound_tree.specs.Exprs as e
use Rattle.bound_tree.specs.Exprs.{BoundArm, BoundExpr, BoundMatch}
use Rattle.bound_tree.specs.Seen.{seen}
use Rattle.bound_tree.specs.declared.tree.ExprTree.{ExprTree}
use Rattle.eng_key.specs.Values.{value_keys}
use Rattle.eng_value.specs.Applied.{unary_of, binary_of, member_of, or_equal, function_by}
use Rattle.eng_value.specs.Collations.{keys_of}
use Rattle.eng_value.specs.Comparisons.{comparison_of, like_escaped_of}
use Rattle.eng_value.specs.Environments.{Environment, row_at}
use Rattle.eng_value.specs.HostMeanings.{HostMeanings}
use Rattle.eng_value.specs.Truths.{truth_of}
use Rattle.eng_value.specs.declared.builtin.Builtin.{Builtin}
use Rattle.eng_value.specs.declared.collation.Collation.{Collation}
use Rattle.eng_value.specs.declared.compare_op.CompareOp.TheVariants as compare
use Rattle.eng_value.specs.declared.operators.BinaryOperator.{BinaryOperator}
use Rattle.eng_value.specs.declared.operators.BinaryOperator.TheVariants as binary
use Rattle.eng_value.specs.declared.operators.Sides.{Sides}
use Rattle.eng_value.specs.declared.operators.UnaryOperator.{UnaryOperator}
use Rattle.eng_value.specs.declared.out.Out.{Out}
use Rattle.eng_value.specs.declared.out.Out.TheVariants.{Good}
use Rattle.eng_value.specs.declared.value.Value.{Value}
use Rattle.eng_value.specs.declared.value.Value.TheVariants as value
use Rattle.gen_expr.specs.declared.parts.Operands.{Operands}
use Rattle.gen_expr.specs.Needs.{arm_needs_of, match_needs_of, needs_of}
use Rattle.gen_expr.specs.Parts.{Turns, Decides, IsDecidedBy, decided_arm, decided_known, decided_match, first_in, first_of, with_arm_left, with_arm_tested, with_between, with_known_left, with_left_tested, with_like_escaped, with_member_begun, with_or_equal}
use Rattle.gen_expr.specs.Steps.{steps_of, arm_steps_of, match_steps_of, test_steps}
use Rattle.gen_expr.proofs.Covering.{Covers, covers_condition, covers_first, covers_is, covers_item, covers_left, covers_none, covers_operand, covers_right, covers_second, covers_shown, covers_third, covers_value, needs_of-Call, needs_of-Choose, needs_of-Coalesce, needs_of-In, needs_of-Match}
use Rattle.gen_expr.proofs.Deciding.{first_in-last, chosen_in-first, matched_in-first, first_known-first}
use Rattle.gen_expr.proofs.Forms.{arm_decides, begun_turns, between_leaves, decided_leaves, known_decides, of_one, of_three, of_two, or_equal_turns}
use Rattle.gen_expr.proofs.StepLaws.{steps_of-In, steps_of-Coalesce, steps_of-Choose, steps_of-Match, steps_of-Call, sum_by-last}
use Rattle.gen_expr.proofs.Truths.{comparison_truth}
use Rattle.gen_expr.proofs.Stretches.{decides_as, decides_none, decides_then, decides_wider, leaves_held, leaves_turns, turns_as, turns_by, turns_decided, turns_leaves, turns_then, turns_wider}
use Rattle.sql_meaning.specs.Clauses.{value_of-In, value_of-Coalesce, value_of-Choose, value_of-Match, value_of-Call}
use Rattle.sql_meaning.specs.Expression.{value_of, arm_of, match_of, literal_out, column_of_item, parameter_of, unbuilt, first_known, chosen_in, matched_in, in_all}
use Rattle.sql_words.specs.declared.literal.Literal.{Literal}
use Rattle.vm_code.specs.declared.open_cursor.Need.{Need}
use Rattle.vm_code.specs.declared.open_cursor.Need.TheVariants as need
use Rattle.vm_code.specs.declared.op.Op.{Op}
use Rattle.vm_code.specs.declared.op.Op.TheVariants as op
use Rattle.vm_code.specs.declared.operand.Operand.{Operand}
use Rattle.vm_code.specs.declared.operand.Operand.TheVariants as operand
use Rattle.vm_code.specs.Draft.{Draft, with_op, with_label, bound, taken, given_back, released}
use Rattle.vm_code.specs.Track.{operand_needs}
use Rattle.vm_code.specs.Machine.{Setting, State, act, operand_of, parameter_at, put}
use Rattle.vm_code.specs.Frames.{Leaves, Offers, here, needing, placed}
use Rattle.vm_code.proofs.Operands.{IsPlain, Takes, column_plain, constant_plain, parameter_plain, rowid_plain, leaves_by, offers_none, offers_plain, offers_same, offers_then, offers_value, offers_wider, takes_all, takes_one, takes_three, takes_two}
use Rattle.vm_code.proofs.Values.{leaves_op, leaves_reads, leaves_same, leaves_wider}

-- code that leaves what an expression comes to
abbrev pub Emits : Draft → Draft → ℕ → BoundExpr → Type 0
Emits a b to x = Leaves (needing (needs_of x)) a b to (λ env. value_of x env) (λ env. steps_of x)

-- code behind which an operand reads what an expression comes to
abbrev pub OffersOne : Draft → Draft → Operand → BoundExpr → Type 0
OffersOne a b o x = Offers (needing (needs_of x)) a b (o ∷ []) (λ env. value_of x env ∷ []) (λ env. steps_of x)

-- the same of a function that agrees, in more instructions
leaves_as : {needs : List Need} {a b : Draft} {to i : ℕ} {f : Environment → Out} (g : Environment → Out) (n : ℕ) → ((env : Environment) → f env ≡ g env) → i ≤ n → Leaves (needing needs) a b to (λ env. f env) (λ env. i) → Leaves (needing needs) a b to (λ env. g env) (λ env. n)
leaves_as g n same le l = leaves_same (λ env. g env) (λ env. n) same (λ env. le) l

-- ---- without operands

pub of_column : (d : Draft) (item place to : ℕ) → to < d.next → d.next ≤ d.most → Emits d (with_op d (op.Column item place to)) to (e.Column item place)
of_column d item place to lt counted =
    leaves_reads (needing (need.Rows item ∷ [])) d (op.Column item place to) to (λ env. column_of_item env item place) refl (λ xs met. met) lt counted (λ m at s. ap (put s to) ((column_plain item place).reads m (here s) s.regs))

pub of_rowid : (d : Draft) (item to : ℕ) → to < d.next → d.next ≤ d.most → Emits d (with_op d (op.Rowid item to)) to (e.Rowid item)
of_rowid d item to lt counted =
    leaves_reads (needing (need.Rows item ∷ [])) d (op.Rowid item to) to (λ env. (row_at env item).rowid) refl (λ xs met. met) lt counted (λ m at s. ap (put s to) ((rowid_plain item).reads m (here s) s.regs))

parameter_is : (params : List Value) (number : ℕ) → parameter_at params number ≡ parameter_of params number
parameter_is params zero = refl
parameter_is params (suc k) = refl

pub of_parameter : (d : Draft) (number to : ℕ) → to < d.next → d.next ≤ d.most → Emits d (with_op d (op.Variable number to)) to (e.Parameter number)
of_parameter d number to lt counted =
    leaves_op (needing []) d (op.Variable number to) to (λ env. parameter_of env.params number) (refl, refl) lt counted (λ m at s. ap (put s to) (parameter_is m.params number))

-- ---- what does not run

abbrev pub IsUnbuilt : BoundExpr → Type 0
IsUnbuilt x = ((env : Environment) → value_of x env ≡ unbuilt) × (steps_of x ≡ 1)

pub not_built : {tree same : ExprTree} {x : BoundExpr} → tree ≡ same → seen same ≡ x → ((env : Environment) → value_of x env ≡ unbuilt) → steps_of x ≡ 1 → IsUnbuilt (seen tree)
not_built is seen_is value steps = subst (λ (y : BoundExpr). IsUnbuilt y) (sym (ap seen is ∙ seen_is)) (value, steps)

pub by_cases : {A B C : Type 0} → A ⊎ B → (A → C) → (B → C) → C
by_cases (inl a) f g = f a
by_cases (inr b) f g = g b

pub of_unbuilt : (a b : Draft) (to : ℕ) (x : BoundExpr) → IsUnbuilt x → Leaves (needing []) a b to (λ env. unbuilt) (λ env. 1) → Emits a b to x
of_unbuilt a b to x off l = leaves_as {f = λ env. unbuilt} (value_of x) (steps_of x) (λ env. sym (off.0 env)) (omega (arith, off.1)) (leaves_wider (needs_of x) (covers_none (needs_of x)) l)

-- ---- operands

plain_offered : (a : Draft) (o : Operand) (x : BoundExpr) (f : Environment → Out) → IsPlain o (λ env. f env) → ((env : Environment) → f env ≡ value_of x env) → Covers (needs_of x) (operand_needs o) → a.next ≤ a.most → OffersOne a a o x
plain_offered a o x f plain is covers counted =
    offers_same (λ env. value_of x env ∷ []) (λ env. steps_of x) (λ env. ap (λ v. v ∷ []) (is env)) (λ env. omega arith) (offers_plain (needing (needs_of x)) a o (λ env. f env) plain covers counted)

pub literal_offered : (a : Draft) (l : Literal) → a.next ≤ a.most → OffersOne a a (operand.Constant (literal_out l)) (e.Literal l)
literal_offered a l counted =
    plain_offered a (operand.Constant (literal_out l)) (e.Literal l) (λ env. literal_out l) (constant_plain (literal_out l)) (λ env. refl) (covers_none []) counted

pub column_offered : (a : Draft) (item place : ℕ) → a.next ≤ a.most → OffersOne a a (operand.Column item place) (e.Column item place)
column_offered a item place counted =
    plain_offered a (operand.Column item place) (e.Column item place) (λ env. column_of_item env item place) (column_plain item place) (λ env. refl) (λ xs met. met) counted

pub parameter_offered : (a : Draft) (number : ℕ) → a.next ≤ a.most → OffersOne a a (operand.Parameter number) (e.Parameter number)
parameter_offered a number counted =
    plain_offered a (operand.Parameter number) (e.Parameter number) (λ env. parameter_at env.params number) (parameter_plain number) (λ env. parameter_is env.params number) (covers_none []) counted

pub register_offered : (a t b : Draft) (r : ℕ) (x : BoundExpr) → r ≡ a.next → t ≡ taken a → Emits t b r x → OffersOne a b (operand.Register r) x
register_offered a t b r x r_is t_is l = offers_value r r_is (subst (λ (d : Draft). Emits d b r x) t_is l)

-- ---- an instruction that reads operands

of_last : (z : BoundExpr) {a b : Draft} {os : List Operand} {f : Environment → List Out} {n : ℕ} (o : Op) (first to : ℕ) (u : HostMeanings → List Out → Out) → Takes os o → first ≡ a.next → Offers (needing (needs_of z)) a b os (λ env. f env) (λ env. n) → to < a.next → ((m : Setting) (at : ℕ → ℕ) (s : State) → act m (Some (placed at o)) s ≡ put s to (u m.hosts (map (operand_of m s) os))) → ((env : Environment) → u env.hosts (f env) ≡ value_of z env) → n + 1 ≤ steps_of z → Emits a (released (with_op b o) first) to z
of_last z {a} {b} {os} {f} {n} o first to u on first_is x lt law same le =
    subst (λ k. Emits a (released (with_op b o) k) to z) (sym first_is) (leaves_as {f = λ env. u env.hosts (f env)} (value_of z) (steps_of z) same le (leaves_by o to u on x lt law))

pub of_unary : (a b : Draft) (o : UnaryOperator) (p : Operand) (first to : ℕ) (x : BoundExpr) → first ≡ a.next → OffersOne a b p x → to < a.next → Emits a (released (with_op b (op.Unary o p to)) first) to (e.Unary o x)
of_unary a b o p first to x first_is l lt =
    of_last (e.Unary o x) (op.Unary o p to) first to (λ hosts. of_one (unary_of o)) (takes_one p (op.Unary o p to) refl refl) first_is l lt (λ m at s. refl) (λ env. refl) (omega arith)

-- an operator on two expressions, in so many instructions
abbrev pub Joins : Draft → Draft → ℕ → BinaryOperator → BoundExpr → BoundExpr → ℕ → Type 0
Joins a b to o x y n = Leaves (needing (needs_of x ++ needs_of y)) a b to (λ env. binary_of (keys_of env.hosts) o (value_of x env) (value_of y env)) (λ env. n)

joins_as : {a b : Draft} {to i : ℕ} (o : BinaryOperator) (x y : BoundExpr) (n : ℕ) → i ≤ n → Joins a b to o x y i → Joins a b to o x y n
joins_as o x y n le l = leaves_as (λ env. binary_of (keys_of env.hosts) o (value_of x env) (value_of y env)) n (λ env. refl) le l

pub both_joined : (a b d : Draft) (o : BinaryOperator) (p q : Operand) (first to : ℕ) (x y : BoundExpr) → first ≡ a.next → OffersOne a b p x → OffersOne b d q y → to < a.next → Joins a (released (with_op d (op.Binary o p q to)) first) to o x y (steps_of x + steps_of y + 1 + test_steps o)
both_joined a b d o p q first to x y first_is l r lt =
    subst (λ k. Joins a (released (with_op d (op.Binary o p q to)) k) to o x y (steps_of x + steps_of y + 1 + test_steps o)) (sym first_is) (joins_as o x y (steps_of x + steps_of y + 1 + test_steps o) (omega arith) (leaves_by (op.Binary o p q to) to (λ hosts. of_two (binary_of (keys_of hosts) o)) (takes_two p q (op.Binary o p q to) refl refl) (offers_then (offers_wider (needs_of x ++ needs_of y) (covers_left (needs_of x) (needs_of y)) l) (offers_wider (needs_of x ++ needs_of y) (covers_right (needs_of x) (needs_of y)) r)) lt (λ m at s. refl)))

pub decided_within : (a b : Draft) (o : BinaryOperator) (to : ℕ) (x y : BoundExpr) → test_steps o ≡ 2 → Joins a b to o x y (steps_of x + steps_of y + 3) → Joins a b to o x y (steps_of x + steps_of y + 1 + test_steps o)
decided_within a b o to x y is l = joins_as o x y (steps_of x + steps_of y + 1 + test_steps o) (omega (arith, is)) l

-- the truth of an expression is left
abbrev pub EmitsTruth : Draft → Draft → ℕ → BoundExpr → Type 0
EmitsTruth a b to x = Leaves (needing (needs_of x)) a b to (λ env. truth_of (value_of x env)) (λ env. steps_of x + 1)

pub decided_joined : (a b t c d z : Draft) (o : BinaryOperator) (wanted : Bool) (q : Operand) (to end first : ℕ) (x y : BoundExpr) → IsDecidedBy o wanted → EmitsTruth a b to x → end ≡ length b.labels → t ≡ with_left_tested b wanted to → first ≡ t.next → OffersOne t c q y → d ≡ released (with_op c (op.Binary o (operand.Register to) q to)) first → z ≡ bound d end → to < a.next → a.next ≤ a.most → Joins a z to o x y (steps_of x + steps_of y + 3)
decided_joined a b t c d z o wanted q to end first x y decided l end_is t_is first_is r d_is z_is lt counted =
    subst (λ (k : Draft). Joins a k to o x y (steps_of x + steps_of y + 3)) (sym (z_is ∙ ap (λ (k : Draft). bound k end) d_is))
    (joins_as o x y (steps_of x + steps_of y + 3) (omega arith) (decided_leaves a b c o wanted q to end first (steps_of x + 1) (steps_of y) (value_of x) (value_of y) decided (leaves_wider (needs_of x ++ needs_of y) (covers_left (needs_of x) (needs_of y)) l) end_is (first_is ∙ ap (λ (k : Draft). k.next) t_is) (offers_wider (needs_of x ++ needs_of y) (covers_right (needs_of x) (needs_of y)) (subst (λ (k : Draft). OffersOne k c q y) t_is r)) lt counted))

-- three operands
abbrev pub OffersThree : Draft → Draft → Operands → BoundExpr → BoundExpr → BoundExpr → Type 0
OffersThree a b o x y z =
    Offers (needing (needs_of x ++ needs_of y ++ needs_of z)) a b (o.first ∷ o.second ∷ o.third ∷ []) (λ env. value_of x env ∷ value_of y env ∷ value_of z env ∷ []) (λ env. steps_of x + steps_of y + steps_of z)

pub three_offered : (a b c d : Draft) (o : Operands) (x y z : BoundExpr) → OffersOne a b o.first x → OffersOne b c o.second y → OffersOne c d o.third z → OffersThree a d o x y z
three_offered a b c d o x y z l r q =
    let all = needs_of x ++ needs_of y ++ needs_of z in
    offers_then (offers_then (offers_wider all (covers_first (needs_of x) (needs_of y) (needs_of z)) l) (offers_wider all (covers_second (needs_of x) (needs_of y) (needs_of z)) r)) (offers_wider all (covers_third (needs_of x) (needs_of y) (needs_of z)) q)

pub of_like_escaped : (a b : Draft) (o : Operands) (first to : ℕ) (x y z : BoundExpr) → first ≡ a.next → OffersThree a b o x y z → to < a.next → Emits a (with_like_escaped b o first to) to (e.LikeEscaped x y z)
of_like_escaped a b o first to x y z first_is l lt =
    of_last (e.LikeEscaped x y z) (op.LikeEscaped o.first o.second o.third to) first to (λ hosts. of_three like_escaped_of) (takes_three o.first o.second o.third (op.LikeEscaped o.first o.second o.third to) refl refl) first_is l lt (λ m at s. refl) (λ env. refl) (omega arith)

pub of_between : (a b : Draft) (above below : Sides) (o : Operands) (first to : ℕ) (x y z : BoundExpr) → first ≡ a.next → OffersThree a b o x y z → to < a.next → Emits a (with_between b above below o first to) to (e.Between above below x y z)
of_between a b above below o first to x y z first_is l lt =
    leaves_as (value_of (e.Between above below x y z)) (steps_of (e.Between above below x y z)) (λ env. refl) (omega arith)
    (between_leaves a b above below o first to (steps_of x + steps_of y + steps_of z) (value_of x) (value_of y) (value_of z) first_is l lt)

-- ---- functions

in_all-last : (xs : List BoundExpr) (x : BoundExpr) (env : Environment) → in_all (map value_of xs) env ++ value_of x env ∷ [] ≡ in_all (map value_of (xs ++ x ∷ [])) env
in_all-last [] x env = refl
in_all-last (y ∷ ys) x env = ap (λ l. value_of y env ∷ l) (in_all-last ys x env)

-- the first elements and one more
more_of : {A : Type 0} (xs : List A) (i : ℕ) (x : A) → i < length xs → x ≡ get_or xs i x → take i xs ++ x ∷ [] ≡ take (i + 1) xs
more_of xs i x lt is = sym (take_more xs i x lt ∙ ap (λ y. take i xs ++ y ∷ []) (sym is))

-- operands that read what some expressions come to
abbrev pub OffersAll : List Need → Draft → Draft → List Operand → List BoundExpr → Type 0
OffersAll needs a b os es = Offers (needing needs) a b os (λ env. in_all (map value_of es) env) (λ env. sum_by steps_of es)

pub none_offered : (needs : List Need) (a : Draft) (os : List Operand) → os ≡ [] → a.next ≤ a.most → OffersAll needs a a os []
none_offered needs a os is counted =
    subst (λ (ps : List Operand). OffersAll needs a a ps []) (sym is) (offers_none (needing needs) a counted)

pub all_more : (a b d : Draft) (os ps : List Operand) (o : Operand) (es : List BoundExpr) (i : ℕ) (x : BoundExpr) → i < length es → x ≡ get_or es i x → ps ≡ os ++ o ∷ [] → OffersAll (flat_map needs_of es) a b os (take i es) → OffersOne b d o x → OffersAll (flat_map needs_of es) a d ps (take (i + 1) es)
all_more a b d os ps o es i x lt is ps_is l r =
    let more = more_of es i x lt is in
    let steps = sym (sum_by-last steps_of (take i es) x) ∙ ap (sum_by steps_of) more in
    offers_same (λ env. in_all (map value_of (take (i + 1) es)) env) (λ env. sum_by steps_of (take (i + 1) es)) (λ env. in_all-last (take i es) x env ∙ ap (λ xs. in_all (map value_of xs) env) more) (λ env. omega (arith, steps)) (subst (λ qs. Offers (needing (flat_map needs_of es)) a d qs (λ env. in_all (map value_of (take i es)) env ++ value_of x env ∷ []) (λ env. sum_by steps_of (take i es) + steps_of x)) (sym ps_is) (offers_then l (offers_wider (flat_map needs_of es) (covers_item needs_of es i x lt is) r)))

pub of_call : (a b : Draft) (f : Builtin) (collation : Collation) (os : List Operand) (first to : ℕ) (args : List BoundExpr) → first ≡ a.next → OffersAll (flat_map needs_of args) a b os args → to < a.next → Emits a (released (with_op b (op.Function f collation os to)) first) to (e.Call f collation args)
of_call a b f collation os first to args first_is l lt =
    of_last (e.Call f collation args) (op.Function f collation os to) first to (λ hosts. function_by (value_keys (keys_of hosts)) f collation) (takes_all os (op.Function f collation os to) refl refl) first_is (offers_wider (needs_of (e.Call f collation args)) (covers_is (needs_of-Call f collation args)) l) lt (λ m at s. refl) (λ env. sym (value_of-Call f collation args env)) (omega (arith, steps_of-Call f collation args))

-- ---- IN

abbrev pub equal_among : Sides → List BoundExpr → Environment → Out → Out → Out
equal_among sides es env x y = fold (or_equal (keys_of env.hosts) sides x) y (in_all (map value_of es) env)

pub member_more : (a b d : Draft) (sides : Sides) (other : Operand) (held first to i : ℕ) (es : List BoundExpr) (x : BoundExpr) → i < length es → x ≡ get_or es i x → first ≡ b.next → Turns (flat_map needs_of es) a b held to (λ env y z. equal_among sides (take i es) env y z) (sum_by (λ o. steps_of o + 2) (take i es)) → OffersOne b d other x → to < a.next → held < a.next → held ≢ to → Turns (flat_map needs_of es) a (with_or_equal d sides held other first to) held to (λ env y z. equal_among sides (take (i + 1) es) env y z) (sum_by (λ o. steps_of o + 2) (take (i + 1) es))
member_more a b d sides other held first to i es x lt is first_is t l to_lt held_lt ne =
    let more = more_of es i x lt is in
    let steps : sum_by (λ o. steps_of o + 2) (take i es) + (steps_of x + 2) ≡ sum_by (λ o. steps_of o + 2) (take (i + 1) es) = sym (sum_by-last (λ o. steps_of o + 2) (take i es) x) ∙ ap (sum_by (λ o. steps_of o + 2)) more in
    turns_as (λ env y z. equal_among sides (take (i + 1) es) env y z) (sum_by (λ o. steps_of o + 2) (take (i + 1) es))
    (λ env y z. sym (fold-append (or_equal (keys_of env.hosts) sides y) z (in_all (map value_of (take i es)) env) (value_of x env ∷ [])) ∙ ap (fold (or_equal (keys_of env.hosts) sides y) z) (in_all-last (take i es) x env) ∙ ap (λ xs. equal_among sides xs env y z) more)
    (omega (arith, steps))
    (or_equal_turns a b d sides other held first to (sum_by (λ o. steps_of o + 2) (take i es)) (steps_of x) (λ env y z. equal_among sides (take i es) env y z) (value_of x) first_is t (offers_wider (flat_map needs_of es) (covers_item needs_of es i x lt is) l) to_lt held_lt ne)

pub member_leaves : (a b c : Draft) (sides : Sides) (held to : ℕ) (es : List BoundExpr) (x : BoundExpr) → held ≡ a.next → Emits (taken a) b held x → Turns (flat_map needs_of es) (with_member_begun b held to) c held to (λ env y z. equal_among sides es env y z) (sum_by (λ o. steps_of o + 2) es) → to < a.next → a.next ≤ a.most → Leaves (needing (needs_of x ++ flat_map needs_of es)) a (given_back c) to (λ env. member_of (keys_of env.hosts) sides (value_of x env) (in_all (map value_of es) env)) (λ env. steps_of x + 2 + sum_by (λ o. steps_of o + 2) es)
member_leaves a b c sides held to es x is_next l t lt counted =
    let all = turns_then (begun_turns b held to (omega (arith, l.next)) (omega (arith, l.next, l.grows.most)) (omega (arith, is_next, l.next)) (omega (arith, is_next))) (turns_wider (needs_of x ++ flat_map needs_of es) (covers_right (needs_of x) (flat_map needs_of es)) t) (omega (arith, is_next, l.next)) (omega (arith, is_next)) in
    leaves_as {f = λ env. member_of (keys_of env.hosts) sides (value_of x env) (in_all (map value_of es) env)} (λ env. member_of (keys_of env.hosts) sides (value_of x env) (in_all (map value_of es) env)) (steps_of x + 2 + sum_by (λ o. steps_of o + 2) es) (λ env. refl) (omega arith)
    (leaves_held a b c held to (steps_of x) (2 + sum_by (λ o. steps_of o + 2) es) (value_of x) (λ env y. member_of (keys_of env.hosts) sides y (in_all (map value_of es) env)) is_next (leaves_wider (needs_of x ++ flat_map needs_of es) (covers_left (needs_of x) (flat_map needs_of es)) l) all lt)

pub of_in : (a b : Draft) (sides : Sides) (to : ℕ) (x : BoundExpr) (es : List BoundExpr) → Leaves (needing (needs_of x ++ flat_map needs_of es)) a b to (λ env. member_of (keys_of env.hosts) sides (value_of x env) (in_all (map value_of es) env)) (λ env. steps_of x + 2 + sum_by (λ o. steps_of o + 2) es) → Emits a b to (e.In sides x es)
of_in a b sides to x es l = leaves_as (value_of (e.In sides x es)) (steps_of (e.In sides x es)) (λ env. sym (value_of-In sides x es env)) (omega (arith, steps_of-In sides x es)) (leaves_wider (needs_of (e.In sides x es)) (covers_is (needs_of-In sides x es)) l)

-- ---- coalesce

pub known_more : (a b d : Draft) (to end i : ℕ) (es : List BoundExpr) (x : BoundExpr) → i < length es → x ≡ get_or es i x → Decides (flat_map needs_of es) a b to to end (λ env y. first_in (λ o. decided_known (value_of o env)) (take i es)) (sum_by (λ o. steps_of o + 2) (take i es)) → Emits b d to x → Decides (flat_map needs_of es) a (with_known_left d to end) to to end (λ env y. first_in (λ o. decided_known (value_of o env)) (take (i + 1) es)) (sum_by (λ o. steps_of o + 2) (take (i + 1) es))
known_more a b d to end i es x lt is t l =
    let more = more_of es i x lt is in
    let steps : sum_by (λ o. steps_of o + 2) (take i es) + (steps_of x + 2) ≡ sum_by (λ o. steps_of o + 2) (take (i + 1) es) = sym (sum_by-last (λ o. steps_of o + 2) (take i es) x) ∙ ap (sum_by (λ o. steps_of o + 2)) more in
    decides_as (λ env y. first_in (λ o. decided_known (value_of o env)) (take (i + 1) es)) (sum_by (λ o. steps_of o + 2) (take (i + 1) es))
    (λ env y. sym (first_in-last (λ o. decided_known (value_of o env)) (take i es) x) ∙ ap (first_in (λ o. decided_known (value_of o env))) more)
    (omega (arith, steps))
    (decides_then t (known_decides b d to to end (steps_of x) (value_of x) (leaves_wider (flat_map needs_of es) (covers_item needs_of es i x lt is) l)) (λ env r q same. refl))

pub known_leaves : (a b : Draft) (to end : ℕ) (es : List BoundExpr) → end ≡ length a.labels → Decides (flat_map needs_of es) (with_label a) b to to end (λ env y. first_in (λ o. decided_known (value_of o env)) es) (sum_by (λ o. steps_of o + 2) es) → to < a.next → a.next ≤ a.most → Leaves (needing (flat_map needs_of es)) a (bound (with_op b (op.Null to)) end) to (λ env. first_known (in_all (map value_of es) env)) (λ env. sum_by (λ o. steps_of o + 2) es + 1)
known_leaves a b to end es end_is t lt counted =
    leaves_as (λ env. first_known (in_all (map value_of es) env)) (sum_by (λ o. steps_of o + 2) es + 1) (λ env. sym (first_known-first value_of es env)) (omega arith)
    (leaves_turns to (turns_decided a b (with_op b (op.Null to)) to to end (sum_by (λ o. steps_of o + 2) es) 1 (λ env y. first_in (λ o. decided_known (value_of o env)) es) (λ env. Good value.Null) end_is t (leaves_op (needing (flat_map needs_of es)) b (op.Null to) to (λ env. Good value.Null) (refl, refl) (omega (arith, t.next)) (omega (arith, t.next, t.grows.most)) (λ m at s. refl))))

pub of_coalesce : (a b : Draft) (f : Builtin) (to : ℕ) (es : List BoundExpr) → Leaves (needing (flat_map needs_of es)) a b to (λ env. first_known (in_all (map value_of es) env)) (λ env. sum_by (λ o. steps_of o + 2) es + 1) → Emits a b to (e.Coalesce f es)
of_coalesce a b f to es l = leaves_as (value_of (e.Coalesce f es)) (steps_of (e.Coalesce f es)) (λ env. sym (value_of-Coalesce f es env)) (omega (arith, steps_of-Coalesce f es)) (leaves_wider (needs_of (e.Coalesce f es)) (covers_is (needs_of-Coalesce f es)) l)

-- ---- CASE with conditions

pub choice_more : (a b c v : Draft) (to next end i : ℕ) (arms : List BoundArm) (arm : BoundArm) (condition shown : BoundExpr) → i < length arms → arm ≡ get_or arms i arm → arm ≡ record { condition = condition; value = shown } → Decides (flat_map arm_needs_of arms) a b to to end (λ env y. first_in (λ o. decided_arm env (arm_of o)) (take i arms)) (sum_by arm_steps_of (take i arms)) → EmitsTruth b c to condition → next ≡ length c.labels → Emits (with_arm_tested c to end) v to shown → to < b.next → b.next ≤ b.most → Decides (flat_map arm_needs_of arms) a (with_arm_left v end next) to to end (λ env y. first_in (λ o. decided_arm env (arm_of o)) (take (i + 1) arms)) (sum_by arm_steps_of (take (i + 1) arms))
choice_more a b c v to next end i arms arm condition shown lt is arm_is t l next_is lv to_lt counted =
    let more = more_of arms i arm lt is in
    let steps : sum_by arm_steps_of (take i arms) + arm_steps_of arm ≡ sum_by arm_steps_of (take (i + 1) arms) = sym (sum_by-last arm_steps_of (take i arms) arm) ∙ ap (sum_by arm_steps_of) more in
    let own : Covers (flat_map arm_needs_of arms) (needs_of condition ++ needs_of shown) = subst (λ o. Covers (flat_map arm_needs_of arms) (arm_needs_of o)) arm_is (covers_item arm_needs_of arms i arm lt is) in
    decides_as (λ env y. first_in (λ o. decided_arm env (arm_of o)) (take (i + 1) arms)) (sum_by arm_steps_of (take (i + 1) arms))
    (λ env y. ap (λ d. first_of (first_in (λ o. decided_arm env (arm_of o)) (take i arms)) (decided_arm env d)) (sym (ap arm_of arm_is)) ∙ sym (first_in-last (λ o. decided_arm env (arm_of o)) (take i arms) arm) ∙ ap (first_in (λ o. decided_arm env (arm_of o))) more)
    (omega (arith, steps, ap arm_steps_of arm_is))
    (decides_then t (arm_decides b c v to to next end (steps_of condition + 1) (steps_of shown) (λ env y. value_of condition env) (value_of shown) next_is (turns_leaves to (leaves_wider (flat_map arm_needs_of arms) (λ xs met. covers_condition (record { condition = condition; value = shown }) xs (own xs met)) l)) (leaves_wider (flat_map arm_needs_of arms) (λ xs met. covers_value (record { condition = condition; value = shown }) xs (own xs met)) lv) to_lt counted) (λ env r q same. refl))

pub choice_leaves : (a b c : Draft) (to end : ℕ) (arms : List BoundArm) (otherwise : BoundExpr) → end ≡ length a.labels → Decides (flat_map arm_needs_of arms) (with_label a) b to to end (λ env y. first_in (λ o. decided_arm env (arm_of o)) arms) (sum_by arm_steps_of arms) → Emits b c to otherwise → Leaves (needing (flat_map arm_needs_of arms ++ needs_of otherwise)) a (bound c end) to (λ env. chosen_in env (map arm_of arms) (value_of otherwise env)) (λ env. sum_by arm_steps_of arms + steps_of otherwise)
choice_leaves a b c to end arms otherwise end_is t l =
    leaves_as (λ env. chosen_in env (map arm_of arms) (value_of otherwise env)) (sum_by arm_steps_of arms + steps_of otherwise) (λ env. sym (chosen_in-first arm_of arms env (value_of otherwise env))) (omega arith)
    (leaves_turns to (turns_decided a b c to to end (sum_by arm_steps_of arms) (steps_of otherwise) (λ env y. first_in (λ o. decided_arm env (arm_of o)) arms) (value_of otherwise) end_is (decides_wider (flat_map arm_needs_of arms ++ needs_of otherwise) (covers_left (flat_map arm_needs_of arms) (needs_of otherwise)) t) (leaves_wider (flat_map arm_needs_of arms ++ needs_of otherwise) (covers_right (flat_map arm_needs_of arms) (needs_of otherwise)) l)))

pub of_choose : (a b : Draft) (to : ℕ) (arms : List BoundArm) (otherwise : BoundExpr) → Leaves (needing (flat_map arm_needs_of arms ++ needs_of otherwise)) a b to (λ env. chosen_in env (map arm_of arms) (value_of otherwise env)) (λ env. sum_by arm_steps_of arms + steps_of otherwise) → Emits a b to (e.Choose arms otherwise)
of_choose a b to arms otherwise l =
    leaves_as (value_of (e.Choose arms otherwise)) (steps_of (e.Choose arms otherwise)) (λ env. sym (value_of-Choose arms otherwise env)) (omega (arith, steps_of-Choose arms otherwise)) (leaves_wider (needs_of (e.Choose arms otherwise)) (covers_is (needs_of-Choose arms otherwise)) l)

-- ---- iif: a CASE with one condition

abbrev pub one_arm : BoundExpr → BoundExpr → List BoundArm
one_arm x y = record { condition = x; value = y } ∷ []

pub iif_decides : (a b v : Draft) (to next end : ℕ) (x y : BoundExpr) → EmitsTruth a b to x → next ≡ length b.labels → Emits (with_arm_tested b to end) v to y → to < a.next → a.next ≤ a.most → Decides (flat_map arm_needs_of (one_arm x y)) a (with_arm_left v end next) to to end (λ env w. first_in (λ o. decided_arm env (arm_of o)) (one_arm x y)) (sum_by arm_steps_of (one_arm x y))
iif_decides a b v to next end x y l next_is lv lt counted =
    choice_more a a b v to next end 0 (one_arm x y) (record { condition = x; value = y }) x y (omega arith) refl refl (decides_none (flat_map arm_needs_of (one_arm x y)) a to to end) l next_is lv lt counted

-- what its parts need is what an arm and the rest need
covers_one_arm : (x y otherwise : BoundExpr) → Covers (needs_of x ++ needs_of y ++ needs_of otherwise) (flat_map arm_needs_of (one_arm x y) ++ needs_of otherwise)
covers_one_arm x y otherwise =
    covers_is (ap (λ l. l ++ needs_of otherwise) (sym (flat_map-cons arm_needs_of (record { condition = x; value = y }) [] ∙ append-nil (needs_of x ++ needs_of y))))

pub iif_leaves : (a b c : Draft) (to end : ℕ) (x y otherwise : BoundExpr) → end ≡ length a.labels → Decides (flat_map arm_needs_of (one_arm x y)) (with_label a) b to to end (λ env w. first_in (λ o. decided_arm env (arm_of o)) (one_arm x y)) (sum_by arm_steps_of (one_arm x y)) → Emits b c to otherwise → Emits a (bound c end) to (e.Iif x y otherwise)
iif_leaves a b c to end x y otherwise end_is t l =
    leaves_as (value_of (e.Iif x y otherwise)) (steps_of (e.Iif x y otherwise)) (λ env. refl) (omega (arith, sum_by-cons arm_steps_of (record { condition = x; value = y }) []))
    (leaves_wider (needs_of (e.Iif x y otherwise)) (covers_one_arm x y otherwise) (choice_leaves a b c to end (one_arm x y) otherwise end_is t l))

-- ---- CASE with an operand

pub match_more : (a b c v : Draft) (other : Operand) (held first to next end i : ℕ) (arms : List BoundMatch) (arm : BoundMatch) (sides : Sides) (wanted shown : BoundExpr) → i < length arms → arm ≡ get_or arms i arm → arm ≡ record { sides = sides; operand = wanted; value = shown } → Decides (flat_map match_needs_of arms) a b held to end (λ env y. first_in (λ o. decided_match env y (match_of o)) (take i arms)) (sum_by match_steps_of (take i arms)) → first ≡ b.next → OffersOne b c other wanted → next ≡ length c.labels → Emits (with_arm_tested (released (with_op c (op.Binary (binary.Compare compare.Eq sides) (operand.Register held) other to)) first) to end) v to shown → to < a.next → a.next ≤ a.most → held < a.next → held ≢ to → Decides (flat_map match_needs_of arms) a (with_arm_left v end next) held to end (λ env y. first_in (λ o. decided_match env y (match_of o)) (take (i + 1) arms)) (sum_by match_steps_of (take (i + 1) arms))
match_more a b c v other held first to next end i arms arm sides wanted shown lt is arm_is t first_is l next_is lv to_lt counted held_lt ne =
    let more = more_of arms i arm lt is in
    let steps : sum_by match_steps_of (take i arms) + match_steps_of arm ≡ sum_by match_steps_of (take (i + 1) arms) = sym (sum_by-last match_steps_of (take i arms) arm) ∙ ap (sum_by match_steps_of) more in
    let own : Covers (flat_map match_needs_of arms) (needs_of wanted ++ needs_of shown) = subst (λ o. Covers (flat_map match_needs_of arms) (match_needs_of o)) arm_is (covers_item match_needs_of arms i arm lt is) in
    let the_arm : BoundMatch = record { sides = sides; operand = wanted; value = shown } in
    let compare_op = op.Binary (binary.Compare compare.Eq sides) (operand.Register held) other to in
    let compared = turns_by b c compare_op (other ∷ []) held first to (steps_of wanted) (λ env. value_of wanted env ∷ []) (λ hosts y. of_one (comparison_of (keys_of hosts) compare.Eq sides y)) (takes_one other compare_op refl refl) first_is (offers_wider (flat_map match_needs_of arms) (λ xs met. covers_operand the_arm xs (own xs met)) l) (omega (arith, t.next)) (omega (arith, t.next)) (λ m at s. refl) in
    let truth = turns_as (λ env y z. truth_of (comparison_of (keys_of env.hosts) compare.Eq sides y (value_of wanted env))) (steps_of wanted + 1) (λ env y z. sym (comparison_truth (keys_of env.hosts) compare.Eq sides y (value_of wanted env))) (omega arith) compared in
    decides_as (λ env y. first_in (λ o. decided_match env y (match_of o)) (take (i + 1) arms)) (sum_by match_steps_of (take (i + 1) arms))
    (λ env y. ap (λ d. first_of (first_in (λ o. decided_match env y (match_of o)) (take i arms)) (decided_match env y d)) (sym (ap match_of arm_is)) ∙ sym (first_in-last (λ o. decided_match env y (match_of o)) (take i arms) arm) ∙ ap (first_in (λ o. decided_match env y (match_of o))) more)
    (omega (arith, steps, ap match_steps_of arm_is))
    (decides_then t (arm_decides b (released (with_op c compare_op) first) v held to next end (steps_of wanted + 1) (steps_of shown) (λ env y. comparison_of (keys_of env.hosts) compare.Eq sides y (value_of wanted env)) (value_of shown) next_is truth (leaves_wider (flat_map match_needs_of arms) (λ xs met. covers_shown the_arm xs (own xs met)) lv) (omega (arith, t.next)) (omega (arith, t.next, t.grows.most)))
    (λ env r q same. ap (λ y. decided_match env y (record { sides = sides; operand = value_of wanted; value = value_of shown })) (same held (omega (arith, t.next)) ne)))

pub match_leaves : (a b d c : Draft) (held to end : ℕ) (arms : List BoundMatch) (x otherwise : BoundExpr) → held ≡ a.next → Emits (taken a) b held x → end ≡ length b.labels → Decides (flat_map match_needs_of arms) (with_label b) d held to end (λ env y. first_in (λ o. decided_match env y (match_of o)) arms) (sum_by match_steps_of arms) → Emits d c to otherwise → to < a.next → Leaves (needing (needs_of x ++ flat_map match_needs_of arms ++ needs_of otherwise)) a (given_back (bound c end)) to (λ env. matched_in env (value_of x env) (map match_of arms) (value_of otherwise env)) (λ env. steps_of x + sum_by match_steps_of arms + steps_of otherwise)
match_leaves a b d c held to end arms x otherwise is_next l end_is t lo lt =
    let all_needs = needs_of x ++ flat_map match_needs_of arms ++ needs_of otherwise in
    let all = turns_as (λ env y z. matched_in env y (map match_of arms) (value_of otherwise env)) (sum_by match_steps_of arms + steps_of otherwise) (λ env y z. sym (matched_in-first match_of arms env y (value_of otherwise env))) (omega arith)
    (turns_decided b d c held to end (sum_by match_steps_of arms) (steps_of otherwise) (λ env y. first_in (λ o. decided_match env y (match_of o)) arms) (value_of otherwise) end_is (decides_wider all_needs (covers_second (needs_of x) (flat_map match_needs_of arms) (needs_of otherwise)) t) (leaves_wider all_needs (covers_third (needs_of x) (flat_map match_needs_of arms) (needs_of otherwise)) lo)) in
    leaves_as (λ env. matched_in env (value_of x env) (map match_of arms) (value_of otherwise env)) (steps_of x + sum_by match_steps_of arms + steps_of otherwise) (λ env. refl) (omega arith)
    (leaves_held a b (bound c end) held to (steps_of x) (sum_by match_steps_of arms + steps_of otherwise) (value_of x) (λ env y. matched_in env y (map match_of arms) (value_of otherwise env)) is_next (leaves_wider all_needs (covers_first (needs_of x) (flat_map match_needs_of arms) (needs_of otherwise)) l) all lt)

pub of_match : (a b : Draft) (to : ℕ) (x : BoundExpr) (arms : List BoundMatch) (otherwise : BoundExpr) → Leaves (needing (needs_of x ++ flat_map match_needs_of arms ++ needs_of otherwise)) a b to (λ env. matched_in env (value_of x env) (map match_of arms) (value_of otherwise env)) (λ env. steps_of x + sum_by match_steps_of arms + steps_of otherwise) → Emits a b to (e.Match x arms otherwise)
of_match a b to x arms otherwise l =
    leaves_as (value_of (e.Match x arms otherwise)) (steps_of (e.Match x arms otherwise)) (λ env. sym (value_of-Match x arms otherwise env)) (omega (arith, steps_of-Match x arms otherwise)) (leaves_wider (needs_of (e.Match x arms otherwise)) (covers_is (needs_of-Match x arms otherwise)) l)
