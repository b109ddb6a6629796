-- The parts of the code as the generator puts them together: drafts by what made them.
use Rattle.std.proofs.Common.{rules, ◌≡◌, ◌≢◌, ◌∙◌, ℕ, ◌+◌, ◌≤◌, ◌<◌, List, length, map, take, get_or, Option, Some, None, sym, ap, subst, arith}
use Rattle.std.specs.List.{flat_map}
use Rattle.std.specs.Prelude.{◌++◌, slice_get, sum_by}
use Rattle.std.proofs.Math.ListN.{get_or-map}
use Rattle.std.proofs.lemmas.List.{length-map, take_all}
use Rattle.bound_tree.specs.Exprs as e
use Rattle.bound_tree.specs.Exprs.{BoundArm, BoundExpr, BoundMatch}
use Rattle.bound_tree.specs.Seen.{seen, seen_arm, seen_match}
use Rattle.bound_tree.specs.declared.tree.ArmTree.{ArmTree, out-ArmTree}
use Rattle.bound_tree.specs.declared.tree.ExprTree.{the_lemmas}
use Rattle.bound_tree.specs.declared.tree.MatchTree.{MatchTree, out-MatchTree}
use Rattle.eng_value.specs.Applied.{member_of}
use Rattle.eng_value.specs.Collations.{keys_of}
use Rattle.eng_value.specs.Environments.{Environment}
use Rattle.eng_value.specs.declared.operators.Sides.{Sides}
use Rattle.eng_value.specs.declared.out.Out.{Out}
use Rattle.gen_expr.specs.Needs.{arm_needs_of, match_needs_of, needs_of}
use Rattle.gen_expr.specs.Parts.{Turns, Decides, decided_arm, decided_known, decided_match, first_in, with_arm_left, with_arm_tested, with_member_begun}
use Rattle.gen_expr.specs.Steps.{steps_of, arm_steps_of, match_steps_of}
use Rattle.gen_expr.proofs.Codes.{Emits, OffersAll, equal_among, member_leaves, known_leaves, choice_leaves, iif_decides, iif_leaves, match_leaves, one_arm, EmitsTruth}
use Rattle.sql_meaning.specs.Expression.{value_of, arm_of, match_of, first_known, chosen_in, matched_in, in_all}
use Rattle.vm_code.specs.declared.open_cursor.Need.{Need}
use Rattle.vm_code.specs.declared.op.Op.TheVariants as op
use Rattle.vm_code.specs.Draft.{Draft, with_op, with_label, bound, taken, given_back}
use Rattle.vm_code.specs.Frames.{Leaves, needing}
use Rattle.vm_code.specs.declared.operand.Operand.{Operand}
use Rattle.vm_code.proofs.Drafts.{open_new}

-- ---- registers

-- the registers of a value that is compared, and of the result
pub record Beside (d : Draft) (held to : ℕ) : Type 0 where
  pub taken : to < d.next
  pub counted : d.next ≤ d.most
  pub beside : held < d.next
  pub other : held ≢ to

pub beside_of : (a t b : Draft) (held to : ℕ) (x : BoundExpr) → held ≡ a.next → t ≡ taken a → Emits t b held x → to < a.next → Beside b held to
beside_of a t b held to x held_is t_is l lt =
    let next : t.next ≡ a.next + 1 = ap (λ (y : Draft). y.next) t_is in
    let most : (taken a).most ≡ t.most = ap (λ (y : Draft). y.most) (sym t_is) in
    record { taken = omega (arith, l.next); counted = omega (arith, l.next, l.grows.most, most); beside = omega (arith, l.next, held_is); other = omega (arith, held_is) }

pub beside_on : {b d : Draft} {held to : ℕ} → Beside b held to → d.next ≡ b.next → b.most ≤ d.most → Beside d held to
beside_on x next most = record { taken = omega (arith, x.taken); counted = omega (arith, x.counted); beside = omega (arith, x.beside); other = x.other }

-- ---- drafts that are the same

pub turns_at : {needs : List Need} {a b : Draft} {held to n : ℕ} {f : Environment → Out → Out → Out} (z : Draft) → z ≡ b → Turns needs a b held to f n → Turns needs a z held to f n
turns_at {needs} {a} {b} {held} {to} {n} {f} z is t = subst (λ (d : Draft). Turns needs a d held to f n) (sym is) t

pub turns_from : {needs : List Need} {a b : Draft} {held to n : ℕ} {f : Environment → Out → Out → Out} (z : Draft) → a ≡ z → Turns needs a b held to f n → Turns needs z b held to f n
turns_from {needs} {a} {b} {held} {to} {n} {f} z is t = subst (λ (d : Draft). Turns needs d b held to f n) is t

pub decides_at : {needs : List Need} {a b : Draft} {held to label n : ℕ} {f : Environment → Out → Option Out} (z : Draft) → z ≡ b → Decides needs a b held to label f n → Decides needs a z held to label f n
decides_at {needs} {a} {b} {held} {to} {label} {n} {f} z is t = subst (λ (d : Draft). Decides needs a d held to label f n) (sym is) t

pub decides_from : {needs : List Need} {a b : Draft} {held to label n : ℕ} {f : Environment → Out → Option Out} (z : Draft) → a ≡ z → Decides needs a b held to label f n → Decides needs z b held to label f n
decides_from {needs} {a} {b} {held} {to} {label} {n} {f} z is t = subst (λ (d : Draft). Decides needs d b held to label f n) is t

pub emits_from : {a b : Draft} {to : ℕ} (x : BoundExpr) (z : Draft) → a ≡ z → Emits a b to x → Emits z b to x
emits_from {a} {b} {to} x z is l = subst (λ (d : Draft). Emits d b to x) is l

-- ---- all of a list

pub all_of : {A : Type 0} (xs : List A) (i : ℕ) → length xs ≤ i → take i xs ≡ xs
all_of xs i le = take_all i xs le

pub all_offered : {needs : List Need} (a b : Draft) (os : List Operand) (es : List BoundExpr) (i : ℕ) → length es ≤ i → OffersAll needs a b os (take i es) → OffersAll needs a b os es
all_offered {needs} a b os es i le l = subst (λ (xs : List BoundExpr). OffersAll needs a b os xs) (all_of es i le) l

-- what stands in a list that is mapped
pub map_below : {A B : Type 0} (f : A → B) (xs : List A) (i : ℕ) → i < length xs → i < length (map f xs)
map_below f xs i lt = omega (arith, lt, length-map xs f)

pub map_past : {A B : Type 0} (f : A → B) (xs : List A) (i : ℕ) → length xs ≤ i → length (map f xs) ≤ i
map_past f xs i le = omega (arith, le, length-map xs f)

pub map_item : {A B : Type 0} (f : A → B) (xs : List A) (i : ℕ) (x : A) → x ≡ get_or xs i x → f x ≡ get_or (map f xs) i (f x)
map_item f xs i x is = ap f is ∙ sym (get_or-map f xs i x)

-- ---- labels

pub label_open : (d l : Draft) (label : ℕ) → label ≡ length d.labels → l ≡ with_label d → slice_get l.labels label ≡ Some None
label_open d l label label_is l_is = ap (λ (x : Draft). slice_get x.labels label) l_is ∙ ap (slice_get (with_label d).labels) label_is ∙ open_new d

pub tested_open : (d t : Draft) (to end next : ℕ) → next ≡ length d.labels → t ≡ with_arm_tested d to end → slice_get t.labels next ≡ Some None
tested_open d t to end next next_is t_is = ap (λ (x : Draft). slice_get x.labels next) t_is ∙ ap (slice_get (with_label d).labels) next_is ∙ open_new d

-- ---- the parts of an arm

pub arm_parts : (arm : ArmTree) → seen_arm arm ≡ record { condition = seen (out-ArmTree arm).condition; value = seen (out-ArmTree arm).value }
arm_parts arm = search (rules, the_lemmas)

pub match_parts : (arm : MatchTree) → seen_match arm ≡ record { sides = (out-MatchTree arm).sides; operand = seen (out-MatchTree arm).operand; value = seen (out-MatchTree arm).value }
match_parts arm = search (rules, the_lemmas)

-- ---- behind all of a list

pub member_all : (a t b begun c z : Draft) (sides : Sides) (held to i : ℕ) (es : List BoundExpr) (x : BoundExpr) → held ≡ a.next → t ≡ taken a → Emits t b held x → begun ≡ with_member_begun b held to → length es ≤ i → Turns (flat_map needs_of es) begun c held to (λ env y v. equal_among sides (take i es) env y v) (sum_by (λ o. steps_of o + 2) (take i es)) → z ≡ given_back c → to < a.next → a.next ≤ a.most → Leaves (needing (needs_of x ++ flat_map needs_of es)) a z to (λ env. member_of (keys_of env.hosts) sides (value_of x env) (in_all (map value_of es) env)) (λ env. steps_of x + 2 + sum_by (λ o. steps_of o + 2) es)
member_all a t b begun c z sides held to i es x held_is t_is l begun_is le turns z_is lt counted =
    let whole : Turns (flat_map needs_of es) begun c held to (λ env y v. equal_among sides es env y v) (sum_by (λ o. steps_of o + 2) es) = subst (λ (xs : List BoundExpr). Turns (flat_map needs_of es) begun c held to (λ env y v. equal_among sides xs env y v) (sum_by (λ o. steps_of o + 2) xs)) (all_of es i le) turns in
    subst (λ (d : Draft). Leaves (needing (needs_of x ++ flat_map needs_of es)) a d to (λ env. member_of (keys_of env.hosts) sides (value_of x env) (in_all (map value_of es) env)) (λ env. steps_of x + 2 + sum_by (λ o. steps_of o + 2) es)) (sym z_is)
    (member_leaves a b c sides held to es x held_is (emits_from x (taken a) t_is l) (turns_from (with_member_begun b held to) begun_is whole) lt counted)

pub known_all : (a l b o z : Draft) (to end i : ℕ) (es : List BoundExpr) → end ≡ length a.labels → l ≡ with_label a → length es ≤ i → Decides (flat_map needs_of es) l b to to end (λ env y. first_in (λ x. decided_known (value_of x env)) (take i es)) (sum_by (λ x. steps_of x + 2) (take i es)) → o ≡ with_op b (op.Null to) → z ≡ bound o end → to < a.next → a.next ≤ a.most → Leaves (needing (flat_map needs_of es)) a z to (λ env. first_known (in_all (map value_of es) env)) (λ env. sum_by (λ x. steps_of x + 2) es + 1)
known_all a l b o z to end i es end_is l_is le decides o_is z_is lt counted =
    let whole : Decides (flat_map needs_of es) l b to to end (λ env y. first_in (λ x. decided_known (value_of x env)) es) (sum_by (λ x. steps_of x + 2) es) = subst (λ (xs : List BoundExpr). Decides (flat_map needs_of es) l b to to end (λ env y. first_in (λ x. decided_known (value_of x env)) xs) (sum_by (λ x. steps_of x + 2) xs)) (all_of es i le) decides in
    subst (λ (d : Draft). Leaves (needing (flat_map needs_of es)) a d to (λ env. first_known (in_all (map value_of es) env)) (λ env. sum_by (λ x. steps_of x + 2) es + 1)) (sym (z_is ∙ ap (λ (d : Draft). bound d end) o_is))
    (known_leaves a b to end es end_is (decides_from (with_label a) l_is whole) lt counted)

pub choice_all : (a l b c z : Draft) (to end i : ℕ) (arms : List BoundArm) (otherwise : BoundExpr) → end ≡ length a.labels → l ≡ with_label a → length arms ≤ i → Decides (flat_map arm_needs_of arms) l b to to end (λ env y. first_in (λ o. decided_arm env (arm_of o)) (take i arms)) (sum_by arm_steps_of (take i arms)) → Emits b c to otherwise → z ≡ bound c end → Leaves (needing (flat_map arm_needs_of arms ++ needs_of otherwise)) a z to (λ env. chosen_in env (map arm_of arms) (value_of otherwise env)) (λ env. sum_by arm_steps_of arms + steps_of otherwise)
choice_all a l b c z to end i arms otherwise end_is l_is le decides lo z_is =
    let whole : Decides (flat_map arm_needs_of arms) l b to to end (λ env y. first_in (λ o. decided_arm env (arm_of o)) arms) (sum_by arm_steps_of arms) = subst (λ (xs : List BoundArm). Decides (flat_map arm_needs_of arms) l b to to end (λ env y. first_in (λ o. decided_arm env (arm_of o)) xs) (sum_by arm_steps_of xs)) (all_of arms i le) decides in
    subst (λ (d : Draft). Leaves (needing (flat_map arm_needs_of arms ++ needs_of otherwise)) a d to (λ env. chosen_in env (map arm_of arms) (value_of otherwise env)) (λ env. sum_by arm_steps_of arms + steps_of otherwise)) (sym z_is)
    (choice_leaves a b c to end arms otherwise end_is (decides_from (with_label a) l_is whole) lo)

pub iif_decided : (a l b t v c : Draft) (to next end : ℕ) (x y : BoundExpr) → l ≡ with_label a → EmitsTruth l b to x → next ≡ length b.labels → t ≡ with_arm_tested b to end → Emits t v to y → c ≡ with_arm_left v end next → to < a.next → a.next ≤ a.most → Decides (flat_map arm_needs_of (one_arm x y)) l c to to end (λ env w. first_in (λ o. decided_arm env (arm_of o)) (one_arm x y)) (sum_by arm_steps_of (one_arm x y))
iif_decided a l b t v c to next end x y l_is lb next_is t_is lv c_is lt counted =
    let next_same : l.next ≡ a.next = ap (λ (d : Draft). d.next) l_is in
    let most_same : l.most ≡ a.most = ap (λ (d : Draft). d.most) l_is in
    decides_at c c_is (iif_decides l b v to next end x y lb next_is (emits_from y (with_arm_tested b to end) t_is lv) (omega (arith, next_same)) (omega (arith, next_same, most_same)))

pub iif_all : (a l c d z : Draft) (to end : ℕ) (x y otherwise : BoundExpr) → end ≡ length a.labels → l ≡ with_label a → Decides (flat_map arm_needs_of (one_arm x y)) l c to to end (λ env w. first_in (λ o. decided_arm env (arm_of o)) (one_arm x y)) (sum_by arm_steps_of (one_arm x y)) → Emits c d to otherwise → z ≡ bound d end → Emits a z to (e.Iif x y otherwise)
iif_all a l c d z to end x y otherwise end_is l_is decides lo z_is =
    subst (λ (k : Draft). Emits a k to (e.Iif x y otherwise)) (sym z_is) (iif_leaves a c d to end x y otherwise end_is (decides_from (with_label a) l_is decides) lo)

pub match_all : (a t b l d c m z : Draft) (held to end i : ℕ) (arms : List BoundMatch) (x otherwise : BoundExpr) → held ≡ a.next → t ≡ taken a → Emits t b held x → end ≡ length b.labels → l ≡ with_label b → length arms ≤ i → Decides (flat_map match_needs_of arms) l d held to end (λ env y. first_in (λ o. decided_match env y (match_of o)) (take i arms)) (sum_by match_steps_of (take i arms)) → Emits d c to otherwise → m ≡ bound c end → z ≡ given_back m → to < a.next → Leaves (needing (needs_of x ++ flat_map match_needs_of arms ++ needs_of otherwise)) a z to (λ env. matched_in env (value_of x env) (map match_of arms) (value_of otherwise env)) (λ env. steps_of x + sum_by match_steps_of arms + steps_of otherwise)
match_all a t b l d c m z held to end i arms x otherwise held_is t_is lx end_is l_is le decides lo m_is z_is lt =
    let whole : Decides (flat_map match_needs_of arms) l d held to end (λ env y. first_in (λ o. decided_match env y (match_of o)) arms) (sum_by match_steps_of arms) = subst (λ (xs : List BoundMatch). Decides (flat_map match_needs_of arms) l d held to end (λ env y. first_in (λ o. decided_match env y (match_of o)) xs) (sum_by match_steps_of xs)) (all_of arms i le) decides in
    subst (λ (y : Draft). Leaves (needing (needs_of x ++ flat_map match_needs_of arms ++ needs_of otherwise)) a y to (λ env. matched_in env (value_of x env) (map match_of arms) (value_of otherwise env)) (λ env. steps_of x + sum_by match_steps_of arms + steps_of otherwise)) (sym (z_is ∙ ap given_back m_is))
    (match_leaves a b d c held to end arms x otherwise held_is (emits_from x (taken a) t_is lx) end_is (decides_from (with_label b) l_is whole) lo lt)
