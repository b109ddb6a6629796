-- How many instructions a query takes by how large it is.
use Rattle.std.proofs.Common.{◌≡◌, ℕ, suc, cond, ◌+◌, ◌*◌, ◌≤◌, List, [], ◌∷◌, ◌++◌, length, flat_map, map, refl, sym, ap, ◌∙◌, subst, arith}
use Rattle.std.specs.Prelude.{Bool, true, false, sum_by}
use Rattle.std.specs.List.{filter}
use Rattle.std.proofs.Math.Nat.{mul-le-mul, mul-le-mul_left, mul-le-mul_right}
use Rattle.std.proofs.lemmas.List.Sums.{sum_by-append, sum_by-cons}
use Rattle.std.proofs.lemmas.List.Concat.{flat_map-cons}
use Rattle.bound_size.specs.Sizes.{all_nodes}
use Rattle.bound_tree.specs.Exprs.{BoundExpr}
use Rattle.eng_value.specs.Arrangements.{Shuffled, empty, keep, onward, swap}
use Rattle.eng_value.specs.Environments.{Environment, Surroundings, environment, no_causes}
use Rattle.eng_value.specs.StoredRows.{StoredRow}
use Rattle.eng_value.specs.declared.value.Value.{Value}
use Rattle.gen_expr.specs.Steps.{steps_of}
use Rattle.gen_expr.proofs.Bounds.{steps_and_two_within}
use Rattle.gen_loop.specs.Loops.{alone_steps, conjuncts_steps, gathered_steps, loop_steps, nested_steps, ordered_steps, path_steps, plan_steps, put_steps, sorted_steps, taken_steps, turn_steps as turn_steps_of}
use Rattle.gen_query.specs.Queries.{StepsAreFew, ValuesStepsAreFew, conjuncts_of, product_turns, query_steps, results_steps, row_steps, rows_in_turn_steps, tested_steps, turn_steps, turns_over, alone_turns}
use Rattle.gen_query.proofs.Counting.{gathered-few, nested-more}
use Rattle.gen_query.proofs.Fitting.{long-loops}
use Rattle.plan_tree.specs.Plans.{AreOver, IsFewOf, IsSmall, PlanFits, UnlessLeft, all_conjuncts, item_of, items_from, ons_in, visited_by}
use Rattle.plan_tree.specs.Visits.{CountsSides, at_item, is_visited, visited}
use Rattle.plan_tree.specs.declared.access.JoinPlan.{JoinPlan}
use Rattle.plan_tree.specs.declared.access.Loop.{Loop}
use Rattle.plan_tree.specs.declared.access.Pairs.{Pairs}
use Rattle.plan_tree.specs.declared.access.Pairs.TheVariants.{Each, OrAlone}
use Rattle.sql_meaning.specs.Products.{FromRow, no_rows}
use Rattle.sql_meaning.specs.World.{rows_at}
use Rattle.eng_value.specs.Environments.{Lists}
use Rattle.sql_meaning.specs.declared.bound.BoundSelect.{BoundSelect}
use Rattle.sql_meaning.specs.declared.bound.FromTable.{FromTable}
use Rattle.sql_meaning.specs.declared.bound.Join.{Join}
use Rattle.sql_meaning.specs.declared.bound.Join.TheVariants.{Inner, Left}
use Rattle.sql_meaning.specs.Searches.{rows_counted}

-- ---- a sum of so many

sum-few : {A : Type 0} (f : A → ℕ) (most : ℕ) (xs : List A) → ((x : A) → f x ≤ most) → sum_by f xs ≤ length xs * most
sum-few f most [] le = omega arith
sum-few f most (x ∷ xs) le =
    let more : (length xs + 1) * most ≡ length xs * most + most = omega arith in
    let long : length (x ∷ xs) ≡ length xs + 1 = omega arith in
    omega (arith, sum_by-cons f x xs, le x, sum-few f most xs le, more, ap (λ n. n * most) long)

-- ---- loops

-- what a loop takes in a turn beside those inside it
abbrev own_steps : Loop → ℕ
own_steps l = path_steps l.path + (conjuncts_steps (ons_in l.pairs) + conjuncts_steps l.checks) + 8

alone_few : (p : Pairs) (done : ℕ) → alone_steps p done ≤ done + 7
alone_few Each done = omega arith
alone_few (OrAlone ons) done = omega arith

turn_few : (p : Pairs) → turn_steps_of p ≤ conjuncts_steps (ons_in p) + 3
turn_few Each = omega arith
turn_few (OrAlone ons) = omega arith

-- a loop that visits no more rows than these, by what its body takes at most
one_loop : (l : Loop) (done : Environment → ℕ) (env : Environment) (most rows : ℕ) → done env ≤ most → ((r : StoredRow) → done (at_item env l.place r) ≤ most) → length (visited env l.path (rows_at env.world l.table)) ≤ rows → loop_steps l done env ≤ (1 + rows) * (own_steps l + most)
one_loop l done env most rows here there few =
    let ons = conjuncts_steps (ons_in l.pairs) in
    let checks = conjuncts_steps l.checks in
    let each : ℕ = ons + 3 + (checks + most) in
    let visits = visited env l.path (rows_at env.world l.table) in
    let sum = sum-few (λ r. turn_steps_of l.pairs + (checks + done (at_item env l.place r))) each visits (λ r. omega (arith, turn_few l.pairs, there r)) in
    let fewer : length visits * each ≤ rows * (own_steps l + most) = mul-le-mul few (omega arith) in
    let all : (1 + rows) * (own_steps l + most) ≡ own_steps l + most + rows * (own_steps l + most) = omega arith in
    omega (arith, sum, fewer, all, alone_few l.pairs (checks + done env), here)

abbrev product_of : Lists → List Loop → ℕ
product_of tables [] = 1
product_of tables (l ∷ loops) = (1 + length (rows_at tables l.table)) * product_of tables loops

some_product : (tables : Lists) (loops : List Loop) → 1 ≤ product_of tables loops
some_product tables [] = omega arith
some_product tables (l ∷ loops) =
    let one : 1 ≤ 1 + length (rows_at tables l.table) = omega arith in
    let some : 1 * 1 ≤ (1 + length (rows_at tables l.table)) * product_of tables loops = mul-le-mul one (some_product tables loops) in
    omega (arith, some)

kept-or-not : (test : Bool) (r : StoredRow) (kept rows : List StoredRow) → length kept ≤ length rows → length (cond test (r ∷ kept) kept) ≤ length (r ∷ rows)
kept-or-not true r kept rows le = omega (arith, le)
kept-or-not false r kept rows le = omega (arith, le)

filter-fewer : (test : StoredRow → Bool) (rows : List StoredRow) → length (filter test rows) ≤ length rows
filter-fewer test [] = omega arith
filter-fewer test (r ∷ rows) = kept-or-not (test r) r (filter test rows) rows (filter-fewer test rows)

put_in : (rows product own rest : ℕ) → 1 ≤ product → (1 + rows) * (own + product * rest) ≤ (1 + rows) * product * (own + rest)
put_in rows product own rest some =
    let own_more : own ≤ product * own = subst (λ n. n ≤ product * own) (omega arith) (mul-le-mul_right own some) in
    let both : product * (own + rest) ≡ product * own + product * rest = omega arith in
    let one : own + product * rest ≤ product * (own + rest) = omega (arith, own_more, both) in
    let all : (1 + rows) * product * (own + rest) ≡ (1 + rows) * (product * (own + rest)) = omega arith in
    omega (arith, mul-le-mul_left (1 + rows) one, all)

nested_few : (loops : List Loop) (most : ℕ) (env : Environment) → nested_steps loops most env ≤ product_of env.world loops * (sum_by own_steps loops + most)
nested_few [] most env = omega arith
nested_few (l ∷ loops) most env =
    let rows = length (rows_at env.world l.table) in
    let product = product_of env.world loops in
    let rest : ℕ = sum_by own_steps loops + most in
    let loop = one_loop l (nested_steps loops most) env (product * rest) rows (nested_few loops most env) (λ r. nested_few loops most (at_item env l.place r)) (filter-fewer (is_visited env l.path) (rows_at env.world l.table)) in
    let same : sum_by own_steps (l ∷ loops) + most ≡ own_steps l + rest = omega (arith, sum_by-cons own_steps l loops) in
    let inside = put_in rows product (own_steps l) rest (some_product env.world loops) in
    subst (λ n. nested_steps (l ∷ loops) most env ≤ (1 + rows) * product * n) (sym same) (omega (arith, loop, inside))

-- ---- what a small plan tests

tests_of : List Loop → ℕ
tests_of loops = sum_by (λ (l : Loop). conjuncts_steps (ons_in l.pairs) + conjuncts_steps l.checks) loops

keys_of : List Loop → ℕ
keys_of loops = sum_by (λ (l : Loop). path_steps l.path) loops

own-parts : (loops : List Loop) → sum_by own_steps loops ≡ keys_of loops + tests_of loops + 8 * length loops
unfolding tests_of keys_of
own-parts [] = refl
own-parts (l ∷ loops) =
    omega (arith, sum_by-cons own_steps l loops, own-parts loops, sum_by-cons (λ (l : Loop). path_steps l.path) l loops, sum_by-cons (λ (l : Loop). conjuncts_steps (ons_in l.pairs) + conjuncts_steps l.checks) l loops)

tests-flat : (loops : List Loop) → conjuncts_steps (flat_map (λ (l : Loop). ons_in l.pairs ++ l.checks) loops) ≡ tests_of loops
unfolding tests_of
tests-flat [] = refl
tests-flat (l ∷ loops) =
    let each : BoundExpr → ℕ = λ e. steps_of e + 3 in
    let tests : Loop → List BoundExpr = λ l. ons_in l.pairs ++ l.checks in
    omega (arith, ap conjuncts_steps (flat_map-cons tests l loops), sum_by-append each (tests l) (flat_map tests loops), sum_by-append each (ons_in l.pairs) l.checks, tests-flat loops, sum_by-cons (λ (l : Loop). conjuncts_steps (ons_in l.pairs) + conjuncts_steps l.checks) l loops)

counts_sides : CountsSides (λ e. steps_of e + 1)
counts_sides op sides a b = (omega arith, omega arith)

module _ (from : List FromTable) (conjuncts : List BoundExpr) (p : JoinPlan) (small : IsSmall from conjuncts p) (over : AreOver from p.loops) where
  abbrev all : List BoundExpr
  all = all_conjuncts from conjuncts

  tested-few : conjuncts_steps p.checks + tests_of p.loops ≤ conjuncts_steps all
  tested-few =
      let each : BoundExpr → ℕ = λ e. steps_of e + 3 in
      let tests : Loop → List BoundExpr = λ l. ons_in l.pairs ++ l.checks in
      omega (arith, small.tests each, sum_by-append each p.checks (flat_map tests p.loops), tests-flat p.loops)

  keys-few : keys_of p.loops ≤ sum_by (λ e. steps_of e + 1) all
  unfolding keys_of
  keys-few = small.keys (λ e. steps_of e + 1) counts_sides

  -- the turns of the loops, by their number
  turns-few : (most turns nested : ℕ) → 1 ≤ turns → nested ≤ turns * (sum_by own_steps p.loops + most) → conjuncts_steps p.checks + nested ≤ turns * (tested_steps all + 8 * length from + most)
  turns-few most turns nested some le =
      let checks = conjuncts_steps p.checks in
      let more : checks ≤ turns * checks = subst (λ n. n ≤ turns * checks) (omega arith) (mul-le-mul_right checks some) in
      let both : turns * (checks + (sum_by own_steps p.loops + most)) ≡ turns * checks + turns * (sum_by own_steps p.loops + most) = omega arith in
      let long : length p.loops ≡ length from = long-loops from p.loops over in
      let less : checks + (sum_by own_steps p.loops + most) ≤ tested_steps all + 8 * length from + most = omega (arith, own-parts p.loops, tested-few, keys-few, long) in
      omega (arith, more, both, mul-le-mul_left turns less, le)

-- ---- by how many turns there are

-- of items by their tables
product_by : Lists → List (ℕ × ℕ) → ℕ
product_by tables [] = 1
product_by tables (i ∷ items) = (1 + length (rows_at tables i.1)) * product_by tables items

product-loops : (tables : Lists) (loops : List Loop) → product_of tables loops ≡ product_by tables (map item_of loops)
unfolding product_by
product-loops tables [] = refl
product-loops tables (l ∷ loops) = ap (λ n. (1 + length (rows_at tables l.table)) * n) (product-loops tables loops)

product-from : (x : Surroundings) (k : ℕ) (from : List FromTable) → product_by x.world (items_from k from) ≡ product_turns x from
unfolding product_by
product-from x k [] = refl
product-from x k (f ∷ from) = ap (λ n. (1 + length (rows_at x.world f.table)) * n) (product-from x (suc k) from)

-- in any order
product-shuffled : (tables : Lists) {xs ys : List (ℕ × ℕ)} → Shuffled xs ys → product_by tables xs ≡ product_by tables ys
unfolding product_by
product-shuffled tables empty = refl
product-shuffled tables (keep i more) = ap (λ n. (1 + length (rows_at tables i.1)) * n) (product-shuffled tables more)
product-shuffled tables (swap i j items) =
    let a = length (rows_at tables i.1) in
    let b = length (rows_at tables j.1) in
    let n = product_by tables items in
    let same : (1 + a) * ((1 + b) * n) ≡ (1 + b) * ((1 + a) * n) = omega arith in
    same
product-shuffled tables (onward first then_so) = product-shuffled tables first ∙ product-shuffled tables then_so

product-same : (x : Surroundings) (from : List FromTable) (loops : List Loop) → AreOver from loops → product_of x.world loops ≡ product_turns x from
product-same x from loops over =
    product-loops x.world loops ∙ product-shuffled x.world over.items ∙ product-from x 0 from

-- what the loops of a plan take at the start
abbrev Few : List FromTable → List BoundExpr → List Loop → ℕ → Surroundings → Type 0
Few from conjuncts loops most x =
    (1 ≤ turns_over from conjuncts x) × (nested_steps loops most (environment x [] [] (no_rows (length from)).rows) ≤ turns_over from conjuncts x * (sum_by own_steps loops + most))

by_product : (from : List FromTable) (conjuncts : List BoundExpr) (loops : List Loop) (most : ℕ) (x : Surroundings) → AreOver from loops → (1 ≤ product_turns x from) × (nested_steps loops most (environment x [] [] (no_rows (length from)).rows) ≤ product_turns x from * (sum_by own_steps loops + most))
by_product from conjuncts loops most x over =
    let same = product-same x from loops over in (
      subst (λ n. 1 ≤ n) same (some_product x.world loops),
      subst (λ n. nested_steps loops most (environment x [] [] (no_rows (length from)).rows) ≤ n * (sum_by own_steps loops + most)) same (nested_few loops most (environment x [] [] (no_rows (length from)).rows)),
    )

-- an item that stands alone, by how it is joined
few-alone : (f : FromTable) (join : Join) (conjuncts : List BoundExpr) (l : Loop) (most : ℕ) (x : Surroundings) → AreOver (f ∷ []) (l ∷ []) → UnlessLeft join (length (visited_by (environment x [] [] []) l (no_rows 1)) ≤ rows_counted x f.indexes conjuncts (rows_at x.world f.table)) → (1 ≤ alone_turns f join conjuncts x) × (nested_steps (l ∷ []) most (environment x [] [] (no_rows 1).rows) ≤ alone_turns f join conjuncts x * (sum_by own_steps (l ∷ []) + most))
few-alone f Inner conjuncts l most x over few =
    let env = environment x [] [] (no_rows 1).rows in
    let rows = rows_counted x f.indexes conjuncts (rows_at x.world f.table) in
    let loop = one_loop l (nested_steps [] most) env most rows (omega arith) (λ r. omega arith) few in
    let sum : sum_by own_steps (l ∷ []) ≡ own_steps l = omega (arith, sum_by-cons own_steps l []) in
    (omega arith, subst (λ n. nested_steps (l ∷ []) most env ≤ (1 + rows) * (n + most)) (sym sum) loop)
few-alone f (Left ons) conjuncts l most x over few = by_product (f ∷ []) conjuncts (l ∷ []) most x over

at_join : (join : Join) (P : Surroundings → Type 0) (x : Surroundings) → UnlessLeft join ((y : Surroundings) → P y) → UnlessLeft join (P x)
at_join Inner P x holds = holds x
at_join (Left ons) P x holds = tt

few-turns : (params : List Value) (from : List FromTable) (conjuncts : List BoundExpr) (loops : List Loop) (most : ℕ) (x : Surroundings) → x.params ≡ params → AreOver from loops → IsFewOf params from conjuncts loops → Few from conjuncts loops most x
few-turns params [] conjuncts loops most x same over few = by_product [] conjuncts loops most x over
few-turns params (f ∷ g ∷ from) conjuncts loops most x same over few = by_product (f ∷ g ∷ from) conjuncts loops most x over
few-turns params (f ∷ []) conjuncts [] most x same over few = absurd (omega (arith, long-loops (f ∷ []) [] over))
few-turns params (f ∷ []) conjuncts (l ∷ k ∷ loops) most x same over few =
    absurd (omega (arith, long-loops (f ∷ []) (l ∷ k ∷ loops) over))
few-turns params (f ∷ []) conjuncts (l ∷ []) most x same over few =
    few-alone f f.join conjuncts l most x over (with_params f.join (at_join f.join (λ y. y.params ≡ params → length (visited_by (environment y [] [] []) l (no_rows 1)) ≤ rows_counted y f.indexes conjuncts (rows_at y.world f.table)) x few))
  where
    with_params : (join : Join) → UnlessLeft join (x.params ≡ params → length (visited_by (environment x [] [] []) l (no_rows 1)) ≤ rows_counted x f.indexes conjuncts (rows_at x.world f.table)) → UnlessLeft join (length (visited_by (environment x [] [] []) l (no_rows 1)) ≤ rows_counted x f.indexes conjuncts (rows_at x.world f.table))
    with_params Inner holds = holds same
    with_params (Left ons) holds = tt

-- what the rows of a plan take, whether they are sorted or not
ordered-few : (p : JoinPlan) (most : ℕ) (env : Environment) → ordered_steps p most env ≤ 3 + conjuncts_steps p.checks + nested_steps p.loops (put_steps p + (taken_steps p + most)) env
ordered-few p most env = by p.sort
  where
    row : FromRow
    row = record { rows = env.rows; causes = no_causes }

    sorted : sorted_steps p most env ≤ 3 + conjuncts_steps p.checks + nested_steps p.loops (put_steps p + (taken_steps p + most)) env
    sorted = omega (arith, gathered-few env (put_steps p) (taken_steps p + most) p row)

    by : (sort : Bool) → cond sort (sorted_steps p most env) (gathered_steps p most env) ≤ 3 + conjuncts_steps p.checks + nested_steps p.loops (put_steps p + (taken_steps p + most)) env
    by true = sorted
    by false =
        let more : put_steps p + taken_steps p + most ≡ put_steps p + (taken_steps p + most) = omega arith in
        let fewer = nested-more p.loops most (put_steps p + taken_steps p) env in
        let same : most + (put_steps p + taken_steps p) ≡ put_steps p + (taken_steps p + most) = omega arith in
        omega (arith, fewer, ap (λ n. nested_steps p.loops n env) same)

-- a program in the loops of a plan that fits, and its end
pub plan-few : (q : BoundSelect) (p : JoinPlan) (params : List Value) → PlanFits params q.from (conjuncts_of q) p → (x : Surroundings) → x.params ≡ params → plan_steps p (row_steps q.results) (environment x [] [] (no_rows (length q.from)).rows) + 1 ≤ query_steps q x
plan-few q p params fits x same =
    let env : Environment = environment x [] [] (no_rows (length q.from)).rows in
    let most : ℕ = put_steps p + (taken_steps p + row_steps q.results) in
    let few = few-turns params q.from (conjuncts_of q) p.loops most x same fits.over fits.few in
    let all = turns-few q.from (conjuncts_of q) p fits.small fits.over most (turns_over q.from (conjuncts_of q) x) (nested_steps p.loops most env) few.0 few.1 in
    let long = long-loops q.from p.loops fits.over in
    let turn : tested_steps (all_conjuncts q.from (conjuncts_of q)) + 8 * length q.from + most ≡ turn_steps q.from (conjuncts_of q) q.results = omega (arith, long) in
    let turns : turns_over q.from (conjuncts_of q) x * (tested_steps (all_conjuncts q.from (conjuncts_of q)) + 8 * length q.from + most) ≡ turns_over q.from (conjuncts_of q) x * turn_steps q.from (conjuncts_of q) q.results = ap (λ n. turns_over q.from (conjuncts_of q) x * n) turn in
    omega (arith, ordered-few p (row_steps q.results) env, all, long, turns)

-- ---- by the size of the query

tested-within : (es : List BoundExpr) → tested_steps es ≤ 6 * all_nodes es
tested-within [] = omega arith
tested-within (x ∷ es) =
    omega (arith, steps_and_two_within x, tested-within es, sum_by-cons (λ e. steps_of e + 1) x es, sum_by-cons (λ e. steps_of e + 3) x es)

results-few : (es : List BoundExpr) → results_steps es ≤ 4 * all_nodes es
results-few [] = omega arith
results-few (x ∷ es) = omega (arith, steps_and_two_within x, results-few es, sum_by-cons steps_of x es)

-- there is one turn at least
some_turns : (x : Surroundings) (from : List FromTable) → 1 ≤ product_turns x from
some_turns x [] = omega arith
some_turns x (f ∷ from) =
    let one : 1 ≤ 1 + length (rows_at x.world f.table) = omega arith in
    let some : 1 * 1 ≤ (1 + length (rows_at x.world f.table)) * product_turns x from = mul-le-mul one (some_turns x from) in
    omega (arith, some)

some_alone : (x : Surroundings) (f : FromTable) (join : Join) (conjuncts : List BoundExpr) → 1 ≤ alone_turns f join conjuncts x
some_alone x f Inner conjuncts = omega arith
some_alone x f (Left ons) conjuncts = some_turns x (f ∷ [])

some_turn : (x : Surroundings) (from : List FromTable) (conjuncts : List BoundExpr) → 1 ≤ turns_over from conjuncts x
some_turn x [] conjuncts = omega arith
some_turn x (f ∷ []) conjuncts = some_alone x f f.join conjuncts
some_turn x (f ∷ g ∷ from) conjuncts = some_turns x (f ∷ g ∷ from)

pub steps-few : (q : BoundSelect) → StepsAreFew q
steps-few q x =
    let n = length q.from in
    let all = all_conjuncts q.from (conjuncts_of q) in
    let t = turns_over q.from (conjuncts_of q) x in
    let each : ℕ = 6 * all_nodes all + 4 * all_nodes q.results + 11 * n + 9 in
    let less : turn_steps q.from (conjuncts_of q) q.results + n ≤ each = omega (arith, tested-within all, results-few q.results) in
    let items : n ≤ t * n = subst (λ k. k ≤ t * n) (omega arith) (mul-le-mul_right n (some_turn x q.from (conjuncts_of q))) in
    let both : t * (turn_steps q.from (conjuncts_of q) q.results + n) ≡ t * turn_steps q.from (conjuncts_of q) q.results + t * n = omega arith in
    omega (arith, items, both, mul-le-mul_left t less)

-- ---- VALUES

rows_few : (rows : List (List BoundExpr)) → rows_in_turn_steps rows ≤ 4 * sum_by all_nodes rows + 5 * length rows
rows_few [] = omega arith
rows_few (row ∷ rows) = omega (arith, results-few row, rows_few rows, sum_by-cons row_steps row rows, sum_by-cons all_nodes row rows)

pub values-few : (rows : List (List BoundExpr)) → ValuesStepsAreFew rows
values-few rows x = omega (arith, rows_few rows)
