-- Where a query names no items but those of its FROM, a plan that tests nothing else names none but them.
use Rattle.std.proofs.Common.{◌≡◌, ℕ, ◌+◌, All, List, [], ◌∷◌, ◌++◌, if◌then◌else◌, nat_lt, length, flat_map, sum_by, refl, sym, ap, ◌∙◌, subst, arith, ⊎_elim}
use Rattle.std.proofs.lemmas.Bool.{cases_lt, le-ltb, lt-ltb}
use Rattle.std.proofs.lemmas.List.Concat.{flat_map-cons}
use Rattle.std.proofs.lemmas.List.Elements.{All-cons, All-head, All-nil, All-tail, All-weaker}
use Rattle.std.proofs.lemmas.List.Sums.{sum_by-append, sum_by-cons}
use Rattle.bound_tree.specs.Exprs.{BoundExpr}
use Rattle.gen_expr.specs.Needs.{needs_of}
use Rattle.gen_loop.specs.Needs.{IsNamedBelow, NamesBelow, conjuncts_read, key_read, keys_read, loop_reads, plan_reads}
use Rattle.gen_query.specs.Queries.{conjuncts_of, query_reads, results_read}
use Rattle.gen_query.proofs.Fitting.{long-loops}
use Rattle.plan_tree.specs.Plans.{AreOver, IsSmall, all_conjuncts, ons_in, tested_by}
use Rattle.plan_tree.specs.Visits.{CountsSides, key_expr, keys_in}
use Rattle.plan_tree.specs.declared.access.JoinPlan.{JoinPlan}
use Rattle.plan_tree.specs.declared.access.Loop.{Loop}
use Rattle.sql_meaning.specs.declared.bound.BoundSelect.{BoundSelect}
use Rattle.vm_code.specs.declared.open_cursor.Need.{Need}
use Rattle.vm_code.specs.declared.open_cursor.Need.TheVariants as need
use Rattle.vm_code.specs.Track.{Meets, OpenSet}

sum_flat : {X Y : Type 0} (g : Y → ℕ) (f : X → List Y) (xs : List X) → sum_by g (flat_map f xs) ≡ sum_by (λ x. sum_by g (f x)) xs
sum_flat g f [] = refl
sum_flat g f (x ∷ xs) =
    ap (sum_by g) (flat_map-cons f x xs)
    ∙ sum_by-append g (f x) (flat_map f xs)
    ∙ ap (λ n. sum_by g (f x) + n) (sum_flat g f xs)
    ∙ sym (sum_by-cons (λ x. sum_by g (f x)) x xs)

-- ---- what names other items is counted

module _ (n : ℕ) where
  abbrev stray : Need → ℕ
  stray (need.Rows c) = if nat_lt c n then 0 else 1
  stray other = 1

  abbrev strays_in : List Need → ℕ
  strays_in needs = sum_by stray needs

  abbrev strays : BoundExpr → ℕ
  strays e = strays_in (needs_of e)

  no_stray : (own : Need) → IsNamedBelow n own → stray own ≡ 0
  no_stray (need.Open c) never = absurd never
  no_stray (need.Table c) never = absurd never
  no_stray (need.Rows c) lt = ap (λ b. if b then 0 else 1) (lt-ltb c n lt)
  no_stray (need.Sorter c) never = absurd never

  named : (own : Need) → stray own ≡ 0 → IsNamedBelow n own
  named (need.Open c) e = absurd (omega (arith, e))
  named (need.Table c) e = absurd (omega (arith, e))
  named (need.Rows c) e =
      ⊎_elim (λ lt. lt) (λ le. absurd (let one : 1 ≡ 0 = sym (ap (λ b. if b then 0 else 1) (le-ltb c n le)) ∙ e in omega (arith, one))) (cases_lt c n)
  named (need.Sorter c) e = absurd (omega (arith, e))

  no_strays : (needs : List Need) → NamesBelow n needs → strays_in needs ≡ 0
  no_strays [] names = refl
  no_strays (own ∷ needs) names =
      omega (arith, sum_by-cons stray own needs, no_stray own (All-head (IsNamedBelow n) own needs names), no_strays needs (All-tail (IsNamedBelow n) own needs names))

  all_named : (needs : List Need) → strays_in needs ≡ 0 → NamesBelow n needs
  all_named [] e = All-nil (IsNamedBelow n)
  all_named (own ∷ needs) e =
      All-cons (IsNamedBelow n) own needs (named own (omega (arith, e, sum_by-cons stray own needs))) (all_named needs (omega (arith, e, sum_by-cons stray own needs)))

  sides_count : CountsSides strays
  sides_count op sides a b =
      let both = sum_by-append stray (needs_of a) (needs_of b) in (omega (arith, both), omega (arith, both))

  conjuncts_count : (conjuncts : List BoundExpr) → strays_in (conjuncts_read conjuncts) ≡ sum_by strays conjuncts
  conjuncts_count conjuncts = sum_flat stray needs_of conjuncts

  -- ---- a plan

  abbrev keys_strays : Loop → ℕ
  keys_strays l = sum_by (λ k. strays (key_expr k)) (keys_in l.path)

  abbrev tests_of : Loop → List BoundExpr
  tests_of l = ons_in l.pairs ++ l.checks

  loop_count : (l : Loop) → strays_in (loop_reads l) ≡ keys_strays l + sum_by strays (tests_of l)
  loop_count l =
      let keys = keys_read (keys_in l.path) in
      let ons = conjuncts_read (ons_in l.pairs) in
      let checks = conjuncts_read l.checks in
      let keys_are : strays_in keys ≡ keys_strays l = sum_flat stray key_read (keys_in l.path) in
      omega (arith, sum_by-append stray (keys ++ ons) checks, sum_by-append stray keys ons, keys_are, conjuncts_count (ons_in l.pairs), conjuncts_count l.checks, sum_by-append strays (ons_in l.pairs) l.checks)

  loops_count : (loops : List Loop) → strays_in (flat_map loop_reads loops) ≡ sum_by keys_strays loops + sum_by strays (flat_map tests_of loops)
  loops_count [] = refl
  loops_count (l ∷ loops) =
      let reads : strays_in (flat_map loop_reads (l ∷ loops)) ≡ strays_in (loop_reads l) + strays_in (flat_map loop_reads loops) = ap strays_in (flat_map-cons loop_reads l loops) ∙ sum_by-append stray (loop_reads l) (flat_map loop_reads loops) in
      let tests : sum_by strays (flat_map tests_of (l ∷ loops)) ≡ sum_by strays (tests_of l) + sum_by strays (flat_map tests_of loops) = ap (sum_by strays) (flat_map-cons tests_of l loops) ∙ sum_by-append strays (tests_of l) (flat_map tests_of loops) in
      omega (arith, reads, tests, sum_by-cons keys_strays l loops, loop_count l, loops_count loops)

  plan_count : (p : JoinPlan) → strays_in (plan_reads p) ≡ sum_by strays (tested_by p) + sum_by keys_strays p.loops
  plan_count p =
      let reads = sum_by-append stray (conjuncts_read p.checks) (flat_map loop_reads p.loops) in
      let tests : sum_by strays (tested_by p) ≡ sum_by strays p.checks + sum_by strays (flat_map tests_of p.loops) = sum_by-append strays p.checks (flat_map tests_of p.loops) in
      omega (arith, reads, tests, conjuncts_count p.checks, loops_count p.loops)

-- ---- a query

pub names-plan : (q : BoundSelect) (p : JoinPlan) → AreOver q.from p.loops → IsSmall q.from (conjuncts_of q) p → NamesBelow (length q.from) (query_reads q) → NamesBelow (length p.loops) (plan_reads p ++ results_read q.results)
names-plan q p over small names =
    let n = length q.from in
    let all = all_conjuncts q.from (conjuncts_of q) in
    let none = no_strays n (query_reads q) names in
    let parts = sum_by-append (stray n) (conjuncts_read all) (results_read q.results) in
    let tests = small.tests (strays n) in
    let keys = small.keys (strays n) (sides_count n) in
    let both = sum_by-append (stray n) (plan_reads p) (results_read q.results) in
    let zero : strays_in n (plan_reads p ++ results_read q.results) ≡ 0 = omega (arith, none, parts, conjuncts_count n all, tests, keys, both, plan_count n p) in
    subst (λ k. NamesBelow k (plan_reads p ++ results_read q.results)) (sym (long-loops q.from p.loops over)) (all_named n (plan_reads p ++ results_read q.results) zero)

-- what names no item needs nothing
nothing_needed : (xs : OpenSet) (own : Need) → IsNamedBelow 0 own → Meets xs own
nothing_needed xs (need.Open c) never = absurd never
nothing_needed xs (need.Table c) never = absurd never
nothing_needed xs (need.Rows c) lt = absurd (omega (arith, lt))
nothing_needed xs (need.Sorter c) never = absurd never

pub needs-nothing : (needs : List Need) → NamesBelow 0 needs → (xs : OpenSet) → All (Meets xs) needs
needs-nothing needs names xs = All-weaker (IsNamedBelow 0) (Meets xs) (nothing_needed xs) needs names
