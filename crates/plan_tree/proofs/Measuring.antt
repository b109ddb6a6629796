-- How much the loops of a plan test.
use Rattle.std.proofs.Common.{◌≡◌, ◌+◌, ◌≤◌, ℕ, suc, Bool, true, false, List, [], ◌∷◌, ◌++◌, refl, sym, ap, ◌∙◌, arith}
use Rattle.std.specs.Prelude.{sum_by}
use Rattle.std.specs.List.{flat_map}
use Rattle.std.proofs.lemmas.List.Sums.{sum_by-append, sum_by-cons}
use Rattle.bound_tree.specs.Exprs.{BoundExpr}
use Rattle.eng_value.proofs.Shuffling.{flat_map-shuffled}
use Rattle.eng_value.specs.Arrangements.{Shuffled, empty, keep, swap, onward}
use Rattle.eng_value.specs.declared.value.Value.{Value}
use Rattle.plan_tree.specs.Assigned.{AreLoopsFor, IsLoopFor, all_of, checks_of, numbered, pairs_of, served}
use Rattle.plan_tree.specs.Plans.{join_conjuncts, ons_in}
use Rattle.plan_tree.specs.Visits.{CountsSides, key_expr, keys_in, tested, unless}
use Rattle.plan_tree.specs.declared.access.Loop.{Loop}
use Rattle.plan_tree.specs.declared.access.Path.{Path}
use Rattle.plan_tree.specs.declared.access.Pairs.{Pairs}
use Rattle.sql_meaning.specs.declared.bound.FromTable.{FromTable}
use Rattle.sql_meaning.specs.declared.bound.Join.{Join}
use Rattle.sql_meaning.specs.declared.bound.Join.TheVariants.{Inner, Left}

pub sum_by-shuffled : {X : Type 0} (size : X → ℕ) {xs ys : List X} → Shuffled xs ys → sum_by size xs ≡ sum_by size ys
sum_by-shuffled size empty = refl
sum_by-shuffled size (keep x {xs} {ys} s) = sum_by-cons size x xs ∙ ap (λ n. size x + n) (sum_by-shuffled size s) ∙ sym (sum_by-cons size x ys)
sum_by-shuffled size (swap x y xs) =
    let one = sum_by-cons size x (y ∷ xs) in
    let two = sum_by-cons size y xs in
    let three = sum_by-cons size y (x ∷ xs) in
    let four = sum_by-cons size x xs in
    omega arith
sum_by-shuffled size (onward s t) = sum_by-shuffled size s ∙ sum_by-shuffled size t

module _ (size : BoundExpr → ℕ) where
  unless-within : (b : Bool) (c : BoundExpr) (cs : List BoundExpr) (n : ℕ) → sum_by size cs ≤ n → sum_by size (unless b c cs) ≤ size c + n
  unless-within true c cs n le = omega arith
  unless-within false c cs n le = let all = sum_by-cons size c cs in omega arith

  pub tested-within : (consumed : List Bool) (cs : List BoundExpr) → sum_by size (tested consumed cs) ≤ sum_by size cs
  tested-within [] [] = omega arith
  tested-within (b ∷ consumed) [] = omega arith
  tested-within [] (c ∷ cs) = omega arith
  tested-within (b ∷ consumed) (c ∷ cs) =
      let all = sum_by-cons size c cs in
      let rest = unless-within b c (tested consumed cs) (sum_by size cs) (tested-within consumed cs) in
      omega arith

  abbrev of_loop : Loop → List BoundExpr
  of_loop l = ons_in l.pairs ++ l.checks

  abbrev pub of_joins : List (ℕ × FromTable) → List BoundExpr
  of_joins order = flat_map (λ (item : ℕ × FromTable). join_conjuncts item.1.join) order

  loop-within : (join : Join) (here : List BoundExpr) (consumed : List Bool) → sum_by size (ons_in (pairs_of join (tested consumed (served join here))) ++ checks_of join (tested consumed (served join here)) here) ≤ sum_by size here + sum_by size (join_conjuncts join)
  loop-within Inner here consumed = let few = tested-within consumed here in omega arith
  loop-within (Left ons) here consumed =
      let few = tested-within consumed (served (Left ons) here) in
      let both = sum_by-append size (tested consumed (served (Left ons) here)) here in
      omega arith

  loop-tests : (params : List Value) (place : ℕ) (f : FromTable) (here : List BoundExpr) (l : Loop) → IsLoopFor params place f here l → sum_by size (of_loop l) ≤ sum_by size here + sum_by size (join_conjuncts f.join)
  loop-tests params place f here l is =
      let pairs_are = ap (λ (ps : Pairs). sum_by size (ons_in ps ++ l.checks)) is.pairs in
      let checks_are = ap (λ cs. sum_by size (ons_in (pairs_of f.join (tested is.access.consumed (served f.join here))) ++ cs)) is.checks in
      let few = loop-within f.join here is.access.consumed in
      omega arith

  -- what all loops test
  pub loops-test : (params : List Value) (order : List (ℕ × FromTable)) (assigned : List (List BoundExpr)) (loops : List Loop) → AreLoopsFor params order assigned loops → sum_by size (flat_map of_loop loops) ≤ sum_by size (all_of assigned) + sum_by size (of_joins order)
  loops-test params [] [] [] are = omega arith
  loops-test params [] [] (l ∷ loops) are = absurd are
  loops-test params [] (here ∷ assigned) loops are = absurd are
  loops-test params (item ∷ order) [] loops are = absurd are
  loops-test params (item ∷ order) (here ∷ assigned) [] are = absurd are
  loops-test params (item ∷ order) (here ∷ assigned) (l ∷ loops) are =
      let first = loop-tests params item.0 item.1 here l are.0 in
      let rest = loops-test params order assigned loops are.1 in
      let one = sum_by-append size (of_loop l) (flat_map of_loop loops) in
      let two = sum_by-append size here (all_of assigned) in
      let three = sum_by-append size (join_conjuncts item.1.join) (of_joins order) in
      omega arith

  abbrev key_sizes : Path → ℕ
  key_sizes path = sum_by (λ k. size (key_expr k)) (keys_in path)

  served-within : (join : Join) (here : List BoundExpr) → sum_by size (served join here) ≤ sum_by size here + sum_by size (join_conjuncts join)
  served-within Inner here = omega arith
  served-within (Left ons) here = omega arith

  loop-keys : CountsSides size → (params : List Value) (place : ℕ) (f : FromTable) (here : List BoundExpr) (l : Loop) → IsLoopFor params place f here l → key_sizes l.path ≤ sum_by size here + sum_by size (join_conjuncts f.join)
  loop-keys counts params place f here l is =
      let path_is = ap key_sizes is.path in
      let few : key_sizes is.access.path ≤ sum_by size (served f.join here) = is.fits.keys size counts in
      let all = served-within f.join here in
      omega arith

  -- and what their keys are
  pub loops-keys : CountsSides size → (params : List Value) (order : List (ℕ × FromTable)) (assigned : List (List BoundExpr)) (loops : List Loop) → AreLoopsFor params order assigned loops → sum_by (λ (l : Loop). sum_by (λ k. size (key_expr k)) (keys_in l.path)) loops ≤ sum_by size (all_of assigned) + sum_by size (of_joins order)
  loops-keys counts params [] [] [] are = omega arith
  loops-keys counts params [] [] (l ∷ loops) are = absurd are
  loops-keys counts params [] (here ∷ assigned) loops are = absurd are
  loops-keys counts params (item ∷ order) [] loops are = absurd are
  loops-keys counts params (item ∷ order) (here ∷ assigned) [] are = absurd are
  loops-keys counts params (item ∷ order) (here ∷ assigned) (l ∷ loops) are =
      let first = loop-keys counts params item.0 item.1 here l are.0 in
      let rest = loops-keys counts params order assigned loops are.1 in
      let one = sum_by-cons (λ (l : Loop). key_sizes l.path) l loops in
      let two = sum_by-append size here (all_of assigned) in
      let three = sum_by-append size (join_conjuncts item.1.join) (of_joins order) in
      omega arith

  -- ---- the ONs of items in any order

  joins-numbered : (place : ℕ) (from : List FromTable) → of_joins (numbered place from) ≡ flat_map (λ (f : FromTable). join_conjuncts f.join) from
  joins-numbered place [] = refl
  joins-numbered place (f ∷ from) = ap (λ those. join_conjuncts f.join ++ those) (joins-numbered (suc place) from)

  pub joins-size : (from : List FromTable) (order : List (ℕ × FromTable)) → Shuffled (numbered 0 from) order → sum_by size (of_joins order) ≡ sum_by size (flat_map (λ (f : FromTable). join_conjuncts f.join) from)
  joins-size from order s =
      sym (sum_by-shuffled size (flat_map-shuffled (λ (item : ℕ × FromTable). join_conjuncts item.1.join) s)) ∙ ap (sum_by size) (joins-numbered 0 from)
