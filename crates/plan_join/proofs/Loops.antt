-- Loops over items, one after another.
use Rattle.std.proofs.Common.{◌≡◌, ◌+◌, ◌≤◌, ◌<◌, ℕ, zero, suc, Bool, List, [], ◌∷◌, ◌++◌, get_or, length, take, drop, refl, sym, ap, subst, ◌∙◌, add-one, arith}
use Rattle.std.specs.Prelude.{nat_eq}
use Rattle.std.specs.List.{AllByRecursion, filter, flat_map}
use Rattle.std.proofs.lemmas.List.{drop-map, get_or-map, length-map, take_all}
use Rattle.bound_tree.specs.Conditions.{conditions_of}
use Rattle.bound_tree.specs.Exprs.{BoundExpr}
use Rattle.eng_index.specs.declared.key_term.KeyTerm.{KeyTerm}
use Rattle.eng_value.specs.Arrangements.{Shuffled}
use Rattle.eng_value.specs.declared.value.Value.{Value}
use Rattle.plan_join.proofs.Readiness.{all-assigned, all-first, are-ready, tests-all}
use Rattle.plan_join.specs.Orders.{IsOrderOf, item_at, items_at}
use Rattle.plan_join.specs.Ready.{AreLoopsIn, IsInnerLoop, IsLeftLoop, assigned_in, is_ready, tested_in}
use Rattle.plan_join.specs.declared.placing.Placed.{Placed}
use Rattle.plan_tree.proofs.Planning.{moves_in}
use Rattle.plan_tree.specs.Assigned.{AreLoopsFor, IgnoresAll, IsAssigned, IsLoopFor, TestsAll, all_of, checks_of, pairs_of, served}
use Rattle.plan_tree.specs.Plans.{PlanFits}
use Rattle.plan_tree.specs.Visits.{AccessFits, tested}
use Rattle.plan_tree.specs.declared.access.Access.{Access}
use Rattle.plan_tree.specs.declared.access.JoinPlan.{JoinPlan}
use Rattle.plan_tree.specs.declared.access.Loop.{Loop}
use Rattle.plan_tree.specs.declared.access.Pairs.TheVariants.{Each, OrAlone}
use Rattle.sql_meaning.specs.declared.bound.FromTable.{FromTable}
use Rattle.sql_meaning.specs.declared.bound.Join.{Join}

-- ---- one of them

-- by an access over these conjuncts
pub record IsBy (item : ℕ) (f : FromTable) (a : Access) (l : Loop) : Type 0 where
  pub place : l.place ≡ item
  pub table : l.table ≡ f.table
  pub path : l.path ≡ a.path

pub inner_by : (params : List Value) (place : ℕ) (f : FromTable) (assigned : List BoundExpr) (a : Access) (l : Loop) → AccessFits params place f.indexes assigned a → IsBy place f a l → l.pairs ≡ Each → l.checks ≡ tested a.consumed assigned → IsInnerLoop params place f assigned l
inner_by params place f assigned a l fits by pairs checks join =
    let to : served f.join assigned ≡ assigned = ap (λ (j : Join). served j assigned) join in
    record {
      place = by.place;
      table = by.table;
      access = a;
      fits = subst (λ cs. AccessFits params place f.indexes cs a) (sym to) fits;
      path = by.path;
      pairs = pairs ∙ sym (ap (λ (j : Join). pairs_of j (tested a.consumed (served j assigned))) join);
      checks = checks ∙ sym (ap (λ (j : Join). checks_of j (tested a.consumed (served j assigned)) assigned) join);
    }

pub left_by : (params : List Value) (place : ℕ) (f : FromTable) (ons assigned : List BoundExpr) (a : Access) (l : Loop) → AccessFits params place f.indexes (flat_map conditions_of ons) a → IsBy place f a l → l.pairs ≡ OrAlone (tested a.consumed (flat_map conditions_of ons)) → l.checks ≡ assigned → IsLeftLoop params place f ons assigned l
left_by params place f ons assigned a l fits by pairs checks join =
    let to : served f.join assigned ≡ flat_map conditions_of ons = ap (λ (j : Join). served j assigned) join in
    record {
      place = by.place;
      table = by.table;
      access = a;
      fits = subst (λ cs. AccessFits params place f.indexes cs a) (sym to) fits;
      path = by.path;
      pairs = pairs ∙ sym (ap (λ (j : Join). pairs_of j (tested a.consumed (served j assigned))) join);
      checks = checks ∙ sym (ap (λ (j : Join). checks_of j (tested a.consumed (served j assigned)) assigned) join);
    }

-- as their functions make them
pub inner_made : (params : List Value) (place : ℕ) (f : FromTable) (assigned conjuncts : List BoundExpr) (indexes : List (List KeyTerm)) (consumed : List Bool) (a : Access) (checks : List BoundExpr) (l : Loop) → conjuncts ≡ assigned → indexes ≡ f.indexes → consumed ≡ a.consumed → AccessFits params place indexes conjuncts a → checks ≡ tested consumed conjuncts → l.place ≡ place → l.table ≡ f.table → l.path ≡ a.path → l.pairs ≡ Each → l.checks ≡ checks → IsInnerLoop params place f assigned l
inner_made params place f assigned conjuncts indexes consumed a checks l conjuncts_are indexes_are consumed_is fits checks_are place_is table_is path_is pairs_are l_checks =
    let fits_those : AccessFits params place f.indexes assigned a = subst (λ ts. AccessFits params place ts assigned a) indexes_are (subst (λ cs. AccessFits params place indexes cs a) conjuncts_are fits) in
    inner_by params place f assigned a l fits_those (record { place = place_is; table = table_is; path = path_is }) pairs_are (l_checks ∙ checks_are ∙ ap (λ b. tested b conjuncts) consumed_is ∙ ap (tested a.consumed) conjuncts_are)

pub left_made : (params : List Value) (place : ℕ) (f : FromTable) (ons assigned those conjuncts : List BoundExpr) (indexes : List (List KeyTerm)) (consumed : List Bool) (a : Access) (pairs : List BoundExpr) (l : Loop) → those ≡ flat_map conditions_of ons → conjuncts ≡ those → indexes ≡ f.indexes → consumed ≡ a.consumed → AccessFits params place indexes conjuncts a → pairs ≡ tested consumed conjuncts → l.place ≡ place → l.table ≡ f.table → l.path ≡ a.path → l.pairs ≡ OrAlone pairs → l.checks ≡ assigned → IsLeftLoop params place f ons assigned l
left_made params place f ons assigned those conjuncts indexes consumed a pairs l those_are conjuncts_are indexes_are consumed_is fits pairs_are place_is table_is path_is l_pairs l_checks =
    let all = conjuncts_are ∙ those_are in
    let fits_those : AccessFits params place f.indexes (flat_map conditions_of ons) a = subst (λ ts. AccessFits params place ts (flat_map conditions_of ons) a) indexes_are (subst (λ cs. AccessFits params place indexes cs a) all fits) in
    left_by params place f ons assigned a l fits_those (record { place = place_is; table = table_is; path = path_is }) (l_pairs ∙ ap (λ cs. OrAlone cs) (pairs_are ∙ ap (λ b. tested b conjuncts) consumed_is ∙ ap (tested a.consumed) all)) l_checks

-- ---- one more behind the others

pub one_more : (params : List Value) (alone : Bool) (conjuncts : List BoundExpr) (order : List (ℕ × FromTable)) (i : ℕ) (item : ℕ × FromTable) (loops : List Loop) (l : Loop) → i < length order → item ≡ get_or order i item → AreLoopsFor params (take i order) (take i (assigned_in alone conjuncts order)) loops → IsLoopFor params item.0 item.1 (tested_in alone (drop i order) (drop (suc i) order) conjuncts) l → AreLoopsFor params (take (suc i) order) (take (suc i) (assigned_in alone conjuncts order)) (loops ++ l ∷ [])
one_more params alone conjuncts [] i item loops l within at are is = absurd (omega arith)
one_more params alone conjuncts (first ∷ order) zero item [] l within at are is =
    (subst (λ (x : ℕ × FromTable). IsLoopFor params x.0 x.1 (tested_in alone (first ∷ order) order conjuncts) l) at is, tt)
one_more params alone conjuncts (first ∷ order) zero item (k ∷ loops) l within at are is = absurd are
one_more params alone conjuncts (first ∷ order) (suc i) item [] l within at are is = absurd are
one_more params alone conjuncts (first ∷ order) (suc i) item (k ∷ loops) l within at are is =
    (are.0, one_more params alone conjuncts order i item loops l (omega arith) at are.1 is)

-- the next item's loop
pub next_loop : (params : List Value) (alone : Bool) (conjuncts : List BoundExpr) (order : List Placed) (i : ℕ) (loops more : List Loop) (next : Placed) (here left : List Placed) (those : List BoundExpr) (l : Loop) → AreLoopsFor params (take i (items_at order)) (take i (assigned_in alone conjuncts (items_at order))) loops → i < length order → next ≡ get_or order i next → here ≡ drop i order → left ≡ drop (i + 1) order → those ≡ tested_in alone (items_at here) (items_at left) conjuncts → IsLoopFor params next.place next.item.now those l → more ≡ loops ++ l ∷ [] → AreLoopsFor params (take (i + 1) (items_at order)) (take (i + 1) (assigned_in alone conjuncts (items_at order))) more
next_loop params alone conjuncts order i loops more next here left those l are within at here_is left_is those_are is more_is =
    let long : i < length (items_at order) = omega (arith, length-map order item_at) in
    let there : item_at next ≡ get_or (items_at order) i (item_at next) = ap item_at at ∙ sym (get_or-map item_at order i next (item_at next) within) in
    let from_here : items_at here ≡ drop i (items_at order) = ap items_at here_is ∙ sym (drop-map item_at i order) in
    let behind : items_at left ≡ drop (suc i) (items_at order) = ap items_at left_is ∙ sym (drop-map item_at (i + 1) order) ∙ ap (λ n. drop n (items_at order)) (add-one i) in
    let all : those ≡ tested_in alone (drop i (items_at order)) (drop (suc i) (items_at order)) conjuncts = those_are ∙ ap (λ xs. tested_in alone xs (items_at left) conjuncts) from_here ∙ ap (λ xs. tested_in alone (drop i (items_at order)) xs conjuncts) behind in
    let one = one_more params alone conjuncts (items_at order) i (item_at next) loops l long there are (subst (λ cs. IsLoopFor params next.place next.item.now cs l) all is) in
    subst (λ ls. AreLoopsFor params (take (i + 1) (items_at order)) (take (i + 1) (assigned_in alone conjuncts (items_at order))) ls) (sym more_is) (subst (λ n. AreLoopsFor params (take n (items_at order)) (take n (assigned_in alone conjuncts (items_at order))) (loops ++ l ∷ [])) (sym (add-one i)) one)

-- ---- all of them

length-assigned : (alone : Bool) (conjuncts : List BoundExpr) (order : List (ℕ × FromTable)) → length (assigned_in alone conjuncts order) ≡ length order
length-assigned alone conjuncts [] = refl
length-assigned alone conjuncts (item ∷ order) = ap suc (length-assigned alone conjuncts order)

pub all_loops : (params : List Value) (alone : Bool) (conjuncts : List BoundExpr) (order : List Placed) (i : ℕ) (loops : List Loop) → length order ≤ i → AreLoopsFor params (take i (items_at order)) (take i (assigned_in alone conjuncts (items_at order))) loops → AreLoopsIn params alone conjuncts (items_at order) loops
all_loops params alone conjuncts order i loops all are =
    let items : take i (items_at order) ≡ items_at order = take_all i (items_at order) (omega (arith, length-map order item_at)) in
    let assigned : take i (assigned_in alone conjuncts (items_at order)) ≡ assigned_in alone conjuncts (items_at order) = take_all i (assigned_in alone conjuncts (items_at order)) (omega (arith, length-map order item_at, length-assigned alone conjuncts (items_at order))) in
    subst (λ cs. AreLoopsFor params (items_at order) cs loops) assigned (subst (λ those. AreLoopsFor params those (take i (assigned_in alone conjuncts (items_at order))) loops) items are)

pub assigned : (params : List Value) (alone : Bool) (conjuncts : List BoundExpr) (from : List FromTable) (order : List Placed) (p : JoinPlan) → IsOrderOf from order p.sort → alone ≡ nat_eq (length order) 1 → p.checks ≡ filter (is_ready alone (items_at order)) conjuncts → AreLoopsIn params alone conjuncts (items_at order) p.loops → IsAssigned params from conjuncts (items_at order) (assigned_in alone conjuncts (items_at order)) p
assigned params alone conjuncts from order p is one checks loops = record {
  reordered = is.reordered;
  unsorted = is.unmoved;
  loops = loops;
  ready = are-ready alone conjuncts (items_at order);
  first = subst (AllByRecursion (IgnoresAll (items_at order))) (sym checks) (all-first alone conjuncts (items_at order));
  all = subst (λ cs. Shuffled (cs ++ all_of (assigned_in alone conjuncts (items_at order))) conjuncts) (sym checks) (all-assigned alone conjuncts (items_at order));
  alone = subst (λ cs. TestsAll from conjuncts cs (assigned_in alone conjuncts (items_at order))) (sym checks) (tests-all alone conjuncts from (items_at order) is.reordered (one ∙ ap (λ n. nat_eq n 1) (sym (length-map order item_at))));
}

-- as the function makes it
pub planned : (params : List Value) (conjuncts : List BoundExpr) (from : List FromTable) (order items : List Placed) (alone : Bool) (p : JoinPlan) → IsOrderOf from order p.sort → items ≡ order → alone ≡ nat_eq (length items) 1 → p.checks ≡ filter (is_ready alone (items_at items)) conjuncts → AreLoopsIn params alone conjuncts (items_at items) p.loops → PlanFits params from conjuncts p
planned params conjuncts from order items alone p is items_are one checks loops =
    let is_there : IsOrderOf from items p.sort = subst (λ those. IsOrderOf from those p.sort) (sym items_are) is in
    moves_in params from conjuncts (items_at items) (assigned_in alone conjuncts (items_at items)) p (assigned params alone conjuncts from items p is_there one checks loops)
