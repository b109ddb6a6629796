-- Loops over the items of a FROM, in any order that keeps to its LEFT JOINs, fit it.
use Rattle.std.proofs.Common.{◌≡◌, ◌+◌, ◌≤◌, ◌<◌, ℕ, suc, Bool, true, false, List, [], ◌∷◌, ◌++◌, length, map, refl, sym, ap, subst, ◌∙◌, arith, All}
use Rattle.std.specs.Prelude.{cond, sum_by}
use Rattle.std.specs.List.{AllByRecursion, flat_map}
use Rattle.std.proofs.lemmas.List.{length-map, length-replicate}
use Rattle.std.proofs.lemmas.List.Sums.{sum_by-append}
use Rattle.bound_tree.specs.Exprs.{BoundExpr}
use Rattle.eng_value.proofs.Arranging.{arranged-to}
use Rattle.eng_value.proofs.Shuffling.{all-shuffled, flat_map-shuffled, map-shuffled, shuffled_back, shuffled_is}
use Rattle.eng_value.proofs.Sorting.{length-shuffled}
use Rattle.eng_value.specs.Arrangements.{Shuffled, arranged, onward}
use Rattle.eng_value.specs.Environments.{Environment, ItemRow, Surroundings, null_row}
use Rattle.eng_value.specs.StoredRows.{IsAscending}
use Rattle.eng_value.specs.declared.value.Value.{Value}
use Rattle.plan_tree.proofs.Lists.{all-each, flat_map-agree, flat_map-flat_map, flat_map-same}
use Rattle.plan_tree.proofs.Looping.{Within, looped-nested}
use Rattle.plan_tree.proofs.Measuring.{joins-size, loops-keys, loops-test, sum_by-shuffled}
use Rattle.plan_tree.proofs.Nesting.{Wide, moved, nested, nested-product}
use Rattle.plan_tree.proofs.Passing.{passed-all, passed-append, row_if}
use Rattle.plan_tree.proofs.Positions.{kept-ascend, stands_before-orders}
use Rattle.plan_tree.proofs.Reordering.{alone-reordered, nested-reordered, reordered-shuffled}
use Rattle.plan_tree.proofs.Sifting.{sifted-shuffled}
use Rattle.plan_tree.specs.Assigned.{AreLoopsFor, IsAssigned, IsLoopFor, Reordered, TestsAll, all_of, numbered, served}
use Rattle.plan_tree.specs.Plans.{AreOver, IsFewOf, IsSmall, PlanFits, UnlessLeft, all_conjuncts, gathered, item_of, items_from, join_conjuncts, joined_table, looped, ons_in, planned, rows_of_from, stands_before, tested_by}
use Rattle.plan_tree.specs.Visits.{CountsSides, IsCounted, before, key_expr, keys_in, visited}
use Rattle.plan_tree.specs.declared.access.JoinPlan.{JoinPlan}
use Rattle.plan_tree.specs.declared.access.Loop.{Loop}
use Rattle.sql_meaning.specs.Products.{FromRow, in_row, no_rows, passed, product_from}
use Rattle.sql_meaning.specs.Searches.{rows_counted}
use Rattle.sql_meaning.specs.World.{rows_at}
use Rattle.sql_meaning.specs.declared.bound.FromTable.{FromTable}
use Rattle.sql_meaning.specs.declared.bound.Join.{Join}
use Rattle.sql_meaning.specs.declared.bound.Join.TheVariants.{Inner, Left}

-- ---- the items of the loops

-- the place and the table of an item
abbrev placed_table : ℕ × FromTable → ℕ × ℕ
placed_table item = (item.0, item.1.table)

numbered-items : (place : ℕ) (from : List FromTable) → map placed_table (numbered place from) ≡ items_from place from
numbered-items place [] = refl
numbered-items place (f ∷ from) = ap (λ rest. (place, f.table) ∷ rest) (numbered-items (suc place) from)

length-numbered : (place : ℕ) (from : List FromTable) → length (numbered place from) ≡ length from
length-numbered place [] = refl
length-numbered place (f ∷ from) = ap suc (length-numbered (suc place) from)

pub numbered-within : (width place : ℕ) (from : List FromTable) → place + length from ≡ width → AllByRecursion (λ (item : ℕ × FromTable). item.0 < width) (numbered place from)
numbered-within width place [] is = tt
numbered-within width place (f ∷ from) is = (omega arith, numbered-within width (suc place) from (omega arith))

module _ (params : List Value) where
  -- they are over the items, in their order
  loops-over : (order : List (ℕ × FromTable)) (assigned : List (List BoundExpr)) (loops : List Loop) → AreLoopsFor params order assigned loops → map item_of loops ≡ map placed_table order
  loops-over [] [] [] are = refl
  loops-over [] [] (l ∷ loops) are = absurd are
  loops-over [] (here ∷ assigned) loops are = absurd are
  loops-over (item ∷ order) [] loops are = absurd are
  loops-over (item ∷ order) (here ∷ assigned) [] are = absurd are
  loops-over (item ∷ order) (here ∷ assigned) (l ∷ loops) are =
      ap (λ (place : ℕ). (place, l.table) ∷ map item_of loops) are.0.place
      ∙ ap (λ (table : ℕ). (item.0, table) ∷ map item_of loops) are.0.table
      ∙ ap (λ rest. placed_table item ∷ rest) (loops-over order assigned loops are.1)

  loops-counted : (order : List (ℕ × FromTable)) (assigned : List (List BoundExpr)) (loops : List Loop) → AreLoopsFor params order assigned loops → AllByRecursion (λ (l : Loop). IsCounted l.path) loops
  loops-counted [] [] [] are = tt
  loops-counted [] [] (l ∷ loops) are = absurd are
  loops-counted [] (here ∷ assigned) loops are = absurd are
  loops-counted (item ∷ order) [] loops are = absurd are
  loops-counted (item ∷ order) (here ∷ assigned) [] are = absurd are
  loops-counted (item ∷ order) (here ∷ assigned) (l ∷ loops) are =
      (subst IsCounted (sym are.0.path) are.0.fits.counted, loops-counted order assigned loops are.1)

  length-loops : (order : List (ℕ × FromTable)) (assigned : List (List BoundExpr)) (loops : List Loop) → AreLoopsFor params order assigned loops → length loops ≡ length order
  length-loops order assigned loops are =
      sym (length-map loops item_of) ∙ ap length (loops-over order assigned loops are) ∙ length-map order placed_table

-- ---- a plan

module _ (params : List Value) (from : List FromTable) (conjuncts : List BoundExpr) (order : List (ℕ × FromTable)) (assigned : List (List BoundExpr)) (p : JoinPlan) (is : IsAssigned params from conjuncts order assigned p) where
  abbrev width : ℕ
  width = length from

  abbrev start : FromRow
  start = no_rows width

  start-wide : Wide width start.rows
  start-wide = omega (arith, length-replicate {A = ItemRow} width null_row)

  items : Shuffled (numbered 0 from) order
  items = reordered-shuffled is.reordered

  within : Within width order
  within = all-shuffled (λ (item : ℕ × FromTable). item.0 < width) items (numbered-within width 0 from (omega arith))

  loops-length : length p.loops ≡ width
  loops-length =
      length-loops params order assigned p.loops is.loops ∙ sym (length-shuffled (numbered 0 from) order items) ∙ length-numbered 0 from

  -- ---- what it gives

  module _ (env : Environment) (same : env.params ≡ params) where
    -- what conjuncts keep of the rows in an order
    abbrev kept_of : List (ℕ × FromTable) → List FromRow
    kept_of those = flat_map (passed env conjuncts) (nested env those start)

    of-product : kept_of (numbered 0 from) ≡ flat_map (passed env conjuncts) (rows_of_from env from)
    of-product =
        ap (flat_map (passed env conjuncts)) (nested-product env 0 from start)
        ∙ ap (λ n. flat_map (passed env conjuncts) (product_from env 0 (map (joined_table env) from) (no_rows n))) (sym (length-map from (joined_table env)))

    -- the loops give what the conjuncts keep
    gathered-kept : gathered env p start ≡ kept_of order
    gathered-kept =
        flat_map-agree (looped env p.loops) (λ r. flat_map (passed env all) (rows r)) (passed env p.checks start) (all-each (λ (r : FromRow). Wide width r.rows) (λ r. looped env p.loops r ≡ flat_map (passed env all) (rows r)) (passed env p.checks start) (looped-nested params env same width order assigned p.loops is.loops is.ready within) (passed-all (Wide width) env p.checks start start-wide))
        ∙ sym (flat_map-flat_map (passed env all) rows (passed env p.checks start))
        ∙ ap (flat_map (passed env all)) (moved env p.checks order is.first start)
        ∙ flat_map-flat_map (passed env all) (passed env p.checks) (rows start)
        ∙ flat_map-same (λ r. flat_map (passed env all) (passed env p.checks r)) (passed env conjuncts) (rows start) (λ r. passed-append env p.checks all r ∙ ap (row_if r) (sifted-shuffled is.all (in_row env r) r.causes))
      where
        all : List BoundExpr
        all = all_of assigned

        rows : FromRow → List FromRow
        rows row = nested env order row

    -- which sorted are in the order of the FROM
    sorted-kept : All IsAscending env.world → arranged (stands_before (length p.loops)) (gathered env p start) ≡ kept_of (numbered 0 from)
    sorted-kept up =
        ap (λ n. arranged (stands_before n) (gathered env p start)) loops-length
        ∙ ap (arranged (stands_before width)) gathered-kept
        ∙ arranged-to (stands_before width) (stands_before-orders width) (kept_of order) (kept_of (numbered 0 from)) (flat_map-shuffled (passed env conjuncts) (nested-reordered env is.reordered start)) (kept-ascend env up width from conjuncts start refl start-wide)

    gives : All IsAscending env.world → planned env p start ≡ flat_map (passed env conjuncts) (rows_of_from env from)
    gives up = by p.sort refl
      where
        by : (sort : Bool) → p.sort ≡ sort → cond sort (arranged (stands_before (length p.loops)) (gathered env p start)) (gathered env p start) ≡ flat_map (passed env conjuncts) (rows_of_from env from)
        by true sorts = sorted-kept up ∙ of-product
        by false sorts = gathered-kept ∙ ap kept_of (is.unsorted sorts) ∙ of-product

  -- ---- its loops

  over : AreOver from p.loops
  over = record {
    items = onward (shuffled_is (map item_of p.loops) (map placed_table order) (loops-over params order assigned p.loops is.loops)) (subst (Shuffled (map placed_table order)) (numbered-items 0 from) (map-shuffled placed_table (shuffled_back items)));
    counted = loops-counted params order assigned p.loops is.loops;
  }

  -- ---- how much it tests

  small : IsSmall from conjuncts p
  small = record { tests = tests; keys = keys }
    where
      tests : (size : BoundExpr → ℕ) → sum_by size (tested_by p) ≤ sum_by size (all_conjuncts from conjuncts)
      tests size =
          let few = loops-test size params order assigned p.loops is.loops in
          let joins = joins-size size from order items in
          let mine = sum_by-append size p.checks (flat_map (λ (l : Loop). ons_in l.pairs ++ l.checks) p.loops) in
          let theirs = sum_by-append size conjuncts (flat_map (λ (f : FromTable). join_conjuncts f.join) from) in
          let parts = sum_by-append size p.checks (all_of assigned) in
          let all = sum_by-shuffled size is.all in
          omega arith

      keys : (size : BoundExpr → ℕ) → CountsSides size → sum_by (λ (l : Loop). sum_by (λ k. size (key_expr k)) (keys_in l.path)) p.loops ≤ sum_by size (all_conjuncts from conjuncts)
      keys size counts =
          let few = loops-keys size counts params order assigned p.loops is.loops in
          let joins = joins-size size from order items in
          let theirs = sum_by-append size conjuncts (flat_map (λ (f : FromTable). join_conjuncts f.join) from) in
          let parts = sum_by-append size p.checks (all_of assigned) in
          let all = sum_by-shuffled size is.all in
          omega arith

-- ---- how few rows it visits of an item that stands alone

abbrev visited_alone : Surroundings → FromTable → Loop → ℕ
visited_alone x f l = length (visited (before x) l.path (rows_at x.world l.table))

few-one : (params : List Value) (f : FromTable) (conjuncts : List BoundExpr) (l : Loop) → IsLoopFor params 0 f conjuncts l → (join : Join) → f.join ≡ join → UnlessLeft join ((x : Surroundings) → x.params ≡ params → visited_alone x f l ≤ rows_counted x f.indexes conjuncts (rows_at x.world f.table))
few-one params f conjuncts l is (Left ons) join_is = tt
few-one params f conjuncts l is Inner join_is = λ x same.
    let those : length (visited (before x) is.access.path (rows_at x.world f.table)) ≤ rows_counted x f.indexes (served f.join conjuncts) (rows_at x.world f.table) = is.fits.few refl x same (rows_at x.world f.table) in
    let path_is = ap (λ path. length (visited (before x) path (rows_at x.world l.table))) is.path in
    let table_is = ap (λ table. length (visited (before x) is.access.path (rows_at x.world table))) is.table in
    let served_is = ap (λ j. rows_counted x f.indexes (served j conjuncts) (rows_at x.world f.table)) join_is in
    omega arith

few : (params : List Value) (from : List FromTable) (conjuncts checks : List BoundExpr) (order : List (ℕ × FromTable)) (assigned : List (List BoundExpr)) (loops : List Loop) → Reordered (numbered 0 from) order → AreLoopsFor params order assigned loops → TestsAll from conjuncts checks assigned → IsFewOf params from conjuncts loops
few params [] conjuncts checks order assigned loops reordered are alone = tt
few params (f ∷ g ∷ from) conjuncts checks order assigned loops reordered are alone = tt
few params (f ∷ []) conjuncts checks order assigned [] reordered are alone = tt
few params (f ∷ []) conjuncts checks order assigned (l ∷ m ∷ loops) reordered are alone = tt
few params (f ∷ []) conjuncts checks order assigned (l ∷ []) reordered are alone =
    let first : AreLoopsFor params ((0, f) ∷ []) assigned (l ∷ []) = subst (λ those. AreLoopsFor params those assigned (l ∷ [])) (alone-reordered (0, f) reordered refl) are in
    let only : AreLoopsFor params ((0, f) ∷ []) (conjuncts ∷ []) (l ∷ []) = subst (λ those. AreLoopsFor params ((0, f) ∷ []) those (l ∷ [])) alone.1 first in
    few-one params f conjuncts l only.0 f.join refl

-- ---- all of it

pub moves_in : (params : List Value) (from : List FromTable) (conjuncts : List BoundExpr) (order : List (ℕ × FromTable)) (assigned : List (List BoundExpr)) (p : JoinPlan) → IsAssigned params from conjuncts order assigned p → PlanFits params from conjuncts p
moves_in params from conjuncts order assigned p is = record {
  gives = gives params from conjuncts order assigned p is;
  over = over params from conjuncts order assigned p is;
  few = few params from conjuncts p.checks order assigned p.loops is.reordered is.loops is.alone;
  small = small params from conjuncts order assigned p is;
}
