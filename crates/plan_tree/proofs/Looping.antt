-- Loops by accesses give what loops over all rows give.
use Rattle.std.proofs.Common.{◌≡◌, ◌<◌, ℕ, List, [], ◌∷◌, ◌++◌, length, map, refl, sym, ap, ◌∙◌, arith}
use Rattle.std.specs.List.{AllByRecursion, flat_map}
use Rattle.std.proofs.lemmas.List.Folds.{flat_map-map}
use Rattle.bound_tree.specs.Exprs.{BoundExpr}
use Rattle.eng_value.specs.Environments.{Environment, table_row}
use Rattle.eng_value.specs.StoredRows.{StoredRow}
use Rattle.eng_value.specs.declared.value.Value.{Value}
use Rattle.plan_tree.proofs.Lists.{all-each, flat_map-agree, flat_map-each, flat_map-filter, flat_map-flat_map, flat_map-same}
use Rattle.plan_tree.proofs.Nesting.{Wide, moved, nested, next-wide, next_rows}
use Rattle.plan_tree.proofs.Passing.{passed-all, passed-append, row_if}
use Rattle.plan_tree.specs.Assigned.{AreLoopsFor, AreReady, IsLoopFor, all_of, checks_of, pairs_of, served}
use Rattle.plan_tree.specs.Plans.{looped, paired_with, pairs_by, split_join}
use Rattle.plan_tree.specs.Visits.{Fits, is_visited, tested, visited}
use Rattle.plan_tree.specs.declared.access.Access.{Access}
use Rattle.plan_tree.specs.declared.access.Loop.{Loop}
use Rattle.sql_meaning.specs.Products.{FromRow, in_row, joined, or_alone, passed, with_item}
use Rattle.sql_meaning.specs.World.{rows_at}
use Rattle.sql_meaning.specs.declared.bound.FromTable.{FromTable}
use Rattle.sql_meaning.specs.declared.bound.Join.{Join}
use Rattle.sql_meaning.specs.declared.bound.Join.TheVariants.{Inner, Left}

-- ---- the rows that an access visits

module _ (env : Environment) (row : FromRow) (place : ℕ) (a : Access) where
  abbrev pair_of : StoredRow → FromRow
  pair_of r = with_item place row (table_row r)

  -- those that are left out are rejected, and of the others nothing is left untested that may reject them
  by_access : (conjuncts : List BoundExpr) → Fits (in_row env row) place conjuncts a → (g : FromRow → List FromRow) (rows : List StoredRow) → flat_map (λ r. flat_map g (passed env (tested a.consumed conjuncts) (pair_of r))) (visited (in_row env row) a.path rows) ≡ flat_map (λ r. flat_map g (passed env conjuncts (pair_of r))) rows
  by_access conjuncts fits g rows =
      flat_map-filter (is_visited (in_row env row) a.path) (λ r. flat_map g (passed env (tested a.consumed conjuncts) (pair_of r))) (λ r. flat_map g (passed env conjuncts (pair_of r))) rows (λ r is. ap (λ o. flat_map g (row_if (pair_of r) o)) (fits.kept r is (pair_of r).causes)) (λ r is. ap (λ o. flat_map g (row_if (pair_of r) o)) (fits.left_out r is (pair_of r).causes))

  each_once : (conjuncts : List BoundExpr) (rows : List StoredRow) → flat_map (λ r. passed env conjuncts (pair_of r)) rows ≡ flat_map (λ r. flat_map (λ (pair : FromRow). pair ∷ []) (passed env conjuncts (pair_of r))) rows
  each_once conjuncts rows =
      flat_map-same (λ r. passed env conjuncts (pair_of r)) (λ r. flat_map (λ (pair : FromRow). pair ∷ []) (passed env conjuncts (pair_of r))) rows (λ r. sym (flat_map-each (passed env conjuncts (pair_of r))))

  abbrev left_of : Join → List BoundExpr → List BoundExpr
  left_of join here = tested a.consumed (served join here)

  -- what follows the loop, behind its checks
  pub looped-by : (join : Join) (here : List BoundExpr) → Fits (in_row env row) place (served join here) a → (g : FromRow → List FromRow) (rows : List StoredRow) → flat_map (λ pair. flat_map g (passed env (checks_of join (left_of join here) here) pair)) (paired_with env place (pairs_of join (left_of join here)) (visited (in_row env row) a.path rows) row) ≡ flat_map (λ pair. flat_map g (passed env here pair)) (joined env place (map table_row rows) (split_join join) row)
  looped-by Inner here fits g rows =
      flat_map-map (λ pair. flat_map g (passed env (tested a.consumed here) pair)) pair_of (visited (in_row env row) a.path rows)
      ∙ by_access here fits g rows
      ∙ sym (flat_map-map (λ r. flat_map g (passed env here (with_item place row r))) table_row rows)
      ∙ sym (flat_map-map (λ pair. flat_map g (passed env here pair)) (with_item place row) (map table_row rows))
  looped-by (Left ons) here fits g rows =
      ap (λ pairs. flat_map (λ pair. flat_map g (passed env here pair)) (or_alone row pairs)) (each_once (left_of (Left ons) here) (visited (in_row env row) a.path rows) ∙ by_access (served (Left ons) here) fits (λ (pair : FromRow). pair ∷ []) rows ∙ sym (each_once (served (Left ons) here) rows) ∙ sym (flat_map-map (λ r. passed env (served (Left ons) here) (with_item place row r)) table_row rows))

-- ---- a loop

one_loop : (params : List Value) (env : Environment) → env.params ≡ params → (place : ℕ) (f : FromTable) (here : List BoundExpr) (l : Loop) → IsLoopFor params place f here l → (row : FromRow) → place < length row.rows → (g : FromRow → List FromRow) → flat_map (λ pair. flat_map g (passed env l.checks pair)) (pairs_by env l row) ≡ flat_map (λ pair. flat_map g (passed env here pair)) (next_rows env (place, f) row)
one_loop params env same place f here l is row within g =
    ap (λ cs. flat_map (λ pair. flat_map g (passed env cs pair)) (pairs_by env l row)) is.checks
    ∙ ap (λ at. flat_map body (paired_with env at l.pairs (visited (in_row env row) l.path (rows_at env.world l.table)) row)) is.place
    ∙ ap (λ table. flat_map body (paired_with env place l.pairs (visited (in_row env row) l.path (rows_at env.world table)) row)) is.table
    ∙ ap (λ path. flat_map body (paired_with env place l.pairs (visited (in_row env row) path (rows_at env.world f.table)) row)) is.path
    ∙ ap (λ pairs. flat_map body (paired_with env place pairs (visited (in_row env row) is.access.path (rows_at env.world f.table)) row)) is.pairs
    ∙ looped-by env row place is.access f.join here (is.fits.fits (in_row env row) same within) g (rows_at env.world f.table)
  where
    body : FromRow → List FromRow
    body pair = flat_map g (passed env (checks_of f.join (tested is.access.consumed (served f.join here)) here) pair)

-- ---- all loops

-- the places of the items are among so many
abbrev pub Within : ℕ → List (ℕ × FromTable) → Type 0
Within width order = AllByRecursion (λ (item : ℕ × FromTable). item.0 < width) order

module _ (params : List Value) (env : Environment) (same : env.params ≡ params) where
  -- what is tested in the loops rejects the same behind all of them
  pub looped-nested : (width : ℕ) (order : List (ℕ × FromTable)) (assigned : List (List BoundExpr)) (loops : List Loop) → AreLoopsFor params order assigned loops → AreReady order assigned → Within width order → (row : FromRow) → Wide width row.rows → looped env loops row ≡ flat_map (passed env (all_of assigned)) (nested env order row)
  looped-nested width [] [] [] are ready within row wide = refl
  looped-nested width [] [] (l ∷ loops) are ready within row wide = absurd are
  looped-nested width [] (here ∷ assigned) loops are ready within row wide = absurd are
  looped-nested width (item ∷ order) [] loops are ready within row wide = absurd are
  looped-nested width (item ∷ order) (here ∷ assigned) [] are ready within row wide = absurd are
  looped-nested width (item ∷ order) (here ∷ assigned) (l ∷ loops) are ready within row wide =
      one_loop params env same item.0 item.1 here l are.0 row (omega arith) (looped env loops)
      ∙ flat_map-agree (λ pair. flat_map (looped env loops) (passed env here pair)) (λ pair. flat_map (passed env (here ++ rest)) (nested env order pair)) (next_rows env item row) (all-each (λ (pair : FromRow). Wide width pair.rows) (λ pair. flat_map (looped env loops) (passed env here pair) ≡ flat_map (passed env (here ++ rest)) (nested env order pair)) (next_rows env item row) (inner (looped-nested width order assigned loops are.1 ready.1 within.1)) (next-wide env width item row wide))
      ∙ sym (flat_map-flat_map (passed env (here ++ rest)) (nested env order) (next_rows env item row))
    where
      rest : List BoundExpr
      rest = all_of assigned

      inner : ((r : FromRow) → Wide width r.rows → looped env loops r ≡ flat_map (passed env rest) (nested env order r)) → (pair : FromRow) → Wide width pair.rows → flat_map (looped env loops) (passed env here pair) ≡ flat_map (passed env (here ++ rest)) (nested env order pair)
      inner behind pair wide_pair =
          flat_map-agree (looped env loops) (λ r. flat_map (passed env rest) (nested env order r)) (passed env here pair) (all-each (λ (r : FromRow). Wide width r.rows) (λ r. looped env loops r ≡ flat_map (passed env rest) (nested env order r)) (passed env here pair) behind (passed-all (Wide width) env here pair wide_pair))
          ∙ sym (flat_map-flat_map (passed env rest) (nested env order) (passed env here pair))
          ∙ ap (flat_map (passed env rest)) (moved env here order ready.0 pair)
          ∙ flat_map-flat_map (passed env rest) (passed env here) (nested env order pair)
          ∙ flat_map-same (λ r. flat_map (passed env rest) (passed env here r)) (passed env (here ++ rest)) (nested env order pair) (passed-append env here rest)
