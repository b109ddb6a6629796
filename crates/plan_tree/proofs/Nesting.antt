-- The rows that loops over all rows of items give, in any order of the items.
use Rattle.std.proofs.Common.{◌≡◌, ◌≤◌, ℕ, suc, List, [], ◌∷◌, length, map, refl, sym, ap, ◌∙◌, arith, append-nil}
use Rattle.std.specs.List.{AllByRecursion, flat_map}
use Rattle.std.proofs.lemmas.List.{length-set}
use Rattle.bound_tree.specs.Exprs.{BoundExpr}
use Rattle.eng_value.specs.Environments.{Environment, ItemRow}
use Rattle.plan_tree.proofs.Lists.{all-each, flat_map-each, flat_map-flat_map, flat_map-same}
use Rattle.plan_tree.proofs.Passing.{joined-all, moved-one}
use Rattle.plan_tree.specs.Assigned.{IgnoresAll, numbered}
use Rattle.plan_tree.specs.Plans.{joined_table}
use Rattle.plan_tree.specs.Visits.{Ignores}
use Rattle.sql_meaning.specs.Products.{FromRow, joined, passed, product_from}
use Rattle.sql_meaning.specs.declared.bound.FromTable.{FromTable}

-- a row with each of those of an item
abbrev pub next_rows : Environment → ℕ × FromTable → FromRow → List FromRow
next_rows env item row = joined env item.0 (joined_table env item.1).rows (joined_table env item.1).join row

-- with each of those of all items, the first one outermost
abbrev pub nested : Environment → List (ℕ × FromTable) → FromRow → List FromRow
nested env [] row = row ∷ []
nested env (item ∷ order) row = flat_map (nested env order) (next_rows env item row)

-- in the order of the FROM they are its rows
pub nested-product : (env : Environment) (place : ℕ) (from : List FromTable) (row : FromRow) → nested env (numbered place from) row ≡ product_from env place (map (joined_table env) from) row
nested-product env place [] row = refl
nested-product env place (f ∷ from) row =
    flat_map-same (nested env (numbered (suc place) from)) (product_from env (suc place) (map (joined_table env) from)) (next_rows env (place, f) row) (nested-product env (suc place) from)

-- ---- how wide they are

abbrev pub Wide : ℕ → List ItemRow → Type 0
Wide width rows = width ≤ length rows

pub next-wide : (env : Environment) (width : ℕ) (item : ℕ × FromTable) (row : FromRow) → Wide width row.rows → AllByRecursion (λ (r : FromRow). Wide width r.rows) (next_rows env item row)
next-wide env width item row wide =
    joined-all (Wide width) env item.0 (joined_table env item.1).rows (joined_table env item.1).join row wide (λ r. omega (arith, length-set row.rows item.0 r))

-- ---- what ignores the items is tested in front of them

module _ (env : Environment) (cs : List BoundExpr) where
  pub moved : (order : List (ℕ × FromTable)) → AllByRecursion (IgnoresAll order) cs → (row : FromRow) → flat_map (nested env order) (passed env cs row) ≡ flat_map (passed env cs) (nested env order row)
  moved [] ignores row = flat_map-each (passed env cs row) ∙ sym (append-nil (passed env cs row))
  moved (item ∷ order) ignores row =
      let here : AllByRecursion (Ignores item.0) cs = all-each (IgnoresAll (item ∷ order)) (Ignores item.0) cs (λ c own. own.0) ignores in
      let behind : AllByRecursion (IgnoresAll order) cs = all-each (IgnoresAll (item ∷ order)) (IgnoresAll order) cs (λ c own. own.1) ignores in
      sym (flat_map-flat_map (nested env order) (next_rows env item) (passed env cs row))
      ∙ ap (flat_map (nested env order)) (moved-one env cs item.0 (joined_table env item.1).rows (joined_table env item.1).join row here)
      ∙ flat_map-flat_map (nested env order) (passed env cs) (next_rows env item row)
      ∙ flat_map-same (λ pair. flat_map (nested env order) (passed env cs pair)) (λ pair. flat_map (passed env cs) (nested env order pair)) (next_rows env item row) (moved order behind)
      ∙ sym (flat_map-flat_map (passed env cs) (nested env order) (next_rows env item row))
