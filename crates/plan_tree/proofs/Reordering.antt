-- Whatever the order of the items, loops over all of their rows give the same rows.
use Rattle.std.proofs.Common.{◌≡◌, ◌≢◌, ℕ, zero, suc, List, [], ◌∷◌, refl, sym, ap, ◌∙◌}
use Rattle.std.specs.Prelude.{slice_set}
use Rattle.std.specs.List.{flat_map}
use Rattle.std.proofs.lemmas.List.Folds.{flat_map-map}
use Rattle.eng_value.proofs.Shuffling.{flat_map-each, flat_map-exchange, shuffled_is, shuffled_same}
use Rattle.eng_value.specs.Arrangements.{Shuffled, keep, swap, onward}
use Rattle.eng_value.specs.Environments.{Environment, ItemRow}
use Rattle.plan_tree.proofs.Lists.{flat_map-same}
use Rattle.plan_tree.proofs.Nesting.{nested, next_rows}
use Rattle.plan_tree.proofs.Sifting.{merged-swap}
use Rattle.plan_tree.specs.Assigned.{Reordered, as_it_is, behind, exchange, further}
use Rattle.plan_tree.specs.Plans.{joined_table, split_join}
use Rattle.sql_meaning.specs.Products.{FromRow, joined, with_item}
use Rattle.sql_meaning.specs.declared.bound.FromTable.{FromTable}
use Rattle.sql_meaning.specs.declared.bound.Join.{Join}
use Rattle.sql_meaning.specs.declared.bound.Join.TheVariants.{Inner}

-- ---- the items themselves

pub reordered-shuffled : {order other : List (ℕ × FromTable)} → Reordered order other → Shuffled order other
reordered-shuffled (as_it_is order) = shuffled_same order
reordered-shuffled (behind first x) = keep first (reordered-shuffled x)
reordered-shuffled (exchange a b order apart inner_a inner_b) = swap a b order
reordered-shuffled (further x y) = onward (reordered-shuffled x) (reordered-shuffled y)

none-reordered : {order other : List (ℕ × FromTable)} → Reordered order other → order ≡ [] → other ≡ []
none-reordered (as_it_is order) is = is
none-reordered (behind first x) is = absurd (cc)
none-reordered (exchange a b order apart inner_a inner_b) is = absurd (cc)
none-reordered (further x y) is = none-reordered y (none-reordered x is)

-- an item that stands alone has one order
pub alone-reordered : (item : ℕ × FromTable) {order other : List (ℕ × FromTable)} → Reordered order other → order ≡ item ∷ [] → other ≡ item ∷ []
alone-reordered item (as_it_is order) is = is
alone-reordered item (behind first {order} {other} x) is =
    let same : first ≡ item = cc in
    let none : order ≡ [] = cc in
    ap (λ f. f ∷ other) same ∙ ap (λ rest. item ∷ rest) (none-reordered x none)
alone-reordered item (exchange a b order apart inner_a inner_b) is = absurd (cc)
alone-reordered item (further x y) is = alone-reordered item y (alone-reordered item x is)

-- ---- rows in two places

set-apart : {X : Type 0} (xs : List X) (i k : ℕ) (a b : X) → i ≢ k → slice_set (slice_set xs i a) k b ≡ slice_set (slice_set xs k b) i a
set-apart [] i k a b apart = refl
set-apart (x ∷ xs) zero zero a b apart = absurd (apart refl)
set-apart (x ∷ xs) zero (suc k) a b apart = refl
set-apart (x ∷ xs) (suc i) zero a b apart = refl
set-apart (x ∷ xs) (suc i) (suc k) a b apart = ap (λ rest. x ∷ rest) (set-apart xs i k a b (λ is. apart (ap suc is)))

-- which of them comes first does not matter
items-apart : (row : FromRow) (i k : ℕ) (a b : ItemRow) → i ≢ k → with_item k (with_item i row a) b ≡ with_item i (with_item k row b) a
items-apart row i k a b apart =
    ap (λ rows. record { rows = rows; causes = (with_item k (with_item i row a) b).causes }) (set-apart row.rows i k a b apart)
    ∙ ap (λ causes. record { rows = (with_item i (with_item k row b) a).rows; causes = causes }) (merged-swap b.causes a.causes row.causes)

-- ---- loops

module _ (env : Environment) where
  abbrev rows_of : ℕ × FromTable → List ItemRow
  rows_of item = (joined_table env item.1).rows

  -- over an item that is no LEFT JOIN
  inner-nested : (item : ℕ × FromTable) (order : List (ℕ × FromTable)) (row : FromRow) → item.1.join ≡ Inner → nested env (item ∷ order) row ≡ flat_map (λ r. nested env order (with_item item.0 row r)) (rows_of item)
  inner-nested item order row inner =
      ap (λ (j : Join). flat_map (nested env order) (joined env item.0 (rows_of item) (split_join j) row)) inner
      ∙ flat_map-map (nested env order) (with_item item.0 row) (rows_of item)

  two-nested : (a b : ℕ × FromTable) (order : List (ℕ × FromTable)) (row : FromRow) → a.1.join ≡ Inner → b.1.join ≡ Inner → nested env (a ∷ b ∷ order) row ≡ flat_map (λ q. flat_map (λ r. nested env order (with_item b.0 (with_item a.0 row q) r)) (rows_of b)) (rows_of a)
  two-nested a b order row inner_a inner_b =
      inner-nested a (b ∷ order) row inner_a
      ∙ flat_map-same (λ q. nested env (b ∷ order) (with_item a.0 row q)) (λ q. flat_map (λ r. nested env order (with_item b.0 (with_item a.0 row q) r)) (rows_of b)) (rows_of a) (λ q. inner-nested b order (with_item a.0 row q) inner_b)

  exchanged : (a b : ℕ × FromTable) (order : List (ℕ × FromTable)) → a.0 ≢ b.0 → a.1.join ≡ Inner → b.1.join ≡ Inner → (row : FromRow) → Shuffled (nested env (b ∷ a ∷ order) row) (nested env (a ∷ b ∷ order) row)
  exchanged a b order apart inner_a inner_b row =
      let body : ItemRow → ItemRow → List FromRow = λ q r. nested env order (with_item b.0 (with_item a.0 row q) r) in
      let turned : nested env (b ∷ a ∷ order) row ≡ flat_map (λ r. flat_map (λ q. body q r) (rows_of a)) (rows_of b) = two-nested b a order row inner_b inner_a ∙ flat_map-same (λ r. flat_map (λ q. nested env order (with_item a.0 (with_item b.0 row r) q)) (rows_of a)) (λ r. flat_map (λ q. body q r) (rows_of a)) (rows_of b) (λ r. flat_map-same (λ q. nested env order (with_item a.0 (with_item b.0 row r) q)) (λ q. body q r) (rows_of a) (λ q. ap (nested env order) (sym (items-apart row a.0 b.0 q r apart)))) in
      onward (shuffled_is (nested env (b ∷ a ∷ order) row) (flat_map (λ r. flat_map (λ q. body q r) (rows_of a)) (rows_of b)) turned) (onward (flat_map-exchange body (rows_of a) (rows_of b)) (shuffled_is (flat_map (λ q. flat_map (λ r. body q r) (rows_of b)) (rows_of a)) (nested env (a ∷ b ∷ order) row) (sym (two-nested a b order row inner_a inner_b))))

  pub nested-reordered : {order other : List (ℕ × FromTable)} → Reordered order other → (row : FromRow) → Shuffled (nested env other row) (nested env order row)
  nested-reordered (as_it_is order) row = shuffled_same (nested env order row)
  nested-reordered (behind first {order} {other} x) row =
      flat_map-each (nested env other) (nested env order) (next_rows env first row) (nested-reordered x)
  nested-reordered (exchange a b order apart inner_a inner_b) row = exchanged a b order apart inner_a inner_b row
  nested-reordered (further x y) row = onward (nested-reordered y row) (nested-reordered x row)
