-- The loops of a plan give no more rows than their instructions count: what is done with each may cost so much more.
use Rattle.std.proofs.Common.{◌≡◌, ℕ, ◌+◌, ◌*◌, ◌≤◌, List, [], ◌∷◌, length, length-append, flat_map, map, Option, Some, None, ap, ◌∙◌, arith}
use Rattle.std.specs.Prelude.{sum_by}
use Rattle.std.specs.Option.{option_map, option_to_list}
use Rattle.std.proofs.lemmas.List.Concat.{flat_map-cons}
use Rattle.std.proofs.lemmas.List.Folds.{flat_map-map}
use Rattle.std.proofs.lemmas.List.Sums.{sum_by-cons}
use Rattle.bound_tree.specs.Exprs.{BoundExpr}
use Rattle.eng_value.specs.Environments.{Environment, no_causes, table_row}
use Rattle.eng_value.specs.StoredRows.{StoredRow}
use Rattle.eng_value.specs.declared.out.Out.{Out}
use Rattle.gen_loop.specs.Loops.{alone_steps, conjuncts_steps, nested_steps, path_steps, turn_steps}
use Rattle.plan_tree.proofs.Lists.{flat_map-flat_map}
use Rattle.plan_tree.specs.Plans.{gathered, looped, paired_with, visited_by}
use Rattle.plan_tree.specs.declared.access.JoinPlan.{JoinPlan}
use Rattle.plan_tree.specs.declared.access.Loop.{Loop}
use Rattle.plan_tree.specs.declared.access.Pairs.{Pairs}
use Rattle.plan_tree.specs.declared.access.Pairs.TheVariants.{Each, OrAlone}
use Rattle.sql_meaning.specs.Products.{FromRow, in_row, or_alone, passed, sifted, with_item}

-- so much more for each element of the lists that are put together
sums-few : {A B : Type 0} (f : A → List B) (g h : A → ℕ) (b : ℕ) (xs : List A) → ((x : A) → g x + length (f x) * b ≤ h x) → sum_by g xs + length (flat_map f xs) * b ≤ sum_by h xs
sums-few f g h b [] few = omega arith
sums-few f g h b (x ∷ xs) few =
    let long : length (flat_map f (x ∷ xs)) ≡ length (f x) + length (flat_map f xs) = ap length (flat_map-cons f x xs) ∙ length-append (f x) (flat_map f xs) in
    let times : (length (f x) + length (flat_map f xs)) * b ≡ length (f x) * b + length (flat_map f xs) * b = omega arith in
    omega (arith, sum_by-cons g x xs, sum_by-cons h x xs, few x, sums-few f g h b xs few, ap (λ n. n * b) long, times)

-- alone or not, a row counts beside its pairs
or_alone-few : {B : Type 0} (f : FromRow → List B) (b : ℕ) (row : FromRow) (pairs : List FromRow) → length (flat_map f (or_alone row pairs)) * b ≤ length (f row) * b + length (flat_map f pairs) * b
or_alone-few f b row [] =
    let long : length (flat_map f (row ∷ [])) ≡ length (f row) + 0 = ap length (flat_map-cons f row []) ∙ length-append (f row) [] in
    let times : (length (f row) + 0) * b ≡ length (f row) * b = omega arith in
    omega (arith, ap (λ n. n * b) long, times)
or_alone-few f b row (pair ∷ pairs) = omega arith

module _ (env : Environment) (a b : ℕ) where
  abbrev Few : List Loop → FromRow → Type 0
  Few loops row = nested_steps loops a (in_row env row) + length (looped env loops row) * b ≤ nested_steps loops (a + b) (in_row env row)

  -- of the rows that pass, each is seen as it was
  passed-few : {B : Type 0} (f : FromRow → List B) (conjuncts : List BoundExpr) (row : FromRow) (less more : ℕ) → less ≤ more → ((causes : Out) → less + length (f (record row { causes = causes })) * b ≤ more) → less + length (flat_map f (passed env conjuncts row)) * b ≤ more
  passed-few f conjuncts row less more le few = by (sifted conjuncts (in_row env row) row.causes)
    where
      by : (o : Option Out) → less + length (flat_map f (option_to_list (option_map (λ causes. record row { causes = causes }) o))) * b ≤ more
      by None = omega (arith, le)
      by (Some v) =
          let kept : FromRow = record row { causes = v } in
          let long : length (flat_map f (kept ∷ [])) ≡ length (f kept) + 0 = ap length (flat_map-cons f kept []) ∙ length-append (f kept) [] in
          let times : (length (f kept) + 0) * b ≡ length (f kept) * b = omega arith in
          omega (arith, few v, ap (λ n. n * b) long, times)

  fewer : (loops : List Loop) (row : FromRow) → Few loops row → nested_steps loops a (in_row env row) ≤ nested_steps loops (a + b) (in_row env row)
  fewer loops row few = omega (arith, few)

  module _ (l : Loop) (loops : List Loop) (few : (row : FromRow) → Few loops row) (row : FromRow) where
    abbrev checks : ℕ
    checks = conjuncts_steps l.checks

    abbrev inner : ℕ → FromRow → ℕ
    inner most r = nested_steps loops most (in_row env r)

    -- the rows behind a pair
    abbrev behind : FromRow → List FromRow
    behind pair = flat_map (looped env loops) (passed env l.checks pair)

    abbrev pair_of : StoredRow → FromRow
    pair_of r = with_item l.place row (table_row r)

    behind-few : (pair : FromRow) → inner a pair + length (behind pair) * b ≤ inner (a + b) pair
    behind-few pair =
        passed-few (looped env loops) l.checks pair (inner a pair) (inner (a + b) pair) (fewer loops pair (few pair)) (λ causes. few (record pair { causes = causes }))

    -- a loop that visits these rows
    loop_of : Pairs → ℕ → List StoredRow → ℕ
    loop_of p most rows = path_steps l.path + 1 + alone_steps p (checks + inner most row) + sum_by (λ r. turn_steps p + (checks + inner most (pair_of r))) rows

    paired-few : (p : Pairs) (rows : List StoredRow) → loop_of p a rows + length (flat_map behind (paired_with env l.place p rows row)) * b ≤ loop_of p (a + b) rows
    unfolding loop_of
    paired-few Each rows =
        let all = sums-few (λ r. behind (pair_of r)) (λ r. turn_steps Each + (checks + inner a (pair_of r))) (λ r. turn_steps Each + (checks + inner (a + b) (pair_of r))) b rows (λ r. omega (arith, behind-few (pair_of r))) in
        let same : length (flat_map behind (map pair_of rows)) * b ≡ length (flat_map (λ r. behind (pair_of r)) rows) * b = ap (λ (l : List FromRow). length l * b) (flat_map-map behind pair_of rows) in
        omega (arith, all, same)
    paired-few (OrAlone ons) rows =
        let these : StoredRow → List FromRow = λ r. passed env ons (pair_of r) in
        let t : ℕ = turn_steps (OrAlone ons) in
        let each : (r : StoredRow) → t + (checks + inner a (pair_of r)) + length (flat_map behind (these r)) * b ≤ t + (checks + inner (a + b) (pair_of r)) = λ r.
        let here = passed-few behind ons (pair_of r) (inner a (pair_of r)) (inner (a + b) (pair_of r)) (fewer loops (pair_of r) (few (pair_of r))) (λ causes. behind-few (record (pair_of r) { causes = causes })) in
        omega (arith, here) in
        let all = sums-few (λ r. flat_map behind (these r)) (λ r. t + (checks + inner a (pair_of r))) (λ r. t + (checks + inner (a + b) (pair_of r))) b rows each in
        let same : length (flat_map behind (flat_map these rows)) * b ≡ length (flat_map (λ r. flat_map behind (these r)) rows) * b = ap (λ (l : List FromRow). length l * b) (flat_map-flat_map behind these rows) in
        omega (arith, all, same, or_alone-few behind b row (flat_map these rows), behind-few row)

  pub looped-few : (loops : List Loop) (row : FromRow) → Few loops row
  unfolding loop_of
  looped-few [] row = omega arith
  looped-few (l ∷ loops) row =
      paired-few l loops (looped-few loops) row l.pairs (visited_by env l row)

  -- all loops of a plan
  pub gathered-few : (p : JoinPlan) (row : FromRow) → nested_steps p.loops a (in_row env row) + length (gathered env p row) * b ≤ nested_steps p.loops (a + b) (in_row env row)
  gathered-few p row =
      passed-few (looped env p.loops) p.checks row (nested_steps p.loops a (in_row env row)) (nested_steps p.loops (a + b) (in_row env row)) (fewer p.loops row (looped-few p.loops row)) (λ causes. looped-few p.loops (record row { causes = causes }))

-- what is done with each row may cost more
pub nested-more : (loops : List Loop) (a b : ℕ) (env : Environment) → nested_steps loops a env ≤ nested_steps loops (a + b) env
nested-more loops a b env =
    let row : FromRow = record { rows = env.rows; causes = no_causes } in omega (arith, looped-few env a b loops row)
