-- What rows of tables keep is so of all rows that loops give.
use Rattle.std.proofs.Common.{zero, suc, Contains, List, [], ◌∷◌, map, Option, Some, None, refl, sym, subst, arith}
use Rattle.std.specs.List.{AllByRecursion, flat_map}
use Rattle.std.specs.Option.{option_map, option_to_list}
use Rattle.std.proofs.lemmas.List.Concat.{flat_map-cons}
use Rattle.bound_tree.specs.Exprs.{BoundExpr}
use Rattle.eng_index.proofs.Lists.{all-append, all-filter}
use Rattle.eng_value.proofs.Arranging.{all_more}
use Rattle.eng_value.specs.Environments.{Environment, table_row}
use Rattle.eng_value.specs.StoredRows.{StoredRow}
use Rattle.eng_value.specs.declared.out.Out.{Out}
use Rattle.plan_tree.specs.Plans.{gathered, looped, paired_with, pairs_by, visited_by}
use Rattle.plan_tree.specs.Visits.{is_visited}
use Rattle.plan_tree.specs.declared.access.JoinPlan.{JoinPlan}
use Rattle.plan_tree.specs.declared.access.Loop.{Loop}
use Rattle.plan_tree.specs.declared.access.Pairs.{Pairs}
use Rattle.plan_tree.specs.declared.access.Pairs.TheVariants.{Each, OrAlone}
use Rattle.sql_meaning.specs.Products.{FromRow, in_row, or_alone, passed, sifted, with_item}
use Rattle.sql_meaning.specs.World.{rows_at}

-- ---- lists

all-flat : {X Y : Type 0} (P : X → Type 0) (Q : Y → Type 0) (f : X → List Y) → ((x : X) → P x → AllByRecursion Q (f x)) → (xs : List X) → AllByRecursion P xs → AllByRecursion Q (flat_map f xs)
all-flat P Q f each [] all = tt
all-flat P Q f each (x ∷ xs) all =
    subst (AllByRecursion Q) (sym (flat_map-cons f x xs)) (all-append Q (f x) (flat_map f xs) (each x all.0) (all-flat P Q f each xs all.1))

contains-all : {X : Type 0} (xs : List X) → AllByRecursion (Contains xs) xs
contains-all [] = tt
contains-all (x ∷ xs) =
    ((zero, omega arith, refl), all_more (Contains xs) (Contains (x ∷ xs)) (λ y h. (suc h.0, omega (arith, h.1), h.2)) xs (contains-all xs))

-- ---- rows

module _ (env : Environment) (P : FromRow → Type 0) (with_causes : (row : FromRow) (causes : Out) → P row → P (record row { causes = causes })) where
  -- a row of its table in its place
  abbrev pub Keeps : Loop → Type 0
  Keeps l = (row : FromRow) (r : StoredRow) → Contains (rows_at env.world l.table) r → P row → P (with_item l.place row (table_row r))

  pub all-passed : (conjuncts : List BoundExpr) (row : FromRow) → P row → AllByRecursion P (passed env conjuncts row)
  all-passed conjuncts row holds = by (sifted conjuncts (in_row env row) row.causes)
    where
      by : (o : Option Out) → AllByRecursion P (option_to_list (option_map (λ causes. record row { causes = causes }) o))
      by None = tt
      by (Some causes) = (with_causes row causes holds, tt)

  all-alone : (row : FromRow) (pairs : List FromRow) → P row → AllByRecursion P pairs → AllByRecursion P (or_alone row pairs)
  all-alone row [] holds all = (holds, tt)
  all-alone row (pair ∷ pairs) holds all = all

  pub all-pairs : (l : Loop) (row : FromRow) → Keeps l → P row → AllByRecursion P (pairs_by env l row)
  all-pairs l row keeps holds = by l.pairs
    where
      IsThere : StoredRow → Type 0
      IsThere r = Contains (rows_at env.world l.table) r

      visits : List StoredRow
      visits = visited_by env l row

      there : AllByRecursion IsThere visits
      there =
          all-filter IsThere (is_visited (in_row env row) l.path) (rows_at env.world l.table) (contains-all (rows_at env.world l.table))

      each-pair : (rs : List StoredRow) → AllByRecursion IsThere rs → AllByRecursion P (map (λ r. with_item l.place row (table_row r)) rs)
      each-pair [] all = tt
      each-pair (r ∷ rs) all = (keeps row r all.0 holds, each-pair rs all.1)

      by : (p : Pairs) → AllByRecursion P (paired_with env l.place p visits row)
      by Each = each-pair visits there
      by (OrAlone ons) =
          let pairs : StoredRow → List FromRow = λ r. passed env ons (with_item l.place row (table_row r)) in
          all-alone row (flat_map pairs visits) holds (all-flat IsThere P pairs (λ r is. all-passed ons (with_item l.place row (table_row r)) (keeps row r is holds)) visits there)

  pub all-looped : (loops : List Loop) → AllByRecursion Keeps loops → (row : FromRow) → P row → AllByRecursion P (looped env loops row)
  all-looped [] keeps row holds = (holds, tt)
  all-looped (l ∷ loops) keeps row holds =
      all-flat P P (λ pair. flat_map (looped env loops) (passed env l.checks pair)) (λ pair there. all-flat P P (looped env loops) (all-looped loops keeps.1) (passed env l.checks pair) (all-passed l.checks pair there)) (pairs_by env l row) (all-pairs l row keeps.0 holds)

  pub all-gathered : (p : JoinPlan) → AllByRecursion Keeps p.loops → (row : FromRow) → P row → AllByRecursion P (gathered env p row)
  all-gathered p keeps row holds =
      all-flat P P (looped env p.loops) (all-looped p.loops keeps) (passed env p.checks row) (all-passed p.checks row holds)
