-- Rows of a FROM that pass conjuncts: those that read nothing of the items behind may be tested in front of them.
use Rattle.std.proofs.Common.{◌≡◌, ℕ, List, [], ◌∷◌, ◌++◌, map, Some, None, refl, sym, ap, ◌∙◌, append-nil}
use Rattle.std.specs.Prelude.{slice_set}
use Rattle.std.specs.List.{AllByRecursion, flat_map}
use Rattle.std.specs.Option.{option_map, option_to_list}
use Rattle.std.specs.declared.option.Option.{Option}
use Rattle.std.proofs.lemmas.List.{map-append}
use Rattle.bound_tree.specs.Exprs.{BoundExpr}
use Rattle.eng_value.specs.Applied.{merged}
use Rattle.eng_value.specs.Environments.{Environment, ItemRow}
use Rattle.eng_value.specs.declared.out.Out.{Out}
use Rattle.plan_tree.proofs.Lists.{all-each, all-flat_map, all-map, flat_map-none, flat_map-one}
use Rattle.plan_tree.proofs.Sifting.{Alike, Sifts, rejects, adds, merged-swap, sifted-alike, sifted-append, sifts}
use Rattle.plan_tree.specs.Visits.{Ignores, with_row_at}
use Rattle.sql_meaning.specs.Products.{FromRow, if_some, in_row, joined, or_alone, passed, sifted, with_item}
use Rattle.sql_meaning.specs.declared.bound.Join.{Join}
use Rattle.sql_meaning.specs.declared.bound.Join.TheVariants.{Inner, Left}

-- ---- rows that pass

-- the row with these causes, unless it is rejected
abbrev pub row_if : FromRow → Option Out → List FromRow
row_if row causes = option_to_list (option_map (λ (c : Out). record row { causes = c }) causes)

-- the row with more causes
abbrev pub with_more : Out → FromRow → FromRow
with_more more row = record row { causes = merged more row.causes }

passed-rejects : (env : Environment) (cs : List BoundExpr) (row : FromRow) → ((causes : Out) → sifted cs (in_row env row) causes ≡ None) → passed env cs row ≡ []
passed-rejects env cs row none = ap (row_if row) (none row.causes)

passed-adds : (env : Environment) (cs : List BoundExpr) (row : FromRow) (more : Out) → ((causes : Out) → sifted cs (in_row env row) causes ≡ Some (merged more causes)) → passed env cs row ≡ with_more more row ∷ []
passed-adds env cs row more some = ap (row_if row) (some row.causes)

passed-if : (env : Environment) (cs : List BoundExpr) (row : FromRow) (causes : Option Out) → flat_map (passed env cs) (row_if row causes) ≡ row_if row (if_some causes (sifted cs (in_row env row)))
passed-if env cs row None = refl
passed-if env cs row (Some c) = append-nil (row_if row (sifted cs (in_row env row) c))

-- some conjuncts and then others
pub passed-append : (env : Environment) (xs ys : List BoundExpr) (row : FromRow) → flat_map (passed env ys) (passed env xs row) ≡ passed env (xs ++ ys) row
passed-append env xs ys row =
    passed-if env ys row (sifted xs (in_row env row) row.causes)
    ∙ ap (row_if row) (sym (sifted-append xs ys (in_row env row) row.causes))

-- what holds of the rows of items, which stay as they were
pub passed-all : (P : List ItemRow → Type 0) (env : Environment) (cs : List BoundExpr) (row : FromRow) → P row.rows → AllByRecursion (λ (r : FromRow). P r.rows) (passed env cs row)
passed-all P env cs row holds = by (sifted cs (in_row env row) row.causes)
  where
    by : (causes : Option Out) → AllByRecursion (λ (r : FromRow). P r.rows) (row_if row causes)
    by None = tt
    by (Some c) = (holds, tt)

-- ---- pairs

alone-all : (P : FromRow → Type 0) (row : FromRow) (pairs : List FromRow) → P row → AllByRecursion P pairs → AllByRecursion P (or_alone row pairs)
alone-all P row [] holds all = (holds, tt)
alone-all P row (pair ∷ pairs) holds all = all

-- what holds of the rows of items, and with any other row of the item
pub joined-all : (P : List ItemRow → Type 0) (env : Environment) (place : ℕ) (rows : List ItemRow) (join : Join) (row : FromRow) → P row.rows → ((r : ItemRow) → P (slice_set row.rows place r)) → AllByRecursion (λ (pair : FromRow). P pair.rows) (joined env place rows join row)
joined-all P env place rows Inner row holds others = all-map (λ (pair : FromRow). P pair.rows) (with_item place row) rows others
joined-all P env place rows (Left ons) row holds others =
    alone-all (λ (pair : FromRow). P pair.rows) row (flat_map (λ r. passed env ons (with_item place row r)) rows) holds (all-flat_map (λ (pair : FromRow). P pair.rows) (λ r. passed env ons (with_item place row r)) rows (λ r. passed-all P env ons (with_item place row r) (others r)))

-- ---- pairs of a row with more causes

item-more : (place : ℕ) (more : Out) (row : FromRow) (r : ItemRow) → with_item place (with_more more row) r ≡ with_more more (with_item place row r)
item-more place more row r =
    ap (λ (c : Out). record { rows = slice_set row.rows place r; causes = c }) (merged-swap r.causes more row.causes)

passed-more : (env : Environment) (cs : List BoundExpr) (more : Out) (row : FromRow) → passed env cs (with_more more row) ≡ map (with_more more) (passed env cs row)
passed-more env cs more row = by (sifts cs (in_row env row))
  where
    by : Sifts cs (in_row env row) → passed env cs (with_more more row) ≡ map (with_more more) (passed env cs row)
    by (rejects none) = passed-rejects env cs (with_more more row) none ∙ sym (ap (map (with_more more)) (passed-rejects env cs row none))
    by (adds own some) =
        passed-adds env cs (with_more more row) own some
        ∙ ap (λ (c : Out). record row { causes = c } ∷ []) (merged-swap own more row.causes)
        ∙ sym (ap (map (with_more more)) (passed-adds env cs row own some))

items-more : (place : ℕ) (more : Out) (row : FromRow) (rows : List ItemRow) → map (with_item place (with_more more row)) rows ≡ map (with_more more) (map (with_item place row) rows)
items-more place more row [] = refl
items-more place more row (r ∷ rows) =
    ap (λ pair. pair ∷ map (with_item place (with_more more row)) rows) (item-more place more row r)
    ∙ ap (λ pairs. with_more more (with_item place row r) ∷ pairs) (items-more place more row rows)

pairs-more : (env : Environment) (ons : List BoundExpr) (place : ℕ) (more : Out) (row : FromRow) (rows : List ItemRow) → flat_map (λ r. passed env ons (with_item place (with_more more row) r)) rows ≡ map (with_more more) (flat_map (λ r. passed env ons (with_item place row r)) rows)
pairs-more env ons place more row [] = refl
pairs-more env ons place more row (r ∷ rows) =
    ap (λ pairs. pairs ++ flat_map (λ r. passed env ons (with_item place (with_more more row) r)) rows) (ap (passed env ons) (item-more place more row r) ∙ passed-more env ons more (with_item place row r))
    ∙ ap (λ pairs. map (with_more more) (passed env ons (with_item place row r)) ++ pairs) (pairs-more env ons place more row rows)
    ∙ sym (map-append (with_more more) (passed env ons (with_item place row r)) (flat_map (λ r. passed env ons (with_item place row r)) rows))

alone-more : (more : Out) (row : FromRow) (pairs : List FromRow) → or_alone (with_more more row) (map (with_more more) pairs) ≡ map (with_more more) (or_alone row pairs)
alone-more more row [] = refl
alone-more more row (pair ∷ pairs) = refl

joined-more : (env : Environment) (place : ℕ) (rows : List ItemRow) (join : Join) (more : Out) (row : FromRow) → joined env place rows join (with_more more row) ≡ map (with_more more) (joined env place rows join row)
joined-more env place rows Inner more row = items-more place more row rows
joined-more env place rows (Left ons) more row =
    ap (or_alone (with_more more row)) (pairs-more env ons place more row rows)
    ∙ alone-more more row (flat_map (λ r. passed env ons (with_item place row r)) rows)

-- ---- what ignores an item is tested in front of it

module _ (env : Environment) (cs : List BoundExpr) where
  -- they come to the same at a pair as at the row
  abbrev SiftsAs : FromRow → List ItemRow → Type 0
  SiftsAs row rows = (causes : Out) → sifted cs (record env { rows = rows }) causes ≡ sifted cs (in_row env row) causes

  pairs-same : (place : ℕ) (rows : List ItemRow) (join : Join) (row : FromRow) → AllByRecursion (Ignores place) cs → AllByRecursion (λ (pair : FromRow). SiftsAs row pair.rows) (joined env place rows join row)
  pairs-same place rows join row ignores =
      joined-all (SiftsAs row) env place rows join row (λ causes. refl) (λ r. sifted-alike cs (in_row env row) (with_row_at (in_row env row) place r) (all-each (Ignores place) (Alike (in_row env row) (with_row_at (in_row env row) place r)) cs (λ c own. own (in_row env row) r) ignores))

  pub moved-one : (place : ℕ) (rows : List ItemRow) (join : Join) (row : FromRow) → AllByRecursion (Ignores place) cs → flat_map (joined env place rows join) (passed env cs row) ≡ flat_map (passed env cs) (joined env place rows join row)
  moved-one place rows join row ignores = by (sifts cs (in_row env row)) (pairs-same place rows join row ignores)
    where
      by : Sifts cs (in_row env row) → AllByRecursion (λ (pair : FromRow). SiftsAs row pair.rows) (joined env place rows join row) → flat_map (joined env place rows join) (passed env cs row) ≡ flat_map (passed env cs) (joined env place rows join row)
      by (rejects none) same =
          ap (flat_map (joined env place rows join)) (passed-rejects env cs row none)
          ∙ sym (flat_map-none (passed env cs) (joined env place rows join row) (all-each (λ (pair : FromRow). SiftsAs row pair.rows) (λ pair. passed env cs pair ≡ []) (joined env place rows join row) (λ pair alike. passed-rejects env cs pair (λ causes. alike causes ∙ none causes)) same))
      by (adds more some) same =
          ap (flat_map (joined env place rows join)) (passed-adds env cs row more some)
          ∙ append-nil (joined env place rows join (with_more more row))
          ∙ joined-more env place rows join more row
          ∙ sym (flat_map-one (passed env cs) (with_more more) (joined env place rows join row) (all-each (λ (pair : FromRow). SiftsAs row pair.rows) (λ pair. passed env cs pair ≡ with_more more pair ∷ []) (joined env place rows join row) (λ pair alike. passed-adds env cs pair more (λ causes. alike causes ∙ some causes)) same))
