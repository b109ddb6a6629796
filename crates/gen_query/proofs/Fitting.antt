-- The rows of a plan that fits give the items of a query.
use Rattle.std.proofs.Common.{◌≡◌, ℕ, suc, add-one, ◌+◌, ◌≤◌, ◌<◌, All, Bool, true, false, List, [], ◌∷◌, ◌++◌, if◌then◌else◌, length, map, flat_map, Option, Some, None, refl, sym, ap, ◌∙◌, subst, arith}
use Rattle.std.specs.List.{AllByRecursion, range_with_len}
use Rattle.std.specs.Option.{option_map, option_to_list}
use Rattle.std.proofs.lemmas.List.{length-map, length-replicate, map-append}
use Rattle.std.proofs.lemmas.List.Concat.{flat_map-cons}
use Rattle.bound_tree.specs.Exprs.{BoundExpr}
use Rattle.eng_value.specs.Arrangements.{Shuffled}
use Rattle.eng_value.specs.Environments.{Environment, Surroundings, environment, null_row}
use Rattle.eng_value.specs.StoredRows.{IsAscending}
use Rattle.eng_value.specs.declared.out.Out.{Out}
use Rattle.eng_value.specs.declared.value.Value.{Value}
use Rattle.eng_value.proofs.Shuffling.{map-shuffled}
use Rattle.eng_value.proofs.Sorting.{length-shuffled}
use Rattle.gen_loop.specs.Loops.{at_row, each, from_effect, plan_steps}
use Rattle.gen_loop.specs.Stretches.{AreSpread, ArePlaced, places_of}
use Rattle.gen_loop.proofs.Ordered.{planned-in}
use Rattle.gen_loop.proofs.Spread.{placed-spread}
use Rattle.gen_query.specs.Queries.{conjuncts_of, gives, items_in, row_effect}
use Rattle.gen_query.proofs.Listing.{gives_quit, gives-more, gives-no_more, with_given-nil}
use Rattle.gen_query.proofs.Widening.{no_rows-more, planned-wider, steps-wider, values-wider, wider}
use Rattle.plan_tree.specs.Plans.{AreOver, PlanFits, item_of as place_and_table, items_from, planned, rows_of_from}
use Rattle.plan_tree.specs.declared.access.JoinPlan.{JoinPlan}
use Rattle.plan_tree.specs.declared.access.Loop.{Loop}
use Rattle.sql_meaning.specs.Products.{FromRow, in_row, no_rows, passed, sifted}
use Rattle.sql_meaning.specs.Statement.{Item, item_of, items_at, shown}
use Rattle.sql_meaning.specs.declared.bound.BoundSelect.{BoundSelect}
use Rattle.sql_meaning.specs.declared.bound.FromTable.{FromTable}
use Rattle.vm_code.specs.Frames.{Memory, Outcome, Done, Fails, Quit, Sight, and_then}

-- ---- items one after the other

pub each-gives : {A : Type 0} (item : A → Item) (rows : List A) (x : Memory) → each (λ row y. gives (item row ∷ []) y) rows x ≡ gives (map item rows) x
each-gives item [] x = ap Done (sym (with_given-nil x))
each-gives item (row ∷ rows) x =
    by (gives (item row ∷ []) x) refl (λ y. each-gives item rows y)
  where
    by : (o : Outcome) → gives (item row ∷ []) x ≡ o → ((y : Memory) → each (λ row y. gives (item row ∷ []) y) rows y ≡ gives (map item rows) y) → and_then (gives (item row ∷ []) x) (each (λ row y. gives (item row ∷ []) y) rows) ≡ gives (item row ∷ map item rows) x
    by (Done y) is rest =
        ap (λ o. and_then o (each (λ row y. gives (item row ∷ []) y) rows)) is
        ∙ rest y
        ∙ sym (gives-more (item row ∷ []) (map item rows) x y is)
    by (Quit y) is rest = absurd (gives_quit (item row ∷ []) x y is)
    by (Fails c y) is rest =
        ap (λ o. and_then o (each (λ row y. gives (item row ∷ []) y) rows)) is
        ∙ sym (gives-no_more (item row ∷ []) (map item rows) c x y is)

-- ---- the items of rows that conjuncts keep

map-flat_map : {A B C : Type 0} (f : B → C) (g : A → List B) (h : A → List C) (xs : List A) → ((x : A) → map f (g x) ≡ h x) → map f (flat_map g xs) ≡ flat_map h xs
map-flat_map f g h [] same = refl
map-flat_map f g h (x ∷ xs) same =
    ap (map f) (flat_map-cons g x xs)
    ∙ map-append f (g x) (flat_map g xs)
    ∙ ap (λ l. l ++ map f (flat_map g xs)) (same x)
    ∙ ap (λ l. h x ++ l) (map-flat_map f g h xs same)
    ∙ sym (flat_map-cons h x xs)

module _ (env : Environment) (conjuncts results : List BoundExpr) where
  -- of a row that was kept
  abbrev item : FromRow → Item
  item row = shown results (in_row env row) row.causes

  abbrev items_of : FromRow → List Item
  items_of row = items_at conjuncts results (in_row env row) row.causes

  kept_items : (row : FromRow) → map item (passed env conjuncts row) ≡ items_of row
  kept_items row = by (sifted conjuncts (in_row env row) row.causes)
    where
      by : (o : Option Out) → map item (option_to_list (option_map (λ causes. record row { causes = causes }) o)) ≡ option_to_list (option_map (shown results (in_row env row)) o)
      by None = refl
      by (Some v) = refl

  passed_items : (rows : List FromRow) → map item (flat_map (passed env conjuncts) rows) ≡ flat_map items_of rows
  passed_items rows = map-flat_map item (passed env conjuncts) items_of rows kept_items

-- ---- loops

places-of : (loops : List Loop) → map (λ (i : ℕ × ℕ). i.0) (map place_and_table loops) ≡ places_of loops
places-of [] = refl
places-of (l ∷ loops) = ap (λ places. l.place ∷ places) (places-of loops)

places-from : (k : ℕ) (from : List FromTable) → map (λ (i : ℕ × ℕ). i.0) (items_from k from) ≡ range_with_len k (length from)
places-from k [] = refl
places-from k (f ∷ from) =
    ap (λ places. k ∷ places) (places-from (suc k) from ∙ ap (λ n. range_with_len n (length from)) (sym (add-one k)))

long-items : (k : ℕ) (from : List FromTable) → length (items_from k from) ≡ length from
long-items k [] = refl
long-items k (f ∷ from) = ap suc (long-items (suc k) from)

pub long-loops : (from : List FromTable) (loops : List Loop) → AreOver from loops → length loops ≡ length from
long-loops from loops over =
    sym (length-map loops place_and_table) ∙ length-shuffled (map place_and_table loops) (items_from 0 from) over.items ∙ long-items 0 from

-- the loops of a plan that fits go by the first cursors
pub over-spread : (from : List FromTable) (loops : List Loop) → AreOver from loops → AreSpread loops
over-spread from loops over = record {
  places = subst (λ places. Shuffled places (range_with_len 0 (length loops))) (places-of loops) (subst (Shuffled (map (λ (i : ℕ × ℕ). i.0) (map place_and_table loops))) (places-from 0 from ∙ ap (range_with_len 0) (sym (long-loops from loops over))) (map-shuffled (λ (i : ℕ × ℕ). i.0) over.items));
  counted = over.counted;
}

within : (n : ℕ) (loops : List Loop) → ArePlaced n loops → AllByRecursion (λ (l : Loop). l.place < n) loops
within n [] placed = tt
within n (l ∷ loops) placed = (placed.0, within n loops placed.3)

-- ---- a query

-- how many cursors a plan has, one for its sorter
abbrev pub cursors_of : JoinPlan → ℕ
cursors_of p = if p.sort then length p.loops + 1 else length p.loops

-- those of the rows of a plan, among so many cursors
abbrev pub items_among : ℕ → BoundSelect → JoinPlan → Surroundings → List Item
items_among n q p x =
    map (item (environment x [] [] []) (conjuncts_of q) q.results) (planned (environment x [] [] []) p (no_rows n))

abbrev pub items_planned : BoundSelect → JoinPlan → Surroundings → List Item
items_planned q p x = items_among (length p.loops) q p x

-- at the start no item has a row
pub planned-gives : (n : ℕ) (q : BoundSelect) (p : JoinPlan) (x : Surroundings) (sight : Sight) → sight.env ≡ environment x [] [] (no_rows n).rows → (causes : Out) (y : Memory) → from_effect p (row_effect q.results) sight causes y ≡ gives (items_among n q p x) y
planned-gives n q p x sight is causes y =
    let env = environment x [] [] [] in
    let first = no_rows n in
    let there : Environment = record env { rows = first.rows } in
    let seen : Sight = record sight { env = there } in
    ap (λ e. from_effect p (row_effect q.results) (record sight { env = e }) causes y) is
    ∙ ap (λ rows. each (at_row (row_effect q.results) seen) rows y) (planned-in env first.rows p first)
    ∙ each-gives (item env (conjuncts_of q) q.results) (planned env p first) y

item-wider : (env : Environment) (conjuncts results : List BoundExpr) (rows : List FromRow) → map (item env conjuncts results) (map wider rows) ≡ map (item env conjuncts results) rows
item-wider env conjuncts results [] = refl
item-wider env conjuncts results (row ∷ rows) =
    ap (λ outs. item_of row.causes outs ∷ map (item env conjuncts results) (map wider rows)) (values-wider (in_row env row) results)
    ∙ ap (λ items. item env conjuncts results row ∷ items) (item-wider env conjuncts results rows)

long-none : (n : ℕ) → n ≤ length (no_rows n).rows
long-none n = omega (arith, length-replicate n null_row)

-- the sorter's cursor makes no difference
pub items-same : (q : BoundSelect) (p : JoinPlan) (x : Surroundings) → AreSpread p.loops → items_among (cursors_of p) q p x ≡ items_planned q p x
items-same q p x spread = by p.sort
  where
    n : ℕ
    n = length p.loops

    env : Environment
    env = environment x [] [] []

    of_rows : List FromRow → List Item
    of_rows = map (item env (conjuncts_of q) q.results)

    by : (b : Bool) → of_rows (planned env p (no_rows (if b then n + 1 else n))) ≡ of_rows (planned env p (no_rows n))
    by false = refl
    by true =
        ap (λ row. of_rows (planned env p row)) (no_rows-more n)
        ∙ ap of_rows (planned-wider env n p (within n p.loops (placed-spread p.loops n spread (omega arith))) (no_rows n) (long-none n))
        ∙ item-wider env (conjuncts_of q) q.results (planned env p (no_rows n))

-- nor does it for how many instructions there are
pub steps-same : (p : JoinPlan) (most : ℕ) (x : Surroundings) → AreSpread p.loops → plan_steps p most (environment x [] [] (no_rows (cursors_of p)).rows) ≡ plan_steps p most (environment x [] [] (no_rows (length p.loops)).rows)
steps-same p most x spread = by p.sort
  where
    n : ℕ
    n = length p.loops

    by : (b : Bool) → plan_steps p most (environment x [] [] (no_rows (if b then n + 1 else n)).rows) ≡ plan_steps p most (environment x [] [] (no_rows n).rows)
    by false = refl
    by true =
        ap (λ (row : FromRow). plan_steps p most (environment x [] [] row.rows)) (no_rows-more n)
        ∙ steps-wider (environment x [] [] (no_rows n).rows) n p most (within n p.loops (placed-spread p.loops n spread (omega arith))) (long-none n)

pub planned-fits : (q : BoundSelect) (p : JoinPlan) (params : List Value) → PlanFits params q.from (conjuncts_of q) p → (x : Surroundings) → x.params ≡ params → All IsAscending x.world → items_planned q p x ≡ items_in q x
planned-fits q p params fits x same up =
    let env = environment x [] [] [] in
    let of_rows : List FromRow → List Item = map (item env (conjuncts_of q) q.results) in
    ap (λ n. of_rows (planned env p (no_rows n))) (long-loops q.from p.loops fits.over)
    ∙ ap of_rows (fits.gives env same up)
    ∙ passed_items env (conjuncts_of q) q.results (rows_of_from env q.from)
