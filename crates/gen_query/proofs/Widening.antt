-- A cursor more, which is on no row, makes no difference to what plans give.
use Rattle.std.proofs.Common.{◌≡◌, ℕ, zero, suc, ◌+◌, ◌*◌, ◌≤◌, ◌<◌, Bool, true, false, List, [], ◌∷◌, ◌++◌, length, map, flat_map, sum_by, Option, Some, None, if◌then◌else◌, refl, sym, ap, ◌∙◌, arith}
use Rattle.std.specs.Prelude.{slice_index_or}
use Rattle.std.specs.List.{AllByRecursion, filter}
use Rattle.std.specs.Option.{option_map, option_to_list}
use Rattle.std.specs.Ordering.{is_lt, ordering_then}
use Rattle.std.proofs.Math.ListN.{length-set}
use Rattle.std.proofs.lemmas.List.{length-map, map-append, replicate-append-replicate, set-append_left}
use Rattle.std.proofs.lemmas.List.Concat.{flat_map-cons}
use Rattle.std.proofs.lemmas.List.Sums.{sum_by-cons}
use Rattle.bound_tree.specs.Exprs.{BoundExpr}
use Rattle.eng_index.specs.Searching.{range_of}
use Rattle.eng_value.specs.Arrangements.{Chain, arranged}
use Rattle.eng_value.specs.Casts.{beside}
use Rattle.eng_value.specs.Collations.{compare}
use Rattle.eng_value.specs.Environments.{Environment, ItemRow, no_causes, null_row, table_row}
use Rattle.eng_value.specs.Outs.{turned}
use Rattle.eng_value.specs.StoredRows.{StoredRow}
use Rattle.eng_value.specs.Truths.{truth_in, truth_of}
use Rattle.eng_value.specs.declared.built.Built.TheVariants as built
use Rattle.eng_value.specs.declared.out.Out.{Out}
use Rattle.eng_value.specs.declared.out.Out.TheVariants.{Good}
use Rattle.eng_value.proofs.Arranging.{all_each, arranged-agree, arranged-map}
use Rattle.gen_loop.specs.Loops.{alone_steps, conjuncts_steps, gathered_steps, nested_steps, path_steps, plan_steps, put_steps, rows_gathered, sorted_steps, taken_steps, turn_steps}
use Rattle.gen_loop.proofs.Giving.{Keeps, all-pairs, all-passed}
use Rattle.gen_loop.proofs.Ordered.{gathered-in}
use Rattle.gen_query.proofs.Alike.{value_same}
use Rattle.plan_tree.specs.Plans.{gathered, looped, paired_with, pairs_by, planned, position, position_cmp, stands_before, value_or_null, visited_by}
use Rattle.plan_tree.specs.Visits.{at_item, is_in_range, key_expr, key_out, key_outs, visited}
use Rattle.plan_tree.specs.declared.access.JoinPlan.{JoinPlan}
use Rattle.plan_tree.specs.declared.access.Key.{Key}
use Rattle.plan_tree.specs.declared.access.Loop.{Loop}
use Rattle.plan_tree.specs.declared.access.Pairs.{Pairs}
use Rattle.plan_tree.specs.declared.access.Pairs.TheVariants.{Each, OrAlone}
use Rattle.plan_tree.specs.declared.access.Path.{Path}
use Rattle.plan_tree.specs.declared.access.Path.TheVariants as path
use Rattle.sql_meaning.specs.Expression.{value_of}
use Rattle.sql_meaning.specs.Products.{FromRow, after_conjunct, if_some, in_row, no_rows, or_alone, passed, sifted, with_item}
use Rattle.sql_meaning.specs.World.{rows_at}

-- ---- rows

-- one place more, without a row
abbrev pub widened : List ItemRow → List ItemRow
widened rows = rows ++ null_row ∷ []

abbrev pub wider : FromRow → FromRow
wider row = record row { rows = widened row.rows }

abbrev pub wider_env : Environment → Environment
wider_env env = record env { rows = widened env.rows }

pub no_rows-more : (n : ℕ) → no_rows (n + 1) ≡ wider (no_rows n)
no_rows-more n = ap (λ rows. record (no_rows n) { rows = rows }) (sym (replicate-append-replicate n 1 null_row))

-- each place reads the same
row-same : (rows : List ItemRow) (k : ℕ) → slice_index_or (widened rows) k null_row ≡ slice_index_or rows k null_row
row-same [] zero = refl
row-same [] (suc k) = refl
row-same (row ∷ rows) zero = refl
row-same (row ∷ rows) (suc k) = row-same rows k

pub value-wider : (env : Environment) (c : BoundExpr) → value_of c (wider_env env) ≡ value_of c env
value-wider env c = value_same env (widened env.rows) (λ item. row-same env.rows item) c

-- a list of values
pub values-wider : (env : Environment) (es : List BoundExpr) → map (λ e. value_of e (wider_env env)) es ≡ map (λ e. value_of e env) es
values-wider env [] = refl
values-wider env (e ∷ es) =
    ap (λ v. v ∷ map (λ e. value_of e (wider_env env)) es) (value-wider env e) ∙ ap (λ l. value_of e env ∷ l) (values-wider env es)

-- ---- what is visited

keys-wider : (env : Environment) (keys : List Key) → key_outs (wider_env env) keys ≡ key_outs env keys
keys-wider env [] = refl
keys-wider env (k ∷ keys) =
    ap (λ o. turned (λ v. Good (beside k.other k.own v)) o ∷ key_outs (wider_env env) keys) (value-wider env (key_expr k))
    ∙ ap (λ l. key_out k env ∷ l) (keys-wider env keys)

pub visited-wider : (env : Environment) (p : Path) (rows : List StoredRow) → visited (wider_env env) p rows ≡ visited env p rows
visited-wider env path.Scan rows = refl
visited-wider env (path.Search s) rows =
    ap (λ outs. filter (is_in_range s.terms (range_of s.bounds outs)) rows) (keys-wider env s.keys)

-- ---- what is kept

if_some-same : (o : Option Out) (f g : Out → Option Out) → ((v : Out) → f v ≡ g v) → if_some o f ≡ if_some o g
if_some-same None f g same = refl
if_some-same (Some v) f g same = same v

sifted-wider : (env : Environment) (cs : List BoundExpr) (causes : Out) → sifted cs (wider_env env) causes ≡ sifted cs env causes
sifted-wider env [] causes = refl
sifted-wider env (c ∷ cs) causes =
    ap (λ v. if_some (after_conjunct causes (truth_in (truth_of v))) (sifted cs (wider_env env))) (value-wider env c)
    ∙ if_some-same (after_conjunct causes (truth_in (truth_of (value_of c env)))) (sifted cs (wider_env env)) (sifted cs env) (sifted-wider env cs)

module _ (env : Environment) where
  passed-wider : (cs : List BoundExpr) (row : FromRow) → passed env cs (wider row) ≡ map wider (passed env cs row)
  passed-wider cs row =
      ap (λ o. option_to_list (option_map (λ causes. record (wider row) { causes = causes }) o)) (sifted-wider (in_row env row) cs row.causes)
      ∙ by (sifted cs (in_row env row) row.causes)
    where
      by : (o : Option Out) → option_to_list (option_map (λ causes. record (wider row) { causes = causes }) o) ≡ map wider (option_to_list (option_map (λ causes. record row { causes = causes }) o))
      by None = refl
      by (Some causes) = refl

  -- ---- rows of so many items at least

  module _ (n : ℕ) where
    abbrev Long : FromRow → Type 0
    Long row = n ≤ length row.rows

    long-causes : (row : FromRow) (causes : Out) → Long row → Long (record row { causes = causes })
    long-causes row causes long = long

    long-each : (loops : List Loop) → AllByRecursion (Keeps env Long long-causes) loops
    long-each [] = tt
    long-each (l ∷ loops) =
        ((λ row r is long. omega (arith, long, length-set row.rows l.place (table_row r))), long-each loops)

    flat-wider : {X : Type 0} (f g : X → List FromRow) (xs : List X) → ((x : X) → f x ≡ map wider (g x)) → flat_map f xs ≡ map wider (flat_map g xs)
    flat-wider f g [] same = refl
    flat-wider f g (x ∷ xs) same =
        flat_map-cons f x xs
        ∙ ap (λ l. l ++ flat_map f xs) (same x)
        ∙ ap (λ l. map wider (g x) ++ l) (flat-wider f g xs same)
        ∙ sym (map-append wider (g x) (flat_map g xs))
        ∙ ap (map wider) (sym (flat_map-cons g x xs))

    -- of rows that are long enough
    flat-rows : (f g : FromRow → List FromRow) → ((row : FromRow) → Long row → f (wider row) ≡ map wider (g row)) → (rows : List FromRow) → AllByRecursion Long rows → flat_map f (map wider rows) ≡ map wider (flat_map g rows)
    flat-rows f g same [] all = refl
    flat-rows f g same (row ∷ rows) all =
        flat_map-cons f (wider row) (map wider rows)
        ∙ ap (λ l. l ++ flat_map f (map wider rows)) (same row all.0)
        ∙ ap (λ l. map wider (g row) ++ l) (flat-rows f g same rows all.1)
        ∙ sym (map-append wider (g row) (flat_map g rows))
        ∙ ap (map wider) (sym (flat_map-cons g row rows))

    item-wider : (place : ℕ) (row : FromRow) (r : ItemRow) → place < n → Long row → with_item place (wider row) r ≡ wider (with_item place row r)
    item-wider place row r lt long =
        ap (λ rows. record (with_item place row r) { rows = rows }) (set-append_left row.rows (null_row ∷ []) place r (omega (arith, lt, long)))

    or_alone-wider : (row : FromRow) (pairs : List FromRow) → or_alone (wider row) (map wider pairs) ≡ map wider (or_alone row pairs)
    or_alone-wider row [] = refl
    or_alone-wider row (pair ∷ pairs) = refl

    pairs-wider : (l : Loop) (row : FromRow) → l.place < n → Long row → pairs_by env l (wider row) ≡ map wider (pairs_by env l row)
    pairs-wider l row lt long =
        ap (λ visits. paired_with env l.place l.pairs visits (wider row)) (visited-wider (in_row env row) l.path (rows_at env.world l.table))
        ∙ by l.pairs (visited_by env l row)
      where
        each-pair : (rs : List StoredRow) → map (λ r. with_item l.place (wider row) (table_row r)) rs ≡ map wider (map (λ r. with_item l.place row (table_row r)) rs)
        each-pair [] = refl
        each-pair (r ∷ rs) =
            ap (λ q. q ∷ map (λ r. with_item l.place (wider row) (table_row r)) rs) (item-wider l.place row (table_row r) lt long)
            ∙ ap (λ qs. wider (with_item l.place row (table_row r)) ∷ qs) (each-pair rs)

        by : (p : Pairs) (visits : List StoredRow) → paired_with env l.place p visits (wider row) ≡ map wider (paired_with env l.place p visits row)
        by Each visits = each-pair visits
        by (OrAlone ons) visits =
            let pairs : FromRow → StoredRow → List FromRow = λ q r. passed env ons (with_item l.place q (table_row r)) in
            ap (or_alone (wider row)) (flat-wider (pairs (wider row)) (pairs row) visits (λ r. ap (passed env ons) (item-wider l.place row (table_row r) lt long) ∙ passed-wider ons (with_item l.place row (table_row r))))
            ∙ or_alone-wider row (flat_map (pairs row) visits)

    abbrev AreWithin : List Loop → Type 0
    AreWithin loops = AllByRecursion (λ (l : Loop). l.place < n) loops

    looped-wider : (loops : List Loop) → AreWithin loops → (row : FromRow) → Long row → looped env loops (wider row) ≡ map wider (looped env loops row)
    looped-wider [] within row long = refl
    looped-wider (l ∷ loops) within row long =
        let step : FromRow → List FromRow = λ pair. flat_map (looped env loops) (passed env l.checks pair) in
        ap (flat_map step) (pairs-wider l row within.0 long)
        ∙ flat-rows step step (λ pair there. ap (flat_map (looped env loops)) (passed-wider l.checks pair) ∙ flat-rows (looped env loops) (looped env loops) (looped-wider loops within.1) (passed env l.checks pair) (all-passed env Long long-causes l.checks pair there)) (pairs_by env l row) (all-pairs env Long long-causes l row (long-each (l ∷ [])).0 long)

    pub gathered-wider : (p : JoinPlan) → AreWithin p.loops → (row : FromRow) → Long row → gathered env p (wider row) ≡ map wider (gathered env p row)
    gathered-wider p within row long =
        ap (flat_map (looped env p.loops)) (passed-wider p.checks row)
        ∙ flat-rows (looped env p.loops) (looped env p.loops) (looped-wider p.loops within) (passed env p.checks row) (all-passed env Long long-causes p.checks row long)

-- ---- the order of a FROM

position-wider : (place : ℕ) (row : FromRow) → position place (wider row) ≡ position place row
position-wider place row = ap (λ (r : ItemRow). value_or_null r.rowid) (row-same row.rows place)

positions-wider : (place count : ℕ) (a b : FromRow) → position_cmp place count (wider a) (wider b) ≡ position_cmp place count a b
positions-wider place zero a b = refl
positions-wider place (suc count) a b =
    ap (λ v. ordering_then (compare built.Binary v (position place (wider b))) (position_cmp (suc place) count (wider a) (wider b))) (position-wider place a)
    ∙ ap (λ v. ordering_then (compare built.Binary (position place a) v) (position_cmp (suc place) count (wider a) (wider b))) (position-wider place b)
    ∙ ap (ordering_then (compare built.Binary (position place a) (position place b))) (positions-wider (suc place) count a b)

chain_each : (R : FromRow → FromRow → Type 0) → ((a b : FromRow) → R a b) → (rows : List FromRow) → Chain R rows
chain_each R all [] = tt
chain_each R all (row ∷ rows) = (all_each (R row) (all row) rows, chain_each R all rows)

arranged-wider : (width : ℕ) (rows : List FromRow) → arranged (stands_before width) (map wider rows) ≡ map wider (arranged (stands_before width) rows)
arranged-wider width rows =
    let by_wider : FromRow → FromRow → Bool = λ a b. stands_before width (wider a) (wider b) in
    arranged-map wider (stands_before width) rows
    ∙ ap (map wider) (arranged-agree by_wider (stands_before width) rows (chain_each (λ a b. by_wider b a ≡ stands_before width b a) (λ a b. ap is_lt (positions-wider 0 width b a)) rows))

pub planned-wider : (env : Environment) (n : ℕ) (p : JoinPlan) → AllByRecursion (λ (l : Loop). l.place < n) p.loops → (row : FromRow) → n ≤ length row.rows → planned env p (wider row) ≡ map wider (planned env p row)
planned-wider env n p within row long =
    ap (λ rows. if p.sort then arranged (stands_before (length p.loops)) rows else rows) (gathered-wider env n p within row long)
    ∙ by p.sort (gathered env p row)
  where
    by : (b : Bool) (rows : List FromRow) → (if b then arranged (stands_before (length p.loops)) (map wider rows) else map wider rows) ≡ map wider (if b then arranged (stands_before (length p.loops)) rows else rows)
    by true rows = arranged-wider (length p.loops) rows
    by false rows = refl

-- ---- how many instructions

-- a row of an item in its place
at-wider : (env : Environment) (place : ℕ) (r : StoredRow) → place < length env.rows → at_item (wider_env env) place r ≡ wider_env (at_item env place r)
at-wider env place r lt = ap (λ rows. record env { rows = rows }) (set-append_left env.rows (null_row ∷ []) place (table_row r) lt)

sum-same : (f g : StoredRow → ℕ) (rows : List StoredRow) → ((r : StoredRow) → f r ≡ g r) → sum_by f rows ≡ sum_by g rows
sum-same f g [] same = refl
sum-same f g (r ∷ rows) same = sum_by-cons f r rows ∙ ap (λ n. n + sum_by f rows) (same r) ∙ ap (λ n. g r + n) (sum-same f g rows same) ∙ sym (sum_by-cons g r rows)

nested-wider : (n : ℕ) (loops : List Loop) (most : ℕ) → AllByRecursion (λ (l : Loop). l.place < n) loops → (env : Environment) → n ≤ length env.rows → nested_steps loops most (wider_env env) ≡ nested_steps loops most env
nested-wider n [] most within env long = refl
nested-wider n (l ∷ loops) most within env long =
    ap (λ k. path_steps l.path + 1 + alone_steps l.pairs (conjuncts_steps l.checks + k) + sum_by (turn (wider_env env)) (visited (wider_env env) l.path rows)) (nested-wider n loops most within.1 env long)
    ∙ ap (λ visits. path_steps l.path + 1 + alone_steps l.pairs (conjuncts_steps l.checks + nested_steps loops most env) + sum_by (turn (wider_env env)) visits) (visited-wider env l.path rows)
    ∙ ap (λ k. path_steps l.path + 1 + alone_steps l.pairs (conjuncts_steps l.checks + nested_steps loops most env) + k) (sum-same (turn (wider_env env)) (turn env) (visited env l.path rows) (λ r. ap (λ k. turn_steps l.pairs + (conjuncts_steps l.checks + k)) (ap (nested_steps loops most) (at-wider env l.place r (omega (arith, within.0, long))) ∙ nested-wider n loops most within.1 (at_item env l.place r) (omega (arith, long, length-set env.rows l.place (table_row r))))))
  where
    rows : List StoredRow
    rows = rows_at env.world l.table

    turn : Environment → StoredRow → ℕ
    turn e r = turn_steps l.pairs + (conjuncts_steps l.checks + nested_steps loops most (at_item e l.place r))

pub steps-wider : (env : Environment) (n : ℕ) (p : JoinPlan) (most : ℕ) → AllByRecursion (λ (l : Loop). l.place < n) p.loops → n ≤ length env.rows → plan_steps p most (wider_env env) ≡ plan_steps p most env
steps-wider env n p most within long =
    let row : FromRow = record { rows = env.rows; causes = no_causes } in
    let all = gathered-wider env n p within row long in
    let count : length (rows_gathered p (wider_env env)) ≡ length (rows_gathered p env) = ap (λ (rs : List FromRow). length rs) (gathered-env p row ∙ all) ∙ length-map (gathered env p row) wider in
    by p.sort count (nested-wider n p.loops most within env long) (nested-wider n p.loops (put_steps p) within env long)
  where
    -- the rows that are seen do not matter
    gathered-env : (p : JoinPlan) (row : FromRow) → gathered (wider_env env) p (wider row) ≡ gathered env p (wider row)
    gathered-env p row = gathered-in env (widened env.rows) p (wider row)

    by : (b : Bool) → length (rows_gathered p (wider_env env)) ≡ length (rows_gathered p env) → nested_steps p.loops most (wider_env env) ≡ nested_steps p.loops most env → nested_steps p.loops (put_steps p) (wider_env env) ≡ nested_steps p.loops (put_steps p) env → length p.loops + 1 + (if b then sorted_steps p most (wider_env env) else gathered_steps p most (wider_env env)) ≡ length p.loops + 1 + (if b then sorted_steps p most env else gathered_steps p most env)
    by true rows plain put =
        ap (λ k. length p.loops + 1 + (1 + conjuncts_steps p.checks + k + 2 + length (rows_gathered p (wider_env env)) * (taken_steps p + most))) put
        ∙ ap (λ k. length p.loops + 1 + (gathered_steps p (put_steps p) env + 2 + k * (taken_steps p + most))) rows
    by false rows plain put = ap (λ k. length p.loops + 1 + (1 + conjuncts_steps p.checks + k)) plain
