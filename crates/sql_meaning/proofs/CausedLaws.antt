-- Whatever is bad in a statement has a cause, so that each refusal can be told.
use Rattle.std.proofs.Common.{◌≡◌, ◌||◌, ◌∙◌, ap, inl, inr, Bool, true, false, ℕ, List, [], ◌∷◌, ◌++◌, Some, None, Ok, Err, Result, if◌then◌else◌, length, map, fold, flat_map, sym, subst, zero, suc}
use Rattle.std.specs.Bool.{⊤}
use Rattle.std.specs.Cmp.Lexicographic.{nat_list_cmp_total}
use Rattle.std.specs.FinSet as set
use Rattle.std.specs.Prelude.{replicate, slice_index_or, slice_set, ◌&&◌}
use Rattle.eng_entry.specs.Entries.{with_entry}
use Rattle.eng_index.specs.Keys.{has_doubles}
use Rattle.std.specs.Option.{option_map, option_to_list}
use Rattle.std.specs.declared.option.Option.{Option}
use Rattle.eng_value.specs.Causes.{CauseSet, cause_key, has_cause, named, only}
use Rattle.eng_value.specs.Written.{Written}
use Rattle.eng_value.proofs.CauseLaws.{has_cause-only, named-only, named-other}
use Rattle.eng_number.specs.Numbers.{fits_integer}
use Rattle.eng_value.specs.Casts.{store_as}
use Rattle.eng_value.specs.Comparisons.{comparison_of}
use Rattle.eng_value.specs.Collations.{keys_of}
use Rattle.eng_value.specs.Environments.{Environment, ItemRow, column_of, ignoring, no_causes, null_row, table_row, with_causes, without_column}
use Rattle.eng_value.specs.StoredRows.{StoredRow, next_rowid}
use Rattle.eng_value.specs.Truths.{truth_in, truth_of}
use Rattle.eng_value.specs.declared.cause.Cause.{Cause}
use Rattle.eng_value.specs.declared.affinity.Affinity.TheVariants as affinity
use Rattle.eng_value.specs.declared.cause.Cause.TheVariants as cause
use Rattle.eng_value.specs.declared.cause.ConstraintKind.TheVariants as constraint
use Rattle.eng_value.specs.declared.compare_op.CompareOp.TheVariants as compares
use Rattle.eng_value.specs.declared.out.Out.{Out}
use Rattle.eng_value.specs.declared.out.Out.TheVariants.{Good, Bad}
use Rattle.eng_value.specs.declared.truth.Truth.{Truth}
use Rattle.eng_value.specs.declared.truth.Truth.TheVariants as truth
use Rattle.eng_value.specs.declared.value.Value.{Value}
use Rattle.eng_value.specs.declared.value.Value.TheVariants as value
use Rattle.eng_key.specs.Values.{value_keys}
use Rattle.std.proofs.Common.{ℤ}
use Rattle.sql_meaning.specs.Runnables.{Runnable, Creates, DoesNothing, Drops, FromItem, Indexes, NewIndex, Put, Puts, Queries, Shows, Unindexes, Explains}
use Rattle.bound_tree.specs.Exprs as e
use Rattle.bound_tree.specs.Exprs.{BoundArms, BoundExpr, BoundExprs, BoundMatches, NoExprs, AnExpr, NoArms, AnArm, NoMatches, AMatch}
use Rattle.sql_words.specs.declared.literal.Literal.{Literal}
use Rattle.sql_words.specs.declared.literal.Literal.TheVariants as literal
use Rattle.sql_meaning.specs.declared.bound.BoundInsert.{BoundInsert}
use Rattle.sql_meaning.specs.declared.bound.Join.{Join}
use Rattle.sql_meaning.specs.declared.bound.Join.TheVariants as join
use Rattle.sql_meaning.specs.declared.bound.PutColumn.{PutColumn}
use Rattle.sql_meaning.specs.declared.bound.RowidFrom.{RowidFrom}
use Rattle.sql_meaning.specs.declared.bound.RowidFrom.TheVariants as rowid
use Rattle.sql_meaning.specs.Expression.{arms_of, chosen_in, first_known, literal_out, matched_in, matches_of, parameter_of, unbuilt, value_of, values_of}
use Rattle.sql_meaning.specs.Products as from_row
use Rattle.sql_meaning.specs.Products.{FromRow, in_row, joined, no_rows, or_alone, product_from, with_item}
use Rattle.sql_meaning.specs.Rows.{NewRow, at_row, checked, drawn, fitted, fixed, is_met, lacks_value, new_by, new_row, or_default, passed, row_changed, row_put, rowid_beside, stored_for, unless_broken, value_for, with_row}
use Rattle.sql_meaning.specs.Statement.{IsNamed, Item, Row, Failed, after_conjunct, begun, bound_for, bound_outcome, causes_of, closed, failed, given_of, if_some, item_by, item_of, from_rows, item_rows, items_at, items_of, joined_item, outcome_of, put_source, refusal_of, rows_put, shown, shown_rows, sifted, source_of, text_outcome, with_catalog, with_others}
use Rattle.sql_meaning.specs.Steps.{Step, Done, Left, Fails, Effect, ◌then◌, done, each, or_next, settled}
use Rattle.sql_meaning.specs.Statement as outcome
use Rattle.sql_meaning.specs.World.{Context, State, environment_at, rows_at, seen}
use Rattle.sql_meaning.proofs.CausedOperators.{AreCaused, IsCaused, IsCausedSet, IsCausedTruth, and_of-caused, bad-caused, binary_of-caused, choice_of-caused, comparison_of-caused, function_by-caused, good, like_escaped_of-caused, made-caused, member_of-caused, merged-caused, only-caused, or_else-caused, store_as-caused, truth_in-caused, truth_of-caused, turned-caused, unary_of-caused}
use Rattle.sql_meaning.proofs.RowLaws.{kept, placed, tested, with_rowid}
use Rattle.sql_meaning.proofs.StepLaws.{Gives, gives-each, gives-or_next, gives-then}

-- ---- rows whose causes are causes

abbrev pub RowCaused : ItemRow → Type 0
RowCaused r = AreCaused r.columns × IsCaused r.causes × IsCaused r.rowid

abbrev pub RowsCaused : List ItemRow → Type 0
RowsCaused [] = ⊤
RowsCaused (r ∷ rows) = RowCaused r × RowsCaused rows

place-caused : (outs : List Out) (place : ℕ) → AreCaused outs → IsCaused (slice_index_or outs place (Good value.Null))
place-caused [] place c = good value.Null
place-caused (a ∷ outs) zero c = c.0
place-caused (a ∷ outs) (suc k) c = place-caused outs k c.1

column-caused : (rows : List ItemRow) (item place : ℕ) → RowsCaused rows → IsCaused (column_of (slice_index_or rows item null_row) place)
column-caused [] item place c = good value.Null
column-caused (r ∷ rows) zero place c = place-caused r.columns place c.0.0
column-caused (r ∷ rows) (suc k) place c = column-caused rows k place c.1

rowid-caused : (rows : List ItemRow) (item : ℕ) → RowsCaused rows → IsCaused (slice_index_or rows item null_row).rowid
rowid-caused [] item c = good value.Null
rowid-caused (r ∷ rows) zero c = c.0.2
rowid-caused (r ∷ rows) (suc k) c = rowid-caused rows k c.1

all-good : (row : List Value) → AreCaused (map Good row)
all-good [] = tt
all-good (v ∷ row) = (good v, all-good row)

-- the row of a table
row-caused : (r : StoredRow) → RowCaused (table_row r)
row-caused r = (all-good r.values, good value.Null, good (value.Integer r.rowid))

set-caused : (outs : List Out) (place : ℕ) → AreCaused outs → AreCaused (slice_set outs place (Good value.Null))
set-caused [] place c = tt
set-caused (a ∷ outs) zero c = (good value.Null, c.1)
set-caused (a ∷ outs) (suc k) c = (c.0, set-caused outs k c.1)

without-caused : (r : ItemRow) (place : Option ℕ) → RowCaused r → RowCaused (without_column r place)
without-caused r None c = (c.0, c.1, good value.Null)
without-caused r (Some place) c = (set-caused r.columns place c.0, c.1, c.2)

ignoring-caused : (places : List (Option ℕ)) (r : ItemRow) → RowCaused r → RowCaused (ignoring places r)
ignoring-caused [] r c = c
ignoring-caused (place ∷ places) r c = ignoring-caused places (without_column r place) (without-caused r place c)

-- ---- expressions

literal-caused : (l : Literal) → IsCaused (literal_out l)
literal-caused (literal.Value v) = good v
literal-caused (literal.Bad why) = bad-caused why

parameter-caused : (params : List Value) (number : ℕ) → IsCaused (parameter_of params number)
parameter-caused params zero = good value.Null
parameter-caused params (suc k) = made-caused (slice_index_or params k value.Null)

first_known-caused : (outs : List Out) → AreCaused outs → IsCaused (first_known outs)
first_known-caused [] c = good value.Null
first_known-caused (a ∷ rest) c = or_else-caused a (first_known rest) c.0 (first_known-caused rest c.1)

unbuilt-caused : IsCaused unbuilt
unbuilt-caused = bad-caused cause.NotYet

module _ (env : Environment) (r : RowsCaused env.rows) where
  mutual
    -- an expression that is bad has a cause
    pub expr-caused : (x : BoundExpr) → IsCaused (value_of x env)
    expr-caused (e.Literal l) = literal-caused l
    expr-caused (e.Parameter number) = parameter-caused env.params number
    expr-caused (e.Column item place) = column-caused env.rows item place r
    expr-caused (e.Rowid item) = rowid-caused env.rows item r
    expr-caused (e.Argument place) = unbuilt-caused
    expr-caused (e.Aggregate slot) = unbuilt-caused
    expr-caused (e.Unary op a) = unary_of-caused op (value_of a env) (expr-caused a)
    expr-caused (e.Binary op a b) = binary_of-caused (keys_of env.hosts) op (value_of a env) (value_of b env) (expr-caused a) (expr-caused b)
    expr-caused (e.LikeEscaped a b c) = like_escaped_of-caused (value_of a env) (value_of b env) (value_of c env) (expr-caused a) (expr-caused b) (expr-caused c)
    expr-caused (e.Between above below a low high) =
        let keys = keys_of env.hosts in
        and_of-caused (comparison_of keys compares.Ge above (value_of a env) (value_of low env)) (comparison_of keys compares.Le below (value_of a env) (value_of high env))
        (comparison_of-caused keys compares.Ge above (value_of a env) (value_of low env) (expr-caused a) (expr-caused low)) (comparison_of-caused keys compares.Le below (value_of a env) (value_of high env) (expr-caused a) (expr-caused high))
    expr-caused (e.InList sides a others) = member_of-caused (keys_of env.hosts) sides (value_of a env) (values_of others env) (expr-caused a) (all-caused others)
    expr-caused (e.ChooseArm arms otherwise) = arms-caused arms (value_of otherwise env) (expr-caused otherwise)
    expr-caused (e.MatchArm a arms otherwise) = matches-caused arms (value_of a env) (value_of otherwise env) (expr-caused a) (expr-caused otherwise)
    expr-caused (e.Iif a b c) = choice_of-caused (value_of a env) (value_of b env) (value_of c env) (expr-caused a) (expr-caused b) (expr-caused c)
    expr-caused (e.CoalesceList f es) = first_known-caused (values_of es env) (all-caused es)
    expr-caused (e.CallBuiltin f collation args) = function_by-caused (value_keys (keys_of env.hosts)) f collation (values_of args env) (all-caused args)
    expr-caused (e.CallHost name args) = unbuilt-caused
    expr-caused (e.ScalarOf unit args) = unbuilt-caused
    expr-caused (e.ExistsIn unit args) = unbuilt-caused
    expr-caused (e.InUnit sides a unit args) = unbuilt-caused
    expr-caused e.RaiseIgnore = unbuilt-caused
    expr-caused (e.RaiseAbort text) = unbuilt-caused

    all-caused : (es : BoundExprs) → AreCaused (values_of es env)
    all-caused NoExprs = tt
    all-caused (AnExpr a rest) = (expr-caused a, all-caused rest)

    arms-caused : (arms : BoundArms) (otherwise : Out) → IsCaused otherwise → IsCaused (chosen_in env (arms_of arms) otherwise)
    arms-caused NoArms otherwise c = c
    arms-caused (AnArm a b rest) otherwise c =
        choice_of-caused (value_of a env) (value_of b env) (chosen_in env (arms_of rest) otherwise) (expr-caused a) (expr-caused b) (arms-caused rest otherwise c)

    matches-caused : (arms : BoundMatches) (a otherwise : Out) → IsCaused a → IsCaused otherwise → IsCaused (matched_in env a (matches_of arms) otherwise)
    matches-caused NoMatches a otherwise c d = d
    matches-caused (AMatch sides x y rest) a otherwise c d =
        choice_of-caused (comparison_of (keys_of env.hosts) compares.Eq sides a (value_of x env)) (value_of y env) (matched_in env a (matches_of rest) otherwise)
        (comparison_of-caused (keys_of env.hosts) compares.Eq sides a (value_of x env) c (expr-caused x)) (expr-caused y) (matches-caused rest a otherwise c d)

pub value_of-caused : (x : BoundExpr) (env : Environment) → RowsCaused env.rows → IsCaused (value_of x env)
value_of-caused x env r = expr-caused env r x

-- ---- items

abbrev ToldItem : Item → Type 0
ToldItem (Row row) = ⊤
ToldItem (Failed causes) = IsCausedSet causes

abbrev AreTold : List Item → Type 0
AreTold [] = ⊤
AreTold (i ∷ items) = ToldItem i × AreTold items

abbrev ToldCauses : Option CauseSet → Type 0
ToldCauses None = ⊤
ToldCauses (Some causes) = IsCausedSet causes

item_by-told : (outs : List Out) (a : Out) → IsCaused a → ToldItem (item_by outs a)
item_by-told outs (Good v) c = tt
item_by-told outs (Bad causes) c = c.told

all_causes-caused : (causes : Out) (outs : List Out) → IsCaused causes → AreCaused outs → IsCaused (fold with_causes causes outs)
all_causes-caused causes [] c h = c
all_causes-caused causes (a ∷ outs) c h = all_causes-caused (with_causes causes a) outs (merged-caused a causes h.0 c) h.1

item_of-told : (causes : Out) (outs : List Out) → IsCaused causes → AreCaused outs → ToldItem (item_of causes outs)
item_of-told causes outs c h = item_by-told outs (fold with_causes causes outs) (all_causes-caused causes outs c h)

refusal_of-told : (items : List Item) → AreTold items → ToldCauses (refusal_of items)
refusal_of-told [] c = tt
refusal_of-told (Row row ∷ items) c = refusal_of-told items c.1
refusal_of-told (Failed causes ∷ items) c = c.0

told-append : (xs ys : List Item) → AreTold xs → AreTold ys → AreTold (xs ++ ys)
told-append [] ys c d = d
told-append (x ∷ xs) ys c d = (c.0, told-append xs ys c.1 d)

-- ---- a query

results-caused : (results : List BoundExpr) (env : Environment) → RowsCaused env.rows → AreCaused (map (λ r. value_of r env) results)
results-caused [] env c = tt
results-caused (r ∷ results) env c = (value_of-caused r env c, results-caused results env c)

abbrev MayBeCaused : Option Out → Type 0
MayBeCaused None = ⊤
MayBeCaused (Some a) = IsCaused a

after-caused : (causes : Out) (t : Truth) → IsCaused causes → IsCausedTruth t → MayBeCaused (after_conjunct causes t)
after-caused causes truth.True c h = c
after-caused causes truth.False c h = tt
after-caused causes truth.Unknown c h = tt
after-caused causes (truth.Failed why) c h = merged-caused (Bad why) causes (record { told = h.told }) c

if_some-caused : (o : Option Out) (g : Out → Option Out) → MayBeCaused o → ((a : Out) → IsCaused a → MayBeCaused (g a)) → MayBeCaused (if_some o g)
if_some-caused None g c h = tt
if_some-caused (Some a) g c h = h a c

sifted-caused : (conjuncts : List BoundExpr) (env : Environment) (causes : Out) → RowsCaused env.rows → IsCaused causes → MayBeCaused (sifted conjuncts env causes)
sifted-caused [] env causes r c = c
sifted-caused (x ∷ xs) env causes r c =
    if_some-caused (after_conjunct causes (truth_in (truth_of (value_of x env)))) (sifted xs env)
    (after-caused causes (truth_in (truth_of (value_of x env))) c (truth_in-caused (truth_of (value_of x env)) (truth_of-caused (value_of x env) (value_of-caused x env r))))
    (λ a h. sifted-caused xs env a r h)

shown-told : (results : List BoundExpr) (env : Environment) (o : Option Out) → RowsCaused env.rows → MayBeCaused o → AreTold (option_to_list (option_map (shown results env) o))
shown-told results env None r c = tt
shown-told results env (Some a) r c = (item_of-told a (map (λ r. value_of r env) results) c (results-caused results env r), tt)

at-told : (conjuncts results : List BoundExpr) (env : Environment) (causes : Out) → RowsCaused env.rows → IsCaused causes → AreTold (items_at conjuncts results env causes)
at-told conjuncts results env causes r c = shown-told results env (sifted conjuncts env causes) r (sifted-caused conjuncts env causes r c)

-- ---- the rows of a FROM

abbrev FromCaused : FromRow → Type 0
FromCaused row = RowsCaused row.rows × IsCaused row.causes

abbrev EachCaused : List FromRow → Type 0
EachCaused [] = ⊤
EachCaused (row ∷ others) = FromCaused row × EachCaused others

each-append : (xs ys : List FromRow) → EachCaused xs → EachCaused ys → EachCaused (xs ++ ys)
each-append [] ys c d = d
each-append (x ∷ xs) ys c d = (c.0, each-append xs ys c.1 d)

-- those of each row of an item
each-flat : (f : ItemRow → List FromRow) (rows : List ItemRow) → RowsCaused rows → ((r : ItemRow) → RowCaused r → EachCaused (f r)) → EachCaused (flat_map f rows)
each-flat f [] c h = tt
each-flat f (r ∷ rows) c h = each-append (f r) (flat_map f rows) (h r c.0) (each-flat f rows c.1 h)

each-map : (f : ItemRow → FromRow) (rows : List ItemRow) → RowsCaused rows → ((r : ItemRow) → RowCaused r → FromCaused (f r)) → EachCaused (map f rows)
each-map f [] c h = tt
each-map f (r ∷ rows) c h = (h r c.0, each-map f rows c.1 h)

-- those of each row of a FROM
each-more : (f : FromRow → List FromRow) (rows : List FromRow) → EachCaused rows → ((row : FromRow) → FromCaused row → EachCaused (f row)) → EachCaused (flat_map f rows)
each-more f [] c h = tt
each-more f (row ∷ rows) c h = each-append (f row) (flat_map f rows) (h row c.0) (each-more f rows c.1 h)

no_row-caused : RowCaused null_row
no_row-caused = (tt, good value.Null, good value.Null)

no_rows-caused : (width : ℕ) → RowsCaused (replicate width null_row)
no_rows-caused zero = tt
no_rows-caused (suc width) = (no_row-caused, no_rows-caused width)

placed-caused : (rows : List ItemRow) (place : ℕ) (r : ItemRow) → RowsCaused rows → RowCaused r → RowsCaused (slice_set rows place r)
placed-caused [] place r c d = tt
placed-caused (x ∷ rows) zero r c d = (d, c.1)
placed-caused (x ∷ rows) (suc place) r c d = (c.0, placed-caused rows place r c.1 d)

with_item-caused : (place : ℕ) (row : FromRow) (r : ItemRow) → FromCaused row → RowCaused r → FromCaused (with_item place row r)
with_item-caused place row r c d = (placed-caused row.rows place r c.0 d, merged-caused r.causes row.causes d.1 c.1)

passed_by-caused : (row : FromRow) (kept : Option Out) → RowsCaused row.rows → MayBeCaused kept → EachCaused (option_to_list (option_map (λ causes. record row { causes = causes }) kept))
passed_by-caused row None c d = tt
passed_by-caused row (Some causes) c d = ((c, d), tt)

passed-caused : (env : Environment) (conjuncts : List BoundExpr) (row : FromRow) → FromCaused row → EachCaused (from_row.passed env conjuncts row)
passed-caused env conjuncts row c =
    passed_by-caused row (sifted conjuncts (in_row env row) row.causes) c.0 (sifted-caused conjuncts (in_row env row) row.causes c.0 c.1)

or_alone-caused : (row : FromRow) (pairs : List FromRow) → FromCaused row → EachCaused pairs → EachCaused (or_alone row pairs)
or_alone-caused row [] c d = (c, tt)
or_alone-caused row (pair ∷ pairs) c d = d

joined-caused : (env : Environment) (place : ℕ) (rows : List ItemRow) (j : Join) (row : FromRow) → RowsCaused rows → FromCaused row → EachCaused (joined env place rows j row)
joined-caused env place rows join.Inner row c d = each-map (with_item place row) rows c (λ r h. with_item-caused place row r d h)
joined-caused env place rows (join.Left ons) row c d =
    let pairs : ItemRow → List FromRow = λ r. from_row.passed env ons (with_item place row r) in
    or_alone-caused row (flat_map pairs rows) d (each-flat pairs rows c (λ r h. passed-caused env ons (with_item place row r) (with_item-caused place row r d h)))

table-caused : (ignored : List (Option ℕ)) (column : Option ℕ) (rows : List StoredRow) → RowsCaused (map (λ r. ignoring ignored (table_row (seen column r))) rows)
table-caused ignored column [] = tt
table-caused ignored column (r ∷ rows) = (ignoring-caused ignored (table_row (seen column r)) (row-caused (seen column r)), table-caused ignored column rows)

product_from-caused : (ctx : Context) (env : Environment) (place : ℕ) (items : List FromItem) (row : FromRow) → FromCaused row → EachCaused (product_from env place (map (joined_item ctx) items) row)
product_from-caused ctx env place [] row c = (c, tt)
product_from-caused ctx env place (i ∷ items) row c =
    each-more (product_from env (suc place) (map (joined_item ctx) items)) (joined env place (item_rows ctx i) i.join row)
    (joined-caused env place (item_rows ctx i) i.join row (table-caused i.ignored i.table.rowid (rows_at ctx.state.world.tables i.table.number)) c)
    (λ pair d. product_from-caused ctx env (suc place) items pair d)

-- the rows of a FROM, and the causes that they carry
product-caused : (ctx : Context) (items : List FromItem) → EachCaused (from_rows ctx items)
product-caused ctx items =
    let width = length (map (joined_item ctx) items) in
    product_from-caused ctx (environment_at ctx []) 0 items (no_rows width) (no_rows-caused width, good value.Null)

items-told : (ctx : Context) (conjuncts results : List BoundExpr) (all : List FromRow) → EachCaused all → AreTold (flat_map (λ (row : FromRow). items_at conjuncts results (environment_at ctx row.rows) row.causes) all)
items-told ctx conjuncts results [] c = tt
items-told ctx conjuncts results (row ∷ all) c =
    told-append (items_at conjuncts results (environment_at ctx row.rows) row.causes) (flat_map (λ (row : FromRow). items_at conjuncts results (environment_at ctx row.rows) row.causes) all)
    (at-told conjuncts results (environment_at ctx row.rows) row.causes c.0.0 c.0.1) (items-told ctx conjuncts results all c.1)

-- ---- a refusal

-- one of its causes is named
abbrev ToldRefusal : Option CauseSet → Type 0
ToldRefusal None = ⊤
ToldRefusal (Some causes) = (why : Cause) × (has_cause causes why ≡ true)

told_only : (why : Cause) → ToldRefusal (Some (only why))
told_only why = (why, has_cause-only why)

told_named : (causes : CauseSet) → IsCausedSet causes → ToldRefusal (Some (named causes))
told_named causes (inl h) = (h.0, named-other causes h.0 h.1 h.2)
told_named causes (inr is) = subst (λ s. ToldRefusal (Some (named s))) (sym is) (subst (λ s. ToldRefusal (Some s)) (sym (named-only cause.Skip)) (told_only cause.Skip))

refusal-named : (causes : Option CauseSet) → ToldCauses causes → ToldRefusal (option_map named causes)
refusal-named None c = tt
refusal-named (Some causes) c = told_named causes c

-- ---- a write

-- where it fails it has a cause
abbrev ToldFailure : CauseSet → Written → Type 0
ToldFailure causes x = IsCausedSet causes

abbrev ToldStep : {A : Type 0} → Step A → Type 0
ToldStep s = Gives (λ a x. ⊤) (λ x. ⊤) ToldFailure s

abbrev ToldRow : Result NewRow CauseSet → Type 0
ToldRow (Ok new) = ⊤
ToldRow (Err causes) = IsCausedSet causes

default-caused : (env : Environment) (x : Option BoundExpr) → RowsCaused env.rows → IsCaused (or_default env x)
default-caused env None r = good value.Null
default-caused env (Some x) r = value_of-caused x env r

value_for-caused : (env : Environment) (source : List Value) (place : Option ℕ) (x : Option BoundExpr) → RowsCaused env.rows → IsCaused (value_for env source place x)
value_for-caused env source (Some place) x r = good (slice_index_or source place value.Null)
value_for-caused env source None x r = default-caused env x r

stored_for-caused : (env : Environment) (columns : List PutColumn) (source : List Value) → RowsCaused env.rows → AreCaused (stored_for env columns source)
stored_for-caused env [] source r = tt
stored_for-caused env (c ∷ columns) source r =
    (turned-caused (store_as c.affinity) (value_for env source c.place c.default) (store_as-caused c.affinity) (value_for-caused env source c.place c.default r), stored_for-caused env columns source r)

beside-caused : (from : RowidFrom) (source : List Value) → AreCaused (rowid_beside from source)
beside-caused rowid.Drawn source = tt
beside-caused (rowid.Given place) source = (store_as-caused affinity.Integer (slice_index_or source place value.Null), tt)
beside-caused (rowid.Column place) source = tt

caused-append : (outs others : List Out) → AreCaused outs → AreCaused others → AreCaused (outs ++ others)
caused-append [] others c d = d
caused-append (a ∷ outs) others c d = (c.0, caused-append outs others c.1 d)

new_by-told : (from : RowidFrom) (outs beside : List Out) (a : Out) → IsCaused a → ToldRow (new_by from outs beside a)
new_by-told from outs beside (Good v) c = tt
new_by-told from outs beside (Bad causes) c = c.told

new_row-told : (env : Environment) (b : BoundInsert) (source : List Value) → RowsCaused env.rows → ToldRow (new_row env b source)
new_row-told env b source r =
    let outs = stored_for env b.columns source in
    let beside = rowid_beside b.rowid source in
    new_by-told b.rowid outs beside (fold with_causes no_causes (outs ++ beside))
    (all_causes-caused no_causes (outs ++ beside) (good value.Null) (caused-append outs beside (stored_for-caused env b.columns source r) (beside-caused b.rowid source)))

settled-told : (r : Result NewRow CauseSet) (x : Written) → ToldRow r → ToldStep (settled r x)
settled-told (Ok new) x c = tt
settled-told (Err causes) x c = c

drawn-told : (table : List ℕ) (n : Option ℤ) (x : Written) → ToldStep (drawn table n x)
drawn-told table None x = only-caused (cause.Full table)
drawn-told table (Some n) x = tt

given-told : (b : Bool) (n : ℤ) (x : Written) → ToldStep (if b then Done n x else Fails (only cause.Mismatch) x)
given-told true n x = tt
given-told false n x = only-caused cause.Mismatch

fixed-told : (table : List ℕ) (rows : List StoredRow) (v : Value) (x : Written) → ToldStep (fixed table rows v x)
fixed-told table rows value.Null x = drawn-told table (next_rowid rows) x
fixed-told table rows (value.Integer n) x = given-told (fits_integer n) n x
fixed-told table rows (value.Text text) x = only-caused cause.Mismatch
fixed-told table rows (value.Blob bytes) x = only-caused cause.Mismatch

unless_broken-told : (b : Bool) (why : Cause) (x : Written) → ToldStep (unless_broken b why x)
unless_broken-told false why x = tt
unless_broken-told true why x = only-caused why

passed-told : (table : List ℕ) (t : Truth) (x : Written) → IsCausedTruth t → ToldStep (passed table t x)
passed-told table truth.True x c = tt
passed-told table truth.False x c = only-caused (cause.Constraint constraint.Check table)
passed-told table truth.Unknown x c = tt
passed-told table (truth.Failed causes) x c = c.told

then-told : {A B : Type 0} (s : Step A) (k : A → Written → Step B) → ToldStep s → ((a : A) (x : Written) → ToldStep (k a x)) → ToldStep (s then k)
then-told {A} {B} s k c h = gives-then (λ x. ⊤) ToldFailure (λ (a : A) x. ⊤) (λ (b : B) x. ⊤) s k c (λ a x t. h a x)

each-told : {A : Type 0} (f : A → Written → Effect) (xs : List A) (x : Written) → ((a : A) (y : Written) → ToldStep (f a y)) → ToldStep (each f xs x)
each-told {A} f xs x turn = gives-each (λ y. ⊤) ToldFailure (λ y. ⊤) f xs x (λ a y t. turn a y) tt

checked-told : (table : List ℕ) (checks : List BoundExpr) (env : Environment) (x : Written) → RowsCaused env.rows → ToldStep (checked table checks env x)
checked-told table checks env x r =
    each-told (λ c y. passed table (truth_in (truth_of (value_of c env))) y) checks x
    (λ c y. passed-told table (truth_in (truth_of (value_of c env))) y (truth_in-caused (truth_of (value_of c env)) (truth_of-caused (value_of c env) (value_of-caused c env r))))

tested-told : (env : Environment) (b : BoundInsert) (rows : List StoredRow) (r : StoredRow) (x : Written) → ToldStep (tested env b rows r x)
tested-told env b rows r x =
    let taken : Written → Effect = unless_broken (is_met b.keys rows (kept b r)) (cause.Constraint constraint.Unique b.name) in
    let lacks : Written → Effect = unless_broken (lacks_value b.columns r.values) (cause.Constraint constraint.NotNull b.name) in
    then-told (lacks x) (λ u y. checked b.name b.checks (at_row env r) y then λ v z. placed b rows r z) (unless_broken-told (lacks_value b.columns r.values) (cause.Constraint constraint.NotNull b.name) x)
    (λ u y. then-told (checked b.name b.checks (at_row env r) y) (λ v z. placed b rows r z) (checked-told b.name b.checks (at_row env r) y (row-caused r, tt))
    (λ v z. then-told (taken z) (λ w z. Done (kept b r) z) (unless_broken-told (is_met b.keys rows (kept b r)) (cause.Constraint constraint.Unique b.name) z) (λ w z. tt)))

fitted-told : (env : Environment) (b : BoundInsert) (rows : List StoredRow) (new : NewRow) (x : Written) → ToldStep (fitted env b rows new x)
fitted-told env b rows new x =
    then-told (fixed b.name rows new.rowid x) (λ n y. tested env b rows (with_rowid b new n) y) (fixed-told b.name rows new.rowid x) (λ n y. tested-told env b rows (with_rowid b new n) y)

row_put-told : (env : Environment) (b : BoundInsert) (source : List Value) (x : Written) → RowsCaused env.rows → ToldStep (row_put env b source x)
row_put-told env b source x r =
    then-told (settled (new_row env b source) x) (λ new y. row_changed env b new y) (settled-told (new_row env b source) x (new_row-told env b source r))
    (λ new y. then-told (fitted env b (rows_at y.world b.table) new y) (λ row z. done (with_row z b.table row)) (fitted-told env b (rows_at y.world b.table) new y) (λ row z. tt))

rows_put-told : (env : Environment) (b : BoundInsert) (source : List (List Value)) (x : Written) → RowsCaused env.rows → ToldStep (rows_put env b source x)
rows_put-told env b source x r =
    each-told (λ row y. or_next (row_put env b row y)) source x
    (λ row y. gives-or_next (λ u z. ⊤) (λ z. ⊤) (λ z. ⊤) ToldFailure (row_put env b row y) (λ z t. tt) (row_put-told env b row y r))

closed-told : (state : State) (s : Effect) → ToldStep s → ToldRefusal (closed state s).refusal
closed-told state (Done u x) c = tt
closed-told state (Left x) c = tt
closed-told state (Fails causes x) c = told_named causes c

with_others-told : (causes : CauseSet) (others : Option CauseSet) → ToldRefusal (Some causes) → ToldRefusal (Some (with_others causes others))
with_others-told causes None c = c
with_others-told causes (Some others) c =
    (c.0, set.contains-union nat_list_cmp_total causes others (cause_key c.0) ∙ ap (λ b. b || has_cause others c.0) c.1)

causes_of-told : (items : List Item) → AreTold items → ToldRefusal (causes_of items)
causes_of-told [] c = tt
causes_of-told (Row row ∷ items) c = causes_of-told items c.1
causes_of-told (Failed causes ∷ items) c = with_others-told (named causes) (causes_of items) (told_named causes c.0)

put_source-told : (ctx : Context) (p : Put) (causes : Option CauseSet) (source : List (List Value)) → ToldRefusal causes → ToldRefusal (put_source ctx p causes source).refusal
put_source-told ctx p (Some causes) source c = c
put_source-told ctx p None source c =
    closed-told ctx.state (rows_put (environment_at ctx []) p.insert source (begun ctx.state)) (rows_put-told (environment_at ctx []) p.insert source (begun ctx.state) tt)

-- rows of values
rows-told : (ctx : Context) (rows : List (List BoundExpr)) → AreTold (shown_rows ctx rows)
rows-told ctx [] = tt
rows-told ctx (row ∷ rows) = (item_of-told no_causes (map (λ r. value_of r (environment_at ctx [])) row) (good value.Null) (results-caused row (environment_at ctx []) tt), rows-told ctx rows)

-- ---- any statement

index-told : (state : State) (i : NewIndex) (broken : Bool)
    → ToldRefusal (if broken then failed state (only (cause.Constraint constraint.Unique i.table.name)) else outcome.done [] (with_catalog state (with_entry i.entry state.world.catalog))).refusal
index-told state i true = refusal-named (Some (only (cause.Constraint constraint.Unique i.table.name))) (only-caused (cause.Constraint constraint.Unique i.table.name))
index-told state i false = tt

outcome_of-told : (ctx : Context) (b : Runnable) → ToldRefusal (outcome_of ctx b).refusal
outcome_of-told ctx (Creates e) = tt
outcome_of-told ctx (Drops t) = tt
outcome_of-told ctx (Indexes i) =
    index-told ctx.state i (i.unique && has_doubles i.terms (rows_at ctx.state.world.tables i.table.number))
outcome_of-told ctx (Unindexes name) = tt
outcome_of-told ctx (Puts p) = put_source-told ctx p (causes_of (source_of ctx p)) (given_of (source_of ctx p)) (causes_of-told (source_of ctx p) (rows-told ctx p.insert.rows))
outcome_of-told ctx (Shows rows) = refusal-named (refusal_of (shown_rows ctx rows)) (refusal_of-told (shown_rows ctx rows) (rows-told ctx rows))
outcome_of-told ctx DoesNothing = tt
outcome_of-told ctx (Explains how b) = tt
outcome_of-told ctx (Queries q) = refusal-named (refusal_of (items_of ctx q)) (refusal_of-told (items_of ctx q) (items-told ctx q.conjuncts q.results (from_rows ctx q.from) (product-caused ctx q.from)))

bound_outcome-told : (ctx : Context) (r : Result Runnable Cause) → ToldRefusal (bound_outcome ctx r).refusal
bound_outcome-told ctx (Ok b) = outcome_of-told ctx b
bound_outcome-told ctx (Err why) = told_only why

by_name : (causes : Option CauseSet) → ToldRefusal causes → (why : Option Cause) × IsNamed causes why
by_name None c = (None, tt)
by_name (Some causes) c = (Some c.0, c.1)

-- a refusal has a cause that can be named
pub text_outcome-named : (ctx : Context) (text : List ℕ) → (why : Option Cause) × IsNamed (text_outcome ctx text).refusal why
text_outcome-named ctx text = by_name (text_outcome ctx text).refusal (bound_outcome-told ctx (bound_for ctx text))
