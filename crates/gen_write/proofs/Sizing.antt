-- How many instructions an INSERT takes by how large it is.
use Rattle.std.proofs.Common.{◌≡◌, ℕ, zero, suc, ◌+◌, ◌*◌, ◌≤◌, ◌<◌, Bool, true, false, not, ◌&&◌, List, [], ◌∷◌, length, if◌then◌else◌, nat_lt, refl, ap, ◌∙◌, arith}
use Rattle.std.specs.Prelude.{Option, Some, None, is_some, sum_by}
use Rattle.std.specs.List.{list_all}
use Rattle.std.proofs.Math.Nat.{mul-le-mul_left}
use Rattle.std.proofs.lemmas.List.Sums.{sum_by-cons}
use Rattle.gen_expr.specs.Steps.{steps_of}
use Rattle.gen_expr.proofs.Bounds.{steps_and_two_within}
use Rattle.gen_write.specs.Writes.{LiteralsTakeNoSteps, StepsAreFew, and_refused, check_steps, checks_steps, column_steps, columns_beside, default_nodes, insert_steps, is_bare, is_plain, is_within, may_be_met, met_steps, nodes_within, null_steps, plain_literal, read_steps, row_bound, row_steps, rowid_given, rowid_steps, source_of, steps_unless, stored_steps, turns_of, value_steps}
use Rattle.bound_size.specs.Sizes.{all_nodes}
use Rattle.bound_tree.specs.Exprs.{BoundExpr}
use Rattle.sql_meaning.specs.Statement.{refusal_of}
use Rattle.sql_meaning.specs.declared.bound.BoundInsert.{BoundInsert}
use Rattle.sql_meaning.specs.declared.bound.PutColumn.{PutColumn}
use Rattle.sql_meaning.specs.declared.bound.RowidFrom.{RowidFrom}
use Rattle.sql_meaning.specs.declared.bound.RowidFrom.TheVariants as rowid
use Rattle.sql_words.specs.declared.literal.Literal.{Literal}

-- ---- a test takes three, and none where there is nothing to test

pub refused-more : (n : ℕ) → n ≤ and_refused n
refused-more zero = omega arith
refused-more (suc n) = omega arith

pub refused-busy : (n : ℕ) → 0 < n → n + 3 ≤ and_refused n
refused-busy zero lt = absurd (omega (arith, lt))
refused-busy (suc n) lt = omega arith

refused-few : (n : ℕ) → and_refused n ≤ n + 3
refused-few zero = omega arith
refused-few (suc n) = omega arith

-- ---- by nodes

unless-few : (o : Option Literal) (n : ℕ) → steps_unless o n ≤ n + 1
unless-few None n = omega arith
unless-few (Some l) n = omega arith

values-few : (es : List BoundExpr) → sum_by value_steps es ≤ 3 * all_nodes es
values-few [] = omega arith
values-few (e ∷ es) = omega (arith, steps_and_two_within e, unless-few (plain_literal e) (steps_of e), values-few es, sum_by-cons value_steps e es)

rows-few : (rows : List (List BoundExpr)) → sum_by read_steps rows ≤ 3 * sum_by all_nodes rows + 3 * length rows
rows-few [] = omega arith
rows-few (row ∷ rows) =
    omega (arith, refused-few (sum_by value_steps row), values-few row, rows-few rows, sum_by-cons read_steps row rows, sum_by-cons all_nodes row rows)

-- a row of values by its columns, defaults and CHECKs
stored-few : (place : Option ℕ) (default : Option BoundExpr) → stored_steps place default ≤ 3 * nodes_within default + 3
stored-few None None = omega arith
stored-few None (Some x) = omega (arith, steps_and_two_within x)
stored-few (Some k) default = omega arith

columns-few : (columns : List PutColumn) → sum_by column_steps columns ≤ 3 * sum_by default_nodes columns + 3 * length columns
columns-few [] = omega arith
columns-few (c ∷ columns) =
    omega (arith, stored-few c.place c.default, columns-few columns, sum_by-cons column_steps c columns, sum_by-cons default_nodes c columns)

null-few : (b : Bool) → (if b then 3 else 0) ≤ 3
null-few true = omega arith
null-few false = omega arith

nulls-few : (columns : List PutColumn) → sum_by null_steps columns ≤ 3 * length columns
nulls-few [] = omega arith
nulls-few (c ∷ columns) = omega (arith, null-few c.not_null, nulls-few columns, sum_by-cons null_steps c columns)

each-few : (checks : List BoundExpr) → sum_by check_steps checks ≤ 3 * all_nodes checks + 3 * length checks
each-few [] = omega arith
each-few (c ∷ checks) = omega (arith, steps_and_two_within c, each-few checks, sum_by-cons check_steps c checks)

checks-few : (checks : List BoundExpr) → checks_steps checks ≤ 3 * all_nodes checks + 3 * length checks + 2
checks-few [] = omega arith
checks-few (c ∷ checks) = omega (arith, each-few (c ∷ checks))

rowid-few : (given : Option ℕ) → rowid_steps given ≤ 4
rowid-few None = omega arith
rowid-few (Some place) = omega arith

met-few : (may : Bool) → met_steps may ≤ 3
met-few true = omega arith
met-few false = omega arith

-- what is given beside the columns does not stand among them
put-few : (from : RowidFrom) (width : ℕ) → sum_by column_steps (columns_beside from) + insert_steps (is_within from width) ≤ 4
put-few rowid.Drawn width = omega arith
put-few (rowid.Given place) width = omega arith
put-few (rowid.Column place) width = omega (arith, by (nat_lt place width))
  where
    by : (b : Bool) → insert_steps b ≤ 4
    by true = omega arith
    by false = omega arith

row-few : (b : BoundInsert) → row_steps b ≤ row_bound b
row-few b =
    omega (arith, columns-few b.columns, put-few b.rowid (length b.columns), rowid-few (rowid_given b.rowid (length b.columns)), nulls-few b.columns, checks-few b.checks, met-few (may_be_met (rowid_given b.rowid (length b.columns)) b.keys))

pub steps-few : (b : BoundInsert) → StepsAreFew b
steps-few b x =
    let turns = turns_of (refusal_of (source_of b x)) (length b.rows) in
    omega (arith, rows-few b.rows, mul-le-mul_left turns (row-few b))

-- ---- of literals

both : (a b : Bool) → (a && b) ≡ true → (a ≡ true) × (b ≡ true)
both true b e = (refl, e)
both false b e = cc

unless-none : (o : Option Literal) (n : ℕ) → is_some o ≡ true → steps_unless o n ≡ 0
unless-none None n e = cc
unless-none (Some l) n e = refl

values-none : (es : List BoundExpr) → list_all is_plain es ≡ true → sum_by value_steps es ≡ 0
values-none [] h = refl
values-none (e ∷ es) h =
    let known = both (is_plain e) (list_all is_plain es) h in
    omega (arith, unless-none (plain_literal e) (steps_of e) known.0, values-none es known.1, sum_by-cons value_steps e es)

rows-none : (rows : List (List BoundExpr)) → list_all (list_all is_plain) rows ≡ true → sum_by read_steps rows ≡ 0
rows-none [] h = refl
rows-none (row ∷ rows) h =
    let known = both (list_all is_plain row) (list_all (list_all is_plain) rows) h in
    omega (arith, ap and_refused (values-none row known.0), rows-none rows known.1, sum_by-cons read_steps row rows)

bare : (c : PutColumn) → is_bare c ≡ true → (column_steps c ≡ 3) × (null_steps c ≡ 0)
bare c h = by c.place c.default c.not_null h
  where
    by : (place : Option ℕ) (default : Option BoundExpr) (not_null : Bool) → (not not_null && not (is_some default)) ≡ true → (stored_steps place default ≡ 3) × (◌≡◌ {A = ℕ} (if not_null then 3 else 0) 0)
    by place default true h = absurd (cc)
    by None None false h = (refl, refl)
    by None (Some x) false h = absurd (cc)
    by (Some k) default false h = (refl, refl)

bare-all : (columns : List PutColumn) → list_all is_bare columns ≡ true → (sum_by column_steps columns ≡ 3 * length columns) × (sum_by null_steps columns ≡ 0)
bare-all [] h = (omega arith, refl)
bare-all (c ∷ columns) h =
    let known = both (is_bare c) (list_all is_bare columns) h in
    let first = bare c known.0 in
    let rest = bare-all columns known.1 in
    (omega (arith, first.0, rest.0, sum_by-cons column_steps c columns), omega (arith, first.1, rest.1, sum_by-cons null_steps c columns))

row-bare : (b : BoundInsert) → list_all is_bare b.columns ≡ true → b.checks ≡ [] → b.rowid ≡ rowid.Drawn → row_steps b ≡ 3 * length b.columns + 5 + met_steps (may_be_met None b.keys)
row-bare b h none drawn =
    let columns = bare-all b.columns h in
    let beside : sum_by column_steps (columns_beside b.rowid) ≡ 0 = ap (λ from. sum_by column_steps (columns_beside from)) drawn in
    let rowids : rowid_steps (rowid_given b.rowid (length b.columns)) ≡ 1 = ap (λ from. rowid_steps (rowid_given from (length b.columns))) drawn in
    let checks : checks_steps b.checks ≡ 0 = ap checks_steps none in
    let put : insert_steps (is_within b.rowid (length b.columns)) ≡ 1 = ap (λ from. insert_steps (is_within from (length b.columns))) drawn in
    let met : met_steps (may_be_met (rowid_given b.rowid (length b.columns)) b.keys) ≡ met_steps (may_be_met None b.keys) = ap (λ from. met_steps (may_be_met (rowid_given from (length b.columns)) b.keys)) drawn in
    omega (arith, columns.0, columns.1, beside, rowids, checks, put, met)

pub literals-none : (b : BoundInsert) → LiteralsTakeNoSteps b
literals-none b h bare_columns none drawn x =
    let turns = turns_of (refusal_of (source_of b x)) (length b.rows) in
    ap (λ n. n + turns * row_steps b + 4) (rows-none b.rows h)
    ∙ ap (λ n. 0 + turns * n + 4) (row-bare b bare_columns none drawn)
    ∙ omega arith
