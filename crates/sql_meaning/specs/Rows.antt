-- The change of one row: what its values become, which tests it passes, and where it comes (INSERT; CREATE TABLE, section 3; Rowid Tables).
use Rattle.std.specs.Prelude.{ℕ, Bool, true, false, ◌&&◌, ◌||◌, List, [], ◌∷◌, ◌++◌, map, fold, ◌+◌, ℤ, Option, Some, None, Result, Ok, Err, is_some, if◌then◌else◌, slice_index_or, slice_set}
use Rattle.eng_number.specs.Numbers.{fits_integer}
use Rattle.eng_value.specs.Casts.{store_as}
use Rattle.eng_value.specs.Causes.{CauseSet, only}
use Rattle.eng_value.specs.Environments.{Environment, no_causes, table_row, with_causes}
use Rattle.eng_value.specs.Outs.{turned}
use Rattle.eng_value.specs.StoredRows.{StoredRow, next_rowid}
use Rattle.eng_value.specs.Truths.{truth_in, truth_of}
use Rattle.eng_value.specs.Written.{Written}
use Rattle.eng_value.specs.declared.affinity.Affinity.TheVariants as affinity
use Rattle.eng_value.specs.declared.cause.Cause.{Cause}
use Rattle.eng_value.specs.declared.cause.Cause.TheVariants as cause
use Rattle.eng_value.specs.declared.cause.ConstraintKind.TheVariants as constraint
use Rattle.eng_value.specs.declared.out.Out.{Out}
use Rattle.eng_value.specs.declared.out.Out.TheVariants.{Good, Bad}
use Rattle.eng_value.specs.declared.truth.Truth.{Truth}
use Rattle.eng_value.specs.declared.truth.Truth.TheVariants as truth
use Rattle.eng_value.specs.declared.value.Value.{Value}
use Rattle.eng_value.specs.declared.value.Value.TheVariants as value
use Rattle.eng_index.specs.Keys.{row_in_way}
use Rattle.eng_index.specs.Stored.{put_row}
use Rattle.eng_index.specs.declared.key_term.KeyTerm.{KeyTerm}
use Rattle.bound_tree.specs.Exprs.{BoundExpr}
use Rattle.sql_meaning.specs.declared.bound.BoundInsert.{BoundInsert}
use Rattle.sql_meaning.specs.declared.bound.PutColumn.{PutColumn}
use Rattle.sql_meaning.specs.declared.bound.RowidFrom.{RowidFrom}
use Rattle.sql_meaning.specs.declared.bound.RowidFrom.TheVariants as rowid
use Rattle.sql_meaning.specs.Expression.{value_of}
use Rattle.sql_meaning.specs.Steps.{Step, Done, Fails, Effect, ◌then◌, done, each, settled}
use Rattle.sql_meaning.specs.World.{rows_at, seen, stored}

abbrev pub good_or_null : Out → Value
good_or_null (Good v) = v
good_or_null (Bad causes) = value.Null

-- ---- the values of a new row: defaults are filled in, and then affinities are applied

-- a row that is to be put: what is given for its rowid, NULL where nothing is, and a value for each column
pub record NewRow : Type 0 where
  pub rowid : Value
  pub values : List Value

-- a column without a value takes its default, and NULL where it has none
abbrev pub or_default : Environment → Option BoundExpr → Out
or_default env None = Good value.Null
or_default env (Some x) = value_of x env

abbrev pub value_for : Environment → List Value → Option ℕ → Option BoundExpr → Out
value_for env source (Some place) default = Good (slice_index_or source place value.Null)
value_for env source None default = or_default env default

-- what the columns store for a row of the source
abbrev pub stored_for : Environment → List PutColumn → List Value → List Out
stored_for env columns source = map (λ (c : PutColumn). turned (store_as c.affinity) (value_for env source c.place c.default)) columns

-- a rowid beside the columns is stored as an INTEGER
abbrev pub rowid_beside : RowidFrom → List Value → List Out
rowid_beside rowid.Drawn source = []
rowid_beside (rowid.Given place) source = store_as affinity.Integer (slice_index_or source place value.Null) ∷ []
rowid_beside (rowid.Column place) source = []

-- what is given for the rowid
abbrev pub given_rowid : RowidFrom → List Value → List Value → Value
given_rowid rowid.Drawn beside values = value.Null
given_rowid (rowid.Given place) beside values = slice_index_or beside 0 value.Null
given_rowid (rowid.Column place) beside values = slice_index_or values place value.Null

-- the column that is the rowid, if one is
abbrev pub rowid_column : RowidFrom → Option ℕ
rowid_column rowid.Drawn = None
rowid_column (rowid.Given place) = None
rowid_column (rowid.Column place) = Some place

abbrev pub new_by : RowidFrom → List Out → List Out → Out → Result NewRow CauseSet
new_by from outs beside (Good v) = Ok (record { rowid = given_rowid from (map good_or_null beside) (map good_or_null outs); values = map good_or_null outs })
new_by from outs beside (Bad causes) = Err causes

-- it is bad for the causes of all of its columns and of its rowid
abbrev pub new_row : Environment → BoundInsert → List Value → Result NewRow CauseSet
new_row env b source =
    let outs = stored_for env b.columns source in
    let beside = rowid_beside b.rowid source in
    new_by b.rowid outs beside (fold with_causes no_causes (outs ++ beside))

-- ---- the tests

abbrev pub is_null : Value → Bool
is_null value.Null = true
is_null other = false

-- a constraint that a row breaks fails the statement, and tells the table
abbrev pub unless_broken : Bool → Cause → Written → Effect
unless_broken false why x = done x
unless_broken true why x = Fails (only why) x

-- a rowid that is missing is one more than the largest
abbrev pub drawn : List ℕ → Option ℤ → Written → Step ℤ
drawn table None x = Fails (only (cause.Full table)) x
drawn table (Some n) x = Done n x

-- one that is given is an integer of 64 bits
abbrev pub fixed : List ℕ → List StoredRow → Value → Written → Step ℤ
fixed table rows value.Null x = drawn table (next_rowid rows) x
fixed table rows (value.Integer n) x = if fits_integer n then Done n x else Fails (only cause.Mismatch) x
fixed table rows other x = Fails (only cause.Mismatch) x

-- some column is NULL that may not be
abbrev pub lacks_value : List PutColumn → List Value → Bool
lacks_value [] values = false
lacks_value (c ∷ columns) [] = false
lacks_value (c ∷ columns) (v ∷ values) = (c.not_null && is_null v) || lacks_value columns values

-- a CHECK fails on false alone
abbrev pub passed : List ℕ → Truth → Written → Effect
passed table truth.True x = done x
passed table truth.False x = Fails (only (cause.Constraint constraint.Check table)) x
passed table truth.Unknown x = done x
passed table (truth.Failed causes) x = Fails causes x

-- in order of text
abbrev pub checked : List ℕ → List BoundExpr → Environment → Written → Effect
checked table checks env x = each (λ c x. passed table (truth_in (truth_of (value_of c env))) x) checks x

-- some row is in the way: it has the rowid, or shares a key
abbrev pub is_met : List (List KeyTerm) → List StoredRow → StoredRow → Bool
is_met keys rows row = is_some (row_in_way keys rows row)

-- ---- the steps of a row, in their order

-- what a CHECK sees: the row, as item 0
abbrev pub at_row : Environment → StoredRow → Environment
at_row env row = record env { rows = table_row row ∷ [] }

-- beside these rows of its table the rowid is fixed; no column is NULL that may not be; the CHECKs pass, for which the row is as it is seen; and no
-- row is in the way
abbrev pub fitted : Environment → BoundInsert → List StoredRow → NewRow → Written → Step StoredRow
fitted env b rows new x =
    fixed b.name rows new.rowid x then λ n x.
    let row : StoredRow = seen (rowid_column b.rowid) (record { rowid = n; values = new.values }) in
    unless_broken (lacks_value b.columns row.values) (cause.Constraint constraint.NotNull b.name) x then λ u x.
    checked b.name b.checks (at_row env row) x then λ u x.
    unless_broken (is_met b.keys rows (stored (rowid_column b.rowid) row)) (cause.Constraint constraint.Unique b.name) x then λ u x.
    Done (stored (rowid_column b.rowid) row) x

-- the row comes into its table, and counts
abbrev pub with_row : Written → ℕ → StoredRow → Written
with_row x table r = record x { world = slice_set x.world table (put_row (rows_at x.world table) r); changes = x.changes + 1; last_rowid = r.rowid }

abbrev pub row_changed : Environment → BoundInsert → NewRow → Written → Effect
row_changed env b new x = fitted env b (rows_at x.world b.table) new x then λ row x. done (with_row x b.table row)

-- a row of the source
abbrev pub row_put : Environment → BoundInsert → List Value → Written → Effect
row_put env b source x = settled (new_row env b source) x then λ new x. row_changed env b new x
