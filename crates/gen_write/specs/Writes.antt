-- What the programs of writes perform over lists of rows, and in how many instructions at most.
use Rattle.std.specs.Prelude.{◌≡◌, ℕ, zero, suc, ◌+◌, ◌*◌, ◌≤◌, nat_lt, Bool, true, false, not, ◌&&◌, All, List, [], ◌∷◌, length, map, sum_by, ℤ, Option, Some, None, is_some, if◌then◌else◌}
use Rattle.std.specs.List.{flat_map, list_all}
use Rattle.bound_size.specs.Sizes.{all_nodes, nodes_of}
use Rattle.bound_tree.specs.Exprs as e
use Rattle.bound_tree.specs.Exprs.{BoundExpr}
use Rattle.eng_index.specs.Keys.{has_doubles}
use Rattle.eng_index.specs.declared.key_term.KeyTerm.{KeyTerm}
use Rattle.eng_value.specs.Causes.{CauseSet, only}
use Rattle.eng_value.specs.Environments.{Environment, Surroundings, environment, no_causes}
use Rattle.eng_value.specs.Written.{Written, unwritten}
use Rattle.eng_value.specs.declared.affinity.Affinity.{Affinity}
use Rattle.eng_value.specs.declared.affinity.Affinity.TheVariants as affinity
use Rattle.eng_value.specs.declared.cause.Cause.TheVariants.{Constraint}
use Rattle.eng_value.specs.declared.cause.ConstraintKind.TheVariants.{Unique}
use Rattle.eng_value.specs.declared.value.Value.{Value}
use Rattle.gen_expr.specs.Needs.{needs_of}
use Rattle.gen_expr.specs.Steps.{steps_of}
use Rattle.sql_meaning.specs.Rows.{fitted, new_row}
use Rattle.sql_meaning.specs.Statement.{Item, given_of, refusal_of, shown}
use Rattle.sql_meaning.specs.Steps.{Effect, Done, Left, Fails, ◌then◌, done, settled}
use Rattle.sql_meaning.specs.declared.bound.BoundInsert.{BoundInsert}
use Rattle.sql_meaning.specs.declared.bound.RowidFrom.{RowidFrom}
use Rattle.sql_meaning.specs.declared.bound.RowidFrom.TheVariants as rowid
use Rattle.sql_words.specs.declared.literal.Literal.{Literal}
use Rattle.sql_words.specs.declared.literal.Literal.TheVariants as literal
use Rattle.sql_meaning.specs.declared.bound.PutColumn.{PutColumn}
use Rattle.vm_code.specs.declared.open_cursor.Need.{Need}
use Rattle.vm_code.specs.declared.open_cursor.Need.TheVariants as need
use Rattle.vm_code.specs.Machine.{World, Finished, Run, Shared, ending_by, rows_of, with_row, with_table, without_rows}

-- nothing is given and nothing is written
abbrev pub untouched : World → ℤ → Shared
untouched w last_rowid = record { given = []; written = unwritten w last_rowid }

-- ---- CREATE TABLE

-- a table without rows comes behind the others
abbrev pub create_run : Surroundings → ℤ → Run
create_run x last_rowid = record { ending = Finished; shared = record (untouched x.world last_rowid) { written = with_table (unwritten x.world last_rowid) } }

abbrev pub create_steps : Surroundings → ℕ
create_steps x = 2

-- ---- DROP TABLE

-- the table of this number loses its rows
abbrev pub drop_run : ℕ → Surroundings → ℤ → Run
drop_run table x last_rowid = record { ending = Finished; shared = record (untouched x.world last_rowid) { written = without_rows (unwritten x.world last_rowid) table } }

abbrev pub drop_steps : Surroundings → ℕ
drop_steps x = 2

-- ---- CREATE INDEX

-- no two rows of the table may share the key of an index that is unique
abbrev pub doubles_refused : ℕ → List ℕ → List KeyTerm → Bool → World → Option CauseSet
doubles_refused table name terms unique w =
    if unique && has_doubles terms (rows_of w table) then Some (only (Constraint Unique name)) else None

-- that is all that the run finds out: nothing is given and nothing is written
abbrev pub index_run : ℕ → List ℕ → List KeyTerm → Bool → Surroundings → ℤ → Run
index_run table name terms unique x last_rowid =
    record { ending = ending_by (doubles_refused table name terms unique x.world); shared = untouched x.world last_rowid }

abbrev pub index_steps : Surroundings → ℕ
index_steps x = 4

-- ---- a statement that does nothing

abbrev pub nothing_run : Surroundings → ℤ → Run
nothing_run x last_rowid = record { ending = Finished; shared = untouched x.world last_rowid }

abbrev pub nothing_steps : Surroundings → ℕ
nothing_steps x = 1

-- ---- INSERT

-- what a stretch of a write comes to: it goes on, or it gives up for causes, with this shared
pub record Course : Type 0 where
  pub causes : Option CauseSet
  pub shared : Shared

abbrev pub finished : Shared → Course
finished x = record { causes = None; shared = x }

abbrev pub failed : CauseSet → Shared → Course
failed causes x = record { causes = Some causes; shared = x }

abbrev pub run_by : Course → Run
run_by c = record { ending = ending_by c.causes; shared = c.shared }

abbrev pub unless_failed : Option CauseSet → Shared → (Shared → Course) → Course
unless_failed None x others = others x
unless_failed (Some causes) x others = failed causes x

-- one and then another, unless the first gives up
abbrev pub and_on : Course → (Shared → Course) → Course
and_on c others = unless_failed c.causes c.shared others

-- what a part of a write leaves, beside the rest that is shared; none of an INSERT leaves its row
abbrev pub course_of : Shared → Effect → Course
course_of x (Done u y) = finished (record x { written = y })
course_of x (Left y) = finished (record x { written = y })
course_of x (Fails causes y) = failed causes (record x { written = y })

-- a row of the source is made and fitted as the definition says, beside the rows of its table, and comes among them
abbrev pub row_effect : Environment → BoundInsert → List Value → Written → Effect
row_effect env b source x =
    settled (new_row env b source) x then λ new x.
    fitted env b (rows_of x.world b.table) new x then λ row x.
    done (with_row x b.table row)

abbrev pub row_put : Environment → BoundInsert → List Value → Shared → Course
row_put env b source x = course_of x (row_effect env b source x.written)

-- one row after another
abbrev pub rows_run : Environment → BoundInsert → List (List Value) → Shared → Course
rows_run env b [] x = finished x
rows_run env b (row ∷ rows) x = and_on (row_put env b row x) (rows_run env b rows)

-- what the expressions of an INSERT see: no row of a table
abbrev pub seen_in : Surroundings → Environment
seen_in x = environment x [] [] []

-- the items of rows
abbrev pub items_in : List (List BoundExpr) → Surroundings → List Item
items_in rows x = map (λ row. shown row (seen_in x) no_causes) rows

abbrev pub source_of : BoundInsert → Surroundings → List Item
source_of b x = items_in b.rows x

-- a bad row in the source ends the run before any row is put
abbrev pub source_run : Environment → BoundInsert → Shared → Option CauseSet → List (List Value) → Course
source_run env b x (Some causes) source = failed causes x
source_run env b x None source = rows_run env b source x

abbrev pub put_run : BoundInsert → Surroundings → ℤ → Run
put_run b x last_rowid = run_by (source_run (seen_in x) b (untouched x.world last_rowid) (refusal_of (source_of b x)) (given_of (source_of b x)))

-- ---- what an INSERT needs of cursors

abbrev pub needs_of_each : List BoundExpr → List Need
needs_of_each es = flat_map needs_of es

abbrev pub needs_within : Option BoundExpr → List Need
needs_within None = []
needs_within (Some x) = needs_of x

abbrev pub default_needs : PutColumn → List Need
default_needs c = needs_within c.default

-- its source and its defaults read no row, and its CHECKs none but the one that is put, which is that of item 0
pub record NamesWhatIsThere (b : BoundInsert) : Type 0 where
  pub rows : All (All (λ (x : BoundExpr). needs_of x ≡ [])) b.rows
  pub defaults : All (λ (c : PutColumn). default_needs c ≡ []) b.columns
  pub checks : All (λ (x : BoundExpr). All (λ (n : Need). n ≡ need.Rows 0) (needs_of x)) b.checks

-- ---- how many instructions an INSERT takes

-- a literal that has a value, which is always good and the same
abbrev pub plain_of : Literal → Option Literal
plain_of (literal.Value v) = Some (literal.Value v)
plain_of (literal.Bad why) = None

abbrev pub plain_literal : BoundExpr → Option Literal
plain_literal (e.Literal l) = plain_of l
plain_literal other = None

-- an expression and its causes; such a literal is loaded where it is put
abbrev pub steps_unless : Option Literal → ℕ → ℕ
steps_unless None n = n + 1
steps_unless (Some l) n = 0

abbrev pub value_steps : BoundExpr → ℕ
value_steps x = steps_unless (plain_literal x) (steps_of x)

-- a row of the source gives up where it is bad, which one of such literals alone never is
abbrev pub and_refused : ℕ → ℕ
and_refused zero = 0
and_refused (suc n) = suc n + 3

abbrev pub read_steps : List BoundExpr → ℕ
read_steps row = and_refused (sum_by value_steps row)

-- a column loads its value or evaluates its default, and stores it
abbrev pub stored_steps : Option ℕ → Option BoundExpr → ℕ
stored_steps None (Some x) = steps_of x + 2
stored_steps None None = 3
stored_steps (Some place) default = 3

abbrev pub column_steps : PutColumn → ℕ
column_steps c = stored_steps c.place c.default

-- what is given for the rowid beside the columns is stored as a column of its own, which may be NULL
abbrev pub column_with : Affinity → Option ℕ → Option BoundExpr → PutColumn
column_with affinity place default = record { affinity = affinity; place = place; default = default; not_null = false }

abbrev pub columns_beside : RowidFrom → List PutColumn
columns_beside rowid.Drawn = []
columns_beside (rowid.Given place) = column_with affinity.Integer (Some place) None ∷ []
columns_beside (rowid.Column place) = []

-- where among what is stored the rowid stands, if something is given for it
abbrev pub rowid_given : RowidFrom → ℕ → Option ℕ
rowid_given rowid.Drawn width = None
rowid_given (rowid.Given place) width = Some width
rowid_given (rowid.Column place) width = if nat_lt place width then Some place else None

-- the rowid stands among the columns
abbrev pub is_within : RowidFrom → ℕ → Bool
is_within rowid.Drawn width = false
is_within (rowid.Given place) width = false
is_within (rowid.Column place) width = nat_lt place width

-- a rowid is drawn; one that is given is tested, or drawn where it is missing
abbrev pub rowid_steps : Option ℕ → ℕ
rowid_steps None = 1
rowid_steps (Some place) = 4

abbrev pub null_steps : PutColumn → ℕ
null_steps c = if c.not_null then 3 else 0

abbrev pub check_steps : BoundExpr → ℕ
check_steps x = steps_of x + 5

-- where there are CHECKs a cursor stands on the row for them
abbrev pub checks_steps : List BoundExpr → ℕ
checks_steps [] = 0
checks_steps (c ∷ checks) = sum_by check_steps (c ∷ checks) + 2

-- another row may be in the way of one for which a rowid is given, or which may share a key with none; looking for it takes three
abbrev pub may_be_met : Option ℕ → List (List KeyTerm) → Bool
may_be_met (Some place) keys = true
may_be_met None [] = false
may_be_met None (key ∷ keys) = true

abbrev pub met_steps : Bool → ℕ
met_steps true = 3
met_steps false = 0

-- the row is put by one; a rowid that stands among the columns is copied before, and NULL comes in its place
abbrev pub insert_steps : Bool → ℕ
insert_steps false = 1
insert_steps true = 3

-- behind what is stored stands a test whether it is bad, which takes three
abbrev pub row_steps : BoundInsert → ℕ
row_steps b =
    sum_by column_steps b.columns + sum_by column_steps (columns_beside b.rowid) + 3 + rowid_steps (rowid_given b.rowid (length b.columns))
    + sum_by null_steps b.columns + checks_steps b.checks + met_steps (may_be_met (rowid_given b.rowid (length b.columns)) b.keys)
    + insert_steps (is_within b.rowid (length b.columns))

-- the rows that are put, which a bad row of the source leaves out
abbrev pub turns_of : Option CauseSet → ℕ → ℕ
turns_of None rows = rows
turns_of (Some causes) rows = 0

abbrev pub put_steps : BoundInsert → Surroundings → ℕ
put_steps b x = sum_by read_steps b.rows + turns_of (refusal_of (source_of b x)) (length b.rows) * row_steps b + 4

-- by how many nodes there are in the source, in the defaults and in the CHECKs, and how many rows, columns and CHECKs
abbrev pub nodes_within : Option BoundExpr → ℕ
nodes_within None = 0
nodes_within (Some x) = nodes_of x

abbrev pub default_nodes : PutColumn → ℕ
default_nodes c = nodes_within c.default

abbrev pub row_bound : BoundInsert → ℕ
row_bound b = 3 * sum_by default_nodes b.columns + 6 * length b.columns + 3 * all_nodes b.checks + 3 * length b.checks + 16

abbrev pub StepsAreFew : BoundInsert → Type 0
StepsAreFew b =
    (x : Surroundings) → put_steps b x ≤ 3 * sum_by all_nodes b.rows + 3 * length b.rows + turns_of (refusal_of (source_of b x)) (length b.rows) * row_bound b + 4

-- reading a source that is made of literals with values takes none
abbrev pub is_plain : BoundExpr → Bool
is_plain x = is_some (plain_literal x)

-- a column of which a value is all that is known
abbrev pub is_bare : PutColumn → Bool
is_bare c = not c.not_null && not (is_some c.default)

-- where rowids are drawn and nothing else is known of the columns and of rows, a row takes three for each column and five, and three more where there are keys
abbrev pub LiteralsTakeNoSteps : BoundInsert → Type 0
LiteralsTakeNoSteps b =
    list_all (list_all is_plain) b.rows ≡ true → list_all is_bare b.columns ≡ true → b.checks ≡ [] → b.rowid ≡ rowid.Drawn
    → (x : Surroundings) → put_steps b x ≡ turns_of (refusal_of (source_of b x)) (length b.rows) * (3 * length b.columns + 5 + met_steps (may_be_met None b.keys)) + 4
