-- Statements with what they come to, computed by the definitions.
use Rattle.std.specs.Prelude.{◌≡◌, ℕ, Bool, true, false, Option, List, [], ◌∷◌, map, pos, negsuc, Some, None, codes, refl}
use Rattle.std.proofs.Common.{◌∙◌, ap}
use Rattle.std.specs.FinSet as set
use Rattle.std.specs.Fmt.{digits}
use Rattle.eng_entry.specs.declared.entry.Entry.{Entry}
use Rattle.eng_number.specs.Numbers.{text_kind}
use Rattle.eng_value.specs.Casts.{store_as}
use Rattle.eng_value.specs.Causes.{named, only}
use Rattle.eng_value.proofs.CauseLaws.{named-only}
use Rattle.eng_value.specs.HostMeanings.{no_hosts}
use Rattle.eng_value.specs.StoredRows.{StoredRow}
use Rattle.eng_value.specs.Truths.{truth_of}
use Rattle.eng_value.specs.declared.affinity.Affinity.{Affinity}
use Rattle.eng_value.specs.declared.affinity.Affinity.TheVariants as affinity
use Rattle.eng_value.specs.declared.cause.Cause.TheVariants as cause
use Rattle.eng_value.specs.declared.cause.ConstraintKind.TheVariants as constraint
use Rattle.eng_value.specs.declared.cause.NameKind.TheVariants as name_kind
use Rattle.eng_value.specs.declared.value.Value.{Value}
use Rattle.eng_value.specs.declared.value.Value.TheVariants as value
use Rattle.eng_index.specs.declared.key_term.KeyTerm.{KeyTerm}
use Rattle.eng_index.specs.declared.key_term.TermSource.TheVariants as term
use Rattle.eng_value.specs.declared.built.Built.TheVariants as built
use Rattle.sql_grammar.specs.Marks.{count}
use Rattle.sql_grammar.specs.Statements.{all_statement_rules}
use Rattle.sql_lex.specs.Pieces.{word_kind}
use Rattle.sql_lex.specs.Tokens.{tokens_of}
use Rattle.sql_words.specs.Spelled.{the_text_test}
use Rattle.bound_tree.specs.Exprs as e
use Rattle.sql_words.specs.declared.literal.Literal.TheVariants as literal
use Rattle.sql_meaning.specs.declared.bound.BoundInsert.{BoundInsert}
use Rattle.sql_meaning.specs.declared.bound.Join.TheVariants as join
use Rattle.sql_meaning.specs.declared.bound.PutColumn.{PutColumn}
use Rattle.sql_meaning.specs.declared.bound.RowidFrom.TheVariants as rowid
use Rattle.sql_meaning.specs.declared.column.Column.{Column}
use Rattle.sql_meaning.specs.declared.column.TableEntry.{TableEntry}
use Rattle.sql_meaning.specs.Statement.{Item, Outcome, Row, Failed, begun, causes_of, closed, items_of, rows_put, text_outcome}
use Rattle.sql_meaning.specs.World.{State, context, environment_at, new_state, table_rows, tables_in}

abbrev run : State → List ℕ → Outcome
run state text = text_outcome (context no_hosts state []) text

-- ---- CREATE TABLE and INSERT

-- the `;` does not count among the tokens
abbrev created : State
created = (run new_state (codes "CREATE TABLE t(a INTEGER, b varchar(10), c);")).next

abbrev three_columns : List Column
three_columns = record { name = codes "a"; affinity = affinity.Integer } ∷ record { name = codes "b"; affinity = affinity.Text } ∷ record { name = codes "c"; affinity = affinity.Blob } ∷ []

abbrev the_table : TableEntry
the_table = record { name = codes "t"; columns = three_columns; rowid = None; number = 0; tokens = 15 }

the_entry : tables_in created ≡ the_table ∷ []
unfolding all_statement_rules count tokens_of word_kind the_text_test
the_entry = refl

-- the text of an entry begins at its first token, and has no `;`
the_text : map (λ (e : Entry). e.text) (run new_state (codes " CREATE TABLE u(a) ; ")).next.world.catalog.names ≡ codes "CREATE TABLE u(a)" ∷ []
unfolding all_statement_rules count tokens_of word_kind the_text_test
the_text = refl

-- rows of values for all columns of the table
abbrev plain : Affinity → ℕ → PutColumn
plain a place = record { affinity = a; place = Some place; default = None; not_null = false }

abbrev put : BoundInsert
put = record { table = 0; name = codes "t"; columns = plain affinity.Integer 0 ∷ plain affinity.Text 1 ∷ plain affinity.Blob 2 ∷ []; rowid = rowid.Drawn; checks = []; keys = []; rows = [] }

abbrev put_by : BoundInsert → List (List Value) → Outcome
put_by b rows = closed created (rows_put (environment_at (context no_hosts created []) []) b rows (begun created))

abbrev put_all : List (List Value) → Outcome
put_all rows = put_by put rows

rows_after : (put_all ((value.Text (codes "12") ∷ value.Integer (pos 7) ∷ value.Integer (negsuc 9223372036854775807) ∷ []) ∷ (value.Null ∷ value.Blob (65 ∷ []) ∷ value.Integer (pos 16) ∷ []) ∷ [])).next.world.tables
    ≡ (record { rowid = pos 1; values = value.Integer (pos 12) ∷ value.Text (codes "7") ∷ value.Integer (negsuc 9223372036854775807) ∷ [] } ∷ record { rowid = pos 2; values = value.Null ∷ value.Blob (65 ∷ []) ∷ value.Integer (pos 16) ∷ [] } ∷ []) ∷ []
unfolding all_statement_rules count tokens_of word_kind the_text_test store_as text_kind digits
rows_after = refl

-- a row that cannot be stored leaves all as it was
refused_row : (put_all ((value.Text (codes "1.5") ∷ value.Integer (pos 5) ∷ value.Null ∷ []) ∷ [])).next ≡ created
unfolding all_statement_rules count tokens_of word_kind the_text_test store_as text_kind digits
refused_row = refl

-- ---- constraints, over the same table

abbrev one : Value
one = value.Integer (pos 1)

abbrev rows_in : BoundInsert → List (List Value) → List (List StoredRow)
rows_in b rows = (put_by b rows).next.world.tables

-- the first column is the rowid: it is stored as such, and NULL in its place; it is drawn where it is NULL, and rows stand by it
abbrev by_key : BoundInsert
by_key = record put { rowid = rowid.Column 0 }

abbrev row : Value → Value → Value → List Value
row a b c = a ∷ b ∷ c ∷ []

keyed : rows_in by_key (row (value.Integer (pos 7)) value.Null one ∷ row value.Null value.Null one ∷ row (value.Text (codes "5")) value.Null one ∷ [])
    ≡ (record { rowid = pos 5; values = row value.Null value.Null one } ∷ record { rowid = pos 7; values = row value.Null value.Null one } ∷ record { rowid = pos 8; values = row value.Null value.Null one } ∷ []) ∷ []
unfolding all_statement_rules count tokens_of word_kind the_text_test store_as text_kind digits
keyed = refl

-- one that is taken, one that is no integer, and one behind the largest; the rows in front of it go too
broken_keys : ((put_by by_key (row one value.Null one ∷ row one value.Null one ∷ [])).refusal ≡ Some (named (only (cause.Constraint constraint.Unique (codes "t")))))
    × ((put_by by_key (row one value.Null one ∷ row (value.Text (codes "x")) value.Null one ∷ [])).refusal ≡ Some (named (only cause.Mismatch)))
    × ((put_by by_key (row (value.Integer (pos 9223372036854775807)) value.Null one ∷ row value.Null value.Null one ∷ [])).refusal ≡ Some (named (only (cause.Full (codes "t")))))
    × ((put_by by_key (row one value.Null one ∷ row one value.Null one ∷ [])).next ≡ created)
unfolding all_statement_rules count tokens_of word_kind the_text_test store_as text_kind digits
broken_keys = (refl, refl, refl, refl)

-- a rowid that is given beside the columns is stored as an INTEGER
given_beside : rows_in (record put { rowid = rowid.Given 3 }) ((one ∷ value.Null ∷ one ∷ value.Text (codes "4") ∷ []) ∷ []) ≡ (record { rowid = pos 4; values = row one value.Null one } ∷ []) ∷ []
unfolding all_statement_rules count tokens_of word_kind the_text_test store_as text_kind digits
given_beside = refl

-- a default stands where no value does, and is stored as one; NULL that is given is no default
abbrev by_default : BoundInsert
by_default = record put { columns = plain affinity.Integer 0 ∷ record { affinity = affinity.Text; place = None; default = Some (e.Literal (literal.Value one)); not_null = true } ∷ plain affinity.Blob 1 ∷ [] }

defaults : (rows_in by_default ((one ∷ one ∷ []) ∷ []) ≡ (record { rowid = pos 1; values = row one (value.Text (codes "1")) one } ∷ []) ∷ [])
    × ((put_by (record put { columns = plain affinity.Integer 0 ∷ record (plain affinity.Text 1) { default = Some (e.Literal (literal.Value one)); not_null = true } ∷ plain affinity.Blob 2 ∷ [] }) (row one value.Null one ∷ [])).refusal ≡ Some (named (only (cause.Constraint constraint.NotNull (codes "t")))))
unfolding all_statement_rules count tokens_of word_kind the_text_test store_as text_kind digits
defaults = (refl, refl)

-- a CHECK sees the row with the values that its columns store; it fails on false alone, and NOT NULL is tested before it
abbrev by_check : BoundInsert
by_check = record put { columns = plain affinity.Integer 0 ∷ plain affinity.Text 1 ∷ record (plain affinity.Blob 2) { not_null = true } ∷ []; checks = e.Column 0 0 ∷ e.Rowid 0 ∷ [] }

checks : ((put_by by_check (row one value.Null one ∷ row value.Null value.Null one ∷ [])).refusal ≡ None)
    × ((put_by by_check (row (value.Text (codes "0")) value.Null one ∷ [])).refusal ≡ Some (named (only (cause.Constraint constraint.Check (codes "t")))))
    × ((put_by by_check (row (value.Integer (pos 0)) value.Null value.Null ∷ [])).refusal ≡ Some (named (only (cause.Constraint constraint.NotNull (codes "t")))))
unfolding all_statement_rules count tokens_of word_kind the_text_test store_as text_kind digits truth_of
checks = (refl, refl, refl)

-- and the rowid in the column that is it, which is NULL for neither test
abbrev by_key_check : BoundInsert
by_key_check = record by_key { columns = record (plain affinity.Integer 0) { not_null = true } ∷ plain affinity.Text 1 ∷ plain affinity.Blob 2 ∷ []; checks = e.Column 0 0 ∷ [] }

key_checks : ((put_by by_key_check (row value.Null value.Null one ∷ [])).refusal ≡ None)
    × ((put_by by_key_check (row (value.Integer (pos 0)) value.Null one ∷ [])).refusal ≡ Some (named (only (cause.Constraint constraint.Check (codes "t")))))
unfolding all_statement_rules count tokens_of word_kind the_text_test store_as text_kind digits truth_of
key_checks = (refl, refl)

-- ---- what is seen of a table whose second column is the rowid

abbrev created_with_key : State
created_with_key = (run new_state (codes "CREATE TABLE k(x, id INTEGER PRIMARY KEY)")).next

abbrev table_with_key : TableEntry
table_with_key = record { name = codes "k"; columns = record { name = codes "x"; affinity = affinity.Blob } ∷ record { name = codes "id"; affinity = affinity.Integer } ∷ []; rowid = Some 1; number = 0; tokens = 11 }

-- it stores a row as this
abbrev with_a_row : State
with_a_row = record created_with_key { world = record created_with_key.world { tables = (record { rowid = pos 7; values = one ∷ value.Null ∷ [] } ∷ []) ∷ [] } }

seen_rows : (tables_in created_with_key ≡ table_with_key ∷ []) × (table_rows with_a_row (codes "K") ≡ Some ((value.Integer (pos 7) ∷ one ∷ value.Integer (pos 7) ∷ []) ∷ []))
unfolding all_statement_rules count tokens_of word_kind the_text_test
seen_rows = (refl, refl)

-- a query, also one where the column is ignored, which the rowid isn't by that
abbrev shown_where : List (Option ℕ) → List Item
shown_where places = items_of (context no_hosts with_a_row []) (record { from = record { table = table_with_key; width = 2; ignored = places; indexes = []; join = join.Inner } ∷ []; conjuncts = e.Column 0 0 ∷ []; results = e.Column 0 1 ∷ e.Rowid 0 ∷ [] })

shown_rows_of_it : (shown_where [] ≡ Row (value.Integer (pos 7) ∷ value.Integer (pos 7) ∷ []) ∷ []) × (shown_where (Some 1 ∷ []) ≡ Row (value.Null ∷ value.Integer (pos 7) ∷ []) ∷ []) × (shown_where (None ∷ []) ≡ Row (value.Integer (pos 7) ∷ value.Null ∷ []) ∷ [])
unfolding all_statement_rules count tokens_of word_kind the_text_test truth_of
shown_rows_of_it = (refl, refl, refl)

-- of several bad rows in a source any may be named
bad_rows : causes_of (Failed (only cause.Real) ∷ Row [] ∷ Failed (only cause.TooBig) ∷ []) ≡ Some (set.union (only cause.Real) (only cause.TooBig))
bad_rows = ap Some (ap (λ s. set.union s (named (only cause.TooBig))) (named-only cause.Real) ∙ ap (set.union (only cause.Real)) (named-only cause.TooBig))

refused_names : ((run created (codes "CREATE TABLE T(x)")).refusal ≡ Some (only (cause.Exists name_kind.Table (codes "t")))) × ((run created (codes "CREATE TABLE sqlite_x(a, a)")).refusal ≡ Some (only (cause.Reserved (codes "sqlite_x")))) × ((run created (codes "CREATE TABLE u(a, A)")).refusal ≡ Some (only (cause.Exists name_kind.Column (codes "a")))) × ((run created (codes "CREATE TABLE u(a DOUBLE)")).refusal ≡ Some (only cause.Real))
unfolding all_statement_rules count tokens_of word_kind the_text_test
refused_names = (refl, refl, refl, refl)

not_built : (run new_state (codes "BEGIN")).refusal ≡ Some (only cause.NotYet)
unfolding all_statement_rules count tokens_of word_kind
not_built = refl

-- what stands behind EXPLAIN is not done: the rows are those of its plan
explained : ((run new_state (codes "EXPLAIN CREATE TABLE t(a)")).next ≡ new_state) × ((run new_state (codes "EXPLAIN CREATE TABLE t(a)")).shows_plan ≡ true) × ((run created (codes "EXPLAIN CREATE TABLE t(a)")).refusal ≡ Some (only (cause.Exists name_kind.Table (codes "t"))))
unfolding all_statement_rules count tokens_of word_kind the_text_test
explained = (refl, refl, refl)

no_statements : ((run new_state (codes "SELECT")).refusal ≡ Some (only (cause.Syntax 6))) × ((run new_state (codes "SELECT 1;;")).refusal ≡ Some (only (cause.Syntax 9))) × ((run new_state (codes "SELECT 1 x y;")).refusal ≡ Some (only (cause.Syntax 11)))
unfolding all_statement_rules count tokens_of word_kind the_text_test
no_statements = (refl, refl, refl)

-- ---- keys and indexes

-- rows that share a key, and such that differ by NULL; a key of two columns; and the rows in front go too
abbrev by_unique : BoundInsert
by_unique = record put { keys = (key 0 false ∷ []) ∷ (key 1 false ∷ key 2 true ∷ []) ∷ [] }
  where
    key : ℕ → Bool → KeyTerm
    key column descending = record { source = term.Column column; collation = built.Binary; descending = descending }

unique_keys : ((put_by by_unique (row one value.Null one ∷ row (value.Text (codes "1")) one one ∷ [])).refusal ≡ Some (named (only (cause.Constraint constraint.Unique (codes "t")))))
    × ((put_by by_unique (row value.Null value.Null one ∷ row value.Null value.Null one ∷ [])).refusal ≡ None)
    × ((put_by by_unique (row value.Null one one ∷ row value.Null one one ∷ [])).refusal ≡ Some (named (only (cause.Constraint constraint.Unique (codes "t")))))
unfolding all_statement_rules count tokens_of word_kind the_text_test store_as text_kind digits
unique_keys = (refl, refl, refl)

-- an index has an entry of its own, which goes with its table
abbrev indexed : State
indexed = (run created (codes "CREATE UNIQUE INDEX i ON T(a)")).next

indexes_of_it : ((run indexed (codes "CREATE INDEX I ON t(b)")).refusal ≡ Some (only (cause.Exists name_kind.Index (codes "i")))) × ((run indexed (codes "DROP INDEX I")).next ≡ created) × ((run created (codes "DROP INDEX i")).refusal ≡ Some (only (cause.Unknown name_kind.Index (codes "i"))))
    × ((run indexed (codes "DROP TABLE t")).next.world.catalog.names ≡ []) × (tables_in indexed ≡ tables_in created)
unfolding all_statement_rules count tokens_of word_kind the_text_test
indexes_of_it = (refl, refl, refl, refl, refl)

-- ---- DROP TABLE, IF [NOT] EXISTS and PRAGMA

dropped_table : (tables_in (run created (codes "DROP TABLE T")).next ≡ []) × (tables_in (run (run created (codes "DROP TABLE t")).next (codes "CREATE TABLE u(a)")).next ≡ record { name = codes "u"; columns = record { name = codes "a"; affinity = affinity.Blob } ∷ []; rowid = None; number = 1; tokens = 6 } ∷ [])
unfolding all_statement_rules count tokens_of word_kind the_text_test
dropped_table = (refl, refl)

nothing_done : ((run created (codes "CREATE TABLE IF NOT EXISTS T(x)")).next ≡ created) × ((run new_state (codes "DROP TABLE IF EXISTS t")).refusal ≡ None) × ((run new_state (codes "DROP TABLE t")).refusal ≡ Some (only (cause.Unknown name_kind.Table (codes "t"))))
unfolding all_statement_rules count tokens_of word_kind the_text_test
nothing_done = (refl, refl, refl)

pragmas : ((run new_state (codes "PRAGMA foreign_keys = Off")).refusal ≡ None) × ((run new_state (codes "PRAGMA foreign_keys(OFF)")).refusal ≡ None) × ((run new_state (codes "PRAGMA foreign_keys=ON")).refusal ≡ Some (only (cause.Unknown name_kind.Pragma (codes "foreign_keys"))))
unfolding all_statement_rules count tokens_of word_kind the_text_test
pragmas = (refl, refl, refl)
