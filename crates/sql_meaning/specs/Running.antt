-- What runs of a statement whose names are bound: a query over tables or none, rows of values, an INSERT of such rows, CREATE and DROP of tables and
-- indexes, and what does nothing. Anything else is not built.
use Rattle.std.specs.Prelude.{ℕ, nat_eq, Bool, true, false, not, ◌&&◌, List, [], ◌∷◌, ◌++◌, drop, length, map, Option, Some, None, Result, Ok, Err, is_some, if◌then◌else◌, slice_get}
use Rattle.std.specs.List.{filter, flat_map, list_all}
use Rattle.eng_entry.specs.declared.entry.Entry.{Entry}
use Rattle.eng_entry.specs.declared.entry.EntryKind.TheVariants as entry_kind
use Rattle.eng_index.specs.declared.key_term.KeyTerm.{KeyTerm}
use Rattle.eng_index.specs.declared.key_term.TermSource.{TermSource}
use Rattle.eng_index.specs.declared.key_term.TermSource.TheVariants as term
use Rattle.eng_value.specs.declared.affinity.Affinity.{Affinity}
use Rattle.eng_value.specs.declared.affinity.Affinity.TheVariants as affinity
use Rattle.eng_value.specs.declared.cause.Cause.{Cause}
use Rattle.eng_value.specs.declared.cause.Cause.TheVariants as cause
use Rattle.eng_value.specs.Collations.{built_in}
use Rattle.eng_value.specs.declared.collation.Collation.{Collation}
use Rattle.eng_value.specs.declared.collation.Collation.TheVariants as collation
use Rattle.sql_tree.specs.declared.statement.Command.{Command}
use Rattle.sql_tree.specs.declared.statement.Command.TheVariants as command
use Rattle.sql_tree.specs.declared.statement.Definition.{Definition}
use Rattle.sql_tree.specs.declared.statement.Definition.TheVariants as definition
use Rattle.sql_tree.specs.declared.statement.ObjectKind.{ObjectKind}
use Rattle.sql_tree.specs.declared.statement.ObjectKind.TheVariants as object
use Rattle.sql_tree.specs.declared.statement.Statement.{Statement}
use Rattle.sql_words.specs.Refusals.{◌>>=◌}
use Rattle.bound_tree.specs.Conditions.{conditions_of}
use Rattle.bound_tree.specs.Exprs.{BoundExpr}
use Rattle.bound_tree.specs.declared.statements.BoundCommand.{BoundCommand}
use Rattle.bound_tree.specs.declared.statements.BoundCommand.TheVariants as bound
use Rattle.bound_tree.specs.declared.statements.BoundCreation.{BoundCreation}
use Rattle.bound_tree.specs.declared.statements.BoundStatement.{BoundStatement}
use Rattle.bound_tree.specs.declared.units.BoundCore.{BoundCore}
use Rattle.bound_tree.specs.declared.units.BoundIndex.{BoundIndex}
use Rattle.bound_tree.specs.declared.units.IndexPart.{IndexPart}
use Rattle.bound_tree.specs.declared.units.BoundItem.{BoundItem}
use Rattle.bound_tree.specs.declared.units.BoundPart.{BoundPart}
use Rattle.bound_tree.specs.declared.units.BoundPart.TheVariants as part
use Rattle.bound_tree.specs.declared.units.BoundQuery.{BoundQuery}
use Rattle.bound_tree.specs.declared.units.BoundSource.{BoundSource}
use Rattle.bound_tree.specs.declared.units.BoundSource.TheVariants as source
use Rattle.bound_tree.specs.declared.units.BoundUnit.{BoundUnit}
use Rattle.bound_tree.specs.declared.units.BoundUnit.TheVariants as unit
use Rattle.bound_tree.specs.declared.units.JoinKind.{JoinKind}
use Rattle.bound_tree.specs.declared.units.JoinKind.TheVariants as kind
use Rattle.bound_tree.specs.declared.writes.BoundChange.{BoundChange}
use Rattle.bound_tree.specs.declared.writes.BoundChange.TheVariants as change
use Rattle.bound_tree.specs.declared.writes.BoundTarget.{BoundTarget}
use Rattle.bound_tree.specs.declared.writes.BoundWrite.{BoundWrite}
use Rattle.sql_meaning.specs.declared.bound.Join.{Join}
use Rattle.sql_meaning.specs.declared.bound.Join.TheVariants as join
use Rattle.sql_meaning.specs.declared.bound.PutColumn.{PutColumn}
use Rattle.sql_meaning.specs.declared.bound.RowidFrom.{RowidFrom}
use Rattle.sql_meaning.specs.declared.bound.RowidFrom.TheVariants as rowid
use Rattle.sql_meaning.specs.declared.column.Column.{Column}
use Rattle.sql_meaning.specs.declared.column.TableEntry.{TableEntry}
use Rattle.sql_bound.specs.Declarations.{definition_in}
use Rattle.sql_meaning.specs.Declarations.{columns_created, table_called}
use Rattle.sql_meaning.specs.Runnables.{Runnable, Creates, DoesNothing, Drops, FromItem, Indexes, Put, Puts, Queries, Shows, Unindexes}

abbrev pub not_built : {A : Type 0} → Result A Cause
not_built = Err cause.NotYet

abbrev pub if_built : {A : Type 0} → Bool → Result A Cause → Result A Cause
if_built true answer = answer
if_built false answer = not_built

-- ---- tables by the names with which they were bound

abbrev pub found_table : Option TableEntry → Result TableEntry Cause
found_table None = not_built
found_table (Some t) = Ok t

abbrev pub table_of_source : List TableEntry → BoundSource → Result TableEntry Cause
table_of_source tables (source.Table name number) = found_table (table_called tables name)
table_of_source tables other = not_built

-- ---- keys

-- the column that is the rowid is read as that
abbrev pub source_at : Option ℕ → ℕ → TermSource
source_at None column = term.Column column
source_at (Some rowid) column = if nat_eq rowid column then term.Rowid else term.Column column

-- a collation of a host runs in no key yet
abbrev pub is_own : Collation → Bool
is_own (collation.Built b) = true
is_own (collation.Host place) = false

abbrev pub are_own : List IndexPart → Bool
are_own parts = list_all (λ (p : IndexPart). is_own p.collation) parts

abbrev pub term_at : Option ℕ → IndexPart → KeyTerm
term_at rowid p = record { source = source_at rowid p.column; collation = built_in p.collation; descending = p.descending }

abbrev pub terms_of : Option ℕ → List IndexPart → List KeyTerm
terms_of rowid parts = map (term_at rowid) parts

abbrev pub unique_among : List BoundIndex → List BoundIndex
unique_among indexes = filter (λ (i : BoundIndex). i.unique) indexes

-- the keys that no two rows may share, oldest first
abbrev pub keys_of : Option ℕ → List BoundIndex → List (List KeyTerm)
keys_of rowid indexes = map (λ (i : BoundIndex). terms_of rowid i.parts) (unique_among indexes)

-- ---- queries

-- no search goes by an index with a collation of a host yet
abbrev pub index_terms : Option ℕ → List BoundIndex → List (List KeyTerm)
index_terms rowid indexes = map (λ (i : BoundIndex). terms_of rowid i.parts) (filter (λ (i : BoundIndex). are_own i.parts) indexes)

-- the ON of a LEFT JOIN makes its pairs
abbrev pub join_by : JoinKind → List BoundExpr → Join
join_by kind.Inner ons = join.Inner
join_by kind.Left ons = join.Left (flat_map conditions_of ons)

-- any other is tested with the WHERE
abbrev pub tested_by : JoinKind → List BoundExpr → List BoundExpr
tested_by kind.Inner ons = ons
tested_by kind.Left ons = []

abbrev pub item_of_table : BoundItem → TableEntry → FromItem
item_of_table i t =
    record { table = t; width = length i.columns; ignored = i.ignored; indexes = index_terms t.rowid i.indexes; join = join_by i.join i.ons }

abbrev pub from_of : List TableEntry → List BoundItem → Result (List FromItem) Cause
from_of tables [] = Ok []
from_of tables (i ∷ items) =
    table_of_source tables i.source >>= λ t. from_of tables items >>= λ others. Ok (item_of_table i t ∷ others)

-- what a row of the FROM has to pass
abbrev pub rejecting : BoundCore → List BoundExpr
rejecting c = flat_map (λ (i : BoundItem). tested_by i.join i.ons) c.items ++ c.conjuncts

abbrev pub is_plain_core : BoundCore → Bool
is_plain_core c = not (is_some c.groups) && not c.distinct

abbrev pub select_of : List TableEntry → BoundCore → Result Runnable Cause
select_of tables c =
    if_built (is_plain_core c) (from_of tables c.items >>= λ from.
    Ok (Queries (record { from = from; conjuncts = flat_map conditions_of (rejecting c); results = c.results })))

abbrev pub part_of : List TableEntry → BoundPart → Result Runnable Cause
part_of tables (part.Select c) = select_of tables c
part_of tables (part.Values rows) = Ok (Shows rows)

-- one part, in no order, and all of its rows
abbrev pub is_plain_query : BoundQuery → Bool
is_plain_query q = nat_eq (length q.others) 0 && nat_eq (length q.order) 0 && not (is_some q.limit) && not (is_some q.offset)

abbrev pub first_part : Option BoundUnit → Result BoundPart Cause
first_part (Some (unit.Queried q)) = if_built (is_plain_query q) (Ok q.first)
first_part other = not_built

abbrev pub query_of : List TableEntry → List BoundUnit → ℕ → Result Runnable Cause
query_of tables units place = first_part (slice_get units place) >>= part_of tables

-- ---- INSERT

abbrev pub rows_of_part : BoundPart → Result (List (List BoundExpr)) Cause
rows_of_part (part.Values rows) = Ok rows
rows_of_part (part.Select c) = not_built

abbrev pub first_or : {A : Type 0} → A → List A → A
first_or a [] = a
first_or a (x ∷ xs) = x

-- what these columns take: behind the places none has a value in a row of the source, and where nothing is said it has no default and may be NULL
abbrev pub columns_put : List Column → List (Option ℕ) → List (Option BoundExpr) → List Bool → List PutColumn
columns_put [] places defaults not_nulls = []
columns_put (c ∷ columns) places defaults not_nulls =
    record { affinity = c.affinity; place = first_or None places; default = first_or None defaults; not_null = first_or false not_nulls } ∷ columns_put columns (drop 1 places) (drop 1 defaults) (drop 1 not_nulls)

-- a column that is the rowid stores integers
abbrev pub stores_integers : Option PutColumn → Bool
stores_integers None = false
stores_integers (Some c) = is_integer c.affinity
  where
    is_integer : Affinity → Bool
    is_integer affinity.Integer = true
    is_integer other = false

-- the column that is the rowid, else what is given for it
abbrev pub rowid_from : List PutColumn → Option ℕ → Option ℕ → Result RowidFrom Cause
rowid_from columns (Some column) given = if_built (stores_integers (slice_get columns column)) (Ok (rowid.Column column))
rowid_from columns None (Some place) = Ok (rowid.Given place)
rowid_from columns None None = Ok rowid.Drawn

abbrev pub put_with : TableEntry → BoundTarget → List PutColumn → Option ℕ → List (List BoundExpr) → Result Put Cause
put_with t target columns given rows =
    rowid_from columns t.rowid given >>= λ from.
    Ok (record { table = t; insert = record { table = t.number; name = t.name; columns = columns; rowid = from; checks = target.checks; keys = keys_of t.rowid target.item.indexes; rows = rows } })

abbrev pub put_at : TableEntry → BoundTarget → List (Option ℕ) → Option ℕ → List (List BoundExpr) → Result Put Cause
put_at t target places given rows = put_with t target (columns_put t.columns places target.defaults target.not_nulls) given rows

abbrev pub put_into : TableEntry → BoundTarget → List BoundUnit → BoundChange → Result Put Cause
put_into t target units (change.Inserted places given source arguments) =
    first_part (slice_get units source) >>= rows_of_part >>= λ rows. put_at t target places given rows
put_into t target units change.Defaulted = put_at t target [] None ([] ∷ [])
put_into t target units other = not_built

abbrev pub has_own_keys : List BoundIndex → Bool
has_own_keys indexes = list_all (λ (i : BoundIndex). are_own i.parts) indexes

abbrev pub put_of : List TableEntry → List BoundUnit → BoundWrite → Result Runnable Cause
put_of tables units w =
    if_built (has_own_keys w.target.item.indexes)
    (table_of_source tables w.target.item.source >>= λ t. put_into t w.target units w.change >>= λ put. Ok (Puts put))

-- ---- CREATE and DROP

-- the entry of a table that gets this number: the text is that of its CREATE
abbrev pub entry_with : ℕ → List ℕ → List ℕ → Statement → Entry
entry_with number text name s = record { kind = entry_kind.Table; name = name; owner = []; number = number; text = text; def = s }

-- the entry of an index on a table: it has that table's number
abbrev pub index_entry_with : TableEntry → List ℕ → List ℕ → Statement → Entry
index_entry_with t text name s = record { kind = entry_kind.Index; name = name; owner = t.name; number = t.number; text = text; def = s }

abbrev pub index_on : List ℕ → Statement → BoundCreation → TableEntry → Result Runnable Cause
index_on text s c t = Ok (Indexes (record { entry = index_entry_with t text c.name s; table = t; terms = terms_of t.rowid c.parts; unique = c.unique }))

abbrev pub creation_by : List TableEntry → ℕ → List ℕ → Statement → BoundCreation → Option Definition → Result Runnable Cause
creation_by tables number text s c (Some (definition.Index i)) = if_built (are_own c.parts) (found_table (table_called tables c.owner) >>= index_on text s c)
creation_by tables number text s c other = if_built (is_some (columns_created text s.command)) (Ok (Creates (entry_with number text c.name s)))

abbrev pub creation_of : List TableEntry → ℕ → List ℕ → Statement → BoundCreation → Result Runnable Cause
creation_of tables number text s c = creation_by tables number text s c (definition_in s.command)

-- what a statement says that it removes
abbrev pub kind_removed : Command → Option ObjectKind
kind_removed (command.Remove r) = Some r.kind
kind_removed other = None

abbrev pub removal_of : List TableEntry → Option ObjectKind → List ℕ → Result Runnable Cause
removal_of tables (Some object.Table) name = found_table (table_called tables name) >>= λ t. Ok (Drops t)
removal_of tables (Some object.Index) name = Ok (Unindexes name)
removal_of tables other name = not_built

-- ---- any statement: over these tables, where a new one gets this number, of a text with this tree

abbrev pub command_of : List TableEntry → ℕ → List ℕ → Statement → List BoundUnit → BoundCommand → Result Runnable Cause
command_of tables number text s units (bound.Asked place) = query_of tables units place
command_of tables number text s units (bound.Written w) = put_of tables units w
command_of tables number text s units (bound.Created c) = creation_of tables number text s c
command_of tables number text s units (bound.Removed r) = removal_of tables (kind_removed s.command) r.name
command_of tables number text s units (bound.Transacted t) = not_built
command_of tables number text s units (bound.Pragma name) = Ok DoesNothing
command_of tables number text s units (bound.Nothing kind name owner) = Ok DoesNothing

abbrev pub runnable_of : List TableEntry → ℕ → List ℕ → Statement → BoundStatement → Result Runnable Cause
runnable_of tables number text s b = command_of tables number text s b.units b.command
