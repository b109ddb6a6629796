-- States stay valid.
use Rattle.std.proofs.Common.{◌≡◌, ◌≢◌, inl, inr, slice_index_or, flat_map, slice_get, ℕ, ◌+◌, ◌≤◌, arith, List, [], ◌∷◌, ◌++◌, Bool, true, false, ◌&&◌, length, not, Option, Some, None, Result, Ok, Err, is_some, if◌then◌else◌, All, AllPairs, drop, refl, sym, ap, ◌∙◌, subst}
use Rattle.std.specs.Bool.{⊤}
use Rattle.std.specs.List.{AllZip, filter}
use Rattle.std.specs.Option.{option_map}
use Rattle.std.proofs.lemmas.List.Elements.{All-cons, All-filter, All-nil, All-push}
use Rattle.std.proofs.lemmas.List.Kept.{AllPairs-filter}
use Rattle.std.proofs.lemmas.List.Quantifiers.{all_pairs_push}
use Rattle.eng_entry.specs.Entries.{Entries, entry_named, with_entry, without_name}
use Rattle.eng_entry.specs.Spaces.{space_of}
use Rattle.eng_entry.specs.declared.entry.EntryKind.{EntryKind}
use Rattle.eng_entry.specs.declared.entry.Space.TheVariants as space
use Rattle.eng_index.specs.Keys.{has_doubles}
use Rattle.eng_entry.specs.Names.{is_same_name}
use Rattle.eng_entry.specs.declared.entry.Entry.{Entry}
use Rattle.eng_entry.specs.declared.entry.EntryKind.TheVariants as entry_kind
use Rattle.eng_value.specs.Causes.{CauseSet, only}
use Rattle.eng_value.specs.declared.cause.ConstraintKind.TheVariants as constraint
use Rattle.eng_value.specs.Environments.{Environment}
use Rattle.eng_value.specs.Written.{Written}
use Rattle.eng_value.specs.declared.authorizing.Action.{Action}
use Rattle.eng_value.specs.declared.cause.Cause.{Cause}
use Rattle.eng_value.specs.declared.cause.Cause.TheVariants as cause
use Rattle.eng_value.specs.declared.value.Value.{Value}
use Rattle.sql_grammar.specs.Answers.{Answer, Tree, Syntax, TooMuch, place}
use Rattle.sql_lex.specs.Cutting.{start_of}
use Rattle.sql_lex.specs.Tokens.{tokens_of}
use Rattle.sql_tree.specs.Sizes.{size_of_command, size_of_definition, size_of_statement, size_of_table}
use Rattle.sql_tree.specs.declared.statement.Command.{Command}
use Rattle.sql_tree.specs.declared.statement.Command.TheVariants as command
use Rattle.sql_tree.specs.declared.statement.Create.{Create}
use Rattle.sql_tree.specs.declared.statement.Explain.{Explain}
use Rattle.sql_tree.specs.declared.statement.Statement.{Statement}
use Rattle.bound_tree.specs.Exprs.{BoundExpr}
use Rattle.sql_meaning.specs.declared.bound.BoundInsert.{BoundInsert}
use Rattle.sql_meaning.specs.declared.bound.PutColumn.{PutColumn}
use Rattle.sql_meaning.specs.declared.bound.RowidFrom.{RowidFrom}
use Rattle.sql_meaning.specs.declared.bound.RowidFrom.TheVariants as rowid
use Rattle.sql_meaning.specs.declared.column.Column.{Column}
use Rattle.sql_meaning.specs.declared.column.TableEntry.{TableEntry}
use Rattle.sql_words.specs.Refusals.{◌>>=◌}
use Rattle.sql_meaning.specs.Runnables.{Runnable, Creates, DoesNothing, Drops, Indexes, NewIndex, Put, Puts, Queries, Shows, Unindexes, Explains}
use Rattle.sql_words.specs.Spelled.{name_at}
use Rattle.sql_words.specs.Bodies.{answer_of, body_of}
use Rattle.sql_meaning.specs.Steps.{Effect, Done, Left, Fails}
use Rattle.sql_meaning.specs.Valid.{HaveOtherNames, IsEntry, IsIndexEntry, IsTable, IsTableEntry, IsValid, IsWorld}
use Rattle.sql_meaning.specs.World.{Context, State, World, environment_at, rows_at, tables_in}
use Rattle.bound_size.proofs.BoundLaws.{both_hold}
use Rattle.sql_meaning.proofs.BodyLaws.{statement-sized}
use Rattle.sql_meaning.proofs.EffectLaws.{PutsRows, rows_put-gives}
use Rattle.sql_meaning.proofs.StepLaws.{Gives, anyhow, never}
use Rattle.sql_meaning.proofs.StoringLaws.{IsInto, RowidStored, StoresAs}
use Rattle.sql_meaning.proofs.TableLaws.{LeavesNoTable, all-kept, among-beside, among-kept, among-others, among-push, called-more, called-others, entries-by, entry-own, found-all, found-own, index-no_table, is_other, named-once, none-else, numbers-more, tables-emptied, tables-more, tables-with, with_entry-names}
use Rattle.sql_meaning.specs.Statement.{answer_bound, around, begun, bound_outcome, causes_of, closed, done, failed, given_of, limit_kind, outcome_of, outcome_where, put_source, rows_put, source_of, plain_bound, explained, statement_bound, text_bound, text_outcome, Outcome, with_catalog, with_created, without_table, written}
use Rattle.sql_meaning.specs.Built.{is_built, is_built_command, is_built_definition, is_built_table}
use Rattle.sql_meaning.specs.Permits.{Asking, Denies, Ignores, Permit, asked_by, permitted}
use Rattle.sql_meaning.specs.Declarations.{columns_created, columns_kept, columns_of, table_called, table_of, table_with, tables_among, tables_of}
use Rattle.eng_entry.specs.Entries.{is_index, is_index_on}
use Rattle.sql_meaning.specs.Running.{are_own, columns_put, command_of, creation_by, entry_with, has_own_keys, index_on, item_of_table, keys_of, kind_removed, first_part, found_table, from_of, if_built, is_plain_core, part_of, put_at, put_into, put_of, put_with, query_of, rejecting, removal_of, rowid_from, rows_of_part, runnable_of, stores_integers, table_of_source}
use Rattle.sql_meaning.specs.Runnables.{FromItem}
use Rattle.sql_meaning.specs.Rows.{rowid_column}
use Rattle.bound_tree.specs.Conditions.{conditions_of}
use Rattle.sql_words.specs.Names.{is_reserved_name}
use Rattle.sql_tree.specs.declared.statement.Definition.{Definition}
use Rattle.sql_tree.specs.declared.statement.Definition.TheVariants as definition
use Rattle.sql_tree.specs.declared.statement.Explain.{Explain}
use Rattle.sql_tree.specs.declared.statement.IndexDefinition.{IndexDefinition}
use Rattle.sql_tree.specs.declared.statement.ObjectKind.{ObjectKind}
use Rattle.sql_tree.specs.declared.statement.ObjectKind.TheVariants as object
use Rattle.sql_tree.specs.declared.statement.Remove.{Remove}
use Rattle.sql_tree.specs.declared.statement.TableDefinition.{TableDefinition}
use Rattle.bound_tree.specs.declared.statements.BoundCommand.{BoundCommand}
use Rattle.bound_tree.specs.declared.statements.BoundCommand.TheVariants as bound
use Rattle.bound_tree.specs.declared.statements.BoundCreation.{BoundCreation}
use Rattle.bound_tree.specs.declared.statements.BoundStatement.{BoundStatement}
use Rattle.bound_tree.specs.declared.statements.ThingKind.{ThingKind}
use Rattle.bound_tree.specs.declared.statements.BoundRemoval.{BoundRemoval}
use Rattle.bound_tree.specs.declared.statements.ThingKind.TheVariants.{ATable, AnIndex}
use Rattle.bound_tree.specs.declared.statements.ThingKind.TheVariants as thing
use Rattle.bound_ignored.specs.Marked.{ignoring, marked_command}
use Rattle.bound_tree.specs.declared.units.BoundItem.{BoundItem}
use Rattle.bound_tree.specs.declared.units.BoundPart.{BoundPart}
use Rattle.bound_tree.specs.declared.units.BoundPart.TheVariants as part
use Rattle.bound_tree.specs.declared.units.BoundSource.{BoundSource}
use Rattle.bound_tree.specs.declared.units.BoundSource.TheVariants as source
use Rattle.bound_tree.specs.declared.units.BoundUnit.{BoundUnit}
use Rattle.bound_tree.specs.declared.writes.BoundChange.{BoundChange}
use Rattle.bound_tree.specs.declared.writes.BoundChange.TheVariants as change
use Rattle.bound_tree.specs.declared.writes.BoundTarget.{BoundTarget}
use Rattle.bound_tree.specs.declared.writes.BoundWrite.{BoundWrite}
use Rattle.sql_bound.specs.Creates.{Declaring, create_bound, create_there, created_by, creating, entries_beside, is_free, name_of_entry, named_kind, not_there, nothing_created, table_created, with_column, with_table_constraint}
use Rattle.sql_bound.specs.Creates as creates
use Rattle.sql_bound.specs.Declarations.{bound_columns, declared_table, definition_in, definition_of, index_in, index_parts, table_in}
use Rattle.sql_bound.specs.Lasting.{collations_kept}
use Rattle.sql_bound.specs.Scopes.{Around, Outer, in_statement}
use Rattle.sql_bound.specs.Statements.{bound_of, command_bound, entries_of, plain, remove_bound, remove_of, removed, statement_with, thing_meant, thing_of, thing_with}
use Rattle.sql_bound.specs.Trees.{full_depth, outer_at}
use Rattle.sql_bound.specs.Writes.{Opened}

-- ---- what is bound

-- what was reached was reached by steps that gave something
pub then-ok : {A B : Type 0} (r : Result A Cause) (f : A → Result B Cause) (b : B) → r >>= f ≡ Ok b → (a : A) × (r ≡ Ok a) × (f a ≡ Ok b)
then-ok (Ok a) f b e = (a, refl, e)
then-ok (Err why) f b e = absurd (cc)

-- the entry of a table that is created: its name is free, its columns are declared, and its number is the next one
pub record IsCreated (catalog : Entries) (next : ℕ) (e : Entry) : Type 0 where
  pub free : entry_named e.name catalog.names ≡ None
  pub columns : List Column
  pub declared : columns_created e.text e.def.command ≡ Some columns
  pub number : e.number ≡ next
  pub entry : IsTableEntry e

-- an index that is created: its name is free, its table is found, and its entry says that it is one on that
pub record IsIndexed (catalog : Entries) (i : NewIndex) : Type 0 where
  pub free : entry_named i.entry.name catalog.names ≡ None
  pub found : table_called (tables_of catalog) i.table.name ≡ Some i.table
  pub entry : IsIndexEntry (tables_of catalog) i.entry

-- the name of an index
pub record IsIndexName (catalog : Entries) (name : List ℕ) : Type 0 where
  pub entry : Entry
  pub found : entry_named name catalog.names ≡ Some entry
  pub kind : entry.kind ≡ entry_kind.Index

-- what an INSERT that is bound is like: its table is found, and the rows are put into that
pub record IsPut (tables : List TableEntry) (p : Put) : Type 0 where
  pub found : table_called tables p.table.name ≡ Some p.table
  pub into : IsInto p.table p.insert

-- the table of an item of a FROM is found
abbrev pub IsFound : List TableEntry → FromItem → Type 0
IsFound tables i = table_called tables i.table.name ≡ Some i.table

abbrev pub FitsIn : Entries → ℕ → Runnable → Type 0
FitsIn catalog number (Creates e) = IsCreated catalog number e
FitsIn catalog number (Drops t) = table_called (tables_of catalog) t.name ≡ Some t
FitsIn catalog number (Indexes i) = IsIndexed catalog i
FitsIn catalog number (Unindexes name) = IsIndexName catalog name
FitsIn catalog number (Puts p) = IsPut (tables_of catalog) p
FitsIn catalog number (Queries q) = All (IsFound (tables_of catalog)) q.from
FitsIn catalog number (Shows rows) = ⊤
FitsIn catalog number DoesNothing = ⊤
FitsIn catalog number (Explains how b) = FitsIn catalog number b

pub same-ok : {A : Type 0} (x y : A) → let r : Result A Cause = Ok x in r ≡ Ok y → x ≡ y
same-ok x y e = cc

-- what is built came to something
pub if_built-ok : {A : Type 0} (t : Bool) (r : Result A Cause) (a : A) → if_built t r ≡ Ok a → (t ≡ true) × (r ≡ Ok a)
if_built-ok true r a e = (refl, e)
if_built-ok false r a e = absurd (let bad : Err cause.NotYet ≡ Ok a = e in cc)

-- ---- tables

found_by : (o : Option TableEntry) (t : TableEntry) → found_table o ≡ Ok t → o ≡ Some t
found_by None t e = absurd (let bad : Err cause.NotYet ≡ Ok t = e in cc)
found_by (Some u) t e = ap Some (same-ok u t e)

source-own : (tables : List TableEntry) (s : BoundSource) (t : TableEntry) → table_of_source tables s ≡ Ok t → table_called tables t.name ≡ Some t
source-own tables (source.Table name number) t e = found-own tables name t (found_by (table_called tables name) t e)
source-own tables source.Given t e = absurd (let bad : Err cause.NotYet ≡ Ok t = e in cc)
source-own tables (source.Module a b n xs) t e = absurd (let bad : Err cause.NotYet ≡ Ok t = e in cc)
source-own tables (source.View name u) t e = absurd (let bad : Err cause.NotYet ≡ Ok t = e in cc)
source-own tables (source.Query u xs) t e = absurd (let bad : Err cause.NotYet ≡ Ok t = e in cc)
source-own tables (source.With u xs) t e = absurd (let bad : Err cause.NotYet ≡ Ok t = e in cc)
source-own tables (source.Recursive u xs) t e = absurd (let bad : Err cause.NotYet ≡ Ok t = e in cc)
source-own tables source.Queue t e = absurd (let bad : Err cause.NotYet ≡ Ok t = e in cc)

-- ---- queries

from-found : (tables : List TableEntry) (items : List BoundItem) (from : List FromItem) → from_of tables items ≡ Ok from → All (IsFound tables) from
from-found tables [] from e = subst (All (IsFound tables)) (same-ok [] from e) (All-nil (IsFound tables))
from-found tables (i ∷ items) from e =
    let behind : TableEntry → List FromItem → Result (List FromItem) Cause = λ t others. Ok (item_of_table i t ∷ others) in
    let table = then-ok (table_of_source tables i.source) (λ t. from_of tables items >>= behind t) from e in
    let others = then-ok (from_of tables items) (behind table.0) from table.2 in
    let item : FromItem = item_of_table i table.0 in
    subst (All (IsFound tables)) (same-ok (item ∷ others.0) from others.2)
    (All-cons (IsFound tables) item others.0 (source-own tables i.source table.0 table.1) (from-found tables items others.0 others.1))

part-fits : (catalog : Entries) (number : ℕ) (p : BoundPart) (r : Runnable) → part_of (tables_of catalog) p ≡ Ok r → FitsIn catalog number r
part-fits catalog number (part.Values rows) r e = subst (FitsIn catalog number) (same-ok (Shows rows) r e) tt
part-fits catalog number (part.Select c) r e =
    let tables = tables_of catalog in
    let shown : List FromItem → Result Runnable Cause = λ from. Ok (Queries (record { from = from; conjuncts = flat_map conditions_of (rejecting c); results = c.results })) in
    let made = then-ok (from_of tables c.items) shown r (if_built-ok (is_plain_core c) (from_of tables c.items >>= shown) r e).1 in
    subst (FitsIn catalog number) (same-ok _ r made.2) (from-found tables c.items made.0 made.1)

query-fits : (catalog : Entries) (number : ℕ) (units : List BoundUnit) (place : ℕ) (r : Runnable) → query_of (tables_of catalog) units place ≡ Ok r → FitsIn catalog number r
query-fits catalog number units place r e =
    let made = then-ok (first_part (slice_get units place)) (part_of (tables_of catalog)) r e in part-fits catalog number made.0 r made.2

-- ---- INSERT

columns-put : (columns : List Column) (places : List (Option ℕ)) (defaults : List (Option BoundExpr)) (not_nulls : List Bool) → AllZip StoresAs columns (columns_put columns places defaults not_nulls)
columns-put [] places defaults not_nulls = tt
columns-put (c ∷ columns) places defaults not_nulls = (refl, columns-put columns (drop 1 places) (drop 1 defaults) (drop 1 not_nulls))

rowid-stored : (columns : List PutColumn) (column given : Option ℕ) (from : RowidFrom) → rowid_from columns column given ≡ Ok from → RowidStored from columns
rowid-stored columns (Some column) given from e =
    let built = if_built-ok (stores_integers (slice_get columns column)) (Ok (rowid.Column column)) from e in
    subst (λ f. RowidStored f columns) (same-ok (rowid.Column column) from built.1) built.0
rowid-stored columns None (Some place) from e = subst (λ f. RowidStored f columns) (same-ok (rowid.Given place) from e) tt
rowid-stored columns None None from e = subst (λ f. RowidStored f columns) (same-ok rowid.Drawn from e) tt

rowid-column : (columns : List PutColumn) (column given : Option ℕ) (from : RowidFrom) → rowid_from columns column given ≡ Ok from → rowid_column from ≡ column
rowid-column columns (Some column) given from e =
    let built = if_built-ok (stores_integers (slice_get columns column)) (Ok (rowid.Column column)) from e in
    ap rowid_column (sym (same-ok (rowid.Column column) from built.1))
rowid-column columns None (Some place) from e = ap rowid_column (sym (same-ok (rowid.Given place) from e))
rowid-column columns None None from e = ap rowid_column (sym (same-ok rowid.Drawn from e))

-- the table of the put, and the columns of its rows
record Into (t : TableEntry) (p : Put) : Type 0 where
  table : p.table ≡ t
  rows : IsInto t p.insert

put_with-into : (t : TableEntry) (target : BoundTarget) (columns : List PutColumn) (given : Option ℕ) (rows : List (List BoundExpr)) (p : Put) → AllZip StoresAs t.columns columns → put_with t target columns given rows ≡ Ok p → Into t p
put_with-into t target columns given rows p same e =
    let made : RowidFrom → Result Put Cause = λ from. Ok (record { table = t; insert = record { table = t.number; name = t.name; columns = columns; rowid = from; checks = target.checks; keys = keys_of t.rowid target.item.indexes; rows = rows } }) in
    let one = then-ok (rowid_from columns t.rowid given) made p e in
    subst (Into t) (same-ok _ p one.2) (record {
      table = refl;
      rows = record { number = refl; columns = same; rowid = rowid-stored columns t.rowid given one.0 one.1; column = rowid-column columns t.rowid given one.0 one.1 };
    })

put_at-into : (t : TableEntry) (target : BoundTarget) (places : List (Option ℕ)) (given : Option ℕ) (rows : List (List BoundExpr)) (p : Put) → put_at t target places given rows ≡ Ok p → Into t p
put_at-into t target places given rows p e =
    put_with-into t target (columns_put t.columns places target.defaults target.not_nulls) given rows p (columns-put t.columns places target.defaults target.not_nulls) e

put-into : (t : TableEntry) (target : BoundTarget) (units : List BoundUnit) (c : BoundChange) (p : Put) → put_into t target units c ≡ Ok p → Into t p
put-into t target units (change.Inserted places given source args) p e =
    let one = then-ok (first_part (slice_get units source) >>= rows_of_part) (λ rows. put_at t target places given rows) p e in put_at-into t target places given one.0 p one.2
put-into t target units change.Defaulted p e = put_at-into t target [] None ([] ∷ []) p e
put-into t target units (change.Updated sets conjuncts) p e = absurd (let bad : Err cause.NotYet ≡ Ok p = e in cc)
put-into t target units (change.Deleted conjuncts) p e = absurd (let bad : Err cause.NotYet ≡ Ok p = e in cc)

put-fits : (catalog : Entries) (number : ℕ) (units : List BoundUnit) (w : BoundWrite) (r : Runnable) → put_of (tables_of catalog) units w ≡ Ok r → FitsIn catalog number r
put-fits catalog number units w r e =
    let tables = tables_of catalog in
    let puts : Put → Result Runnable Cause = λ put. Ok (Puts put) in
    let into : TableEntry → Result Runnable Cause = λ t. put_into t w.target units w.change >>= puts in
    let built = if_built-ok (has_own_keys w.target.item.indexes) (table_of_source tables w.target.item.source >>= into) r e in
    let table = then-ok (table_of_source tables w.target.item.source) into r built.1 in
    let put = then-ok (put_into table.0 w.target units w.change) puts r table.2 in
    let held = put-into table.0 w.target units w.change put.0 put.1 in
    subst (FitsIn catalog number) (same-ok (Puts put.0) r put.2) (record {
      found = subst (λ u. table_called tables u.name ≡ Some u) (sym held.table) (source-own tables w.target.item.source table.0 table.1);
      into = subst (λ u. IsInto u put.0.insert) (sym held.table) held.rows;
    })

-- ---- CREATE of a table or an index: what is bound has a name that nothing has

not-there : (there : Option Entry) (u : Unit {0}) → not_there there ≡ Ok u → there ≡ None
not-there None u e = refl
not-there (Some entry) u e = absurd (let bad : Err (cause.Exists (named_kind entry.kind) entry.name) ≡ Ok u = e in cc)

is-free : (reserved : Bool) (there : Option Entry) (name : List ℕ) (u : Unit {0}) → (if reserved then Err (cause.Reserved name) else not_there there) ≡ Ok u → there ≡ None
is-free true there name u e = absurd (let bad : Err (cause.Reserved name) ≡ Ok u = e in cc)
is-free false there name u e = not-there there u e

-- the name of a table that is created is as it is written
table-named : (a : Around) (text name : List ℕ) (t : TableDefinition) (c : BoundCreation) → table_created a text name t ≡ Ok c → c.name ≡ name
table-named a text name t c e =
    let made = λ (d : Declaring). creates.in_turn (with_table_constraint (creating a text name t)) t.constraints d in
    let first = then-ok (creates.in_turn (with_column (creating a text name t)) t.columns (record { names = []; has_primary = false })) (λ d. made d >>= λ f. Ok (creates.creation_of ATable name [])) c e in
    let second = then-ok (made first.0) (λ f. Ok (creates.creation_of ATable name [])) c first.2 in
    ap (λ (x : BoundCreation). x.name) (sym (same-ok (creates.creation_of ATable name []) c second.2))

-- and so is that of an index
index-named : (a : Around) (text name : List ℕ) (i : IndexDefinition) (there : Option Entry) (c : BoundCreation) → creates.index_by a text name i (name_at text i.table) there ≡ Ok c → c.name ≡ name
index-named a text name i None c e = none (a.facts.host_module (name_at text i.table)) e
  where
    none : (m : Option (Bool × Bool)) → creates.no_entry (name_at text i.table) m ≡ Ok c → c.name ≡ name
    none None f = absurd (cc)
    none (Some (true, writable)) f = absurd (cc)
    none (Some (false, writable)) f = absurd (cc)
index-named a text name i (Some entry) c e = by (table_in (definition_of entry)) e
  where
    by : (o : Option TableDefinition) → creates.index_on a text name i entry o ≡ Ok c → c.name ≡ name
    by None f = absurd (cc)
    by (Some t) f =
        let columns = bound_columns (declared_table a.facts entry.text t).columns in
        let last = λ (u : Unit {0}). Ok (record (creates.creation_of AnIndex name entry.name) { unique = i.unique; parts = index_parts a.facts text columns i.columns }) in
        let first = then-ok (collations_kept a entry t) (λ u. creates.parts_are_there a.facts text columns i.columns >>= last) c f in
        let second = then-ok (creates.parts_are_there a.facts text columns i.columns) last c first.2 in
        ap (λ (x : BoundCreation). x.name) (sym (same-ok _ c second.2))

not-created : (k : ThingKind) (name owner : List ℕ) (c : BoundCreation) → let r : Result BoundCommand Cause = Ok (bound.Nothing k name owner) in r ≡ Ok (bound.Created c) → ⊥
not-created k name owner c e =
    let bad : bound.Nothing k name owner ≡ bound.Created c = same-ok (bound.Nothing k name owner) (bound.Created c) e in cc

-- what has a name among those of tables
abbrev creates_named : Definition → Bool
creates_named (definition.Table t) = true
creates_named (definition.Index i) = true
creates_named other = false

abbrev is_named_made : Command → Bool
is_named_made (command.Create c) = creates_named c.definition
is_named_made other = false

made-named : (o : Outer) (name : List ℕ) (d : Definition) (c : BoundCreation) → creates_named d ≡ true → created_by o name d ≡ Ok c → c.name ≡ name
made-named o name (definition.Table t) c made e = table-named o.around o.text name t c e
made-named o name (definition.Index i) c made e = index-named o.around o.text name i (creates.entry_of o.around (name_at o.text i.table)) c e
made-named o name (definition.View v) c made e = absurd (let bad : false ≡ true = made in cc)
made-named o name (definition.Trigger t) c made e = absurd (let bad : false ≡ true = made in cc)
made-named o name (definition.VirtualTable v) c made e = absurd (let bad : false ≡ true = made in cc)

none-created : (o : Outer) (name : List ℕ) (d : Definition) (c : BoundCreation) → (let r : Result BoundCommand Cause = Ok (nothing_created o name d) in r ≡ Ok (bound.Created c)) → ⊥
none-created o name (definition.Table t) c e = not-created ATable name [] c e
none-created o name (definition.Index i) c e = not-created AnIndex name (creates.table_called o i.table) c e
none-created o name (definition.View v) c e = not-created thing.AView name [] c e
none-created o name (definition.Trigger t) c e = not-created thing.ATrigger name (creates.table_called o t.table) c e
none-created o name (definition.VirtualTable v) c e = not-created thing.AModuleTable name (name_at o.text v.module_name) c e

created-free : (o : Outer) (cr : Create) (name : List ℕ) (there : Option Entry) (c : BoundCreation) → creates_named cr.definition ≡ true → create_there o cr name there ≡ Ok (bound.Created c) → (there ≡ None) × (c.name ≡ name)
created-free o cr name there c named e = by (cr.if_not_exists && is_some there) e
  where
    by : (skips : Bool) → (if skips then Ok (nothing_created o (name_of_entry name there) cr.definition) else (is_free name there >>= λ u. created_by o name cr.definition >>= λ x. Ok (bound.Created x))) ≡ Ok (bound.Created c) → (there ≡ None) × (c.name ≡ name)
    by true f = absurd (none-created o (name_of_entry name there) cr.definition c f)
    by false f =
        let free = then-ok (is_free name there) (λ u. created_by o name cr.definition >>= λ x. Ok (bound.Created x)) (bound.Created c) f in
        let one = then-ok (created_by o name cr.definition) (λ x. Ok (bound.Created x)) (bound.Created c) free.2 in
        let same : bound.Created one.0 ≡ bound.Created c = same-ok (bound.Created one.0) (bound.Created c) one.2 in
        let it : one.0 ≡ c = cc in
        (is-free (is_reserved_name name) there name free.0 free.1, subst (λ (x : BoundCreation). x.name ≡ name) it (made-named o name cr.definition one.0 named one.1))

abbrev creates_table : Definition → Bool
creates_table (definition.Table t) = true
creates_table other = false

abbrev is_table_made : Command → Bool
is_table_made (command.Create c) = creates_table c.definition
is_table_made other = false

made-by : (text : List ℕ) (d : Definition) → is_some (columns_kept (option_map (columns_of text) (table_in (Some d)))) ≡ true → creates_table d ≡ true
made-by text (definition.Table t) there = refl
made-by text (definition.Index i) there = absurd (let bad : false ≡ true = there in cc)
made-by text (definition.View v) there = absurd (let bad : false ≡ true = there in cc)
made-by text (definition.Trigger t) there = absurd (let bad : false ≡ true = there in cc)
made-by text (definition.VirtualTable v) there = absurd (let bad : false ≡ true = there in cc)

-- what declares columns creates a table
made-table : (text : List ℕ) (k : Command) → is_some (columns_created text k) ≡ true → is_table_made k ≡ true
made-table text (command.Create c) there = made-by text c.definition there
made-table text (command.Rows r) there = absurd (let bad : false ≡ true = there in cc)
made-table text (command.Remove r) there = absurd (let bad : false ≡ true = there in cc)
made-table text (command.Transaction t) there = absurd (let bad : false ≡ true = there in cc)
made-table text (command.Pragma p) there = absurd (let bad : false ≡ true = there in cc)

create-free : (o : Outer) (cr : Create) (d : Definition) (c : BoundCreation) → cr.definition ≡ d → creates_named d ≡ true → create_bound o cr ≡ Ok (bound.Created c) → entry_named c.name o.around.catalog.names ≡ None
create-free o cr d c is made e =
    let name = name_at o.text cr.name in
    let f : create_there o cr name (entry_named name o.around.catalog.names) ≡ Ok (bound.Created c) = subst (λ entries. create_there o cr name (entry_named name entries) ≡ Ok (bound.Created c)) (beside cr.definition (ap creates_named is ∙ made)) e in
    let free = created-free o cr name (entry_named name o.around.catalog.names) c (ap creates_named is ∙ made) f in
    subst (λ n. entry_named n o.around.catalog.names ≡ None) (sym free.1) free.0
  where
    beside : (x : Definition) → creates_named x ≡ true → entries_beside o.around x ≡ o.around.catalog.names
    beside (definition.Table t) h = refl
    beside (definition.Index i) h = refl
    beside (definition.View v) h = refl
    beside (definition.Trigger t) h = absurd (let bad : false ≡ true = h in cc)
    beside (definition.VirtualTable v) h = refl

command-free : (o : Outer) (k : Command) (explain : Option Explain) (b : BoundStatement) (c : BoundCreation) → is_named_made k ≡ true → command_bound o k >>= (λ x. Ok (statement_with explain x)) ≡ Ok b → b.command ≡ bound.Created c
    → entry_named c.name o.around.catalog.names ≡ None
command-free o (command.Create cr) explain b c made e is =
    let whole = then-ok (command_bound o (command.Create cr)) (λ x. Ok (statement_with explain x)) b e in
    let one = then-ok (create_bound o cr) (λ x. Ok (plain x)) whole.0 whole.1 in
    let same : plain one.0 ≡ whole.0 = same-ok (plain one.0) whole.0 one.2 in
    let all : statement_with explain whole.0 ≡ b = same-ok (statement_with explain whole.0) b whole.2 in
    let here : one.0 ≡ bound.Created c = ap (λ (x : BoundCommand × Opened). x.0) same ∙ ap (λ (x : BoundStatement). x.command) all ∙ is in
    create-free o cr cr.definition c refl made (one.1 ∙ ap Ok here)
command-free o (command.Rows r) explain b c made e is = absurd (let bad : false ≡ true = made in cc)
command-free o (command.Remove r) explain b c made e is = absurd (let bad : false ≡ true = made in cc)
command-free o (command.Transaction t) explain b c made e is = absurd (let bad : false ≡ true = made in cc)
command-free o (command.Pragma p) explain b c made e is = absurd (let bad : false ≡ true = made in cc)

-- ---- CREATE TABLE: the entry

some-columns : (o : Option (List Column)) → is_some o ≡ true → (columns : List Column) × (o ≡ Some columns)
some-columns (Some columns) there = (columns, refl)
some-columns None there = absurd (let bad : false ≡ true = there in cc)

-- the text of a statement that is built, and that is no larger than its text but for a `;`
pub record IsText (text : List ℕ) (s : Statement) : Type 0 where
  pub built : is_built text s ≡ true
  pub size : size_of_statement s ≤ 1 + length (tokens_of text)

definition-written : (text : List ℕ) (e : Entry) (d : Definition) → e.text ≡ text → e.kind ≡ entry_kind.Table → is_some (table_of e) ≡ true → definition_of e ≡ Some d → creates_table d ≡ true → is_built_definition text d ≡ true → size_of_definition d ≤ 1 + length (tokens_of text) → IsTableEntry e
definition-written text e (definition.Table t) is kind declared defines made built le =
    record {
      kind = kind;
      declared = declared;
      table = t;
      creates = ap table_in defines;
      built = subst (λ u. is_built_table u t ≡ true) (sym is) built;
      size = subst (λ u. size_of_table t ≤ length (tokens_of u)) (sym is) (omega (arith, le));
    }
definition-written text e (definition.Index i) is kind declared defines made built le = absurd (let bad : false ≡ true = made in cc)
definition-written text e (definition.View v) is kind declared defines made built le = absurd (let bad : false ≡ true = made in cc)
definition-written text e (definition.Trigger t) is kind declared defines made built le = absurd (let bad : false ≡ true = made in cc)
definition-written text e (definition.VirtualTable v) is kind declared defines made built le = absurd (let bad : false ≡ true = made in cc)

entry-written : (number : ℕ) (text name : List ℕ) (s : Statement) → IsText text s → is_table_made s.command ≡ true → is_some (table_of (entry_with number text name s)) ≡ true → IsTableEntry (entry_with number text name s)
entry-written number text name s held made declared = by s.command refl made held.built held.size
  where
    by : (k : Command) → s.command ≡ k → is_table_made k ≡ true → is_built_command text k ≡ true → size_of_command k ≤ 1 + length (tokens_of text) → IsTableEntry (entry_with number text name s)
    by (command.Create c) is made built le = definition-written text (entry_with number text name s) c.definition refl refl declared (ap definition_in is) made built le
    by (command.Rows r) is made built le = absurd (let bad : false ≡ true = made in cc)
    by (command.Remove r) is made built le = absurd (let bad : false ≡ true = made in cc)
    by (command.Transaction t) is made built le = absurd (let bad : false ≡ true = made in cc)
    by (command.Pragma p) is made built le = absurd (let bad : false ≡ true = made in cc)

table-named_made : (k : Command) → is_table_made k ≡ true → is_named_made k ≡ true
table-named_made (command.Create c) made = by c.definition made
  where
    by : (d : Definition) → creates_table d ≡ true → creates_named d ≡ true
    by (definition.Table t) h = refl
    by (definition.Index i) h = refl
    by (definition.View v) h = absurd (let bad : false ≡ true = h in cc)
    by (definition.Trigger t) h = absurd (let bad : false ≡ true = h in cc)
    by (definition.VirtualTable v) h = absurd (let bad : false ≡ true = h in cc)
table-named_made (command.Rows r) made = absurd (let bad : false ≡ true = made in cc)
table-named_made (command.Remove r) made = absurd (let bad : false ≡ true = made in cc)
table-named_made (command.Transaction t) made = absurd (let bad : false ≡ true = made in cc)
table-named_made (command.Pragma p) made = absurd (let bad : false ≡ true = made in cc)

index-named_made : (k : Command) (i : IndexDefinition) → definition_in k ≡ Some (definition.Index i) → is_named_made k ≡ true
index-named_made (command.Create c) i is = let one : c.definition ≡ definition.Index i = cc in ap creates_named one
index-named_made (command.Rows r) i is = absurd (cc)
index-named_made (command.Remove r) i is = absurd (cc)
index-named_made (command.Transaction t) i is = absurd (cc)
index-named_made (command.Pragma p) i is = absurd (cc)

module _ (catalog : Entries) (number : ℕ) (text : List ℕ) (s : Statement) (c : BoundCreation) (r : Runnable) (held : IsText text s) (free : is_named_made s.command ≡ true → entry_named c.name catalog.names ≡ None) where
  table-fits : if_built (is_some (columns_created text s.command)) (Ok (Creates (entry_with number text c.name s))) ≡ Ok r → FitsIn catalog number r
  table-fits e =
      let entry = entry_with number text c.name s in
      let built = if_built-ok (is_some (columns_created text s.command)) (Ok (Creates entry)) r e in
      let columns = some-columns (columns_created text s.command) built.0 in
      let made = made-table text s.command built.0 in
      subst (FitsIn catalog number) (same-ok (Creates entry) r built.1) (record {
        free = free (table-named_made s.command made);
        columns = columns.0;
        declared = columns.1;
        number = refl;
        entry = entry-written number text c.name s held made (ap (λ o. is_some (option_map (table_with entry) o)) columns.1);
      })

  index-fits : (i : IndexDefinition) → definition_in s.command ≡ Some (definition.Index i) → if_built (are_own c.parts) (found_table (table_called (tables_of catalog) c.owner) >>= index_on text s c) ≡ Ok r → FitsIn catalog number r
  index-fits i is e =
      let one = then-ok (found_table (table_called (tables_of catalog) c.owner)) (index_on text s c) r (if_built-ok (are_own c.parts) (found_table (table_called (tables_of catalog) c.owner) >>= index_on text s c) r e).1 in
      let found = found-own (tables_of catalog) c.owner one.0 (found_by (table_called (tables_of catalog) c.owner) one.0 one.1) in
      subst (FitsIn catalog number) (same-ok _ r one.2) (record {
        free = free (index-named_made s.command i is);
        found = found;
        entry = record { kind = refl; index = i; creates = ap index_in is; table = ap is_some found };
      })

  creation-fits : (d : Option Definition) → definition_in s.command ≡ d → creation_by (tables_of catalog) number text s c d ≡ Ok r → FitsIn catalog number r
  creation-fits (Some (definition.Index i)) is e = index-fits i is e
  creation-fits (Some (definition.Table t)) is e = table-fits e
  creation-fits (Some (definition.View v)) is e = table-fits e
  creation-fits (Some (definition.Trigger t)) is e = table-fits e
  creation-fits (Some (definition.VirtualTable v)) is e = table-fits e
  creation-fits None is e = table-fits e

-- ---- DROP

removal-fits : (catalog : Entries) (number : ℕ) (k : Option ObjectKind) (name : List ℕ) (r : Runnable) → (k ≡ Some object.Index → IsIndexName catalog name) → removal_of (tables_of catalog) k name ≡ Ok r → FitsIn catalog number r
removal-fits catalog number (Some object.Table) name r there e =
    let drops : TableEntry → Result Runnable Cause = λ t. Ok (Drops t) in
    let tables = tables_of catalog in
    let table = then-ok (found_table (table_called tables name)) drops r e in
    subst (FitsIn catalog number) (same-ok (Drops table.0) r table.2) (found-own tables name table.0 (found_by (table_called tables name) table.0 table.1))
removal-fits catalog number (Some object.Index) name r there e = subst (FitsIn catalog number) (same-ok (Unindexes name) r e) (there refl)
removal-fits catalog number (Some object.View) name r there e = absurd (let bad : Err cause.NotYet ≡ Ok r = e in cc)
removal-fits catalog number (Some object.Trigger) name r there e = absurd (let bad : Err cause.NotYet ≡ Ok r = e in cc)
removal-fits catalog number None name r there e = absurd (let bad : Err cause.NotYet ≡ Ok r = e in cc)

-- an index that is dropped is there
module _ (catalog : Entries) (if_exists : Bool) (name : List ℕ) (x : BoundRemoval) where
  none-removed : (skips : Bool) (there : Option Entry) → removed skips object.Index name there None ≡ Ok (bound.Removed x) → ⊥
  none-removed true there f = let bad : bound.Nothing (thing_meant object.Index) (name_of_entry name there) [] ≡ bound.Removed x = same-ok _ _ f in cc
  none-removed false there f = cc

  index-there : (entry : Entry) (k : EntryKind) → entry.kind ≡ k → entry_named name catalog.names ≡ Some entry → removed if_exists object.Index name (Some entry) (thing_with entry (thing_of object.Index k)) ≡ Ok (bound.Removed x) → IsIndexName catalog x.name
  index-there entry entry_kind.Index kind is f =
      let made : BoundRemoval = record { kind = thing.AnIndex; name = entry.name; owner = entry.owner } in
      let same : bound.Removed made ≡ bound.Removed x = same-ok (bound.Removed made) (bound.Removed x) f in
      let it : made ≡ x = cc in
      subst (λ (y : BoundRemoval). IsIndexName catalog y.name) it (record { entry = entry; found = (entry-own catalog.names name entry is).1; kind = kind })
  index-there entry entry_kind.Table kind is f = absurd (none-removed if_exists (Some entry) f)
  index-there entry entry_kind.Module kind is f = absurd (none-removed if_exists (Some entry) f)
  index-there entry entry_kind.View kind is f = absurd (none-removed if_exists (Some entry) f)
  index-there entry entry_kind.Trigger kind is f = absurd (none-removed if_exists (Some entry) f)

  removed-there : (there : Option Entry) → entry_named name catalog.names ≡ there → remove_of if_exists object.Index name there ≡ Ok (bound.Removed x) → IsIndexName catalog x.name
  removed-there None is f = absurd (none-removed if_exists None f)
  removed-there (Some entry) is f = index-there entry entry.kind refl is f

remove-there : (o : Outer) (r : Remove) (k : ObjectKind) (x : BoundRemoval) → r.kind ≡ k → k ≡ object.Index → remove_bound o r ≡ Ok (bound.Removed x) → IsIndexName o.around.catalog x.name
remove-there o r object.Index x is one e =
    let name = name_at o.text r.name in
    let f : remove_of r.if_exists object.Index name (entry_named name o.around.catalog.names) ≡ Ok (bound.Removed x) = subst (λ k. remove_of r.if_exists k name (entry_named name (entries_of o.around k)) ≡ Ok (bound.Removed x)) is e in
    removed-there o.around.catalog r.if_exists name x (entry_named name o.around.catalog.names) refl f
remove-there o r object.Table x is one e = absurd (cc)
remove-there o r object.View x is one e = absurd (cc)
remove-there o r object.Trigger x is one e = absurd (cc)

command-there : (o : Outer) (k : Command) (explain : Option Explain) (b : BoundStatement) (x : BoundRemoval) → kind_removed k ≡ Some object.Index → command_bound o k >>= (λ y. Ok (statement_with explain y)) ≡ Ok b → b.command ≡ bound.Removed x → IsIndexName o.around.catalog x.name
command-there o (command.Remove r) explain b x removes e is =
    let whole = then-ok (command_bound o (command.Remove r)) (λ y. Ok (statement_with explain y)) b e in
    let one = then-ok (remove_bound o r) (λ y. Ok (plain y)) whole.0 whole.1 in
    let same : plain one.0 ≡ whole.0 = same-ok (plain one.0) whole.0 one.2 in
    let all : statement_with explain whole.0 ≡ b = same-ok (statement_with explain whole.0) b whole.2 in
    let here : one.0 ≡ bound.Removed x = ap (λ (y : BoundCommand × Opened). y.0) same ∙ ap (λ (y : BoundStatement). y.command) all ∙ is in
    let index : r.kind ≡ object.Index = cc in
    remove-there o r r.kind x refl index (one.1 ∙ ap Ok here)
command-there o (command.Create c) explain b x removes e is = absurd (cc)
command-there o (command.Rows r) explain b x removes e is = absurd (cc)
command-there o (command.Transaction t) explain b x removes e is = absurd (cc)
command-there o (command.Pragma p) explain b x removes e is = absurd (cc)

-- ---- whatever runs

-- what is created has a name that is free, and an index that is dropped is there
record IsThere (catalog : Entries) (s : Statement) (k : BoundCommand) : Type 0 where
  free : (c : BoundCreation) → k ≡ bound.Created c → is_named_made s.command ≡ true → entry_named c.name catalog.names ≡ None
  index : (x : BoundRemoval) → k ≡ bound.Removed x → kind_removed s.command ≡ Some object.Index → IsIndexName catalog x.name

command-fits : (catalog : Entries) (number : ℕ) (text : List ℕ) (s : Statement) (units : List BoundUnit) (k : BoundCommand) (r : Runnable) → IsText text s → IsThere catalog s k → command_of (tables_of catalog) number text s units k ≡ Ok r → FitsIn catalog number r
command-fits catalog number text s units (bound.Asked place) r held there e = query-fits catalog number units place r e
command-fits catalog number text s units (bound.Written w) r held there e = put-fits catalog number units w r e
command-fits catalog number text s units (bound.Created c) r held there e = creation-fits catalog number text s c r held (there.free c refl) (definition_in s.command) refl e
command-fits catalog number text s units (bound.Removed x) r held there e = removal-fits catalog number (kind_removed s.command) x.name r (there.index x refl) e
command-fits catalog number text s units (bound.Transacted t) r held there e = absurd (let bad : Err cause.NotYet ≡ Ok r = e in cc)
command-fits catalog number text s units (bound.Pragma name) r held there e = subst (FitsIn catalog number) (same-ok DoesNothing r e) tt
command-fits catalog number text s units (bound.Nothing kind name owner) r held there e = subst (FitsIn catalog number) (same-ok DoesNothing r e) tt

-- ---- what is permitted is the statement that was bound, but for what reads NULL

abbrev IsNoWrite : BoundCommand → Type 0
IsNoWrite (bound.Written w) = ⊥
IsNoWrite other = ⊤

-- neither a creation nor a removal has anything that is ignored
marked-same : (ignored : List Action) (k made : BoundCommand) → IsNoWrite made → marked_command ignored k ≡ made → k ≡ made
marked-same ignored (bound.Created d) made aside is = is
marked-same ignored (bound.Asked place) made aside is = is
marked-same ignored (bound.Written w) made aside is = absurd (subst IsNoWrite (sym is) aside)
marked-same ignored (bound.Removed r) made aside is = is
marked-same ignored (bound.Transacted t) made aside is = is
marked-same ignored (bound.Pragma name) made aside is = is
marked-same ignored (bound.Nothing kind name owner) made aside is = is

permitted-same : (b : BoundStatement) (p : Permit) (allowed : BoundStatement) (made : BoundCommand) → IsNoWrite made → permitted b p ≡ Ok allowed → allowed.command ≡ made → b.command ≡ made
permitted-same b (Denies action) allowed made aside e is = absurd (let bad : Err (cause.Denied action) ≡ Ok allowed = e in cc)
permitted-same b (Ignores []) allowed made aside e is = ap (λ (x : BoundStatement). x.command) (same-ok b allowed e) ∙ is
permitted-same b (Ignores (a ∷ ignored)) allowed made aside e is =
    marked-same (a ∷ ignored) b.command made aside (ap (λ (x : BoundStatement). x.command) (same-ok (ignoring (a ∷ ignored) b) allowed e) ∙ is)

pub permitted-created : (b : BoundStatement) (p : Permit) (allowed : BoundStatement) (c : BoundCreation) → permitted b p ≡ Ok allowed → allowed.command ≡ bound.Created c → b.command ≡ bound.Created c
permitted-created b p allowed c e is = permitted-same b p allowed (bound.Created c) tt e is

-- over any FROMs and depth, since these are never entered here
bound-fits : (o : Outer) (number : ℕ) (text : List ℕ) (s : Statement) (b : BoundStatement) (p : Permit) (allowed : BoundStatement) (r : Runnable) → IsText text s → command_bound o s.command >>= (λ x. Ok (statement_with s.explain x)) ≡ Ok b → permitted b p ≡ Ok allowed
    → runnable_of (tables_of o.around.catalog) number text s allowed ≡ Ok r → FitsIn o.around.catalog number r
bound-fits o number text s b p allowed r held is may e =
    command-fits o.around.catalog number text s allowed.units allowed.command r held (record {
      free = λ c here made. command-free o s.command s.explain b c made is (permitted-created b p allowed c may here);
      index = λ x here removes. command-there o s.command s.explain b x removes is (permitted-same b p allowed (bound.Removed x) tt may here);
    }) e

plain-fits : (asked : Asking) (catalog : Entries) (number : ℕ) (text : List ℕ) (s : Statement) (r : Runnable) → size_of_statement s ≤ 1 + length (tokens_of text) → plain_bound asked catalog number text s ≡ Ok r → FitsIn catalog number r
plain-fits asked catalog number text s r le e =
    let a = around catalog in
    let run : BoundStatement → Result Runnable Cause = runnable_of (tables_of catalog) number text s in
    let built = if_built-ok (is_built text s) (bound_of a text s >>= λ b. permitted b (asked b) >>= run) r e in
    let made = then-ok (bound_of a text s) (λ b. permitted b (asked b) >>= run) r built.1 in
    let may = then-ok (permitted made.0 (asked made.0)) run r made.2 in
    bound-fits (outer_at a (full_depth a) text [] in_statement) number text s made.0 (asked made.0) may.0 r (record { built = built.0; size = le }) made.1 may.1 may.2

-- what is shown of a statement fits as it does
explained-fits : (catalog : Entries) (number : ℕ) (how : Option Explain) (answer : Result Runnable Cause) (r : Runnable) → ((b : Runnable) → answer ≡ Ok b → FitsIn catalog number b) → explained how answer ≡ Ok r → FitsIn catalog number r
explained-fits catalog number None answer r fits e = fits r e
explained-fits catalog number (Some how) answer r fits e =
    let show : Runnable → Result Runnable Cause = λ b. Ok (Explains how b) in
    let made = then-ok answer show r e in
    subst (FitsIn catalog number) (same-ok (Explains how made.0) r made.2) (fits made.0 made.1)

pub statement-fits : (asked : Asking) (catalog : Entries) (number : ℕ) (text : List ℕ) (s : Statement) (r : Runnable) → size_of_statement s ≤ 1 + length (tokens_of text) → statement_bound asked catalog number text s ≡ Ok r → FitsIn catalog number r
statement-fits asked catalog number text s r le e =
    explained-fits catalog number s.explain (plain_bound asked catalog number text s) r (λ b is. plain-fits asked catalog number text s b le is) e

answer-fits : (asked : Asking) (w : World) (before : ℕ) (text : List ℕ) (x : Answer Statement) (b : Runnable) → answer_of text ≡ x → answer_bound asked w before text x ≡ Ok b → FitsIn w.catalog (length w.tables) b
answer-fits asked w before text (Tree s) b is e = statement-fits asked w.catalog (length w.tables) (body_of text) s b (statement-sized text s is) e
answer-fits asked w before text (Syntax rest) b is e = absurd (let bad : Err (cause.Syntax (before + place (length text) rest)) ≡ Ok b = e in cc)
answer-fits asked w before text (TooMuch l rest) b is e = absurd (let bad : Err (cause.Limit (limit_kind l)) ≡ Ok b = e in cc)

pub text-fits : (asked : Asking) (w : World) (text : List ℕ) (b : Runnable) → text_bound asked w text ≡ Ok b → FitsIn w.catalog (length w.tables) b
text-fits asked w text b e =
    let before = start_of (tokens_of text) 0 in answer-fits asked w before (drop before text) (answer_of (drop before text)) b refl e

-- ---- states

-- the table of a new entry
pub created-table : (catalog : Entries) (number : ℕ) (e : Entry) (c : IsCreated catalog number e) → table_of e ≡ Some (table_with e c.columns)
created-table catalog number e c = ap (λ o. option_map (table_with e) o) c.declared

-- ---- entries that stay

-- an entry of an index is that of no table, and one of a table is kept where the indexes of a table go
pub index-else : (table : List ℕ) (tables : List TableEntry) (e : Entry) → IsEntry tables e → LeavesNoTable (λ x. not (is_index_on table x)) e
index-else table tables e (inr i) out = index-no_table e i.index i.creates
index-else table tables e (inl t) out =
    let kind : is_index_on table e ≡ false = ap (λ k. is_index k && is_same_name e.owner table) t.kind in
    absurd (let bad : true ≡ false = sym (ap not kind) ∙ out in cc)

-- where a table goes with its indexes
entry-left : (gone : List ℕ) (tables : List TableEntry) (e : Entry) → not (is_index_on gone e) ≡ true → IsEntry tables e → IsEntry (filter (is_other gone) tables) e
entry-left gone tables e kept (inl t) = inl t
entry-left gone tables e kept (inr i) =
    let owner : is_same_name e.owner gone ≡ false = from_not (is_same_name e.owner gone) (subst (λ k. not (is_index k && is_same_name e.owner gone) ≡ true) i.kind kept) in
    inr (record { kind = i.kind; index = i.index; creates = i.creates; table = ap is_some (called-others tables gone e.owner owner) ∙ i.table })
  where
    from_not : (b : Bool) → not b ≡ true → b ≡ false
    from_not true h = absurd (cc)
    from_not false h = refl

-- where a table comes
entry-more : (tables : List TableEntry) (t : TableEntry) (e : Entry) → IsEntry tables e → IsEntry (tables ++ t ∷ []) e
entry-more tables t e (inl x) = inl x
entry-more tables t e (inr i) = inr (record { kind = i.kind; index = i.index; creates = i.creates; table = called-more tables t e.owner i.table })

-- where an index goes, the tables are as they were
named-else : (catalog : Entries) (name : List ℕ) → IsIndexName catalog name → HaveOtherNames catalog.names → All (IsEntry (tables_of catalog)) catalog.names → All (LeavesNoTable (λ e. not (is_same_name e.name name))) catalog.names
named-else catalog name index others entries = λ k d l out.
    let e = slice_index_or catalog.names k d in
    let it : e ≡ index.entry = named-once catalog.names name index.entry others index.found k d l (named (is_same_name e.name name) out) in
    no_table e (ap (λ (x : Entry). x.kind) it ∙ index.kind) (entries k d l)
  where
    named : (b : Bool) → not b ≡ false → b ≡ true
    named true h = refl
    named false h = absurd (cc)

    no_table : (e : Entry) → e.kind ≡ entry_kind.Index → IsEntry (tables_of catalog) e → table_of e ≡ None
    no_table e kind (inl t) = absurd (let bad : entry_kind.Table ≡ entry_kind.Index = sym t.kind ∙ kind in cc)
    no_table e kind (inr i) = index-no_table e i.index i.creates

module _ (state : State) (valid : IsValid state) where
  abbrev pub names : List Entry
  names = state.world.catalog.names

  abbrev pub tables : List TableEntry
  tables = tables_among names

  -- with one entry more, and the others as they were
  names-more : (e : Entry) → entry_named e.name names ≡ None → HaveOtherNames (names ++ e ∷ [])
  names-more e free = all_pairs_push (λ (a b : Entry). is_same_name a.name b.name ≡ false) names e valid.world.names (none-else names e.name free)

  create-valid : (e : Entry) → IsCreated state.world.catalog (length state.world.tables) e → IsValid (with_created state e)
  create-valid e c =
      let t = table_with e c.columns in
      let is = created-table state.world.catalog (length state.world.tables) e c in
      let catalog_is = with_entry-names e state.world.catalog (ap space_of c.entry.kind) in
      let tables_are = among-push names e t is in
      let world : World = record { catalog = record { names = names ++ e ∷ []; triggers = state.world.catalog.triggers }; tables = state.world.tables ++ [] ∷ [] } in
      let held : IsWorld world = record {
        names = names-more e c.free;
        triggers = valid.world.triggers;
        entries = subst (λ ts. All (IsEntry ts) (names ++ e ∷ [])) (sym tables_are)
            (All-push (IsEntry (tables ++ t ∷ [])) names e (entries-by (IsEntry tables) (IsEntry (tables ++ t ∷ [])) names (entry-more tables t) valid.world.entries) (inl c.entry));
        numbers = subst (AllPairs (λ (a b : TableEntry). a.number ≢ b.number)) (sym tables_are) (numbers-more state.world.tables tables t valid.world.numbers valid.world.tables c.number);
        tables = subst (All (IsTable (state.world.tables ++ [] ∷ []))) (sym tables_are) (tables-more state.world.tables tables t valid.world.tables c.number);
      } in
      record {
        world = subst (λ (k : Entries). IsWorld (record { catalog = k; tables = state.world.tables ++ [] ∷ [] })) (sym catalog_is) held;
        marks = valid.marks;
        last_rowid = valid.last_rowid;
      }

  -- the tables that are left where one goes
  pub left : (t : TableEntry) → tables_of (without_table state t).world.catalog ≡ filter (is_other t.name) tables
  left t =
      let p = λ (e : Entry). not (is_index_on t.name e) in
      among-others t.name (filter p names) ∙ ap (filter (is_other t.name)) (among-kept p names (entries-by (IsEntry tables) (LeavesNoTable p) names (index-else t.name tables) valid.world.entries))

  drop-valid : (t : TableEntry) → IsValid (without_table state t)
  drop-valid t =
      let others = left t in
      let p = λ (e : Entry). not (is_index_on t.name e) in
      let q = λ (e : Entry). not (is_same_name e.name t.name) in
      let stay = all-kept (IsEntry tables) p names valid.world.entries in
      let rest = entries-by (λ e. (p e ≡ true) × IsEntry tables e) (IsEntry (filter (is_other t.name) tables)) (filter p names) (λ e h. entry-left t.name tables e h.0 h.1) stay in
      record {
        world = record {
          names = AllPairs-filter (λ (a b : Entry). is_same_name a.name b.name ≡ false) q (filter p names) (AllPairs-filter (λ (a b : Entry). is_same_name a.name b.name ≡ false) p names valid.world.names);
          triggers = valid.world.triggers;
          entries = subst (λ ts. All (IsEntry ts) (filter q (filter p names))) (sym others) (All-filter q (IsEntry (filter (is_other t.name) tables)) (filter p names) rest);
          numbers = subst (AllPairs (λ (a b : TableEntry). a.number ≢ b.number)) (sym others) (AllPairs-filter (λ (a b : TableEntry). a.number ≢ b.number) (is_other t.name) tables valid.world.numbers);
          tables = subst (All (IsTable (without_table state t).world.tables)) (sym others)
              (All-filter (is_other t.name) (IsTable (without_table state t).world.tables) tables (tables-emptied state.world.tables tables t.number valid.world.tables));
        };
        marks = valid.marks;
        last_rowid = valid.last_rowid;
      }

  -- another catalog with the same tables
  catalog-valid : (c : Entries) → HaveOtherNames c.names → HaveOtherNames c.triggers → All (IsEntry tables) c.names → tables_of c ≡ tables → IsValid (with_catalog state c)
  catalog-valid c named triggers entries same = record {
    world = record {
      names = named;
      triggers = triggers;
      entries = subst (λ ts. All (IsEntry ts) c.names) (sym same) entries;
      numbers = subst (AllPairs (λ (a b : TableEntry). a.number ≢ b.number)) (sym same) valid.world.numbers;
      tables = subst (All (IsTable state.world.tables)) (sym same) valid.world.tables;
    };
    marks = valid.marks;
    last_rowid = valid.last_rowid;
  }

  -- the tables beside an index that comes, and beside one that goes
  pub tables-beside : (i : NewIndex) → IsIndexed state.world.catalog i → tables_of (with_entry i.entry state.world.catalog) ≡ tables
  tables-beside i is =
      ap tables_of (with_entry-names i.entry state.world.catalog (ap space_of is.entry.kind)) ∙ among-beside names i.entry (index-no_table i.entry is.entry.index is.entry.creates)

  pub tables-without : (name : List ℕ) → IsIndexName state.world.catalog name → tables_of (without_name space.Names name state.world.catalog) ≡ tables
  tables-without name is = among-kept (λ e. not (is_same_name e.name name)) names (named-else state.world.catalog name is valid.world.names valid.world.entries)

  indexed-valid : (i : NewIndex) → IsIndexed state.world.catalog i → IsValid (with_catalog state (with_entry i.entry state.world.catalog))
  indexed-valid i is =
      let c : Entries = record { names = names ++ i.entry ∷ []; triggers = state.world.catalog.triggers } in
      let catalog_is = with_entry-names i.entry state.world.catalog (ap space_of is.entry.kind) in
      subst (λ (k : Entries). IsValid (with_catalog state k)) (sym catalog_is)
      (catalog-valid c (names-more i.entry is.free) valid.world.triggers (All-push (IsEntry tables) names i.entry valid.world.entries (inr is.entry)) (ap tables_of (sym catalog_is) ∙ tables-beside i is))

  index-valid : (i : NewIndex) (broken : Bool) (o : Outcome) → IsIndexed state.world.catalog i → o.next ≡ state → IsValid (if broken then o else done [] (with_catalog state (with_entry i.entry state.world.catalog))).next
  index-valid i true o is same = subst IsValid (sym same) valid
  index-valid i false o is same = indexed-valid i is

  unindex-valid : (name : List ℕ) → IsIndexName state.world.catalog name → IsValid (with_catalog state (without_name space.Names name state.world.catalog))
  unindex-valid name is =
      let p = λ (e : Entry). not (is_same_name e.name name) in
      catalog-valid (without_name space.Names name state.world.catalog) (AllPairs-filter (λ (a b : Entry). is_same_name a.name b.name ≡ false) p names valid.world.names) valid.world.triggers
      (All-filter p (IsEntry tables) names valid.world.entries) (tables-without name is)

  -- the rows of a table that is found
  pub found-rows : (t : TableEntry) → table_called tables t.name ≡ Some t → IsTable state.world.tables t
  found-rows t found = found-all (IsTable state.world.tables) tables t.name t valid.world.tables found

  -- what a write without a failure puts
  pub source_put : (p : Put) (env : Environment) (source : List (List Value)) → IsPut tables p → Gives (λ u x. PutsRows p.table env p.insert p.table.number (begun state) x (length source)) never anyhow (rows_put env p.insert source (begun state))
  source_put p env source put =
      let held = found-rows p.table put.found in
      rows_put-gives p.table env p.insert source (begun state) put.into held.there held.rows

  write-valid : (t : TableEntry) (env : Environment) (b : BoundInsert) (x : Written) (count : ℕ) → table_called tables t.name ≡ Some t → PutsRows t env b t.number (begun state) x count → IsValid (written state x).next
  write-valid t env b x count found put =
      record {
        world = record {
          names = valid.world.names;
          triggers = valid.world.triggers;
          entries = valid.world.entries;
          numbers = valid.world.numbers;
          tables = subst (λ lists. All (IsTable lists) tables) (sym put.world) (tables-with state.world.tables tables t put.rows valid.world.numbers found put.valid valid.world.tables);
        };
        marks = valid.marks;
        last_rowid = put.fits valid.last_rowid;
      }

  closed-valid : (t : TableEntry) (env : Environment) (b : BoundInsert) (count : ℕ) (s : Effect) → table_called tables t.name ≡ Some t → Gives (λ u x. PutsRows t env b t.number (begun state) x count) never anyhow s → IsValid (closed state s).next
  closed-valid t env b count (Done u x) found put = write-valid t env b x count found put
  closed-valid t env b count (Left x) found put = absurd put
  closed-valid t env b count (Fails causes x) found put = valid

put_source-valid : (ctx : Context) (p : Put) (causes : Option CauseSet) (source : List (List Value)) → IsValid ctx.state → IsPut (tables_in ctx.state) p → IsValid (put_source ctx p causes source).next
put_source-valid ctx p (Some causes) source valid put = valid
put_source-valid ctx p None source valid put =
    let env = environment_at ctx [] in
    closed-valid ctx.state valid p.table env p.insert (length source) (rows_put env p.insert source (begun ctx.state)) put.found (source_put ctx.state valid p env source put)

-- every outcome of a valid state is valid
outcome-valid : (ctx : Context) (b : Runnable) → IsValid ctx.state → FitsIn ctx.state.world.catalog (length ctx.state.world.tables) b → IsValid (outcome_of ctx b).next
outcome-valid ctx (Creates e) valid fits = create-valid ctx.state valid e fits
outcome-valid ctx (Drops t) valid fits = drop-valid ctx.state valid t
outcome-valid ctx (Indexes i) valid fits = index-valid ctx.state valid i (i.unique && has_doubles i.terms (rows_at ctx.state.world.tables i.table.number)) (failed ctx.state (only (cause.Constraint constraint.Unique i.table.name))) fits refl
outcome-valid ctx (Unindexes name) valid fits = unindex-valid ctx.state valid name fits
outcome-valid ctx (Puts p) valid fits = put_source-valid ctx p (causes_of (source_of ctx p)) (given_of (source_of ctx p)) valid fits
outcome-valid ctx (Queries q) valid fits = valid
outcome-valid ctx (Shows rows) valid fits = valid
outcome-valid ctx DoesNothing valid fits = valid
outcome-valid ctx (Explains how b) valid fits = valid

bound-valid : (ctx : Context) (r : Result Runnable Cause) → IsValid ctx.state → ((b : Runnable) → r ≡ Ok b → FitsIn ctx.state.world.catalog (length ctx.state.world.tables) b) → IsValid (bound_outcome ctx r).next
bound-valid ctx (Ok b) valid fits = outcome-valid ctx b valid (fits b refl)
bound-valid ctx (Err why) valid fits = valid

pub outcome_where-valid : (asked : Asking) (ctx : Context) (text : List ℕ) → IsValid ctx.state → IsValid (outcome_where asked ctx text).next
outcome_where-valid asked ctx text valid = bound-valid ctx (text_bound asked ctx.state.world text) valid (text-fits asked ctx.state.world text)

pub text_outcome-valid : (ctx : Context) (text : List ℕ) → IsValid ctx.state → IsValid (text_outcome ctx text).next
text_outcome-valid ctx text valid = outcome_where-valid (asked_by ctx.hosts.authorizer) ctx text valid
