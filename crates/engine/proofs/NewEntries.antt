-- The entry of a table that is created is the one that the definition creates, and declares the table.
use Rattle.std.proofs.Common.{◌≡◌, ℕ, List, length, Option, Some, None, is_some, Result, Ok, Err, refl, subst, sym, ap, ◌∙◌}
use Rattle.std.specs.Option.{option_map}
use Rattle.std.specs.Bool.{⊤}
use Rattle.bind_stmt.specs.Binds.{BindsTo, IsBound, IsIndexAs}
use Rattle.bind_stmt.specs.declared.creating.NewIndex.{NewIndex as BoundIndex}
use Rattle.eng_entry.specs.declared.entry.EntryKind.TheVariants as entry_kind
use Rattle.sql_tree.specs.declared.statement.Definition.{Definition}
use Rattle.sql_tree.specs.declared.statement.Definition.TheVariants as definition
use Rattle.sql_tree.specs.declared.statement.ObjectKind.{ObjectKind}
use Rattle.sql_tree.specs.declared.statement.ObjectKind.TheVariants as object
use Rattle.sql_bound.specs.Declarations.{definition_in}
use Rattle.bind_stmt.specs.Small.{IsSmall}
use Rattle.bind_stmt.specs.declared.creating.NewTable.{NewTable}
use Rattle.bind_stmt.specs.declared.statement.Bound.TheVariants as bound
use Rattle.eng_entry.specs.declared.entry.Entry.{Entry}
use Rattle.eng_value.specs.declared.cause.Cause.{Cause}
use Rattle.eng_value.specs.declared.cause.Cause.TheVariants as cause
use Rattle.sql_lex.specs.Tokens.{tokens_of}
use Rattle.sql_words.specs.Refusals.{◌>>=◌}
use Rattle.sql_meaning.specs.declared.column.TableEntry.{TableEntry}
use Rattle.sql_tree.specs.declared.statement.Statement.{Statement}
use Rattle.engine.specs.Prepared.{Readies, index_entry_in}
use Rattle.engine.specs.declared.preparing.NewEntry.{NewEntry}
use Rattle.engine.specs.declared.preparing.NewIndexEntry.{NewIndexEntry}
use Rattle.engine.specs.declared.preparing.Ready.TheVariants as ready
use Rattle.std.specs.Prelude.{nat_eq, slice_get}
use Rattle.std.specs.List.{flat_map}
use Rattle.eng_entry.specs.Entries.{Entries}
use Rattle.bound_tree.specs.Conditions.{conditions_of}
use Rattle.bound_tree.specs.declared.statements.BoundCommand.{BoundCommand}
use Rattle.bound_tree.specs.declared.statements.BoundCommand.TheVariants as made
use Rattle.bound_tree.specs.declared.statements.BoundCreation.{BoundCreation}
use Rattle.bound_tree.specs.declared.units.BoundPart.{BoundPart}
use Rattle.bound_tree.specs.declared.units.BoundPart.TheVariants as part
use Rattle.bound_tree.specs.declared.units.BoundUnit.{BoundUnit}
use Rattle.bound_tree.specs.declared.writes.BoundWrite.{BoundWrite}
use Rattle.sql_bound.specs.Statements.{bound_of}
use Rattle.sql_meaning.proofs.ValidLaws.{if_built-ok, same-ok, then-ok}
use Rattle.sql_meaning.specs.Built.{is_built}
use Rattle.sql_meaning.specs.Declarations.{columns_created, rowid_created, table_called, table_with, tables_of}
use Rattle.sql_meaning.specs.Runnables.{Creates, DoesNothing, Drops, Explains, FromItem, Indexes, Put, Puts, Queries, Runnable, Shows, Unindexes}
use Rattle.sql_meaning.specs.Running.{are_own, command_of, creation_by, entry_with, has_own_keys, if_built, index_entry_with, index_on, kind_removed, first_part, found_table, from_of, is_plain_core, part_of, put_into, put_of, query_of, rejecting, removal_of, runnable_of, table_of_source}
use Rattle.bound_tree.specs.declared.statements.BoundStatement.{BoundStatement}
use Rattle.sql_meaning.specs.Permits.{Asking, permitted}
use Rattle.sql_meaning.specs.Statement.{around, plain_bound}

not_nothing : (e : Entry) → let r : Result Runnable Cause = Ok DoesNothing in r ≡ Ok (Creates e) → ⊥
not_nothing e h = let bad : DoesNothing ≡ Creates e = same-ok DoesNothing (Creates e) h in absurd (cc)

not_refused : (e : Entry) → let r : Result Runnable Cause = Err cause.NotYet in r ≡ Ok (Creates e) → ⊥
not_refused e h = absurd (let bad : Err cause.NotYet ≡ Ok (Creates e) = h in cc)

-- ---- what is made of other commands is no entry

part-creates : (tables : List TableEntry) (p : BoundPart) (e : Entry) → part_of tables p ≡ Ok (Creates e) → ⊥
part-creates tables (part.Values rows) e h = let bad : Shows rows ≡ Creates e = same-ok (Shows rows) (Creates e) h in absurd (cc)
part-creates tables (part.Select c) e h =
    let shown : List FromItem → Result Runnable Cause = λ from. Ok (Queries (record { from = from; conjuncts = flat_map conditions_of (rejecting c); results = c.results })) in
    let made = then-ok (from_of tables c.items) shown (Creates e) (if_built-ok (is_plain_core c) (from_of tables c.items >>= shown) (Creates e) h).1 in
    let bad : Queries (record { from = made.0; conjuncts = flat_map conditions_of (rejecting c); results = c.results }) ≡ Creates e = same-ok _ (Creates e) made.2 in
    absurd (cc)

query-creates : (tables : List TableEntry) (units : List BoundUnit) (place : ℕ) (e : Entry) → query_of tables units place ≡ Ok (Creates e) → ⊥
query-creates tables units place e h =
    let made = then-ok (first_part (slice_get units place)) (part_of tables) (Creates e) h in part-creates tables made.0 e made.2

put-creates : (tables : List TableEntry) (units : List BoundUnit) (w : BoundWrite) (e : Entry) → put_of tables units w ≡ Ok (Creates e) → ⊥
put-creates tables units w e h =
    let puts : Put → Result Runnable Cause = λ put. Ok (Puts put) in
    let into : TableEntry → Result Runnable Cause = λ t. put_into t w.target units w.change >>= puts in
    let bare = if_built-ok (has_own_keys w.target.item.indexes) (table_of_source tables w.target.item.source >>= into) (Creates e) h in
    let table = then-ok (table_of_source tables w.target.item.source) into (Creates e) bare.1 in
    let put = then-ok (put_into table.0 w.target units w.change) puts (Creates e) table.2 in
    let bad : Puts put.0 ≡ Creates e = same-ok (Puts put.0) (Creates e) put.2 in absurd (cc)

removal-creates : (tables : List TableEntry) (k : Option ObjectKind) (name : List ℕ) (e : Entry) → removal_of tables k name ≡ Ok (Creates e) → ⊥
removal-creates tables (Some object.Table) name e h =
    let drops : TableEntry → Result Runnable Cause = λ t. Ok (Drops t) in
    let table = then-ok (found_table (table_called tables name)) drops (Creates e) h in
    let bad : Drops table.0 ≡ Creates e = same-ok (Drops table.0) (Creates e) table.2 in absurd (cc)
removal-creates tables (Some object.Index) name e h = let bad : Unindexes name ≡ Creates e = same-ok (Unindexes name) (Creates e) h in absurd (cc)
removal-creates tables (Some object.View) name e h = not_refused e h
removal-creates tables (Some object.Trigger) name e h = not_refused e h
removal-creates tables None name e h = not_refused e h

-- ---- its entry

abbrev IsEntryFor : ℕ → List ℕ → Statement → Entry → Type 0
IsEntryFor number text s e = e ≡ entry_with number text e.name s

table-entry : (number : ℕ) (text : List ℕ) (s : Statement) (c : BoundCreation) (e : Entry) → if_built (is_some (columns_created text s.command)) (Ok (Creates (entry_with number text c.name s))) ≡ Ok (Creates e) → IsEntryFor number text s e
table-entry number text s c e h =
    let entry = entry_with number text c.name s in
    let made = if_built-ok (is_some (columns_created text s.command)) (Ok (Creates entry)) (Creates e) h in
    let one : Creates entry ≡ Creates e = same-ok (Creates entry) (Creates e) made.1 in
    let same : entry ≡ e = cc in
    sym same ∙ ap (λ (x : Entry). entry_with number text x.name s) same

creation-entry : (tables : List TableEntry) (number : ℕ) (text : List ℕ) (s : Statement) (c : BoundCreation) (d : Option Definition) (e : Entry) → creation_by tables number text s c d ≡ Ok (Creates e) → IsEntryFor number text s e
creation-entry tables number text s c (Some (definition.Index i)) e h =
    let one = then-ok (found_table (table_called tables c.owner)) (index_on text s c) (Creates e) (if_built-ok (are_own c.parts) (found_table (table_called tables c.owner) >>= index_on text s c) (Creates e) h).1 in
    absurd (index-creates text s c one.0 e one.2)
  where
    index-creates : (text : List ℕ) (s : Statement) (c : BoundCreation) (t : TableEntry) (e : Entry) → index_on text s c t ≡ Ok (Creates e) → ⊥
    index-creates text s c t e h = let bad : Indexes _ ≡ Creates e = same-ok _ (Creates e) h in cc
creation-entry tables number text s c (Some (definition.Table t)) e h = table-entry number text s c e h
creation-entry tables number text s c (Some (definition.View v)) e h = table-entry number text s c e h
creation-entry tables number text s c (Some (definition.Trigger t)) e h = table-entry number text s c e h
creation-entry tables number text s c (Some (definition.VirtualTable v)) e h = table-entry number text s c e h
creation-entry tables number text s c None e h = table-entry number text s c e h

command-entry : (tables : List TableEntry) (number : ℕ) (text : List ℕ) (s : Statement) (units : List BoundUnit) (k : BoundCommand) (e : Entry) → command_of tables number text s units k ≡ Ok (Creates e) → IsEntryFor number text s e
command-entry tables number text s units (made.Asked place) e h = absurd (query-creates tables units place e h)
command-entry tables number text s units (made.Written w) e h = absurd (put-creates tables units w e h)
command-entry tables number text s units (made.Created c) e h = creation-entry tables number text s c (definition_in s.command) e h
command-entry tables number text s units (made.Removed r) e h = absurd (removal-creates tables (kind_removed s.command) r.name e h)
command-entry tables number text s units (made.Transacted t) e h = absurd (not_refused e h)
command-entry tables number text s units (made.Pragma name) e h = absurd (not_nothing e h)
command-entry tables number text s units (made.Nothing kind name owner) e h = absurd (not_nothing e h)

statement-entry : (asked : Asking) (catalog : Entries) (number : ℕ) (text : List ℕ) (s : Statement) (e : Entry) → plain_bound asked catalog number text s ≡ Ok (Creates e) → IsEntryFor number text s e
statement-entry asked catalog number text s e h =
    let run : BoundStatement → Result Runnable Cause = runnable_of (tables_of catalog) number text s in
    let built = if_built-ok (is_built text s) (bound_of (around catalog) text s >>= λ b. permitted b (asked b) >>= run) (Creates e) h in
    let one = then-ok (bound_of (around catalog) text s) (λ b. permitted b (asked b) >>= run) (Creates e) built.1 in
    let may = then-ok (permitted one.0 (asked one.0)) run (Creates e) one.2 in
    command-entry (tables_of catalog) number text s may.0.units may.0.command e may.2

-- ---- what is ready

module _ (size : ℕ) (asked : Asking) (catalog : Entries) (number : ℕ) (text : List ℕ) (s : Statement) where
  abbrev meant : Result Runnable Cause
  meant = plain_bound asked catalog number text s

  -- the table with its entry
  pub create-readies : (new : NewTable) (n : NewEntry) → BindsTo size meant (Ok (bound.CreateTable new)) → n.entry ≡ entry_with number text new.name s
      → n.table ≡ record { name = new.name; columns = new.columns; rowid = new.rowid; number = number; tokens = length (tokens_of text) } → Readies size meant (Ok (ready.Create n))
  create-readies new n binds entry table = by binds.0 binds.1 binds.2 binds.3
    where
      by : (x : Runnable) → meant ≡ Ok x → IsBound x (bound.CreateTable new) → IsSmall size x → Readies size meant (Ok (ready.Create n))
      by (Creates e) is at small =
          let own = statement-entry asked catalog number text s e is in
          let same : n.entry ≡ e = entry ∙ ap (λ name. entry_with number text name s) at.0 ∙ sym own in
          let rowid : rowid_created text s.command ≡ new.rowid = ap (λ (x : Entry). rowid_created x.text x.def.command) (sym own) ∙ sym at.2 in
          let declared : table_with e new.columns ≡ n.table = ap (λ (x : Entry). table_with x new.columns) own ∙ ap (λ name. table_with (entry_with number text name s) new.columns) (sym at.0) ∙ ap (λ (r : Option ℕ). record { name = new.name; columns = new.columns; rowid = r; number = number; tokens = length (tokens_of text) }) rowid ∙ sym table in
          let named : n.table.name ≡ e.name = ap (λ (t : TableEntry). t.name) table ∙ at.0 in
          let columns : columns_created e.text e.def.command ≡ Some n.table.columns = at.1 ∙ ap (λ (t : TableEntry). Some t.columns) (sym table) in
          let column : n.table.rowid ≡ rowid_created e.text e.def.command = ap (λ (t : TableEntry). t.rowid) table ∙ at.2 in
          (Creates e, is, (named, columns, column), small, (same, ap (option_map (table_with e)) at.1 ∙ ap Some declared))
      by (Drops t) is at small = absurd at
      by (Indexes i) is at small = absurd at
      by (Unindexes name) is at small = absurd at
      by (Puts p) is at small = absurd at
      by (Queries q) is at small = absurd at
      by (Shows rows) is at small = absurd at
      by DoesNothing is at small = absurd at
      by (Explains how y) is at small = absurd at

-- ---- the entry of an index

-- what was bound is the creation of this index, by a statement of this text
abbrev IsIndexFor : List ℕ → Statement → Runnable → Type 0
IsIndexFor text s (Indexes i) = i.entry ≡ index_entry_with i.table text i.entry.name s
IsIndexFor text s other = ⊤

part-indexes : (text : List ℕ) (s : Statement) (tables : List TableEntry) (p : BoundPart) (x : Runnable) → part_of tables p ≡ Ok x → IsIndexFor text s x
part-indexes text s tables (part.Values rows) x h = subst (IsIndexFor text s) (same-ok (Shows rows) x h) tt
part-indexes text s tables (part.Select c) x h =
    let shown : List FromItem → Result Runnable Cause = λ from. Ok (Queries (record { from = from; conjuncts = flat_map conditions_of (rejecting c); results = c.results })) in
    let made = then-ok (from_of tables c.items) shown x (if_built-ok (is_plain_core c) (from_of tables c.items >>= shown) x h).1 in
    subst (IsIndexFor text s) (same-ok _ x made.2) tt

put-indexes : (text : List ℕ) (s : Statement) (tables : List TableEntry) (units : List BoundUnit) (w : BoundWrite) (x : Runnable) → put_of tables units w ≡ Ok x → IsIndexFor text s x
put-indexes text s tables units w x h =
    let puts : Put → Result Runnable Cause = λ put. Ok (Puts put) in
    let into : TableEntry → Result Runnable Cause = λ t. put_into t w.target units w.change >>= puts in
    let own = if_built-ok (has_own_keys w.target.item.indexes) (table_of_source tables w.target.item.source >>= into) x h in
    let table = then-ok (table_of_source tables w.target.item.source) into x own.1 in
    let put = then-ok (put_into table.0 w.target units w.change) puts x table.2 in
    subst (IsIndexFor text s) (same-ok (Puts put.0) x put.2) tt

table-indexes : (number : ℕ) (text : List ℕ) (s : Statement) (c : BoundCreation) (x : Runnable) → if_built (is_some (columns_created text s.command)) (Ok (Creates (entry_with number text c.name s))) ≡ Ok x → IsIndexFor text s x
table-indexes number text s c x h =
    let entry = entry_with number text c.name s in
    subst (IsIndexFor text s) (same-ok (Creates entry) x (if_built-ok (is_some (columns_created text s.command)) (Ok (Creates entry)) x h).1) tt

creation-indexes : (tables : List TableEntry) (number : ℕ) (text : List ℕ) (s : Statement) (c : BoundCreation) (d : Option Definition) (x : Runnable) → creation_by tables number text s c d ≡ Ok x → IsIndexFor text s x
creation-indexes tables number text s c (Some (definition.Index i)) x h =
    let one = then-ok (found_table (table_called tables c.owner)) (index_on text s c) x (if_built-ok (are_own c.parts) (found_table (table_called tables c.owner) >>= index_on text s c) x h).1 in
    subst (IsIndexFor text s) (same-ok _ x one.2) refl
creation-indexes tables number text s c (Some (definition.Table t)) x h = table-indexes number text s c x h
creation-indexes tables number text s c (Some (definition.View v)) x h = table-indexes number text s c x h
creation-indexes tables number text s c (Some (definition.Trigger t)) x h = table-indexes number text s c x h
creation-indexes tables number text s c (Some (definition.VirtualTable v)) x h = table-indexes number text s c x h
creation-indexes tables number text s c None x h = table-indexes number text s c x h

removal-indexes : (text : List ℕ) (s : Statement) (tables : List TableEntry) (k : Option ObjectKind) (name : List ℕ) (x : Runnable) → removal_of tables k name ≡ Ok x → IsIndexFor text s x
removal-indexes text s tables (Some object.Table) name x h =
    let drops : TableEntry → Result Runnable Cause = λ t. Ok (Drops t) in
    let table = then-ok (found_table (table_called tables name)) drops x h in
    subst (IsIndexFor text s) (same-ok (Drops table.0) x table.2) tt
removal-indexes text s tables (Some object.Index) name x h = subst (IsIndexFor text s) (same-ok (Unindexes name) x h) tt
removal-indexes text s tables (Some object.View) name x h = absurd (let bad : Err cause.NotYet ≡ Ok x = h in cc)
removal-indexes text s tables (Some object.Trigger) name x h = absurd (let bad : Err cause.NotYet ≡ Ok x = h in cc)
removal-indexes text s tables None name x h = absurd (let bad : Err cause.NotYet ≡ Ok x = h in cc)

command-indexes : (tables : List TableEntry) (number : ℕ) (text : List ℕ) (s : Statement) (units : List BoundUnit) (k : BoundCommand) (x : Runnable) → command_of tables number text s units k ≡ Ok x → IsIndexFor text s x
command-indexes tables number text s units (made.Asked place) x h =
    let one = then-ok (first_part (slice_get units place)) (part_of tables) x h in part-indexes text s tables one.0 x one.2
command-indexes tables number text s units (made.Written w) x h = put-indexes text s tables units w x h
command-indexes tables number text s units (made.Created c) x h = creation-indexes tables number text s c (definition_in s.command) x h
command-indexes tables number text s units (made.Removed r) x h = removal-indexes text s tables (kind_removed s.command) r.name x h
command-indexes tables number text s units (made.Transacted t) x h = absurd (let bad : Err cause.NotYet ≡ Ok x = h in cc)
command-indexes tables number text s units (made.Pragma name) x h = subst (IsIndexFor text s) (same-ok DoesNothing x h) tt
command-indexes tables number text s units (made.Nothing kind name owner) x h = subst (IsIndexFor text s) (same-ok DoesNothing x h) tt

statement-indexes : (asked : Asking) (catalog : Entries) (number : ℕ) (text : List ℕ) (s : Statement) (x : Runnable) → plain_bound asked catalog number text s ≡ Ok x → IsIndexFor text s x
statement-indexes asked catalog number text s x h =
    let run : BoundStatement → Result Runnable Cause = runnable_of (tables_of catalog) number text s in
    let built = if_built-ok (is_built text s) (bound_of (around catalog) text s >>= λ b. permitted b (asked b) >>= run) x h in
    let one = then-ok (bound_of (around catalog) text s) (λ b. permitted b (asked b) >>= run) x built.1 in
    let may = then-ok (permitted one.0 (asked one.0)) run x one.2 in
    command-indexes (tables_of catalog) number text s may.0.units may.0.command x may.2

module _ (size : ℕ) (asked : Asking) (catalog : Entries) (number : ℕ) (text : List ℕ) (s : Statement) where
  -- the index with its entry
  pub index-readies : (new : BoundIndex) (n : NewIndexEntry) → BindsTo size (plain_bound asked catalog number text s) (Ok (bound.CreateIndex new)) → n.entry ≡ index_entry_in text new s → n.index ≡ new
      → Readies size (plain_bound asked catalog number text s) (Ok (ready.CreateIndex n))
  index-readies new n binds entry index = by binds.0 binds.1 binds.2 binds.3
    where
      by : (x : Runnable) → plain_bound asked catalog number text s ≡ Ok x → IsBound x (bound.CreateIndex new) → IsSmall size x → Readies size (plain_bound asked catalog number text s) (Ok (ready.CreateIndex n))
      by (Indexes i) is at small =
          let own = statement-indexes asked catalog number text s (Indexes i) is in
          let made : List ℕ → List ℕ → ℕ → Entry = λ name owner k. record { kind = entry_kind.Index; name = name; owner = owner; number = k; text = text; def = s } in
          let same : n.entry ≡ i.entry = entry ∙ ap (λ name. made name new.table_name new.table) at.name ∙ ap (λ owner. made i.entry.name owner new.table) at.table_name ∙ ap (made i.entry.name i.table.name) at.table ∙ sym own in
          (Indexes i, is, subst (IsIndexAs i) (sym index) at, small, same)
      by (Creates e) is at small = absurd at
      by (Drops t) is at small = absurd at
      by (Unindexes name) is at small = absurd at
      by (Puts p) is at small = absurd at
      by (Queries q) is at small = absurd at
      by (Shows rows) is at small = absurd at
      by DoesNothing is at small = absurd at
      by (Explains how y) is at small = absurd at
