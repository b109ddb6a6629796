-- What an INSERT puts by default and tests of a row has at most two nodes for each token of its table's CREATE TABLE.
use Rattle.std.proofs.Common.{◌≡◌, ◌≤◌, inl, inr, ℕ, ◌+◌, ◌*◌, Bool, true, false, cond, not, codes, List, [], ◌∷◌, ◌++◌, drop, length, flat_map, is_some, option_map, Option, Some, None, Result, Ok, Err, slice_get, All, refl, sym, ap, subst, ◌∙◌, arith}
use Rattle.std.specs.Bool.{⊤}
use Rattle.std.specs.Option.{option_to_list}
use Rattle.std.proofs.lemmas.List.Elements.{All-head, All-tail}
use Rattle.eng_entry.specs.Entries.{Entries, entry_named}
use Rattle.eng_entry.specs.Names.{is_same_name}
use Rattle.eng_entry.specs.declared.entry.Entry.{Entry}
use Rattle.eng_entry.specs.declared.entry.EntryKind.{EntryKind}
use Rattle.eng_entry.specs.declared.entry.EntryKind.TheVariants as entry_kind
use Rattle.eng_value.specs.declared.authorizing.Action.{Action}
use Rattle.eng_value.specs.declared.cause.Cause.{Cause}
use Rattle.eng_value.specs.declared.cause.Cause.TheVariants as cause
use Rattle.eng_value.specs.declared.cause.NameKind.TheVariants as name_kind
use Rattle.sql_grammar.specs.Answers.{Answer, Tree, Syntax, TooMuch, place}
use Rattle.sql_lex.specs.Cutting.{start_of}
use Rattle.sql_lex.specs.Tokens.{tokens_of}
use Rattle.sql_tree.specs.Sizes.{size_of_table}
use Rattle.sql_tree.specs.declared.query.Query.{Query as QueryTree}
use Rattle.sql_tree.specs.declared.statement.Command.{Command}
use Rattle.sql_tree.specs.declared.statement.Command.TheVariants as command
use Rattle.sql_tree.specs.declared.statement.RowCommand.TheVariants as rows_by
use Rattle.sql_tree.specs.declared.statement.Explain.{Explain}
use Rattle.sql_tree.specs.declared.statement.Statement.{Statement}
use Rattle.bound_tree.specs.Conditions.{conditions_of}
use Rattle.bound_tree.specs.Exprs.{BoundExpr}
use Rattle.bound_tree.specs.declared.statements.BoundCommand.{BoundCommand}
use Rattle.bound_tree.specs.declared.statements.BoundCommand.TheVariants as made
use Rattle.bound_tree.specs.declared.statements.BoundStatement.{BoundStatement}
use Rattle.bound_tree.specs.declared.units.BoundPart.{BoundPart}
use Rattle.bound_tree.specs.declared.units.BoundPart.TheVariants as part
use Rattle.bound_tree.specs.declared.units.BoundSource.{BoundSource}
use Rattle.bound_tree.specs.declared.units.BoundSource.TheVariants as source
use Rattle.bound_tree.specs.declared.units.BoundUnit.{BoundUnit}
use Rattle.bound_tree.specs.declared.writes.BoundChange.{BoundChange}
use Rattle.bound_tree.specs.declared.writes.BoundChange.TheVariants as change
use Rattle.bound_tree.specs.declared.writes.BoundTarget.{BoundTarget}
use Rattle.bound_tree.specs.declared.writes.BoundWrite.{BoundWrite}
use Rattle.bound_actions.specs.Froms.{table_of as table_read}
use Rattle.bound_ignored.specs.Marked.{ignoring, marked_as, marked_command}
use Rattle.bound_size.specs.Plain.{is_plain_table}
use Rattle.bound_size.specs.Sizes.{all_nodes}
use Rattle.bound_size.specs.Small.{IsSmallTarget, constraints_nodes}
use Rattle.bound_size.proofs.BoundLaws.{both_hold, bound_by, same_answer}
use Rattle.bound_size.proofs.StatementLaws.{target_small}
use Rattle.sql_words.specs.Bodies.{answer_of, body_of}
use Rattle.sql_words.specs.Refusals.{◌>>=◌}
use Rattle.sql_words.specs.Spelled.{name_at}
use Rattle.sql_bound.specs.Carriers.{Queries as AsksRows}
use Rattle.sql_bound.specs.Creates.{create_bound, entries_beside}
use Rattle.sql_tree.specs.declared.statement.Definition.{Definition}
use Rattle.sql_tree.specs.declared.statement.Definition.TheVariants as definition
use Rattle.sql_tree.specs.declared.statement.TableDefinition.{TableDefinition}
use Rattle.sql_bound.specs.Declarations.{definition_of, index_in, table_in, table_named, table_or_view, unless_index}
use Rattle.sql_bound.specs.Refusals.{Checked}
use Rattle.sql_bound.specs.Scopes.{Outer, in_statement}
use Rattle.sql_bound.specs.Statements.{bound_of, command_bound, entries_of, plain, pragma_bound, remove_bound, rows_bound, statement_with, thing_there}
use Rattle.sql_bound.specs.Trees.{full_depth, of_query, outer_at}
use Rattle.sql_bound.specs.Writes.{Opened}
use Rattle.sql_bound.specs.declared.scopes.Asked.{Asked}
use Rattle.sql_meaning.specs.declared.bound.PutColumn.{PutColumn}
use Rattle.sql_meaning.specs.declared.bound.RowidFrom.{RowidFrom}
use Rattle.sql_meaning.specs.declared.column.Column.{Column}
use Rattle.sql_meaning.specs.declared.column.TableEntry.{TableEntry}
use Rattle.sql_meaning.specs.Built.{is_built, is_built_command}
use Rattle.sql_meaning.specs.Declarations.{columns_created, table_called, table_of, table_with, tables_among, tables_of}
use Rattle.sql_meaning.specs.Permits.{Asking, Denies, Ignores, Permit, permitted}
use Rattle.sql_meaning.specs.Running.{columns_put, command_of, first_part, found_table, from_of, has_own_keys, is_plain_core, keys_of, part_of, put_at, put_into, put_of, query_of, rejecting, rowid_from, rows_of_part, runnable_of, table_of_source}
use Rattle.sql_meaning.specs.Runnables.{Runnable, Creates, DoesNothing, Drops, FromItem, Indexes, Put, Puts, Queries, Shows, Unindexes, Explains}
use Rattle.sql_meaning.specs.Statement.{answer_bound, around, limit_kind, plain_bound, explained, statement_bound, text_bound}
use Rattle.sql_meaning.specs.Valid.{IsEntry, IsTableEntry, IsWorld}
use Rattle.sql_meaning.specs.Work.{constraints_size}
use Rattle.sql_meaning.specs.World.{World}
use Rattle.sql_meaning.proofs.AsideLaws.{IsAside, IsAsideCommand, command-aside, create-aside, pragma-aside, removed-aside}
use Rattle.sql_meaning.proofs.BuiltPlain.{built_table_plain}
use Rattle.sql_meaning.proofs.NameLaws.{is_same_name-left, is_same_name-refl}
use Rattle.sql_meaning.proofs.TableLaws.{table_of-name}
use Rattle.sql_meaning.proofs.ValidLaws.{if_built-ok, same-ok, then-ok}

-- ---- the entry of a table

-- the entry that a name finds is there, and what holds of all entries holds of it
found-entry : (P : Entry → Type 0) (name : List ℕ) (entries : List Entry) (e : Entry) → All P entries → entry_named name entries ≡ Some e → P e × (is_same_name e.name name ≡ true)
found-entry P name [] e all is = absurd (cc)
found-entry P name (x ∷ entries) e all is = by (is_same_name x.name name) refl (found-entry P name entries e (All-tail P x entries all)) is
  where
    by : (b : Bool) → is_same_name x.name name ≡ b → (entry_named name entries ≡ Some e → P e × (is_same_name e.name name ≡ true)) → cond b (Some x) (entry_named name entries) ≡ Some e → P e × (is_same_name e.name name ≡ true)
    by true same rest f = let one : x ≡ e = cc in subst (λ y. P y × (is_same_name y.name name ≡ true)) one (All-head P x entries all, same)
    by false same rest f = rest f

-- and the table that has its name is its own
found-table : (name : List ℕ) (entries : List Entry) (e : Entry) (t : TableEntry) → is_some (table_of e) ≡ true → is_same_name e.name name ≡ true → entry_named name entries ≡ Some e → table_called (tables_among entries) e.name ≡ Some t → table_of e ≡ Some t
found-table name [] e t own same is there = absurd (cc)
found-table name (x ∷ entries) e t own same is there = by (is_same_name x.name name) refl (table_of x) refl (found-table name entries e t own same) is there
  where
    by : (b : Bool) → is_same_name x.name name ≡ b → (o : Option TableEntry) → table_of x ≡ o → (entry_named name entries ≡ Some e → table_called (tables_among entries) e.name ≡ Some t → table_of e ≡ Some t)
        → cond b (Some x) (entry_named name entries) ≡ Some e → table_called (option_to_list o ++ tables_among entries) e.name ≡ Some t → table_of e ≡ Some t
    by true named None made rest f g =
        let one : x ≡ e = cc in
        absurd (let bad : false ≡ true = sym (ap is_some (sym (ap table_of one) ∙ made)) ∙ own in cc)
    by true named (Some u) made rest f g =
        let one : x ≡ e = cc in
        let called : is_same_name u.name e.name ≡ true = ap (λ n. is_same_name n e.name) (table_of-name x u made ∙ ap (λ (y : Entry). y.name) one) ∙ is_same_name-refl e.name in
        let first : Some u ≡ Some t = sym (ap (λ b. cond b (Some u) (table_called (tables_among entries) e.name)) called) ∙ g in
        subst (λ y. table_of y ≡ Some t) one (made ∙ first)
    by false named None made rest f g = rest f g
    by false named (Some u) made rest f g =
        let called : is_same_name u.name e.name ≡ false = ap (λ n. is_same_name n e.name) (table_of-name x u made) ∙ is_same_name-left x.name e.name name same ∙ named in
        rest f (sym (ap (λ b. cond b (Some u) (table_called (tables_among entries) e.name)) called) ∙ g)

-- what creates a table is the entry of one
own-table : (tables : List TableEntry) (e : Entry) (t : TableDefinition) → table_in (definition_of e) ≡ Some t → IsEntry tables e → IsTableEntry e
own-table tables e t creates (inl one) = one
own-table tables e t creates (inr i) = absurd (none (definition_of e) creates i.creates)
  where
    none : (d : Option Definition) → table_in d ≡ Some t → index_in d ≡ Some i.index → ⊥
    none (Some (definition.Table x)) f g = cc
    none (Some (definition.Index x)) f g = cc
    none (Some (definition.View x)) f g = cc
    none (Some (definition.Trigger x)) f g = cc
    none (Some (definition.VirtualTable x)) f g = cc
    none None f g = cc

-- it has the tokens of the entry's text
table-tokens : (e : Entry) (t : TableEntry) → table_of e ≡ Some t → t.tokens ≡ length (tokens_of e.text)
table-tokens e t is = by (columns_created e.text e.def.command) is
  where
    by : (o : Option (List Column)) → option_map (table_with e) o ≡ Some t → t.tokens ≡ length (tokens_of e.text)
    by None f = absurd (cc)
    by (Some columns) f = let same : table_with e columns ≡ t = cc in ap (λ (u : TableEntry). u.tokens) (sym same)

named-table : (name : List ℕ) (catalog : Entries) (e : Entry) → table_named name catalog ≡ Some e → entry_named name catalog.names ≡ Some e
named-table name catalog e is = by (entry_named name catalog.names) is
  where
    kept : (k : EntryKind) (x : Entry) → unless_index k x ≡ Some e → x ≡ e
    kept entry_kind.Index x f = absurd (cc)
    kept entry_kind.Table x f = cc
    kept entry_kind.Module x f = cc
    kept entry_kind.View x f = cc
    kept entry_kind.Trigger x f = cc

    by : (o : Option Entry) → table_or_view o ≡ Some e → o ≡ Some e
    by None f = absurd (cc)
    by (Some x) f = ap Some (kept x.kind x f)

-- ---- what is put has the target's constraints

defaults-put : (columns : List Column) (places : List (Option ℕ)) (defaults : List (Option BoundExpr)) (not_nulls : List Bool)
    → all_nodes (flat_map (λ (c : PutColumn). option_to_list c.default) (columns_put columns places defaults not_nulls)) ≤ all_nodes (flat_map option_to_list defaults)
defaults-put [] places defaults not_nulls = omega arith
defaults-put (c ∷ columns) places [] not_nulls = defaults-put columns (drop 1 places) [] (drop 1 not_nulls)
defaults-put (c ∷ columns) places (None ∷ defaults) not_nulls = defaults-put columns (drop 1 places) defaults (drop 1 not_nulls)
defaults-put (c ∷ columns) places (Some x ∷ defaults) not_nulls = omega (arith, defaults-put columns (drop 1 places) defaults (drop 1 not_nulls))

-- it is put into this table, with no more constraints than those of the target
record HasConstraints (t : TableEntry) (target : BoundTarget) (p : Put) : Type 0 where
  table : p.table ≡ t
  few : constraints_size p.insert ≤ constraints_nodes target

put_at-constraints : (t : TableEntry) (target : BoundTarget) (places : List (Option ℕ)) (given : Option ℕ) (rows : List (List BoundExpr)) (p : Put) → put_at t target places given rows ≡ Ok p → HasConstraints t target p
put_at-constraints t target places given rows p e =
    let columns = columns_put t.columns places target.defaults target.not_nulls in
    let put : RowidFrom → Put = λ from. record { table = t; insert = record { table = t.number; name = t.name; columns = columns; rowid = from; checks = target.checks; keys = keys_of t.rowid target.item.indexes; rows = rows } } in
    let from = then-ok (rowid_from columns t.rowid given) (λ f. Ok (put f)) p e in
    subst (HasConstraints t target) (same-ok (put from.0) p from.2) (record { table = refl; few = omega (arith, defaults-put t.columns places target.defaults target.not_nulls) })

put-constraints : (t : TableEntry) (target : BoundTarget) (units : List BoundUnit) (c : BoundChange) (p : Put) → put_into t target units c ≡ Ok p → HasConstraints t target p
put-constraints t target units (change.Inserted places given source args) p e =
    let one = then-ok (first_part (slice_get units source) >>= rows_of_part) (λ rows. put_at t target places given rows) p e in put_at-constraints t target places given one.0 p one.2
put-constraints t target units change.Defaulted p e = put_at-constraints t target [] None ([] ∷ []) p e
put-constraints t target units (change.Updated sets conjuncts) p e = absurd (let bad : Err cause.NotYet ≡ Ok p = e in cc)
put-constraints t target units (change.Deleted conjuncts) p e = absurd (let bad : Err cause.NotYet ≡ Ok p = e in cc)

-- ---- what is spelled out by a table's text

abbrev pub IsSpelled : Runnable → Type 0
IsSpelled (Puts p) = constraints_size p.insert ≤ 2 * p.table.tokens
IsSpelled other = ⊤

aside-spelled : (x : Runnable) → IsAside x → IsSpelled x
aside-spelled (Creates e) a = tt
aside-spelled (Drops t) a = tt
aside-spelled (Indexes i) a = tt
aside-spelled (Unindexes name) a = tt
aside-spelled DoesNothing a = tt
aside-spelled (Explains how b) a = absurd a
aside-spelled (Puts p) a = absurd a
aside-spelled (Queries q) a = tt
aside-spelled (Shows rows) a = tt

part-spelled : (tables : List TableEntry) (p : BoundPart) (x : Runnable) → part_of tables p ≡ Ok x → IsSpelled x
part-spelled tables (part.Values rows) x e = subst IsSpelled (same-ok (Shows rows) x e) tt
part-spelled tables (part.Select c) x e =
    let shown : List FromItem → Result Runnable Cause = λ from. Ok (Queries (record { from = from; conjuncts = flat_map conditions_of (rejecting c); results = c.results })) in
    let one = then-ok (from_of tables c.items) shown x (if_built-ok (is_plain_core c) (from_of tables c.items >>= shown) x e).1 in
    subst IsSpelled (same-ok _ x one.2) tt

query-spelled : (tables : List TableEntry) (units : List BoundUnit) (place : ℕ) (x : Runnable) → query_of tables units place ≡ Ok x → IsSpelled x
query-spelled tables units place x e = let one = then-ok (first_part (slice_get units place)) (part_of tables) x e in part-spelled tables one.0 x one.2

-- the target is that of a table of the catalog
abbrev IsSpelledTarget : List TableEntry → BoundTarget → Type 0
IsSpelledTarget tables target = (t : TableEntry) → table_of_source tables target.item.source ≡ Ok t → constraints_nodes target ≤ 2 * t.tokens

write-spelled : (tables : List TableEntry) (units : List BoundUnit) (w : BoundWrite) (x : Runnable) → IsSpelledTarget tables w.target → put_of tables units w ≡ Ok x → IsSpelled x
write-spelled tables units w x few e =
    let puts : Put → Result Runnable Cause = λ put. Ok (Puts put) in
    let into : TableEntry → Result Runnable Cause = λ t. put_into t w.target units w.change >>= puts in
    let built = if_built-ok (has_own_keys w.target.item.indexes) (table_of_source tables w.target.item.source >>= into) x e in
    let table = then-ok (table_of_source tables w.target.item.source) into x built.1 in
    let put = then-ok (put_into table.0 w.target units w.change) puts x table.2 in
    let held = put-constraints table.0 w.target units w.change put.0 put.1 in
    let tokens : put.0.table.tokens ≡ table.0.tokens = ap (λ (t : TableEntry). t.tokens) held.table in
    let all : constraints_size put.0.insert ≤ 2 * put.0.table.tokens = omega (arith, held.few, few table.0 table.1, tokens) in
    subst IsSpelled (same-ok (Puts put.0) x put.2) all

-- ---- the target of an INSERT over a valid world

source-named : (tables : List TableEntry) (s : BoundSource) (t : TableEntry) → table_of_source tables s ≡ Ok t → (name : List ℕ) × (number : ℕ) × (s ≡ source.Table name number) × (table_called tables name ≡ Some t)
source-named tables (source.Table name number) t e = (name, number, refl, found (table_called tables name) e)
  where
    found : (o : Option TableEntry) → found_table o ≡ Ok t → o ≡ Some t
    found None f = absurd (let bad : Err cause.NotYet ≡ Ok t = f in cc)
    found (Some u) f = ap Some (same-ok u t f)
source-named tables source.Given t e = absurd (let bad : Err cause.NotYet ≡ Ok t = e in cc)
source-named tables (source.Module a b n xs) t e = absurd (let bad : Err cause.NotYet ≡ Ok t = e in cc)
source-named tables (source.View name u) t e = absurd (let bad : Err cause.NotYet ≡ Ok t = e in cc)
source-named tables (source.Query u xs) t e = absurd (let bad : Err cause.NotYet ≡ Ok t = e in cc)
source-named tables (source.With u xs) t e = absurd (let bad : Err cause.NotYet ≡ Ok t = e in cc)
source-named tables (source.Recursive u xs) t e = absurd (let bad : Err cause.NotYet ≡ Ok t = e in cc)
source-named tables source.Queue t e = absurd (let bad : Err cause.NotYet ≡ Ok t = e in cc)

same-some : {A : Type 0} (x y : A) → Some x ≡ Some y → x ≡ y
same-some x y e = cc

module _ (catalog : Entries) (entries : All (IsEntry (tables_of catalog)) catalog.names) where
  abbrev tables : List TableEntry
  tables = tables_of catalog

  target-spelled : (name : List ℕ) (target : BoundTarget) → IsSmallTarget (table_named name catalog) target → IsSpelledTarget tables target
  target-spelled name target small t e_source =
      let s = source-named tables target.item.source t e_source in
      let h = small s.0 s.1 s.2 in
      let here = named-table name catalog h.entry h.is_there in
      let found = found-entry (IsEntry tables) name catalog.names h.entry entries here in
      let e = own-table tables h.entry h.table h.creates found.0 in
      let own = found-table name catalog.names h.entry t e.declared found.1 here (ap (table_called tables) h.named ∙ s.3) in
      let same : e.table ≡ h.table = same-some e.table h.table (sym e.creates ∙ h.creates) in
      let few : constraints_nodes target ≤ 2 * size_of_table h.table = h.small (subst (λ u. is_plain_table u ≡ true) same (built_table_plain h.entry.text e.table e.built)) in
      omega (arith, few, ap size_of_table same, e.size, table-tokens h.entry t own)

  -- ---- whatever is bound

  abbrev IsSpelledCommand : BoundCommand → Type 0
  IsSpelledCommand (made.Written w) = IsSpelledTarget tables w.target
  IsSpelledCommand other = ⊤

  aside_command-spelled : (k : BoundCommand) → IsAsideCommand k → IsSpelledCommand k
  aside_command-spelled (made.Asked place) a = absurd a
  aside_command-spelled (made.Written w) a = absurd a
  aside_command-spelled (made.Created c) a = tt
  aside_command-spelled (made.Removed r) a = tt
  aside_command-spelled (made.Transacted t) a = tt
  aside_command-spelled (made.Pragma name) a = tt
  aside_command-spelled (made.Nothing kind name owner) a = tt

  opened-spelled : (r : Checked BoundCommand) (c : BoundCommand × Opened) → ((k : BoundCommand) → r ≡ Ok k → IsAsideCommand k) → (r >>= λ k. Ok (plain k)) ≡ Ok c → IsSpelledCommand c.0
  opened-spelled r c aside e =
      let one = bound_by r (λ k. Ok (plain k)) c e in
      subst (λ (y : BoundCommand × Opened). IsSpelledCommand y.0) (same_answer (plain one.0) c one.2) (aside_command-spelled one.0 (aside one.0 one.1))

  module _ (text : List ℕ) (s : Statement) (b : BoundStatement) (is : bound_of (around catalog) text s ≡ Ok b) where
    outer : Outer
    outer = outer_at (around catalog) (full_depth (around catalog)) text [] in_statement

    command-was : (k : Command) → s.command ≡ k → (c : BoundCommand × Opened) × (command_bound outer k ≡ Ok c) × (c.0 ≡ b.command)
    unfolding outer
    command-was k at =
        let c = bound_by (command_bound outer s.command) (λ c. Ok (statement_with s.explain c)) b is in
        (c.0, subst (λ (y : Command). command_bound outer y ≡ Ok c.0) at c.1, ap (λ (y : BoundStatement). y.command) (same_answer (statement_with s.explain c.0) b c.2))

    query_command-spelled : (q : QueryTree) (c : BoundCommand × Opened) → rows_bound outer (AsksRows (of_query q)) ≡ Ok c → IsSpelledCommand c.0
    query_command-spelled q c e =
        let asked : Asked × List BoundUnit → BoundCommand × Opened = λ a. (made.Asked a.0.unit, record { units = a.1; triggers = [] }) in
        let a = bound_by ((of_query q).bound outer []) (λ a. Ok (asked a)) c e in
        subst (λ (y : BoundCommand × Opened). IsSpelledCommand y.0) (same_answer (asked a.0) c a.2) tt

    by_command : (k : Command) → s.command ≡ k → is_built_command text k ≡ true → IsSpelledCommand b.command
    by_command (command.Rows (rows_by.Query q)) at built =
        let c = command-was (command.Rows (rows_by.Query q)) at in subst IsSpelledCommand c.2 (query_command-spelled q c.0 c.1)
    by_command (command.Rows (rows_by.Insert i)) at built =
        let m = target_small (around catalog) text s i b at is in
        subst IsSpelledCommand (sym m.1) (target-spelled (name_at text i.table) m.0.target m.2)
    by_command (command.Rows (rows_by.Update u)) at built = absurd (let bad : false ≡ true = built in cc)
    by_command (command.Rows (rows_by.Delete d)) at built = absurd (let bad : false ≡ true = built in cc)
    by_command (command.Create c) at built =
        let w = command-was (command.Create c) at in
        subst IsSpelledCommand w.2 (opened-spelled (create_bound outer c) w.0
        (λ k e. create-aside outer c (name_at outer.text c.name) (entry_named (name_at outer.text c.name) (entries_beside outer.around c.definition)) k e) w.1)
    by_command (command.Remove r) at built =
        let w = command-was (command.Remove r) at in
        let there = entry_named (name_at outer.text r.name) (entries_of outer.around r.kind) in
        subst IsSpelledCommand w.2 (opened-spelled (remove_bound outer r) w.0 (λ k e. removed-aside r.if_exists r.kind (name_at outer.text r.name) there (thing_there r.kind there) k e) w.1)
    by_command (command.Transaction t) at built = absurd (let bad : false ≡ true = built in cc)
    by_command (command.Pragma p) at built =
        let w = command-was (command.Pragma p) at in
        subst IsSpelledCommand w.2 (opened-spelled (pragma_bound outer p) w.0 (λ k e. pragma-aside _ (codes "foreign_keys") (cause.Unknown name_kind.Pragma (name_at outer.text p.name)) k e) w.1)

  -- ---- with what is ignored

  marked-spelled : (ignored : List Action) (k : BoundCommand) → IsSpelledCommand k → IsSpelledCommand (marked_command ignored k)
  marked-spelled ignored (made.Written w) few = by (table_read w.target.item.source)
    where
      by : (o : Option (List ℕ)) → IsSpelledTarget tables (record w.target { item = marked_as ignored None o w.target.item })
      by None = few
      by (Some table) = few
  marked-spelled ignored (made.Asked place) few = tt
  marked-spelled ignored (made.Created c) few = tt
  marked-spelled ignored (made.Removed r) few = tt
  marked-spelled ignored (made.Transacted t) few = tt
  marked-spelled ignored (made.Pragma name) few = tt
  marked-spelled ignored (made.Nothing kind name owner) few = tt

  permitted-spelled : (b : BoundStatement) (p : Permit) (allowed : BoundStatement) → permitted b p ≡ Ok allowed → IsSpelledCommand b.command → IsSpelledCommand allowed.command
  permitted-spelled b (Denies action) allowed e few = absurd (let bad : Err (cause.Denied action) ≡ Ok allowed = e in cc)
  permitted-spelled b (Ignores []) allowed e few = subst (λ (x : BoundStatement). IsSpelledCommand x.command) (same-ok b allowed e) few
  permitted-spelled b (Ignores (a ∷ ignored)) allowed e few =
      subst (λ (x : BoundStatement). IsSpelledCommand x.command) (same-ok (ignoring (a ∷ ignored) b) allowed e) (marked-spelled (a ∷ ignored) b.command few)

  -- ---- whatever runs

  command-spelled : (number : ℕ) (text : List ℕ) (s : Statement) (units : List BoundUnit) (k : BoundCommand) (x : Runnable) → IsSpelledCommand k → command_of tables number text s units k ≡ Ok x → IsSpelled x
  command-spelled number text s units (made.Asked place) x few e = query-spelled tables units place x e
  command-spelled number text s units (made.Written w) x few e = write-spelled tables units w x few e
  command-spelled number text s units (made.Created c) x few e = aside-spelled x (command-aside tables number text s units (made.Created c) x tt e)
  command-spelled number text s units (made.Removed r) x few e = aside-spelled x (command-aside tables number text s units (made.Removed r) x tt e)
  command-spelled number text s units (made.Transacted t) x few e = aside-spelled x (command-aside tables number text s units (made.Transacted t) x tt e)
  command-spelled number text s units (made.Pragma name) x few e = aside-spelled x (command-aside tables number text s units (made.Pragma name) x tt e)
  command-spelled number text s units (made.Nothing kind name owner) x few e = aside-spelled x (command-aside tables number text s units (made.Nothing kind name owner) x tt e)

  plain-spelled : (asked : Asking) (number : ℕ) (text : List ℕ) (s : Statement) (x : Runnable) → plain_bound asked catalog number text s ≡ Ok x → IsSpelled x
  plain-spelled asked number text s x e =
      let run : BoundStatement → Result Runnable Cause = runnable_of tables number text s in
      let built = if_built-ok (is_built text s) (bound_of (around catalog) text s >>= λ b. permitted b (asked b) >>= run) x e in
      let b = then-ok (bound_of (around catalog) text s) (λ b. permitted b (asked b) >>= run) x built.1 in
      let may = then-ok (permitted b.0 (asked b.0)) run x b.2 in
      let few = by_command text s b.0 b.1 s.command refl built.0 in
      command-spelled number text s may.0.units may.0.command x (permitted-spelled b.0 (asked b.0) may.0 may.1 few) may.2

  -- what is shown of a statement spells out nothing
  explained-spelled : (how : Option Explain) (answer : Result Runnable Cause) (x : Runnable) → ((b : Runnable) → answer ≡ Ok b → IsSpelled b) → explained how answer ≡ Ok x → IsSpelled x
  explained-spelled None answer x spelled e = spelled x e
  explained-spelled (Some how) answer x spelled e =
      let show : Runnable → Result Runnable Cause = λ b. Ok (Explains how b) in
      let made = then-ok answer show x e in
      subst IsSpelled (same-ok (Explains how made.0) x made.2) tt

  statement-spelled : (asked : Asking) (number : ℕ) (text : List ℕ) (s : Statement) (x : Runnable) → statement_bound asked catalog number text s ≡ Ok x → IsSpelled x
  statement-spelled asked number text s x e =
      explained-spelled s.explain (plain_bound asked catalog number text s) x (λ b is. plain-spelled asked number text s b is) e

answer-spelled : (asked : Asking) (w : World) (before : ℕ) (text : List ℕ) (a : Answer Statement) (x : Runnable) → IsWorld w → answer_bound asked w before text a ≡ Ok x → IsSpelled x
answer-spelled asked w before text (Tree s) x valid e = statement-spelled w.catalog valid.entries asked (length w.tables) (body_of text) s x e
answer-spelled asked w before text (Syntax rest) x valid e = absurd (let bad : Err (cause.Syntax (before + place (length text) rest)) ≡ Ok x = e in cc)
answer-spelled asked w before text (TooMuch l rest) x valid e = absurd (let bad : Err (cause.Limit (limit_kind l)) ≡ Ok x = e in cc)

pub text-spelled : (asked : Asking) (w : World) (text : List ℕ) (x : Runnable) → IsWorld w → text_bound asked w text ≡ Ok x → IsSpelled x
text-spelled asked w text x valid e =
    let before = start_of (tokens_of text) 0 in answer-spelled asked w before (drop before text) (answer_of (drop before text)) x valid e
