-- The whole statement.
use Rattle.std.proofs.Common.{◌≡◌, ◌⊎◌, codes, ℕ, ◌+◌, ◌≤◌, Bool, true, false, not, is_some, List, [], ◌∷◌, map, None, Result, Ok, Err, inl, inr, refl, sym, ap, subst, ◌∙◌, arith}
use Rattle.eng_entry.specs.Entries.{Entries, entry_named}
use Rattle.eng_value.specs.declared.cause.Cause.{Cause}
use Rattle.eng_value.specs.declared.cause.Cause.TheVariants as cause
use Rattle.eng_value.specs.declared.cause.NameKind.TheVariants as name_kind
use Rattle.sql_tree.specs.Layers.{of_query}
use Rattle.sql_tree.specs.Sizes.{size_of_command, size_of_definition, size_of_query, size_of_source, size_of_statement}
use Rattle.sql_tree.specs.declared.statement.Command.{Command}
use Rattle.sql_tree.specs.declared.statement.Command.TheVariants as command
use Rattle.sql_tree.specs.declared.statement.Definition.{Definition}
use Rattle.sql_tree.specs.declared.statement.Definition.TheVariants as definition
use Rattle.sql_tree.specs.declared.statement.Insert.{Insert}
use Rattle.sql_tree.specs.declared.statement.InsertSource.{InsertSource}
use Rattle.sql_tree.specs.declared.statement.InsertSource.TheVariants as source
use Rattle.sql_tree.specs.declared.statement.RowCommand.TheVariants as rows_by
use Rattle.sql_tree.specs.declared.statement.Statement.{Statement}
use Rattle.sql_tree.specs.declared.query.Query.{Query as Tree}
use Rattle.bound_tree.specs.declared.statements.BoundCommand.{BoundCommand}
use Rattle.bound_tree.specs.declared.statements.BoundCommand.TheVariants as made
use Rattle.bound_tree.specs.declared.statements.BoundStatement.{BoundStatement}
use Rattle.bound_tree.specs.declared.units.BoundUnit.{BoundUnit}
use Rattle.bound_tree.specs.declared.writes.BoundChange.{BoundChange}
use Rattle.bound_tree.specs.declared.writes.BoundChange.TheVariants as change
use Rattle.bound_tree.specs.declared.writes.BoundWrite.{BoundWrite}
use Rattle.bound_size.proofs.BoundLaws.{both_hold, bound_by, same_answer}
use Rattle.bound_size.proofs.StatementLaws.{insert_small, query_small}
use Rattle.sql_bound.specs.Carriers.{InsertParts}
use Rattle.sql_bound.specs.Creates.{create_bound, entries_beside}
use Rattle.sql_bound.specs.Refusals.{Checked}
use Rattle.sql_bound.specs.Scopes.{Outer, begun, in_statement}
use Rattle.sql_bound.specs.Statements.{bound_of, command_bound, entries_of, nothing_opened, plain, pragma_bound, remove_bound, rows_bound, statement_with, thing_there}
use Rattle.sql_bound.specs.Targets.{Target, target_bound}
use Rattle.sql_bound.specs.Trees.{full_depth, of_insert_source, of_rows, outer_at}
use Rattle.sql_bound.specs.Triggers.{opening}
use Rattle.sql_bound.specs.Writes.{Begun, Opened, fired_all, insert_begun, inserted_from, inserting, places_named, write_bound, write_with}
use Rattle.sql_bound.specs.declared.scopes.Work.{Work}
use Rattle.sql_meaning.specs.Built.{is_abort, is_built, is_built_command, is_built_rows, is_built_rows_source, is_built_values}
use Rattle.sql_meaning.specs.Declarations.{tables_of}
use Rattle.sql_meaning.specs.Running.{command_of, has_own_keys, if_built, put_into, put_of, runnable_of, table_of_source}
use Rattle.sql_meaning.specs.Runnables.{Creates, DoesNothing, Drops, Explains, Indexes, Put, Puts, Queries, Runnable, Shows, Unindexes}
use Rattle.sql_meaning.specs.Statement.{around}
use Rattle.sql_meaning.specs.declared.column.TableEntry.{TableEntry}
use Rattle.sql_meaning.proofs.AsideLaws.{IsAside, IsAsideCommand, command-aside, create-aside, pragma-aside, removed-aside}
use Rattle.sql_meaning.proofs.ValidLaws.{if_built-ok, same-ok, then-ok}
use Rattle.sql_words.specs.Refusals.{◌>>=◌}
use Rattle.sql_words.specs.Spelled.{name_at}
use Rattle.bind_stmt.specs.declared.statement.Bound.{Bound}
use Rattle.bind_stmt.specs.Binds.{AnswersBy, Binds, IsBound, IsRefusal}
use Rattle.bind_stmt.specs.Small.{AreFew, IsSmall}
use Rattle.sql_meaning.proofs.BuiltPlain.{built_query_plain, built_values_plain}
use Rattle.sql_meaning.specs.Permits.{Asking, Denies, Ignores, Permit, permitted}
use Rattle.bound_ignored.specs.Marked.{ignoring}
use Rattle.bind_stmt.proofs.MarkedRuns.{marked-small}
use Rattle.bind_stmt.proofs.Sizing.{defaulted-small, inserted-small, query-small}

-- ---- what neither reads nor puts rows

aside-small : (size : ℕ) (x : Runnable) → 1 ≤ size → IsAside x → IsSmall size x
aside-small size (Creates e) le a = le
aside-small size (Indexes i) le a = le
aside-small size (Unindexes name) le a = le
aside-small size (Drops t) le a = le
aside-small size DoesNothing le a = le
aside-small size (Puts p) le a = absurd a
aside-small size (Queries q) le a = absurd a
aside-small size (Shows rows) le a = absurd a
aside-small size (Explains how x) le a = absurd a

-- ---- DEFAULT VALUES

defaults_placed : (o : Outer) (i : Insert) (r : BoundCommand × Opened) → i.source ≡ source.Defaults → rows_bound o (of_rows (rows_by.Insert i)) ≡ Ok r → (write : BoundWrite) × (r.0 ≡ made.Written write) × (write.change ≡ change.Defaulted)
defaults_placed o i r from h =
    let parts : InsertParts = record { choice = i.choice; table = i.table; columns = i.columns; source = of_insert_source i.source } in
    let open_it = opening o.around in
    let opened : (Begun × Work) → Opened = λ g. record nothing_opened { units = g.1.units } in
    let write : (Begun × Work) → List ℕ × Opened → BoundWrite × Opened = λ g f. (write_with g.0 g.1.needs f.0 true, f.1) in
    let told : BoundWrite × Opened → BoundCommand × Opened = λ b. (made.Written b.0, b.1) in
    let fires : (Begun × Work) → Checked (List ℕ × Opened) = λ g. fired_all open_it o.around g.0 o.around.catalog.triggers ([], opened g) in
    let b = bound_by (write_bound open_it o.around true (insert_begun o parts (begun [])) nothing_opened) (λ b. Ok (told b)) r h in
    let g = bound_by (insert_begun o parts (begun [])) (λ g. fires g >>= λ f. Ok (write g f)) b.0 b.1 in
    let f = bound_by (fires g.0) (λ f. Ok (write g.0 f)) b.0 g.2 in
    let same_b = same_answer (write g.0 f.0) b.0 f.2 in
    let same_r = same_answer (told b.0) r b.2 in
    let here = begun_defaulted o parts (begun []) g.0 (ap of_insert_source from) g.1 in
    (b.0.0, sym (ap (λ (x : BoundCommand × Opened). x.0) same_r), ap (λ (x : BoundWrite × Opened). x.0.change) (sym same_b) ∙ here)
  where
    begun_defaulted : (o : Outer) (i : InsertParts) (w : Work) (g : Begun × Work) → i.source ≡ None → insert_begun o i w ≡ Ok g → g.0.change ≡ change.Defaulted
    begun_defaulted o i w g from h =
        let one : Target → BoundChange × Work → Begun × Work = λ t c. (record { target = t; choice = i.choice; firing = inserting; change = c.0 }, c.1) in
        let names = map (name_at o.text) i.columns in
        let t = bound_by (target_bound o (name_at o.text i.table) inserting w) (λ t. places_named t.0 names >>= λ listed. inserted_from o t.0 listed i.source t.1 >>= λ c. Ok (one t.0 c)) g h in
        let l = bound_by (places_named t.0.0 names) (λ listed. inserted_from o t.0.0 listed i.source t.0.1 >>= λ c. Ok (one t.0.0 c)) g t.2 in
        let c = bound_by (inserted_from o t.0.0 l.0 i.source t.0.1) (λ c. Ok (one t.0.0 c)) g l.2 in
        let here = subst (λ x. inserted_from o t.0.0 l.0 x t.0.1 ≡ Ok c.0) from c.1 in
        let same : (change.Defaulted, t.0.1) ≡ c.0 = same_answer (change.Defaulted, t.0.1) c.0 here in
        ap (λ (x : Begun × Work). x.0.change) (sym (same_answer (one t.0.0 c.0) g c.2)) ∙ ap (λ (x : BoundChange × Work). x.0) (sym same)

-- ---- INSERT

put-small : (size : ℕ) (tables : List TableEntry) (units : List BoundUnit) (w : BoundWrite) (x : Runnable) → ((t : TableEntry) (p : Put) → put_into t w.target units w.change ≡ Ok p → AreFew size p.insert.rows) → put_of tables units w ≡ Ok x → IsSmall size x
put-small size tables units w x few e =
    let puts : Put → Result Runnable Cause = λ put. Ok (Puts put) in
    let into : TableEntry → Result Runnable Cause = λ t. put_into t w.target units w.change >>= puts in
    let bare = if_built-ok (has_own_keys w.target.item.indexes) (table_of_source tables w.target.item.source >>= into) x e in
    let table = then-ok (table_of_source tables w.target.item.source) into x bare.1 in
    let put = then-ok (put_into table.0 w.target units w.change) puts x table.2 in
    subst (IsSmall size) (same-ok (Puts put.0) x put.2) (few table.0 put.0 put.1)

-- ---- every statement

module _ (catalog : Entries) (number : ℕ) (text : List ℕ) (s : Statement) (made_of : BoundStatement) (x : Runnable) (none : catalog.triggers ≡ []) (is : bound_of (around catalog) text s ≡ Ok made_of) (runs : runnable_of (tables_of catalog) number text s made_of ≡ Ok x) where
  outer : Outer
  outer = outer_at (around catalog) (full_depth (around catalog)) text [] in_statement

  -- what its command comes to
  command_was : (k : Command) → s.command ≡ k → (c : BoundCommand × Opened) × (command_bound outer k ≡ Ok c) × (made_of.command ≡ c.0)
  unfolding outer
  command_was k at =
      let c = bound_by (command_bound outer s.command) (λ c. Ok (statement_with s.explain c)) made_of is in
      (c.0, subst (λ (y : Command). command_bound outer y ≡ Ok c.0) at c.1, ap (λ (y : BoundStatement). y.command) (sym (same_answer (statement_with s.explain c.0) made_of c.2)))

  aside_is : (k : BoundCommand) (size : ℕ) → 1 ≤ size → made_of.command ≡ k → IsAsideCommand k → IsSmall size x
  aside_is k size le at a =
      aside-small size x le (command-aside (tables_of catalog) number text s made_of.units made_of.command x (subst IsAsideCommand (sym at) a) runs)

  opening_is : (size : ℕ) (r : Checked BoundCommand) (c : BoundCommand × Opened) → 1 ≤ size → made_of.command ≡ c.0 → ((k : BoundCommand) → r ≡ Ok k → IsAsideCommand k) → (r >>= λ k. Ok (plain k)) ≡ Ok c → IsSmall size x
  opening_is size r c le at aside e =
      let one = bound_by r (λ k. Ok (plain k)) c e in
      let same : one.0 ≡ c.0 = ap (λ (y : BoundCommand × Opened). y.0) (same_answer (plain one.0) c one.2) in
      aside_is one.0 size le (at ∙ sym same) (aside one.0 one.1)

  definition_size : (d : Definition) → 1 ≤ size_of_definition d
  definition_size (definition.Table t) = omega arith
  definition_size (definition.Index i) = omega arith
  definition_size (definition.View v) = omega arith
  definition_size (definition.Trigger t) = omega arith
  definition_size (definition.VirtualTable v) = omega arith

  query_is : (q : Tree) → s.command ≡ command.Rows (rows_by.Query q) → is_built_rows text (rows_by.Query q) ≡ true → IsSmall (size_of_command (command.Rows (rows_by.Query q))) x
  query_is q at built =
      let m = query_small (around catalog) text s q made_of at (built_query_plain text q built) is in
      query-small (size_of_command (command.Rows (rows_by.Query q))) (tables_of catalog) q made_of.units m.0 x (omega arith) m.2
      (subst (λ k. command_of (tables_of catalog) number text s made_of.units k ≡ Ok x) m.1 runs)

  insert_is : (i : Insert) (from : InsertSource) → i.source ≡ from → s.command ≡ command.Rows (rows_by.Insert i) → is_built_rows text (rows_by.Insert i) ≡ true → IsSmall (size_of_command (command.Rows (rows_by.Insert i))) x
  insert_is i (source.Query q) from at built =
      let values : is_built_values text (of_query q) ≡ true = subst (λ y. is_built_rows_source text y ≡ true) from (both_hold (is_abort i.choice) (is_built_rows_source text i.source) built).1 in
      let m = insert_small (around catalog) text s i q made_of at from none (built_values_plain text q values) is in
      let size : size_of_command (command.Rows (rows_by.Insert i)) ≡ 2 + size_of_query q = ap (λ y. 2 + size_of_source y) from in
      put-small (size_of_command (command.Rows (rows_by.Insert i))) (tables_of catalog) made_of.units m.0 x
      (λ t p e. inserted-small (size_of_command (command.Rows (rows_by.Insert i))) t m.0.target q made_of.units m.2.columns m.2.rowid m.2.source m.2.arguments p (omega (arith, size)) m.2.makes (subst (λ c. put_into t m.0.target made_of.units c ≡ Ok p) m.2.change e))
      (subst (λ k. command_of (tables_of catalog) number text s made_of.units k ≡ Ok x) m.1 runs)
  insert_is i source.Defaults from at built =
      let c = command_was (command.Rows (rows_by.Insert i)) at in
      let m = defaults_placed outer i c.0 from c.1 in
      put-small (size_of_command (command.Rows (rows_by.Insert i))) (tables_of catalog) made_of.units m.0 x
      (λ t p e. defaulted-small (size_of_command (command.Rows (rows_by.Insert i))) t m.0.target made_of.units p (omega arith) (subst (λ d. put_into t m.0.target made_of.units d ≡ Ok p) m.2 e))
      (subst (λ k. command_of (tables_of catalog) number text s made_of.units k ≡ Ok x) (c.2 ∙ m.1) runs)

  by_command : (k : Command) → s.command ≡ k → is_built_command text k ≡ true → IsSmall (size_of_command k) x
  by_command (command.Rows (rows_by.Query q)) at built = query_is q at built
  by_command (command.Rows (rows_by.Insert i)) at built = insert_is i i.source refl at built
  by_command (command.Rows (rows_by.Update u)) at built = absurd (let bad : false ≡ true = built in cc)
  by_command (command.Rows (rows_by.Delete d)) at built = absurd (let bad : false ≡ true = built in cc)
  by_command (command.Create c) at built =
      let w = command_was (command.Create c) at in
      opening_is (size_of_command (command.Create c)) (create_bound outer c) w.0 (definition_size c.definition) w.2
      (λ k e. create-aside outer c (name_at outer.text c.name) (entry_named (name_at outer.text c.name) (entries_beside outer.around c.definition)) k e) w.1
  by_command (command.Remove r) at built =
      let w = command_was (command.Remove r) at in
      let there = entry_named (name_at outer.text r.name) (entries_of outer.around r.kind) in
      opening_is 1 (remove_bound outer r) w.0 (omega arith) w.2 (λ k e. removed-aside r.if_exists r.kind (name_at outer.text r.name) there (thing_there r.kind there) k e) w.1
  by_command (command.Transaction t) at built = absurd (let bad : false ≡ true = built in cc)
  by_command (command.Pragma p) at built =
      let w = command_was (command.Pragma p) at in
      opening_is 1 (pragma_bound outer p) w.0 (omega arith) w.2 (λ k e. pragma-aside _ (codes "foreign_keys") (cause.Unknown name_kind.Pragma (name_at outer.text p.name)) k e) w.1

  pub small : is_built text s ≡ true → IsSmall (size_of_statement s) x
  small built = by_command s.command refl built

-- ---- what `bind` answers

if_none : {A B : Type 0} (t : Bool) (r : Result A Cause) (f : A → Result B Cause) → t ≡ false → if_built t (r >>= f) ≡ Err cause.NotYet
if_none t r f not_so = ap (λ u. if_built u (r >>= f)) not_so

if_refused : {A B : Type 0} (t : Bool) (r : Result A Cause) (f : A → Result B Cause) (why : Cause) → t ≡ true → r ≡ Err why → if_built t (r >>= f) ≡ Err why
if_refused t r f why built is = ap (λ u. if_built u (r >>= f)) built ∙ ap (λ x. x >>= f) is

if_came : {A B : Type 0} (t : Bool) (r : Result A Cause) (f : A → Result B Cause) (a : A) (b : Result B Cause) → t ≡ true → r ≡ Ok a → f a ≡ b → if_built t (r >>= f) ≡ b
if_came t r f a b built is e = ap (λ u. if_built u (r >>= f)) built ∙ ap (λ x. x >>= f) is ∙ e

same-cause : {A : Type 0} (k l : Cause) (x : Result A Cause) → x ≡ Err k → x ≡ Err l → k ≡ l
same-cause {A} k l x p q = let e : Err k ≡ Err l = sym p ∙ q in cc

if_names : {A B : Type 0} (t : Bool) (r : Result A Cause) (f : A → Result B Cause) (why : Cause) → if_built t r ≡ Err why → if_built t (r >>= f) ≡ Err why
if_names true r f why is = ap (λ x. x >>= f) is
if_names false r f why is = ap (λ k. Err k) (same-cause cause.NotYet why (if_built false r) refl is)

module _ (asked : Asking) (catalog : Entries) (number : ℕ) (text : List ℕ) (s : Statement) where
  abbrev meant : BoundStatement → Result Runnable Cause
  meant b = permitted b (asked b) >>= runnable_of (tables_of catalog) number text s

  pub not_built : is_built text s ≡ false → Binds asked catalog number text s (Err cause.NotYet)
  unfolding Binds
  not_built not_so = inr (if_none (is_built text s) (bound_of (around catalog) text s) meant not_so)

  pub refused : (why : Cause) → is_built text s ≡ true → (why ≡ cause.Mem) ⊎ (bound_of (around catalog) text s ≡ Err why) → Binds asked catalog number text s (Err why)
  unfolding Binds
  refused why built (inl mem) = inl mem
  refused why built (inr is) = inr (if_refused (is_built text s) (bound_of (around catalog) text s) meant why built is)

  -- memory may be wanting
  pub no-memory : Binds asked catalog number text s (Err cause.Mem)
  unfolding Binds
  no-memory = inl refl

  -- as `bind_names` refuses it
  pub names-refused : (why : Cause) → IsRefusal (if_built (is_built text s) (bound_of (around catalog) text s)) why → Binds asked catalog number text s (Err why)
  unfolding Binds
  names-refused why (inl mem) = inl mem
  names-refused why (inr is) = inr (if_names (is_built text s) (bound_of (around catalog) text s) meant why is)

  pub denied : (b : BoundStatement) (why : Cause) → is_built text s ≡ true → bound_of (around catalog) text s ≡ Ok b → permitted b (asked b) ≡ Err why → Binds asked catalog number text s (Err why)
  unfolding Binds
  denied b why built is may_not =
      inr (if_came (is_built text s) (bound_of (around catalog) text s) meant b (Err why) built is (ap (λ r. r >>= runnable_of (tables_of catalog) number text s) may_not))

  may-small : (b : BoundStatement) (p : Permit) (allowed : BoundStatement) (x : Runnable) → catalog.triggers ≡ [] → is_built text s ≡ true → bound_of (around catalog) text s ≡ Ok b → permitted b p ≡ Ok allowed
      → runnable_of (tables_of catalog) number text s allowed ≡ Ok x → IsSmall (size_of_statement s) x
  may-small b (Denies action) allowed x none built is may runs = absurd (let bad : Err (cause.Denied action) ≡ Ok allowed = may in cc)
  may-small b (Ignores []) allowed x none built is may runs =
      small catalog number text s b x none is (subst (λ y. runnable_of (tables_of catalog) number text s y ≡ Ok x) (sym (same-ok b allowed may)) runs) built
  may-small b (Ignores (a ∷ ignored)) allowed x none built is may runs =
      marked-small (size_of_statement s) (tables_of catalog) number text s (a ∷ ignored) b x (λ y goes. small catalog number text s b y none is goes built)
      (subst (λ y. runnable_of (tables_of catalog) number text s y ≡ Ok x) (sym (same-ok (ignoring (a ∷ ignored) b) allowed may)) runs)

  pub bound_so : (b allowed : BoundStatement) (r : Result Bound Cause) → catalog.triggers ≡ [] → is_built text s ≡ true → bound_of (around catalog) text s ≡ Ok b → permitted b (asked b) ≡ Ok allowed
      → AnswersBy IsBound (runnable_of (tables_of catalog) number text s allowed) r → Binds asked catalog number text s r
  unfolding Binds
  bound_so b allowed (Ok c) none built is may (x, runs, held) =
      (x, if_came (is_built text s) (bound_of (around catalog) text s) meant b (Ok x) built is (ap (λ r. r >>= runnable_of (tables_of catalog) number text s) may ∙ runs), held, may-small b (asked b) allowed x none built is may runs)
  bound_so b allowed (Err why) none built is may (inl mem) = inl mem
  bound_so b allowed (Err why) none built is may (inr runs) =
      inr (if_came (is_built text s) (bound_of (around catalog) text s) meant b (Err why) built is (ap (λ r. r >>= runnable_of (tables_of catalog) number text s) may ∙ runs))
