-- An INSERT of rows of values that name nothing into a table without constraints: what it is bound to, and what runs of that.
use Rattle.std.proofs.Common.{◌≡◌, ◌≤◌, ℕ, suc, true, if◌then◌else◌, List, [], ◌∷◌, length, map, position, Option, Some, None, Result, Ok, Err, slice_get, refl, sym, ap, ◌∙◌}
use Rattle.std.specs.List.{range_with_len}
use Rattle.std.proofs.lemmas.Bool.{eq-eqb}
use Rattle.eng_entry.specs.Entries.{Entries}
use Rattle.eng_entry.specs.declared.entry.Entry.{Entry}
use Rattle.eng_entry.specs.declared.entry.EntryKind.TheVariants as entry_kind
use Rattle.eng_value.specs.declared.cause.Cause.{Cause}
use Rattle.eng_value.specs.declared.cause.Cause.TheVariants as cause
use Rattle.eng_value.specs.declared.limits.TheConstants.{MAX_COLUMNS}
use Rattle.sql_tree.specs.Layers.{of_part as part_layer, of_query as query_layer}
use Rattle.sql_tree.specs.declared.expr.Expr.TheOpen.{QueryPart-F}
use Rattle.sql_tree.specs.declared.expr.Expr.{Expr}
use Rattle.sql_tree.specs.declared.query.Query.{Query as Tree}
use Rattle.sql_tree.specs.declared.statement.Command.TheVariants as command
use Rattle.sql_tree.specs.declared.statement.Command.{Command}
use Rattle.sql_tree.specs.declared.statement.Insert.{Insert}
use Rattle.sql_tree.specs.declared.statement.InsertSource.TheVariants as source
use Rattle.sql_tree.specs.declared.statement.RowCommand.TheVariants as rows_by
use Rattle.sql_tree.specs.declared.statement.Statement.{Statement}
use Rattle.sql_tree.specs.declared.statement.TableDefinition.{TableDefinition}
use Rattle.sql_tree.specs.declared.token.Token.{Token}
use Rattle.sql_words.specs.Refusals.{◌>>=◌}
use Rattle.sql_words.specs.Spelled.{name_at}
use Rattle.bound_tree.specs.Exprs.{BoundExpr}
use Rattle.bound_tree.specs.declared.statements.BoundCommand.TheVariants.{Written}
use Rattle.bound_tree.specs.declared.statements.BoundCommand.{BoundCommand}
use Rattle.bound_tree.specs.declared.statements.BoundStatement.{BoundStatement}
use Rattle.bound_tree.specs.declared.units.BoundPart.TheVariants as part
use Rattle.bound_tree.specs.declared.units.BoundIndex.{BoundIndex}
use Rattle.bound_tree.specs.declared.units.BoundUnit.{BoundUnit}
use Rattle.bound_tree.specs.declared.writes.BoundChange.TheVariants.{Inserted}
use Rattle.bound_tree.specs.declared.writes.BoundChange.{BoundChange}
use Rattle.bound_tree.specs.declared.writes.BoundTarget.{BoundTarget}
use Rattle.bound_tree.specs.declared.writes.BoundWrite.{BoundWrite}
use Rattle.sql_bound.specs.Carriers.{InsertParts, QueryParts}
use Rattle.sql_bound.specs.Compounds.{width_fits}
use Rattle.sql_bound.specs.Declarations.{definition_of, table_in, table_named}
use Rattle.sql_bound.specs.Expressions.{asked}
use Rattle.sql_bound.specs.Froms.{beside_from}
use Rattle.sql_bound.specs.Refusals.{Checked}
use Rattle.sql_bound.specs.Scopes.{Answer, Around, Deeper, Depth, Outer, UnitsAnswer, begun, handed, in_statement}
use Rattle.sql_bound.specs.Statements.{bound_of, command_bound, nothing_opened, rows_bound, statement_with}
use Rattle.sql_bound.specs.Targets.{Target, target_bound}
use Rattle.sql_bound.specs.Trees.{depth_of, full_depth, of_insert_source, of_query, of_rows, outer_at}
use Rattle.sql_bound.specs.Triggers.{opening}
use Rattle.sql_bound.specs.Writes.{Begun, Opened, Opening, fired_all, insert_begun, inserted_from, inserting, insertion, is_place, places_named, write_with}
use Rattle.sql_bound.specs.declared.scopes.Asked.{Asked}
use Rattle.sql_bound.specs.declared.scopes.Work.{Work}
use Rattle.sql_meaning.specs.Built.{stands_alone}
use Rattle.sql_meaning.specs.Running.{columns_put, command_of, first_part, found_table, has_own_keys, if_built, keys_of, put_at, put_into, rowid_from, rows_of_part, runnable_of, table_of_source}
use Rattle.sql_meaning.specs.Declarations.{table_called}
use Rattle.sql_meaning.specs.Runnables.{Put, Puts, Runnable}
use Rattle.sql_meaning.specs.Statement.{around}
use Rattle.sql_meaning.specs.declared.bound.RowidFrom.TheVariants as rowid
use Rattle.sql_meaning.specs.declared.column.TableEntry.{TableEntry}
use Rattle.bind_stmt.specs.Plain.{AreRows, has_no_index, is_plain_table, placed_from}
use Rattle.bind_stmt.proofs.Places.{all_placed, all_put, length-places_from, no_place, places_from}
use Rattle.bind_stmt.proofs.PlainTables.{IsBare, IsPlainTarget, plain-target}
use Rattle.bind_stmt.proofs.PlainValues.{AsksRows, then_is, values-ask}
use Rattle.bind_stmt.proofs.Steps.{put-at-is, put_from}

-- ---- the source, and where its values go

-- a change that puts the rows of the first unit, a value for each of so many columns
pub record PutsRows (width : ℕ) (made : List (List BoundExpr)) (change : BoundChange) (units : List BoundUnit) : Type 0 where
  pub arguments : List BoundExpr
  pub is : change ≡ Inserted (places_from 0 width) None 0 arguments
  pub part : first_part (slice_get units 0) ≡ Ok (part.Values made)

fits : (name : List ℕ) (width n : ℕ) → n ≡ width → width_fits name width n ≡ Ok tt
fits name width n is = ap (λ ok. if ok then Ok tt else Err (cause.Arity name)) (eq-eqb n width is)

insertion-is : (entry : Entry) (width : ℕ) (t : Target) (place : ℕ) (arguments : List BoundExpr) → IsPlainTarget entry width t → place ≡ 0 → insertion t (places_from 0 width) place arguments ≡ Inserted (places_from 0 width) None 0 arguments
insertion-is entry width t place arguments plain first =
    let listed = places_from 0 width in
    let columns : List ℕ → List (Option ℕ) = λ ks. map (λ k. position (is_place (Some k)) listed) ks in
    ap (λ n. Inserted (columns (range_with_len 0 n)) (position (is_place t.source.rowid) listed) place arguments) plain.columns
    ∙ ap (λ cs. Inserted cs (position (is_place t.source.rowid) listed) place arguments) (all_placed width)
    ∙ ap (λ r. Inserted listed (position (is_place r) listed) place arguments) plain.rowid
    ∙ ap (λ r. Inserted listed r place arguments) (no_place 0 width) ∙ ap (λ u. Inserted listed None u arguments) first

-- a write of the rows into the table
pub record Writes (entry : Entry) (width : ℕ) (made : List (List BoundExpr)) (b : BoundCommand × Opened) : Type 0 where
  pub write : BoundWrite
  pub command : b.0 ≡ Written write
  pub target : IsBare entry write.target
  pub change : PutsRows width made write.change b.1.units

module _ (o : Outer) (views : List ℕ → List ℕ → Tree → List BoundUnit → UnitsAnswer Asked) (below : Depth) (deep : o.depth ≡ Deeper views below) (name : Token) (first : List Expr) (rows : List (List Expr)) (made : List (List BoundExpr))
    (entry : Entry) (t : TableDefinition) (named : table_named (name_at o.text name) o.around.catalog ≡ Some entry) (table : entry.kind ≡ entry_kind.Table) (defines : table_in (definition_of entry) ≡ Some t)
    (plain : is_plain_table t ≡ true) (bare : has_no_index entry.name o.around.catalog.names ≡ true) (few : length t.columns ≤ MAX_COLUMNS) (are : AreRows o.text (length t.columns) (first ∷ rows) made)
    (i : Insert) (q : Tree) (at : i.table ≡ name) (columns : i.columns ≡ []) (from : i.source ≡ source.Query q) (ask : (a : Asked × List BoundUnit) × ((of_query q).bound (beside_from o) [] ≡ Ok a) × AsksRows (length t.columns) made a) where
  abbrev width : ℕ
  width = length t.columns

  abbrev none : Work
  none = begun []

  source-put : (target : Target) → IsPlainTarget entry width target → (c : BoundChange × Work) × (inserted_from o target (places_from 0 width) (Some (of_query q)) none ≡ Ok c) × PutsRows width made c.0 c.1.units × (c.1.needs ≡ [])
  source-put target is =
      let a = ask.0 in
      let k = handed [] (record none { units = a.1 }) in
      let listed = places_from 0 width in
      let next : (Asked × List BoundExpr) × Work → Answer BoundChange = λ a. width_fits target.name (length listed) (length a.0.0.columns) >>= λ u. Ok (insertion target listed a.0.0.unit a.0.1, a.1) in
      let wide : length a.0.columns ≡ length listed = ask.2.wide ∙ sym (length-places_from 0 width) in (
        (insertion target listed a.0.unit k.0, k.1),
        ap (λ r. asked none r >>= next) ask.1 ∙ ap (λ ns. let h = handed ns (record none { units = a.1 }) in next ((a.0, h.0), h.1)) ask.2.needs
            ∙ ap (λ r. r >>= λ u. Ok (insertion target listed a.0.unit k.0, k.1)) (fits target.name (length listed) (length a.0.columns) wide),
        record { arguments = []; is = insertion-is entry width target a.0.unit [] is ask.2.place; part = ask.2.part },
        refl,
      )

  -- ---- the write

  record BeginsSo (b : Begun × Work) : Type 0 where
    target : IsBare entry b.0.target.target
    change : PutsRows width made b.0.change b.1.units

  abbrev parts : InsertParts
  parts = record { choice = i.choice; table = i.table; columns = i.columns; source = of_insert_source i.source }

  begun-is : (b : Begun × Work) × (insert_begun o parts none ≡ Ok b) × BeginsSo b
  begun-is =
      let target = plain-target o (name_at o.text name) entry t table defines plain bare none named in
      let t = target.0 in
      let put = source-put t target.2 in
      let done : Target → BoundChange × Work → Begun × Work = λ t c. (record { target = t; choice = i.choice; firing = inserting; change = c.0 }, c.1) in
      let by : Token → List Token → Option QueryParts → Answer Begun = λ name columns source.
      target_bound o (name_at o.text name) inserting none >>= λ t. places_named t.0 (map (name_at o.text) columns) >>= λ listed. inserted_from o t.0 listed source t.1 >>= λ c. Ok (done t.0 c) in (
        done t put.0,
        ap (λ n. by n i.columns (of_insert_source i.source)) at ∙ ap (λ cs. by name cs (of_insert_source i.source)) columns ∙ ap (λ s. by name [] (of_insert_source s)) from
            ∙ then_is (target_bound o (name_at o.text name) inserting none) (λ t. places_named t.0 [] >>= λ listed. inserted_from o t.0 listed (Some (of_query q)) t.1 >>= λ c. Ok (done t.0 c)) (t, none) _ target.1
            (ap (λ listed. inserted_from o t listed (Some (of_query q)) none >>= λ c. Ok (done t c)) target.2.hidden ∙ ap (λ r. r >>= λ c. Ok (done t c)) put.1),
        record { target = target.2.bare; change = put.2 },
      )

  none_fires : (open_it : Opening) (b : Begun) (so_far : List ℕ × Opened) → o.around.catalog.triggers ≡ [] → fired_all open_it o.around b o.around.catalog.triggers so_far ≡ Ok so_far
  none_fires open_it b so_far none = ap (λ ts. fired_all open_it o.around b ts so_far) none

  pub write-is : o.around.catalog.triggers ≡ [] → (b : BoundCommand × Opened) × (rows_bound o (of_rows (rows_by.Insert i)) ≡ Ok b) × Writes entry width made b
  write-is untriggered =
      let g = begun-is in
      let b = g.0 in
      let opened : Opened = record nothing_opened { units = b.1.units } in
      let write = write_with b.0 b.1.needs [] true in
      let fires : Begun × Work → Checked (List ℕ × Opened) = λ b. fired_all (opening o.around) o.around b.0 o.around.catalog.triggers ([], record nothing_opened { units = b.1.units }) in
      let done : Begun × Work → List ℕ × Opened → BoundWrite × Opened = λ b f. (write_with b.0 b.1.needs f.0 true, f.1) in
      let told : BoundWrite × Opened → BoundCommand × Opened = λ w. (Written w.0, w.1) in (
        (Written write, opened),
        ap (λ r. (r >>= λ b. fires b >>= λ f. Ok (done b f)) >>= λ w. Ok (told w)) g.1
            ∙ ap (λ r. (r >>= λ f. Ok (done b f)) >>= λ w. Ok (told w)) (none_fires (opening o.around) b.0 ([], opened) untriggered),
        record { write = write; command = refl; target = g.2.target; change = g.2.change },
      )

-- ---- the statement

-- INSERT INTO a table, of no columns named, VALUES of these rows, one at least
pub record InsertsRows (s : Statement) (name : Token) (first : List Expr) (rows : List (List Expr)) : Type 0 where
  pub insert : Insert
  pub query : Tree
  pub command : s.command ≡ command.Rows (rows_by.Insert insert)
  pub table : insert.table ≡ name
  pub columns : insert.columns ≡ []
  pub source : insert.source ≡ source.Query query
  pub alone : stands_alone (query_layer query) ≡ true
  pub values : part_layer (query_layer query).first ≡ QueryPart-F.Values (first ∷ rows)

-- queries may stand in it
record IsDeeper (d : Depth) : Type 0 where
  views : List ℕ → List ℕ → Tree → List BoundUnit → UnitsAnswer Asked
  below : Depth
  is : d ≡ Deeper views below

deeper : (a : Around) (n : ℕ) → IsDeeper (depth_of (λ text. of_query) a (suc n))
deeper a n = record { views = _; below = _; is = refl }

deep-enough : (a : Around) → IsDeeper (full_depth a)
deep-enough a = deeper a 19

command-is : (o : Outer) (s : Statement) (name : Token) (first : List Expr) (rows : List (List Expr)) (made : List (List BoundExpr)) (entry : Entry) (t : TableDefinition) → IsDeeper o.depth → InsertsRows s name first rows
    → table_named (name_at o.text name) o.around.catalog ≡ Some entry → entry.kind ≡ entry_kind.Table → table_in (definition_of entry) ≡ Some t → is_plain_table t ≡ true → has_no_index entry.name o.around.catalog.names ≡ true
    → length t.columns ≤ MAX_COLUMNS → AreRows o.text (length t.columns) (first ∷ rows) made → o.around.catalog.triggers ≡ []
    → (b : BoundCommand × Opened) × (command_bound o s.command ≡ Ok b) × Writes entry (length t.columns) made b
command-is o s name first rows made entry t deep inserts named table defines plain bare few are untriggered =
    let q = inserts.query in
    let ask = values-ask (beside_from o) deep.views deep.below q (length t.columns) first rows made deep.is inserts.alone inserts.values few are in
    let w = write-is o deep.views deep.below deep.is name first rows made entry t named table defines plain bare few are inserts.insert q inserts.table inserts.columns inserts.source ask untriggered in
    (w.0, ap (λ (c : Command). command_bound o c) inserts.command ∙ w.1, w.2)

-- what runs of it
abbrev pub put_as : TableEntry → List (List BoundExpr) → Put
put_as t made = put_from t (placed_from 0 t.columns) [] [] made rowid.Drawn

plain-put : (entry : Entry) (t : TableEntry) (d : BoundTarget) (width : ℕ) (made : List (List BoundExpr)) → IsBare entry d → width ≡ length t.columns → t.rowid ≡ None → put_at t d (places_from 0 width) None made ≡ Ok (put_as t made)
plain-put entry t d width made bare wide none =
    let are = ap (λ n. columns_put t.columns (places_from 0 n) d.defaults d.not_nulls) wide ∙ all_put 0 t.columns d.defaults d.not_nulls bare.defaults bare.not_nulls in
    put-at-is t d (places_from 0 width) None made (placed_from 0 t.columns) rowid.Drawn are (ap (λ r. rowid_from (placed_from 0 t.columns) r None) none)
    ∙ ap (λ cs. Ok (put_from t (placed_from 0 t.columns) cs (keys_of t.rowid d.item.indexes) made rowid.Drawn)) bare.checks
    ∙ ap (λ (is : List BoundIndex). Ok (put_from t (placed_from 0 t.columns) [] (keys_of t.rowid is) made rowid.Drawn)) bare.indexes

runs : (tables : List TableEntry) (number : ℕ) (text : List ℕ) (s : Statement) (entry : Entry) (width : ℕ) (made : List (List BoundExpr)) (b : BoundCommand × Opened) (t : TableEntry) → Writes entry width made b → table_called tables entry.name ≡ Some t
    → width ≡ length t.columns → t.rowid ≡ None → runnable_of tables number text s (statement_with s.explain b) ≡ Ok (Puts (put_as t made))
runs tables number text s entry width made b t w called wide none =
    let units = b.1.units in
    let d = w.write.target in
    let put : Result Put Cause → Result Runnable Cause = λ r. r >>= λ p. Ok (Puts p) in
    let into : TableEntry → Result Runnable Cause = λ t. put (put_into t d units w.write.change) in
    ap (command_of tables number text s units) w.command
    ∙ ap (λ (is : List BoundIndex). if_built (has_own_keys is) (table_of_source tables d.item.source >>= into)) w.target.indexes
    ∙ ap (λ x. table_of_source tables x >>= into) w.target.source
    ∙ ap (λ x. found_table x >>= into) called
    ∙ ap (λ c. put (put_into t d units c)) w.change.is
    ∙ ap (λ p. put (p >>= rows_of_part >>= λ rows. put_at t d (places_from 0 width) None rows)) w.change.part
    ∙ ap put (plain-put entry t d width made w.target wide none)

-- a statement that puts these rows into this table
pub record Runs (catalog : Entries) (text : List ℕ) (s : Statement) (t : TableEntry) (made : List (List BoundExpr)) (tables : List TableEntry) : Type 0 where
  pub statement : BoundStatement
  pub bound : bound_of (around catalog) text s ≡ Ok statement
  pub runs : (number : ℕ) → runnable_of tables number text s statement ≡ Ok (Puts (put_as t made))

pub statement-runs : (catalog : Entries) (text : List ℕ) (s : Statement) (name : Token) (first : List Expr) (rows : List (List Expr)) (made : List (List BoundExpr)) (entry : Entry) (t : TableDefinition) (tables : List TableEntry) (te : TableEntry)
    → InsertsRows s name first rows → table_named (name_at text name) catalog ≡ Some entry → entry.kind ≡ entry_kind.Table → table_in (definition_of entry) ≡ Some t → is_plain_table t ≡ true → has_no_index entry.name catalog.names ≡ true
    → length t.columns ≤ MAX_COLUMNS → AreRows text (length t.columns) (first ∷ rows) made → catalog.triggers ≡ [] → table_called tables entry.name ≡ Some te → length t.columns ≡ length te.columns → te.rowid ≡ None → Runs catalog text s te made tables
statement-runs catalog text s name first rows made entry t tables te inserts named table defines plain bare few are untriggered called wide none =
    let a = around catalog in
    let w = command-is (outer_at a (full_depth a) text [] in_statement) s name first rows made entry t (deep-enough a) inserts named table defines plain bare few are untriggered in
    record {
      statement = statement_with s.explain w.0;
      bound = ap (λ r. r >>= λ b. Ok (statement_with s.explain b)) w.1;
      runs = λ number. runs tables number text s entry (length t.columns) made w.0 te w.2 called wide none;
    }
