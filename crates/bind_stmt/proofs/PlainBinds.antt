-- What an INSERT that runs at once is meant to be.
use Rattle.std.proofs.Common.{◌≡◌, ◌≤◌, ℕ, nat_eq, nat_le, Bool, true, false, ◌&&◌, if◌then◌else◌, List, [], ◌∷◌, length, Option, Some, None, Result, Ok, Err, IfOk, IfSome, refl, sym, ap, subst, ◌∙◌}
use Rattle.std.proofs.lemmas.Bool.{eqb-true, leb-true}
use Rattle.eng_entry.specs.Entries.{Entries}
use Rattle.eng_entry.specs.declared.entry.EntryKind.TheVariants as entry_kind
use Rattle.eng_entry.specs.declared.entry.EntryKind.{EntryKind}
use Rattle.eng_value.specs.declared.limits.TheConstants.{MAX_COLUMNS}
use Rattle.eng_index.specs.declared.key_term.KeyTerm.{KeyTerm}
use Rattle.sql_tree.specs.Layers.{PartLayer, of_part, of_query}
use Rattle.sql_tree.specs.declared.expr.Expr.TheOpen.{QueryPart-F}
use Rattle.sql_tree.specs.declared.expr.Expr.{Expr}
use Rattle.bound_tree.specs.Exprs.{BoundExpr}
use Rattle.sql_tree.specs.declared.query.Query.{Query}
use Rattle.sql_tree.specs.declared.statement.Command.TheVariants as command
use Rattle.sql_tree.specs.declared.statement.Command.{Command}
use Rattle.sql_tree.specs.declared.statement.Insert.{Insert}
use Rattle.sql_tree.specs.declared.statement.InsertSource.TheVariants as source
use Rattle.sql_tree.specs.declared.statement.InsertSource.{InsertSource}
use Rattle.sql_tree.specs.declared.statement.RowCommand.TheVariants as rows_by
use Rattle.sql_tree.specs.declared.statement.Statement.{Statement}
use Rattle.sql_tree.specs.declared.statement.TableDefinition.{TableDefinition}
use Rattle.sql_bound.specs.Declarations.{definition_of, table_in}
use Rattle.bound_size.proofs.BoundLaws.{both_hold}
use Rattle.sql_meaning.specs.Built.{is_built, is_empty, stands_alone}
use Rattle.sql_meaning.specs.Declarations.{tables_of}
use Rattle.sql_meaning.specs.Permits.{asked_by}
use Rattle.sql_meaning.proofs.PermitLaws.{permitted-all}
use Rattle.sql_meaning.specs.Runnables.{Puts}
use Rattle.sql_meaning.specs.declared.bound.BoundInsert.{BoundInsert}
use Rattle.sql_meaning.specs.declared.bound.PutColumn.{PutColumn}
use Rattle.sql_meaning.specs.declared.bound.RowidFrom.{RowidFrom}
use Rattle.sql_meaning.specs.declared.bound.RowidFrom.TheVariants as rowid
use Rattle.sql_meaning.specs.declared.column.TableEntry.{TableEntry}
use Rattle.bind_stmt.specs.Binds.{Binds}
use Rattle.bind_stmt.specs.Plain.{AreRows, PutsPlain, defines_plain, has_no_index, insert_in, insert_of, is_plain_definition, is_plain_table, is_table_kind, placed_from, rows_in, rows_of, rows_of_source}
use Rattle.bind_stmt.specs.declared.statement.Bound.TheVariants as bound
use Rattle.bind_stmt.proofs.PlainInserts.{InsertsRows, put_as, statement-runs}
use Rattle.bind_stmt.proofs.PlainValues.{none-in}
use Rattle.bind_stmt.proofs.Whole.{bound_so}

-- ---- what is read of the statement

same-some : {A : Type 0} (a b : A) → Some a ≡ Some b → a ≡ b
same-some a b e = cc

read-command : (c : Command) (i : Insert) → insert_in c ≡ Some i → c ≡ command.Rows (rows_by.Insert i)
read-command (command.Rows (rows_by.Insert j)) i e = ap (λ k. command.Rows (rows_by.Insert k)) (same-some j i e)
read-command (command.Rows (rows_by.Query q)) i e = absurd (let bad : None ≡ Some i = e in cc)
read-command (command.Rows (rows_by.Update u)) i e = absurd (let bad : None ≡ Some i = e in cc)
read-command (command.Rows (rows_by.Delete d)) i e = absurd (let bad : None ≡ Some i = e in cc)
read-command (command.Create c) i e = absurd (let bad : None ≡ Some i = e in cc)
read-command (command.Remove r) i e = absurd (let bad : None ≡ Some i = e in cc)
read-command (command.Transaction t) i e = absurd (let bad : None ≡ Some i = e in cc)
read-command (command.Pragma p) i e = absurd (let bad : None ≡ Some i = e in cc)

record Rows (p : PartLayer) (rows : List (List Expr)) : Type 0 where
  first : List Expr
  rest : List (List Expr)
  all : rows ≡ first ∷ rest
  is : p ≡ QueryPart-F.Values (first ∷ rest)

read-part : (p : PartLayer) (rows : List (List Expr)) → rows_in p ≡ Some rows → Rows p rows
read-part (QueryPart-F.Values []) rows e = absurd (let bad : None ≡ Some rows = e in cc)
read-part (QueryPart-F.Values (row ∷ more)) rows e = record { first = row; rest = more; all = sym (same-some (row ∷ more) rows e); is = refl }
read-part (QueryPart-F.Select core) rows e = absurd (let bad : None ≡ Some rows = e in cc)

read-if : {A : Type 0} (b : Bool) (o : Option A) (a : A) → (if b then o else None) ≡ Some a → (b ≡ true) × (o ≡ Some a)
read-if true o a e = (refl, e)
read-if false o a e = absurd (let bad : None ≡ Some a = e in cc)

record Source (s : InsertSource) (rows : List (List Expr)) : Type 0 where
  query : Query
  is : s ≡ source.Query query
  alone : stands_alone (of_query query) ≡ true
  values : Rows (of_part (of_query query).first) rows

read-source : (s : InsertSource) (rows : List (List Expr)) → rows_of_source s ≡ Some rows → Source s rows
read-source (source.Query q) rows e =
    let k = read-if (stands_alone (of_query q)) (rows_in (of_part (of_query q).first)) rows e in record { query = q; is = refl; alone = k.0; values = read-part (of_part (of_query q).first) rows k.1 }
read-source source.Defaults rows e = absurd (let bad : None ≡ Some rows = e in cc)

record Read (s : Statement) (i : Insert) (rows : List (List Expr)) : Type 0 where
  first : List Expr
  rest : List (List Expr)
  all : rows ≡ first ∷ rest
  inserts : InsertsRows s i.table first rest

read : (s : Statement) (i : Insert) (rows : List (List Expr)) → insert_of s ≡ Some i → rows_of i ≡ Some rows → Read s i rows
read s i rows at puts =
    let k = read-if (is_empty i.columns) (rows_of_source i.source) rows puts in
    let from = read-source i.source rows k.1 in
    record {
      first = from.values.first;
      rest = from.values.rest;
      all = from.values.all;
      inserts = record { insert = i; query = from.query; command = read-command s.command i at; table = refl; columns = none-in i.columns k.0; source = from.is; alone = from.alone; values = from.values.is };
    }

-- ---- what is read of the table

read-kind : (k : EntryKind) → is_table_kind k ≡ true → k ≡ entry_kind.Table
read-kind entry_kind.Table e = refl
read-kind entry_kind.Module e = absurd (let bad : false ≡ true = e in cc)
read-kind entry_kind.Index e = absurd (let bad : false ≡ true = e in cc)
read-kind entry_kind.View e = absurd (let bad : false ≡ true = e in cc)
read-kind entry_kind.Trigger e = absurd (let bad : false ≡ true = e in cc)

record Defined (d : Option TableDefinition) (width : ℕ) : Type 0 where
  table : TableDefinition
  is : d ≡ Some table
  plain : is_plain_table table ≡ true
  wide : length table.columns ≡ width

read-definition : (d : Option TableDefinition) (width : ℕ) → is_plain_definition d width ≡ true → Defined d width
read-definition None width e = absurd (let bad : false ≡ true = e in cc)
read-definition (Some t) width e =
    let k = both_hold (is_plain_table t) (nat_eq (length t.columns) width) e in record { table = t; is = refl; plain = k.0; wide = eqb-true (length t.columns) width k.1 }

-- ---- the whole

insert-is : (b : BoundInsert) (t : TableEntry) → b.table ≡ t.number → b.name ≡ t.name → b.columns ≡ placed_from 0 t.columns → b.rowid ≡ rowid.Drawn → b.checks ≡ [] → b.keys ≡ [] → b ≡ (put_as t b.rows).insert
insert-is b t number name columns from checks keys =
    let made : ℕ → List ℕ → List PutColumn → RowidFrom → List BoundExpr → List (List KeyTerm) → BoundInsert = λ n name columns from checks keys. record { table = n; name = name; columns = columns; rowid = from; checks = checks; keys = keys; rows = b.rows } in
    ap (λ n. made n b.name b.columns b.rowid b.checks b.keys) number
    ∙ ap (λ n. made t.number n b.columns b.rowid b.checks b.keys) name
    ∙ ap (λ cs. made t.number t.name cs b.rowid b.checks b.keys) columns
    ∙ ap (λ r. made t.number t.name (placed_from 0 t.columns) r b.checks b.keys) from
    ∙ ap (λ cs. made t.number t.name (placed_from 0 t.columns) rowid.Drawn cs b.keys) checks
    ∙ ap (made t.number t.name (placed_from 0 t.columns) rowid.Drawn []) keys

pub plain-binds : (catalog : Entries) (number : ℕ) (text : List ℕ) (s : Statement) (i : Insert) (rows : List (List Expr)) (b : BoundInsert) → insert_of s ≡ Some i → rows_of i ≡ Some rows → PutsPlain catalog (tables_of catalog) text i.table rows b
    → is_built text s ≡ true → catalog.triggers ≡ [] → Binds (asked_by None) catalog number text s (Ok (bound.Insert b))
plain-binds catalog number text s i rows b at puts p built untriggered =
    let r = read s i rows at puts in
    let put = p.put in
    let entry = p.table.entry in
    let third = both_hold (nat_le (length put.columns) MAX_COLUMNS && is_table_kind entry.kind && defines_plain entry (length put.columns)) (has_no_index entry.name catalog.names) p.table.plain in
    let second = both_hold (nat_le (length put.columns) MAX_COLUMNS && is_table_kind entry.kind) (defines_plain entry (length put.columns)) third.0 in
    let two = both_hold (nat_le (length put.columns) MAX_COLUMNS) (is_table_kind entry.kind) second.0 in
    let d = read-definition (table_in (definition_of entry)) (length put.columns) second.1 in
    let few : length d.table.columns ≤ MAX_COLUMNS = subst (λ n. n ≤ MAX_COLUMNS) (sym d.wide) (leb-true (length put.columns) MAX_COLUMNS two.0) in
    let are : AreRows text (length d.table.columns) (r.first ∷ r.rest) b.rows = subst (λ n. AreRows text n (r.first ∷ r.rest) b.rows) (sym d.wide) (subst (λ rs. AreRows text (length put.columns) rs b.rows) r.all p.rows) in
    let runs = statement-runs catalog text s i.table r.first r.rest b.rows entry d.table (tables_of catalog) put r.inserts p.table.named (read-kind entry.kind two.1) d.is d.plain third.1 few are untriggered p.table.called d.wide p.table.rowid in
    bound_so (asked_by None) catalog number text s runs.statement runs.statement (Ok (bound.Insert b)) untriggered built runs.bound (permitted-all runs.statement) (
      Puts (put_as put b.rows),
      runs.runs number,
      insert-is b put p.number p.called p.columns p.rowid p.checks p.keys,
    )

-- what is found of a statement's INSERT and rows
pub found-binds : {E : Type 0} (catalog : Entries) (tables : List TableEntry) (number : ℕ) (text : List ℕ) (s : Statement) (i : Insert) (rows written : List (List Expr)) (r : Result (Option BoundInsert) E) → tables ≡ tables_of catalog → insert_of s ≡ Some i → rows_of i ≡ Some rows
    → written ≡ rows → is_built text s ≡ true → catalog.triggers ≡ [] → IfOk r (λ found. IfSome found (λ b. PutsPlain catalog tables text i.table written b))
    → IfOk r (λ found. IfSome found (λ b. Binds (asked_by None) catalog number text s (Ok (bound.Insert b))))
found-binds catalog tables number text s i rows written (Err why) of at puts same built untriggered h = tt
found-binds catalog tables number text s i rows written (Ok None) of at puts same built untriggered h = tt
found-binds catalog tables number text s i rows written (Ok (Some b)) of at puts same built untriggered h =
    plain-binds catalog number text s i rows b at puts (subst (λ ts. PutsPlain catalog ts text i.table rows b) of (subst (λ rs. PutsPlain catalog tables text i.table rs b) same h)) built untriggered
