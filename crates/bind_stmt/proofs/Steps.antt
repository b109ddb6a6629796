-- What single steps come to.
use Rattle.std.proofs.Common.{◌≡◌, ◌≤◌, nat_le, is_some, subst, if◌then◌else◌, ℕ, List, true, length, Option, Some, None, Result, Ok, inl, inr, ◌∙◌, flat_map, slice_get, refl, ap, sym}
use Rattle.std.proofs.lemmas.Bool.{le-leb}
use Rattle.std.proofs.lemmas.List.{length-map}
use Rattle.eng_value.specs.declared.cause.Cause.{Cause}
use Rattle.eng_value.specs.declared.limits.TheConstants.{MAX_COLUMNS}
use Rattle.bound_tree.specs.declared.units.BoundCore.{BoundCore}
use Rattle.bound_tree.specs.declared.units.BoundPart.{BoundPart}
use Rattle.bound_tree.specs.declared.units.BoundUnit.{BoundUnit}
use Rattle.bound_tree.specs.Exprs.{BoundExpr}
use Rattle.bound_tree.specs.declared.writes.BoundTarget.{BoundTarget}
use Rattle.bound_tree.specs.declared.writes.BoundWrite.{BoundWrite}
use Rattle.sql_meaning.specs.declared.bound.PutColumn.{PutColumn}
use Rattle.sql_meaning.specs.declared.bound.RowidFrom.{RowidFrom}
use Rattle.sql_words.specs.Refusals.{◌>>=◌}
use Rattle.sql_meaning.specs.declared.column.TableEntry.{TableEntry}
use Rattle.sql_meaning.specs.Running.{columns_put, first_part, from_of, is_plain_core, part_of, put_at, put_into, put_of, put_with, query_of, rejecting, rowid_from, select_of, table_of_source}
use Rattle.sql_meaning.specs.Runnables.{FromItem, Put, Puts, Queries, Query, Runnable}
use Rattle.bound_tree.specs.Conditions.{conditions_of}
use Rattle.bound_tree.specs.declared.statements.BoundCreation.{BoundCreation}
use Rattle.sql_meaning.specs.Declarations.{column_of, columns_created, columns_of, rowid_created}
use Rattle.eng_index.specs.declared.key_term.KeyTerm.{KeyTerm}
use Rattle.sql_tree.specs.declared.statement.IndexDefinition.{IndexDefinition}
use Rattle.sql_bound.specs.Declarations.{definition_in}
use Rattle.bind_stmt.specs.Steps.{index_meant}
use Rattle.sql_meaning.specs.Running.{creation_by, creation_of, entry_with, has_own_keys, if_built, keys_of}
use Rattle.sql_meaning.specs.Runnables.{Creates}
use Rattle.sql_bound.specs.Declarations.{rowid_of}
use Rattle.sql_tree.specs.declared.statement.Command.TheVariants as command
use Rattle.sql_tree.specs.declared.statement.Create.{Create}
use Rattle.sql_tree.specs.declared.statement.Definition.TheVariants as definition
use Rattle.sql_tree.specs.declared.statement.Statement.{Statement}
use Rattle.sql_tree.specs.declared.statement.TableDefinition.{TableDefinition}
use Rattle.bind_stmt.specs.Binds.{IsRefusal}

abbrev pub query_over : BoundCore → List FromItem → Query
query_over c from = record { from = from; conjuncts = flat_map conditions_of (rejecting c); results = c.results }

pub select-is : (tables : List TableEntry) (c : BoundCore) (from : List FromItem) → is_plain_core c ≡ true → from_of tables c.items ≡ Ok from → select_of tables c ≡ Ok (Queries (query_over c from))
select-is tables c from plain is = rw (plain, is) refl

pub query-is : (tables : List TableEntry) (units : List BoundUnit) (place : ℕ) (p : BoundPart) (r : Result Runnable Cause) → first_part (slice_get units place) ≡ Ok p → part_of tables p ≡ r → query_of tables units place ≡ r
query-is tables units place p r is e = rw is e

pub put-is : (tables : List TableEntry) (units : List BoundUnit) (w : BoundWrite) (t : TableEntry) (p : Put) → has_own_keys w.target.item.indexes ≡ true → table_of_source tables w.target.item.source ≡ Ok t → put_into t w.target units w.change ≡ Ok p → put_of tables units w ≡ Ok (Puts p)
put-is tables units w t p own is e = rw (own, is, e) refl

pub put-refused : (tables : List TableEntry) (units : List BoundUnit) (w : BoundWrite) (t : TableEntry) (why : Cause) → has_own_keys w.target.item.indexes ≡ true → table_of_source tables w.target.item.source ≡ Ok t → IsRefusal (put_into t w.target units w.change) why → IsRefusal (put_of tables units w) why
put-refused tables units w t why own is (inl mem) = inl mem
put-refused tables units w t why own is (inr e) = inr (rw (own, is, e) refl)

-- what is put, where its columns take this and its rowids come from there
abbrev pub put_from : TableEntry → List PutColumn → List BoundExpr → List (List KeyTerm) → List (List BoundExpr) → RowidFrom → Put
put_from t columns checks keys rows from = record { table = t; insert = record { table = t.number; name = t.name; columns = columns; rowid = from; checks = checks; keys = keys; rows = rows } }

pub put-at-is : (t : TableEntry) (target : BoundTarget) (places : List (Option ℕ)) (given : Option ℕ) (rows : List (List BoundExpr)) (columns : List PutColumn) (from : RowidFrom) → columns_put t.columns places target.defaults target.not_nulls ≡ columns
    → rowid_from columns t.rowid given ≡ Ok from → put_at t target places given rows ≡ Ok (put_from t columns target.checks (keys_of t.rowid target.item.indexes) rows from)
put-at-is t target places given rows columns from are is = ap (λ cs. put_with t target cs given rows) are ∙ ap (λ r. r >>= λ f. Ok (put_from t columns target.checks (keys_of t.rowid target.item.indexes) rows f)) is

pub columns-are : (text : List ℕ) (s : Statement) (k : Create) (t : TableDefinition) → s.command ≡ command.Create k → k.definition ≡ definition.Table t → length t.columns ≤ MAX_COLUMNS → columns_created text s.command ≡ Some (columns_of text t)
columns-are text s k t is at few =
    let wide : nat_le (length (columns_of text t)) MAX_COLUMNS ≡ true = le-leb _ _ (subst (λ n. n ≤ MAX_COLUMNS) (sym (length-map t.columns (column_of text))) few) in
    rw (is, at) (ap (λ b. if b then Some (columns_of text t) else None) wide)

pub rowid-is : (text : List ℕ) (s : Statement) (k : Create) (t : TableDefinition) → s.command ≡ command.Create k → k.definition ≡ definition.Table t → rowid_created text s.command ≡ rowid_of text t
rowid-is text s k t is at = rw (is, at) refl

pub created-is : (tables : List TableEntry) (number : ℕ) (text : List ℕ) (s : Statement) (b : BoundCreation) (k : Create) (t : TableDefinition) → s.command ≡ command.Create k → k.definition ≡ definition.Table t → length t.columns ≤ MAX_COLUMNS
    → creation_of tables number text s b ≡ Ok (Creates (entry_with number text b.name s))
created-is tables number text s b k t is at few =
    ap (creation_by tables number text s b) (ap definition_in is ∙ ap Some at) ∙ ap (λ o. if_built (is_some o) (Ok (Creates (entry_with number text b.name s)))) (columns-are text s k t is at few)

pub indexed-is : (tables : List TableEntry) (number : ℕ) (text : List ℕ) (s : Statement) (b : BoundCreation) (k : Create) (i : IndexDefinition) → s.command ≡ command.Create k → k.definition ≡ definition.Index i
    → creation_of tables number text s b ≡ index_meant tables text s b
indexed-is tables number text s b k i is at = ap (creation_by tables number text s b) (ap definition_in is ∙ ap Some at)
