-- An index that is created, from what its steps come to.
use Rattle.std.proofs.Common.{◌≡◌, ℕ, List, Some, Ok, Err, Result, inl, inr, ap, sym, ◌∙◌, subst}
use Rattle.bind_command.specs.Indexes.{index_over}
use Rattle.bound_tree.specs.declared.statements.BoundCreation.{BoundCreation}
use Rattle.bound_tree.specs.declared.units.BoundColumn.{BoundColumn}
use Rattle.eng_entry.specs.declared.entry.Entry.{Entry}
use Rattle.eng_value.specs.declared.cause.Cause.{Cause}
use Rattle.sql_bound.specs.Answers.{Answers}
use Rattle.sql_bound.specs.Creates.{index_on, is_column, part_is_there, written_is_there}
use Rattle.sql_bound.specs.Declarations.{bound_columns, declared_table}
use Rattle.sql_bound.specs.Lasting.{collations_kept}
use Rattle.sql_bound.specs.Refusals.{Checked}
use Rattle.sql_bound.specs.Scopes.{Around, Facts}
use Rattle.sql_words.specs.Refusals.{◌>>=◌}
use Rattle.sql_words.specs.Spelled.{name_at}
use Rattle.sql_tree.specs.declared.statement.IndexDefinition.{IndexDefinition}
use Rattle.sql_tree.specs.declared.statement.IndexedColumn.{IndexedColumn}
use Rattle.sql_tree.specs.declared.statement.TableDefinition.{TableDefinition}

-- ---- a part

pub part-is : (facts : Facts) (text : List ℕ) (columns : List BoundColumn) (p : IndexedColumn) (n : List ℕ) (r : Result (Unit {0}) Cause)
    → n ≡ name_at text p.name → is_column columns n ≡ Ok tt → Answers (written_is_there facts text p.collation) r → Answers (part_is_there facts text columns p tt) r
part-is facts text columns p n r named found h =
    subst (λ (c : Checked (Unit {0})). Answers (c >>= λ u. written_is_there facts text p.collation) r)
    (sym (ap (is_column columns) (sym named) ∙ found)) h

pub part-refused : (facts : Facts) (text : List ℕ) (columns : List BoundColumn) (p : IndexedColumn) (n : List ℕ) (why : Cause)
    → n ≡ name_at text p.name → Answers (is_column columns n) (Err why) → Answers (part_is_there facts text columns p tt) (Err why)
part-refused facts text columns p n why named (inl mem) = inl mem
part-refused facts text columns p n why named (inr is) = inr (ap (λ (c : Checked (Unit {0})). c >>= λ u. written_is_there facts text p.collation) (ap (is_column columns) (sym named) ∙ is))

-- ---- the index

pub index-by : (around : Around) (text name : List ℕ) (i : IndexDefinition) (entry : Entry) (t : TableDefinition) (columns : List BoundColumn) (r : Result BoundCreation Cause)
    → collations_kept around entry t ≡ Ok tt → columns ≡ bound_columns (declared_table around.facts entry.text t).columns
    → Answers (index_over around.facts text name i entry columns) r → Answers (index_on around text name i entry (Some t)) r
index-by around text name i entry t columns r kept is h =
    subst (λ (m : Checked BoundCreation). Answers m r)
    (ap (index_over around.facts text name i entry) is
    ∙ ap (λ (c : Checked (Unit {0})). c >>= λ u. index_over around.facts text name i entry (bound_columns (declared_table around.facts entry.text t).columns)) (sym kept)) h
