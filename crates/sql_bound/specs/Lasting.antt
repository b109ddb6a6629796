-- Whether the collations that a table and its indexes were created with are still there: hosts may have gone since, and no other order stands in for theirs.
use Rattle.std.specs.Prelude.{ℕ, List, [], ◌∷◌, ◌++◌, Option, Some, None, Ok, if◌then◌else◌}
use Rattle.std.specs.List.{flat_map}
use Rattle.std.specs.Option.{option_to_list}
use Rattle.eng_entry.specs.declared.entry.Entry.{Entry}
use Rattle.sql_tree.specs.declared.statement.ColumnConstraint.TheVariants as column_constraint
use Rattle.sql_tree.specs.declared.statement.ColumnConstraint.{ColumnConstraint}
use Rattle.sql_tree.specs.declared.statement.ColumnDefinition.{ColumnDefinition}
use Rattle.sql_tree.specs.declared.statement.IndexDefinition.{IndexDefinition}
use Rattle.sql_tree.specs.declared.statement.IndexedColumn.{IndexedColumn}
use Rattle.sql_tree.specs.declared.statement.TableConstraint.TheVariants as table_constraint
use Rattle.sql_tree.specs.declared.statement.TableConstraint.{TableConstraint}
use Rattle.sql_tree.specs.declared.statement.TableDefinition.{TableDefinition}
use Rattle.sql_tree.specs.declared.token.Token.{Token}
use Rattle.sql_words.specs.Refusals.{◌>>=◌, or_else}
use Rattle.sql_words.specs.Spelled.{name_at}
use Rattle.sql_bound.specs.Declarations.{definition_of, index_in, is_index_of}
use Rattle.sql_bound.specs.Expressions.{collation_called}
use Rattle.sql_bound.specs.Refusals.{Checked}
use Rattle.sql_bound.specs.Scopes.{Around, Facts}

abbrev pub all_there : Facts → List ℕ → List Token → Checked (Unit {0})
all_there facts text [] = Ok tt
all_there facts text (t ∷ ts) = collation_called facts (name_at text t) >>= λ c. all_there facts text ts

-- ---- where they are written, in order of text: of several for one column the last counts

abbrev pub last_collate : List ColumnConstraint → Option Token
last_collate [] = None
last_collate (column_constraint.Collate t ∷ rest) = or_else (last_collate rest) (Some t)
last_collate (other ∷ rest) = last_collate rest

abbrev pub of_column : ColumnDefinition → List Token
of_column d = option_to_list (last_collate d.constraints)

abbrev pub of_parts : List IndexedColumn → List Token
of_parts parts = flat_map (λ (p : IndexedColumn). option_to_list p.collation) parts

abbrev pub of_key : TableConstraint → List Token
of_key (table_constraint.PrimaryKey parts) = of_parts parts
of_key (table_constraint.Unique parts) = of_parts parts
of_key (table_constraint.Check x) = []

-- ---- those of the table, then those of its indexes

abbrev pub index_there : Facts → Entry → Option IndexDefinition → Checked (Unit {0})
index_there facts entry None = Ok tt
index_there facts entry (Some i) = all_there facts entry.text (of_parts i.columns)

abbrev pub indexes_there : Facts → List ℕ → List Entry → Checked (Unit {0})
indexes_there facts table [] = Ok tt
indexes_there facts table (entry ∷ entries) =
    (if is_index_of table entry then index_there facts entry (index_in (definition_of entry)) else Ok tt) >>= λ u. indexes_there facts table entries

abbrev pub collations_kept : Around → Entry → TableDefinition → Checked (Unit {0})
collations_kept around entry t =
    all_there around.facts entry.text (flat_map of_column t.columns ++ flat_map of_key t.constraints) >>= λ u.
    indexes_there around.facts entry.name around.catalog.names
