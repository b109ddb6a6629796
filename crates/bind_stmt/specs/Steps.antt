-- What single steps of the work come to.
use Rattle.std.specs.Prelude.{ℕ, List, Result, slice_get}
use Rattle.std.specs.List.{flat_map}
use Rattle.bound_tree.specs.Exprs.{BoundExpr}
use Rattle.bound_tree.specs.declared.units.BoundItem.{BoundItem}
use Rattle.bound_tree.specs.declared.units.BoundUnit.{BoundUnit}
use Rattle.eng_value.specs.declared.cause.Cause.{Cause}
use Rattle.bound_tree.specs.declared.statements.BoundCreation.{BoundCreation}
use Rattle.sql_tree.specs.declared.statement.Statement.{Statement}
use Rattle.sql_meaning.specs.Declarations.{table_called}
use Rattle.sql_meaning.specs.Running.{are_own, first_part, found_table, if_built, index_on, rows_of_part, tested_by}
use Rattle.sql_meaning.specs.Runnables.{Runnable}
use Rattle.sql_meaning.specs.declared.column.TableEntry.{TableEntry}
use Rattle.sql_words.specs.Refusals.{◌>>=◌}

-- what the ONs of items that are no LEFT JOIN's test
abbrev pub inner_ons : List BoundItem → List BoundExpr
inner_ons items = flat_map (λ (i : BoundItem). tested_by i.join i.ons) items

-- what the creation of an index means
abbrev pub index_meant : List TableEntry → List ℕ → Statement → BoundCreation → Result Runnable Cause
index_meant tables text s c = if_built (are_own c.parts) (found_table (table_called tables c.owner) >>= index_on text s c)

-- the rows of the VALUES in this place
abbrev pub rows_at : List BoundUnit → ℕ → Result (List (List BoundExpr)) Cause
rows_at units place = first_part (slice_get units place) >>= rows_of_part
