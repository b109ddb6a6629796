-- Steps of a CREATE that functions of their own take.
use Rattle.std.specs.Prelude.{ℕ, false, List, [], Ok}
use Rattle.bound_tree.specs.declared.statements.BoundCreation.{BoundCreation}
use Rattle.bound_tree.specs.declared.statements.ThingKind.TheVariants.{ATable}
use Rattle.sql_bound.specs.Creates.{Creating, Declaring, creation_of, entry_of, in_turn, one_is_there, with_column, with_table_constraint}
use Rattle.sql_bound.specs.Froms.{nothing_found, of_catalog}
use Rattle.sql_bound.specs.Limits.{by_column}
use Rattle.sql_bound.specs.Refusals.{Checked}
use Rattle.sql_bound.specs.Scopes.{Outer, begun}
use Rattle.sql_bound.specs.Targets.{inside_write}
use Rattle.sql_words.specs.Refusals.{◌>>=◌}
use Rattle.sql_tree.specs.declared.statement.TableDefinition.{TableDefinition}

abbrev pub nothing_declared : Declaring
nothing_declared = record { names = []; has_primary = false }

-- all that a table declares, in turn
abbrev pub all_declared : Creating → TableDefinition → Checked (Unit {0})
all_declared c t = in_turn (with_column c) t.columns nothing_declared >>= λ d. in_turn (with_table_constraint c) t.constraints d >>= λ e. Ok tt

-- the table, where all of it holds
abbrev pub table_with : Creating → TableDefinition → Checked BoundCreation
table_with c t = all_declared c t >>= λ u. Ok (creation_of ATable c.name [])

-- the columns that UPDATE OF names are there
abbrev pub columns_there : Outer → List ℕ → List (List ℕ) → Checked (Unit {0})
columns_there o table names = of_catalog (inside_write o) table (entry_of o.around table) [] nothing_found (begun []) >>= λ s. by_column (one_is_there s.0) names tt
