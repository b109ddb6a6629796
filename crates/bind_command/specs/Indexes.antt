-- An index on a table with these columns.
use Rattle.std.specs.Prelude.{ℕ, List, Ok}
use Rattle.bound_tree.specs.declared.statements.BoundCreation.{BoundCreation}
use Rattle.bound_tree.specs.declared.statements.ThingKind.TheVariants.{AnIndex}
use Rattle.bound_tree.specs.declared.units.BoundColumn.{BoundColumn}
use Rattle.eng_entry.specs.declared.entry.Entry.{Entry}
use Rattle.sql_bound.specs.Creates.{creation_of, parts_are_there}
use Rattle.sql_bound.specs.Declarations.{index_parts}
use Rattle.sql_bound.specs.Refusals.{Checked}
use Rattle.sql_bound.specs.Scopes.{Facts}
use Rattle.sql_words.specs.Refusals.{◌>>=◌}
use Rattle.sql_tree.specs.declared.statement.IndexDefinition.{IndexDefinition}

abbrev pub index_over : Facts → List ℕ → List ℕ → IndexDefinition → Entry → List BoundColumn → Checked BoundCreation
index_over facts text name i entry columns =
    parts_are_there facts text columns i.columns >>= λ u.
    Ok (record (creation_of AnIndex name entry.name) { unique = i.unique; parts = index_parts facts text columns i.columns })
