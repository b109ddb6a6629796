-- What a table is created in, and what it declares so far, as code has them.
use Rattle.std.specs.Prelude.{◌≡◌, ◌⊎◌, ◌∷◌, ℕ, true, List, [], Option, Some, Result, Ok, Err}
use Rattle.bind_create.specs.declared.columns.Creating.{Creating as CreatingHere}
use Rattle.bind_create.specs.declared.columns.Declaring.{Declaring as DeclaringHere}
use Rattle.bind_source.specs.Arounds.{around_of}
use Rattle.bound_tree.specs.declared.units.BoundColumn.{BoundColumn}
use Rattle.bound_tree.specs.declared.units.BoundSource.TheVariants as bound_source
use Rattle.eng_value.specs.declared.cause.Cause.{Cause}
use Rattle.eng_value.specs.declared.cause.Cause.TheVariants.{Mem}
use Rattle.sql_bound.specs.Creates.{Creating, Declaring, once_each}
use Rattle.sql_bound.specs.Froms.{plain_source, scope_item}
use Rattle.sql_bound.specs.Refusals.{Checked}
use Rattle.sql_bound.specs.Scopes.{Level}
use Rattle.sql_bound.specs.declared.froms.Sourced.{Sourced}

abbrev pub creating_of : CreatingHere → Creating
creating_of c = record { around = around_of c.catalog.now c.facts.now; text = c.text.now; name = c.name; level = c.level; columns = c.columns }

abbrev pub declaring_of : DeclaringHere → Declaring
declaring_of d = record { names = d.names; has_primary = d.has_primary }

-- what is declared becomes what is meant
abbrev pub Declares : Checked Declaring → Result (Unit {0}) Cause → DeclaringHere → Type 0
Declares meant (Ok done) new = meant ≡ Ok (declaring_of new)
Declares meant (Err why) new = (why ≡ Mem) ⊎ (meant ≡ Err why)

-- the rows of a table of this name and these columns
abbrev pub rows_with : List ℕ → List BoundColumn → Option ℕ → Sourced
rows_with name columns rowid = record (plain_source (Some name) (bound_source.Table name 0) columns) { has_rowid = true; rowid = rowid }

-- the table as CHECKs see it
abbrev pub level_with : List ℕ → List BoundColumn → Option ℕ → Level
level_with name columns rowid = once_each (scope_item 0 (Some name) (rows_with name columns rowid)) ∷ []
