-- What binding goes by, as code has it, and the rows of a table by what code has of it.
use Rattle.std.specs.Prelude.{◌≡◌, ◌⊎◌, ℕ, Bool, List, Option, Some, Result, Ok, Err}
use Rattle.bound_tree.specs.declared.units.BoundColumn.{BoundColumn}
use Rattle.bound_tree.specs.declared.units.BoundIndex.{BoundIndex}
use Rattle.bound_tree.specs.declared.units.BoundSource.TheVariants as source
use Rattle.eng_entry.specs.Entries.{Entries}
use Rattle.eng_entry.specs.declared.entry.Entry.{Entry}
use Rattle.eng_value.specs.declared.cause.Cause.{Cause}
use Rattle.eng_value.specs.declared.cause.Cause.TheVariants.{Mem}
use Rattle.sql_bound.specs.Froms.{plain_source}
use Rattle.sql_bound.specs.HostFacts.{facts_of}
use Rattle.sql_bound.specs.Scopes.{Around}
use Rattle.sql_bound.specs.declared.facts.HostFacts.{HostFacts}
use Rattle.sql_bound.specs.declared.froms.Sourced.{Sourced}

abbrev pub around_of : Entries → HostFacts → Around
around_of catalog facts = record { catalog = catalog; facts = facts_of facts }

abbrev pub table_rows : Bool → Entry → List BoundIndex → List BoundColumn → Option ℕ → Sourced
table_rows rowids entry indexes columns rowid =
    record (plain_source (Some entry.name) (source.Table entry.name entry.number) columns) { has_rowid = rowids; rowid = rowid; indexes = indexes }
