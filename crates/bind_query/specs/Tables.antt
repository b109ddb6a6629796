-- What the tables of a WITH come to, as code has it.
use Rattle.std.specs.Prelude.{ℕ, List, length, Ok, codes}
use Rattle.bind_with.specs.Units.{recursion_with}
use Rattle.bound_tree.specs.declared.units.BoundCompound.{BoundCompound}
use Rattle.bound_tree.specs.declared.units.BoundPart.{BoundPart}
use Rattle.bound_tree.specs.declared.units.BoundUnit.{BoundUnit}
use Rattle.sql_bound.specs.Compounds.{width_fits}
use Rattle.sql_bound.specs.Cores.{core_of, recursive_select_bound, without_aggregates}
use Rattle.sql_bound.specs.Froms.{Inside}
use Rattle.sql_bound.specs.Orders.{limit_bound}
use Rattle.sql_bound.specs.Queries.{Written, asked_as}
use Rattle.sql_bound.specs.Recursions.{Recursive, unordered}
use Rattle.sql_bound.specs.Scopes.{UnitsAnswer}
use Rattle.sql_bound.specs.declared.scopes.Asked.{Asked}
use Rattle.sql_bound.specs.declared.scopes.ResultColumn.{ResultColumn}
use Rattle.sql_bound.specs.declared.scopes.Work.{Work}
use Rattle.sql_words.specs.Refusals.{◌>>=◌}
use Rattle.bind_query.specs.Scopes.{Levels, inside_of}
use Rattle.bind_query.specs.Where.{Where}
use Rattle.bind_query.specs.declared.tables.WithTables.{WithTables}

-- where the query behind them stands, their units, and all units
abbrev pub tables_meant : Where → Levels → WithTables → (Inside × List ℕ) × List BoundUnit
tables_meant w ls t = ((inside_of w ls t.entries, t.places), t.units)

-- the part of a recursive table that names it, and LIMIT, behind the parts in front, which give these columns
abbrev pub repeated_bound : Inside → List ℕ → List ℕ → Written → Recursive → BoundPart → List BoundCompound → List ResultColumn → Work → UnitsAnswer Asked
repeated_bound i tables name q r first others columns w =
    recursive_select_bound i (record { name = name; columns = columns }) r.core w >>= λ s.
    width_fits (codes "SELECT") (length columns) (length s.0.shown.columns) >>= λ u. unordered name q.order >>= λ v.
    limit_bound i.outer q.limit (without_aggregates s.1) >>= λ l.
    Ok (asked_as (recursion_with i.outer.within (length l.1.needs) tables first others columns r.all (core_of s.0 s.1) s.0.shown.columns l.0) columns l.1)
