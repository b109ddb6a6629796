-- Whole queries: WITH, the parts, ORDER BY and LIMIT; each query is one unit (SELECT).
use Rattle.std.specs.Prelude.{ℕ, List, [], ◌∷◌, ◌++◌, length, position, Option, Some, None, Ok, Err}
use Rattle.eng_value.specs.declared.cause.Cause.TheVariants.{Limit}
use Rattle.eng_value.specs.declared.cause.LimitKind.TheVariants as limit
use Rattle.sql_words.specs.Refusals.{◌>>=◌}
use Rattle.bound_tree.specs.SameUnits.{same_unit}
use Rattle.bound_tree.specs.declared.units.BoundUnit.TheVariants.{Queried}
use Rattle.bound_tree.specs.declared.units.BoundUnit.{BoundUnit}
use Rattle.sql_bound.specs.Carriers.{CompoundParts, LimitParts, PartParts, QueryBinding, TableParts, TermParts}
use Rattle.sql_bound.specs.Compounds.{parts_bound}
use Rattle.sql_bound.specs.Froms.{Inside, as_columns}
use Rattle.sql_bound.specs.Orders.{limit_bound}
use Rattle.sql_bound.specs.Scopes.{Bottom, Deeper, Depth, Outer, UnitsAnswer, begun}
use Rattle.sql_bound.specs.Withs.{tables_bound}
use Rattle.sql_bound.specs.declared.queries.BoundLimit.{BoundLimit}
use Rattle.sql_bound.specs.declared.queries.Gathered.{Gathered}
use Rattle.sql_bound.specs.declared.scopes.Asked.{Asked}
use Rattle.sql_bound.specs.declared.scopes.ResultColumn.{ResultColumn}
use Rattle.sql_bound.specs.declared.scopes.Work.{Work}

-- ---- units: what is asked twice is one

abbrev pub unit_at : BoundUnit → List BoundUnit → Option ℕ → ℕ × List BoundUnit
unit_at u units (Some place) = (place, units)
unit_at u units None = (length units, units ++ u ∷ [])

abbrev pub with_unit : BoundUnit → List BoundUnit → ℕ × List BoundUnit
with_unit u units = unit_at u units (position (same_unit u) units)

-- the unit of a query that needs this, and gives these columns
abbrev pub asked_as : BoundUnit → List ResultColumn → Work → Asked × List BoundUnit
asked_as u columns w = let placed = with_unit u w.units in (record { unit = placed.0; needs = w.needs; columns = columns }, placed.1)

-- ---- a query is entered one level deeper

abbrev pub entered : Outer → Depth → (Inside → List BoundUnit → UnitsAnswer Asked) → List BoundUnit → UnitsAnswer Asked
entered o Bottom f units = Err (Limit limit.Queries)
entered o (Deeper views below) f units = f (record { outer = record o { depth = below }; views = views }) units

-- ---- a query

-- what a query is written as
pub record Written : Type 0 where
  pub tables : List TableParts
  pub first : PartParts
  pub others : List CompoundParts
  pub order : List TermParts
  pub limit : Option LimitParts

abbrev pub query_unit : Outer → List ℕ → Gathered → BoundLimit → Work → BoundUnit
query_unit o tables g l w =
    Queried (record {
      within = o.within;
      arguments = length w.needs;
      tables = tables;
      first = g.first;
      others = g.others;
      order = g.order;
      limit = l.count;
      offset = l.offset;
      columns = as_columns g.columns;
    })

-- behind its WITH
abbrev pub body_bound : Inside → List ℕ → Written → List BoundUnit → UnitsAnswer Asked
body_bound i tables q units =
    parts_bound i q.first q.others q.order (begun units) >>= λ g. limit_bound i.outer q.limit g.1 >>= λ l.
    Ok (asked_as (query_unit i.outer tables g.0 l.0 l.1) g.0.columns l.1)

abbrev pub query_in : Written → Inside → List BoundUnit → UnitsAnswer Asked
query_in q i units = tables_bound i [] q.tables units >>= λ t. body_bound t.0.0 t.0.1 q t.1

abbrev pub query_bound : Written → QueryBinding
query_bound q o units = entered o o.depth (query_in q) units
