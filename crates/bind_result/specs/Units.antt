-- Groups and units, by the plain data that they are made of (groups_of of Cores.antt, query_unit of Queries.antt).
use Rattle.std.specs.Prelude.{◌≡◌, ℕ, Bool, true, List, length, Option, Some, None, Ok, refl, if◌then◌else◌}
use Rattle.sql_words.specs.Refusals.{◌>>=◌}
use Rattle.bound_tree.specs.Exprs.{BoundExpr}
use Rattle.bound_tree.specs.declared.units.BoundAggregate.{BoundAggregate}
use Rattle.bound_tree.specs.declared.units.BoundGroups.{BoundGroups}
use Rattle.bound_tree.specs.declared.units.BoundKey.{BoundKey}
use Rattle.bound_tree.specs.declared.units.BoundUnit.TheVariants.{Queried}
use Rattle.bound_tree.specs.declared.units.BoundUnit.{BoundUnit}
use Rattle.sql_bound.specs.Carriers.{Expression}
use Rattle.sql_bound.specs.Froms.{as_columns}
use Rattle.sql_bound.specs.Groups.{grouped_checked}
use Rattle.sql_bound.specs.Queries.{query_unit}
use Rattle.sql_bound.specs.Refusals.{Checked}
use Rattle.sql_bound.specs.Scopes.{Level, Outer}
use Rattle.sql_bound.specs.declared.queries.BoundLimit.{BoundLimit}
use Rattle.sql_bound.specs.declared.queries.Gathered.{Gathered}
use Rattle.sql_bound.specs.declared.scopes.Work.{Work}

abbrev pub groups_of : Bool → List BoundKey → List BoundAggregate → List BoundExpr → Option BoundGroups
groups_of grouped keys aggregates having = if grouped then Some (record { keys = keys; aggregates = aggregates; having = having }) else None

-- what HAVING is split into, in which no column is bare
abbrev pub conjuncts_checked : List BoundKey → Level → Expression → BoundExpr → Checked (List BoundExpr)
conjuncts_checked keys own x tree = grouped_checked true keys own tree >>= λ u. Ok (x.conjuncts tree)

-- in the text of a view or trigger, or of none
abbrev pub unit_within : Option (List ℕ) → List ℕ → Gathered → BoundLimit → Work → BoundUnit
unit_within within tables g l w =
    Queried (record {
      within = within;
      arguments = length w.needs;
      tables = tables;
      first = g.first;
      others = g.others;
      order = g.order;
      limit = l.count;
      offset = l.offset;
      columns = as_columns g.columns;
    })

-- it is that of the definition
pub query_unit-is : (o : Outer) (tables : List ℕ) (g : Gathered) (l : BoundLimit) (w : Work) → query_unit o tables g l w ≡ unit_within o.within tables g l w
query_unit-is o tables g l w = refl
