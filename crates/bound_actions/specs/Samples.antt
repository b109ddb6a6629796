-- What worked examples are written with: small bound trees, and actions.
use Rattle.std.specs.Prelude.{ℕ, true, false, List, [], ◌∷◌, map, Option, Some, None, codes}
use Rattle.sql_tree.specs.declared.statement.ConflictChoice.TheVariants as choice
use Rattle.sql_tree.specs.declared.statement.TriggerTime.TheVariants as time
use Rattle.sql_words.specs.Collations.{by_bytes}
use Rattle.sql_words.specs.declared.literal.Literal.TheVariants as literal
use Rattle.eng_value.specs.declared.affinity.Affinity.TheVariants as affinity
use Rattle.eng_value.specs.declared.authorizing.Action.{Action}
use Rattle.eng_value.specs.declared.authorizing.ActionKind.TheVariants as kind
use Rattle.eng_value.specs.declared.operators.BinaryOperator.TheVariants as operator
use Rattle.eng_value.specs.declared.value.Value.TheVariants as value
use Rattle.bound_tree.specs.Exprs as e
use Rattle.bound_tree.specs.Exprs.{BoundExpr}
use Rattle.bound_tree.specs.declared.statements.BoundCommand.TheVariants as command
use Rattle.bound_tree.specs.declared.statements.BoundCommand.{BoundCommand}
use Rattle.bound_tree.specs.declared.statements.BoundStatement.{BoundStatement}
use Rattle.bound_tree.specs.declared.units.AggregateKind.{AggregateKind}
use Rattle.bound_tree.specs.declared.units.BoundColumn.{BoundColumn}
use Rattle.bound_tree.specs.declared.units.BoundCore.{BoundCore}
use Rattle.bound_tree.specs.declared.units.BoundItem.{BoundItem}
use Rattle.bound_tree.specs.declared.units.BoundPart.TheVariants as part
use Rattle.bound_tree.specs.declared.units.BoundPart.{BoundPart}
use Rattle.bound_tree.specs.declared.units.BoundSource.TheVariants as source
use Rattle.bound_tree.specs.declared.units.BoundSource.{BoundSource}
use Rattle.bound_tree.specs.declared.units.BoundUnit.TheVariants.{Queried}
use Rattle.bound_tree.specs.declared.units.BoundUnit.{BoundUnit}
use Rattle.bound_tree.specs.declared.units.JoinKind.TheVariants as join
use Rattle.bound_tree.specs.declared.writes.BoundChange.{BoundChange}
use Rattle.bound_tree.specs.declared.writes.BoundStep.{BoundStep}
use Rattle.bound_tree.specs.declared.writes.BoundTrigger.{BoundTrigger}
use Rattle.bound_tree.specs.declared.writes.BoundWrite.{BoundWrite}
use Rattle.bound_tree.specs.declared.writes.FiringEvent.TheVariants as event
use Rattle.bound_actions.specs.Pieces.{action}

-- ---- expressions

abbrev pub null : BoundExpr
null = e.Literal (literal.Value value.Null)

abbrev pub both : BoundExpr → BoundExpr → BoundExpr
both a b = e.Binary operator.Concatenate a b

-- ---- items and queries

abbrev pub column : List ℕ → BoundColumn
column name = record { name = name; affinity = affinity.None; collation = by_bytes }

abbrev pub item : BoundSource → List (List ℕ) → BoundItem
item from names =
    record { join = join.Inner; ons = []; ons_made = true; shown = []; source = from; columns = map column names; kinds = []; rowid = None; indexes = []; ignored = [] }

-- t(a, b) and u(c)
abbrev pub t_item : BoundItem
t_item = item (source.Table (codes "t") 0) (codes "a" ∷ codes "b" ∷ [])

abbrev pub u_item : BoundItem
u_item = item (source.Table (codes "u") 1) (codes "c" ∷ [])

abbrev pub core : List BoundExpr → List BoundItem → List BoundExpr → BoundCore
core results items conjuncts = record { items = items; conjuncts = conjuncts; groups = None; results = results; collations = []; distinct = false }

abbrev pub with_aggregate : AggregateKind → List BoundExpr → BoundCore → BoundCore
with_aggregate k args c =
    record c { groups = Some (record { keys = []; aggregates = record { kind = k; distinct = false; collation = by_bytes; arguments = args; filter = None } ∷ []; having = [] }) }

abbrev pub query_in : Option (List ℕ) → List ℕ → BoundPart → BoundUnit
query_in within tables p =
    Queried (record { within = within; arguments = 0; tables = tables; first = p; others = []; order = []; limit = None; offset = None; columns = [] })

abbrev pub query : BoundCore → BoundUnit
query c = query_in None [] (part.Select c)

-- ---- statements

abbrev pub asking : List BoundUnit → ℕ → BoundStatement
asking units unit = record { explain = None; units = units; triggers = []; command = command.Asked unit }

abbrev pub plain : BoundCommand → BoundStatement
plain c = record { explain = None; units = []; triggers = []; command = c }

abbrev pub write : BoundItem → BoundChange → List ℕ → BoundWrite
write target change fires =
    record { target = record { item = target; defaults = []; not_nulls = []; checks = [] }; choice = choice.Abort; captures = []; change = change; fires = fires; upsert = None; returning = None; counts = true }

abbrev pub writing : List BoundUnit → List BoundTrigger → BoundWrite → BoundStatement
writing units triggers w = record { explain = None; units = units; triggers = triggers; command = command.Written w }

-- OLD and NEW of t
abbrev pub rows : List BoundItem
rows = item source.Given (codes "a" ∷ codes "b" ∷ []) ∷ item source.Given (codes "a" ∷ codes "b" ∷ []) ∷ []

abbrev pub trigger : List ℕ → Option BoundExpr → List BoundStep → BoundTrigger
trigger name condition body =
    record { name = name; table = codes "t"; time = time.After; event = event.AtUpdate; rows = rows; condition = condition; body = body }

-- ---- actions

abbrev pub select : Option (List ℕ) → Action
select within = action within kind.Select [] []

abbrev pub read : Option (List ℕ) → List ℕ → List ℕ → Action
read within table name = action within kind.Read table name

abbrev pub calls : Option (List ℕ) → List ℕ → Action
calls within name = action within kind.Function name []
