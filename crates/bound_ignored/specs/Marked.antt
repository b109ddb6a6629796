-- What the authorizer ignores, marked at the items whose columns it is (Compile-Time Authorization Callbacks).
use Rattle.std.specs.Prelude.{ℕ, suc, Bool, true, false, ◌&&◌, List, [], ◌∷◌, ◌++◌, map, Option, Some, None, codes}
use Rattle.std.specs.List.{list_any}
use Rattle.std.specs.Str.{bytes_eq}
use Rattle.eng_value.specs.declared.authorizing.Action.{Action}
use Rattle.eng_value.specs.declared.authorizing.ActionKind.TheVariants.{Read}
use Rattle.eng_value.specs.declared.authorizing.ActionKind.{ActionKind}
use Rattle.bound_tree.specs.declared.statements.BoundCommand.TheVariants as command
use Rattle.bound_tree.specs.declared.statements.BoundCommand.{BoundCommand}
use Rattle.bound_tree.specs.declared.statements.BoundStatement.{BoundStatement}
use Rattle.bound_tree.specs.declared.units.BoundColumn.{BoundColumn}
use Rattle.bound_tree.specs.declared.units.BoundCompound.{BoundCompound}
use Rattle.bound_tree.specs.declared.units.BoundCore.{BoundCore}
use Rattle.bound_tree.specs.declared.units.BoundItem.{BoundItem}
use Rattle.bound_tree.specs.declared.units.BoundPart.TheVariants as part
use Rattle.bound_tree.specs.declared.units.BoundPart.{BoundPart}
use Rattle.bound_tree.specs.declared.units.BoundQuery.{BoundQuery}
use Rattle.bound_tree.specs.declared.units.BoundRecursion.{BoundRecursion}
use Rattle.bound_tree.specs.declared.units.BoundUnit.TheVariants as unit
use Rattle.bound_tree.specs.declared.units.BoundUnit.{BoundUnit}
use Rattle.bound_tree.specs.declared.writes.BoundStep.TheVariants as step
use Rattle.bound_tree.specs.declared.writes.BoundStep.{BoundStep}
use Rattle.bound_tree.specs.declared.writes.BoundTrigger.{BoundTrigger}
use Rattle.bound_tree.specs.declared.writes.BoundWrite.{BoundWrite}
use Rattle.bound_actions.specs.Froms.{table_of}

-- ---- the reads that are ignored: an action is known by its kind, its names and where it stands

abbrev pub is_read_kind : ActionKind → Bool
is_read_kind Read = true
is_read_kind other = false

abbrev pub same_within : Option (List ℕ) → Option (List ℕ) → Bool
same_within None None = true
same_within None (Some b) = false
same_within (Some a) None = false
same_within (Some a) (Some b) = bytes_eq a b

abbrev pub is_read : Option (List ℕ) → List ℕ → List ℕ → Action → Bool
is_read within table column a = is_read_kind a.kind && bytes_eq a.first table && bytes_eq a.second column && same_within a.within within

abbrev pub is_ignored : List Action → Option (List ℕ) → List ℕ → List ℕ → Bool
is_ignored ignored within table column = list_any (is_read within table column) ignored

-- ---- of an item: the rowid has no place

abbrev pub placed_if : Bool → Option ℕ → List (Option ℕ)
placed_if true place = place ∷ []
placed_if false place = []

-- the places of these columns, the first of which has this one
abbrev pub places_from : List Action → Option (List ℕ) → List ℕ → ℕ → List BoundColumn → List (Option ℕ)
places_from ignored within table k [] = []
places_from ignored within table k (c ∷ cs) = placed_if (is_ignored ignored within table c.name) (Some k) ++ places_from ignored within table (suc k) cs

abbrev pub places_in : List Action → Option (List ℕ) → List ℕ → List BoundColumn → List (Option ℕ)
places_in ignored within table columns = placed_if (is_ignored ignored within table (codes "rowid")) None ++ places_from ignored within table 0 columns

-- an item whose columns are read as those of this table
abbrev pub marked_as : List Action → Option (List ℕ) → Option (List ℕ) → BoundItem → BoundItem
marked_as ignored within None i = i
marked_as ignored within (Some table) i = record i { ignored = places_in ignored within table i.columns }

abbrev pub marked : List Action → Option (List ℕ) → BoundItem → BoundItem
marked ignored within i = marked_as ignored within (table_of i.source) i

-- ---- of queries

abbrev pub marked_core : List Action → Option (List ℕ) → BoundCore → BoundCore
marked_core ignored within c = record c { items = map (marked ignored within) c.items }

abbrev pub marked_part : List Action → Option (List ℕ) → BoundPart → BoundPart
marked_part ignored within (part.Select c) = part.Select (marked_core ignored within c)
marked_part ignored within (part.Values rows) = part.Values rows

abbrev pub marked_compound : List Action → Option (List ℕ) → BoundCompound → BoundCompound
marked_compound ignored within c = record c { part = marked_part ignored within c.part }

abbrev pub marked_query : List Action → BoundQuery → BoundQuery
marked_query ignored q =
    record q { first = marked_part ignored q.within q.first; others = map (marked_compound ignored q.within) q.others }

abbrev pub marked_recursion : List Action → BoundRecursion → BoundRecursion
marked_recursion ignored r =
    record r { first = marked_part ignored r.within r.first; others = map (marked_compound ignored r.within) r.others; part = marked_core ignored r.within r.part }

abbrev pub marked_unit : List Action → BoundUnit → BoundUnit
marked_unit ignored (unit.Queried q) = unit.Queried (marked_query ignored q)
marked_unit ignored (unit.Recursed r) = unit.Recursed (marked_recursion ignored r)

-- ---- of writes, and of the rows and bodies of triggers

abbrev pub marked_write : List Action → Option (List ℕ) → BoundWrite → BoundWrite
marked_write ignored within w = record w { target = record w.target { item = marked ignored within w.target.item } }

abbrev pub marked_step : List Action → Option (List ℕ) → BoundStep → BoundStep
marked_step ignored within (step.Asks unit handed) = step.Asks unit handed
marked_step ignored within (step.Writes w) = step.Writes (marked_write ignored within w)

abbrev pub marked_trigger : List Action → BoundTrigger → BoundTrigger
marked_trigger ignored t =
    record t { rows = map (marked_as ignored (Some t.name) (Some t.table)) t.rows; body = map (marked_step ignored (Some t.name)) t.body }

-- ---- of a statement

abbrev pub marked_command : List Action → BoundCommand → BoundCommand
marked_command ignored (command.Written w) = command.Written (marked_write ignored None w)
marked_command ignored (command.Asked unit) = command.Asked unit
marked_command ignored (command.Created c) = command.Created c
marked_command ignored (command.Removed r) = command.Removed r
marked_command ignored (command.Transacted t) = command.Transacted t
marked_command ignored (command.Pragma name) = command.Pragma name
marked_command ignored (command.Nothing k name owner) = command.Nothing k name owner

abbrev pub ignoring : List Action → BoundStatement → BoundStatement
ignoring ignored b =
    record b { units = map (marked_unit ignored) b.units; triggers = map (marked_trigger ignored) b.triggers; command = marked_command ignored b.command }
