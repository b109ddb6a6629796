-- Whether what writes, triggers and whole statements name is there.
use Rattle.std.specs.Prelude.{◌<◌, ℕ, List, [], ◌∷◌, length, Option, Some, None}
use Rattle.std.specs.Bool.{⊤}
use Rattle.std.specs.List.{AllByRecursion}
use Rattle.bound_tree.specs.declared.statements.BoundCommand.TheVariants.{Asked, Written}
use Rattle.bound_tree.specs.declared.statements.BoundCommand.{BoundCommand}
use Rattle.bound_tree.specs.declared.statements.BoundStatement.{BoundStatement}
use Rattle.bound_tree.specs.declared.units.BoundUnit.{BoundUnit}
use Rattle.bound_tree.specs.declared.writes.BoundChange.TheVariants.{Defaulted, Deleted, Inserted, Updated}
use Rattle.bound_tree.specs.declared.writes.BoundChange.{BoundChange}
use Rattle.bound_tree.specs.declared.writes.BoundSet.{BoundSet}
use Rattle.bound_tree.specs.declared.writes.BoundStep.TheVariants.{Asks, Writes}
use Rattle.bound_tree.specs.declared.writes.BoundStep.{BoundStep}
use Rattle.bound_tree.specs.declared.writes.BoundTarget.{BoundTarget}
use Rattle.bound_tree.specs.declared.writes.BoundTrigger.{BoundTrigger}
use Rattle.bound_tree.specs.declared.writes.BoundWrite.{BoundWrite}
use Rattle.bound_laws.specs.Order.{AreInOrder, ItemsAreWithin, in_front, width_of, widths_of}
use Rattle.bound_laws.specs.Reach.{EachIsWithin, IsWithin, IsWithinIfThere, Serves, Takes}

-- ---- a write: its target stands alone, and it takes as many arguments as it is handed

pub record TargetIsWithin (units : List BoundUnit) (t : BoundTarget) : Type 0 where
  pub item : ItemsAreWithin (in_front units 0) [] (t.item ∷ [])
  pub defaults : AllByRecursion (IsWithinIfThere (in_front units 0) []) t.defaults
  pub checks : EachIsWithin (in_front units 0) (width_of t.item ∷ []) t.checks

-- the place of a value, if there is one
abbrev pub IsBelow : ℕ → Option ℕ → Type 0
IsBelow width None = ⊤
IsBelow width (Some place) = place < width

-- the source of an INSERT gives as many columns as its values have places
abbrev pub ChangeIsWithin : List BoundUnit → ℕ → List ℕ → BoundChange → Type 0
ChangeIsWithin units arguments target (Inserted columns rowid unit handed) =
    ((width : ℕ) × Serves units unit (length handed) width × AllByRecursion (IsBelow width) columns × IsBelow width rowid) × EachIsWithin (in_front units arguments) [] handed
ChangeIsWithin units arguments target Defaulted = ⊤
ChangeIsWithin units arguments target (Updated sets conjuncts) =
    AllByRecursion (λ (s : BoundSet). IsWithin (in_front units arguments) target s.value) sets × EachIsWithin (in_front units arguments) target conjuncts
ChangeIsWithin units arguments target (Deleted conjuncts) = EachIsWithin (in_front units arguments) target conjuncts

-- in the body of a trigger with these rows, or in none; of so many triggers it fires those that there are
pub record WriteIsWithin (units : List BoundUnit) (triggers : ℕ) (rows : List ℕ) (w : BoundWrite) : Type 0 where
  pub target : TargetIsWithin units w.target
  pub captures : EachIsWithin (in_front units 0) rows w.captures
  pub change : ChangeIsWithin units (length w.captures) (width_of w.target.item ∷ []) w.change
  pub fires : AllByRecursion (λ place. place < triggers) w.fires

-- ---- triggers

abbrev pub StepIsWithin : List BoundUnit → ℕ → List ℕ → BoundStep → Type 0
StepIsWithin units triggers rows (Asks unit handed) = Takes units unit (length handed) × EachIsWithin (in_front units 0) rows handed
StepIsWithin units triggers rows (Writes w) = WriteIsWithin units triggers rows w

-- OLD and NEW are its rows
pub record TriggerIsWithin (units : List BoundUnit) (triggers : ℕ) (t : BoundTrigger) : Type 0 where
  pub condition : IsWithinIfThere (in_front units 0) (widths_of t.rows) t.condition
  pub body : AllByRecursion (StepIsWithin units triggers (widths_of t.rows)) t.body

-- ---- statements

abbrev pub CommandIsWithin : List BoundUnit → ℕ → BoundCommand → Type 0
CommandIsWithin units triggers (Asked unit) = Takes units unit 0
CommandIsWithin units triggers (Written w) = WriteIsWithin units triggers [] w
CommandIsWithin units triggers other = ⊤

pub record StatementIsWithin (b : BoundStatement) : Type 0 where
  pub units : AreInOrder b.units
  pub triggers : AllByRecursion (TriggerIsWithin b.units (length b.triggers)) b.triggers
  pub command : CommandIsWithin b.units (length b.triggers) b.command
