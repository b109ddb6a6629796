-- The rules that a program keeps: what its instructions name is there, and what they use is open.
use Rattle.std.specs.Prelude.{◌≡◌, ⊤, ℕ, ◌+◌, ◌≤◌, [], length, All, Some, slice_get}
use Rattle.vm_code.specs.declared.op.Op.{Op}
use Rattle.vm_code.specs.declared.program.Program.{Program}
use Rattle.vm_code.specs.declared.program.Unit.{Unit}
use Rattle.vm_code.specs.declared.program.UnitKind.TheVariants.{Called, Main}
use Rattle.vm_code.specs.declared.way.Way.{Way}
use Rattle.vm_code.specs.declared.way.Way.TheVariants as way
use Rattle.vm_code.specs.Machine.{unit_at}
use Rattle.vm_code.specs.Track.{Meets, OpenSet, way_of, needs_of, spans_of, room_for, behind, target_of}
use Rattle.vm_code.specs.Tracked.{AreBelow}

-- the instruction in a place
abbrev pub Stands : Unit → ℕ → Op → Type 0
Stands x place o = slice_get x.code place ≡ Some o

-- an instruction stands in a place and is reached there with these cursors open
abbrev pub IsOpenAt : Unit → ℕ → OpenSet → Type 0
IsOpenAt x place xs = slice_get x.sets place ≡ Some (Some xs)

-- a unit that is called is there, is one of those that are, takes so many arguments, and there is room for its results; and one that gives results is called, and gives as many as it says
abbrev pub UnitsFit : Program → Unit → Way → Type 0
UnitsFit p x (way.Calls u n to) = (y : Unit) × (unit_at p u ≡ Some y) × (y.kind ≡ Called) × (y.arguments ≡ n) × (to + y.results ≤ x.registers)
UnitsFit p x (way.Returns n) = (x.kind ≡ Called) × (x.results ≡ n)
UnitsFit p x other = ⊤

pub record UnitFits (p : Program) (x : Unit) : Type 0 where
  -- each instruction has its set, or is never reached; the first one is reached with nothing open
  pub long : length x.sets ≡ length x.code
  pub first : IsOpenAt x 0 []
  -- registers, cursors and units are there
  pub registers : (k : ℕ) (o : Op) → Stands x k o → room_for (spans_of o) ≤ x.registers
  pub cursors : (k : ℕ) (xs : OpenSet) → IsOpenAt x k xs → AreBelow x.cursors xs
  pub units : (k : ℕ) (o : Op) → Stands x k o → UnitsFit p x (way_of o)
  -- what an instruction needs of cursors is so
  pub uses : (k : ℕ) (o : Op) (xs : OpenSet) → Stands x k o → IsOpenAt x k xs → All (Meets xs) (needs_of o)
  -- where it leads, behind it or by a jump, an instruction of the unit is reached with what it leaves open
  pub falls : (k : ℕ) (o : Op) (xs ys : OpenSet) → Stands x k o → IsOpenAt x k xs → behind (way_of o) (Some xs) ≡ Some ys → IsOpenAt x (k + 1) ys
  pub jumps : (k : ℕ) (o : Op) (xs : OpenSet) (place : ℕ) → Stands x k o → IsOpenAt x k xs → target_of (way_of o) ≡ Some place → IsOpenAt x place xs

-- the first unit alone is the main one
pub record IsAccepted (p : Program) : Type 0 where
  pub main : p.main.kind ≡ Main
  pub main_fits : UnitFits p p.main
  pub called : (k : ℕ) (x : Unit) → slice_get p.units k ≡ Some (Some x) → x.kind ≡ Called
  pub called_fit : (k : ℕ) (x : Unit) → slice_get p.units k ≡ Some (Some x) → UnitFits p x
