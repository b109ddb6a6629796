-- The rules as tests.
use Rattle.std.specs.Prelude.{ℕ, ◌+◌, Bool, true, false, not, ◌&&◌, ◌||◌, List, [], ◌∷◌, ◌++◌, length, filter, nat_eq, nat_lt, nat_le, slice_index_or, Option, Some, None}
use Rattle.std.specs.List.{list_all, list_any}
use Rattle.vm_code.specs.declared.op.Op.{Op}
use Rattle.vm_code.specs.declared.open_cursor.CursorKind.{CursorKind}
use Rattle.vm_code.specs.declared.open_cursor.CursorKind.TheVariants.{Row, Sorter, Table}
use Rattle.vm_code.specs.declared.open_cursor.Need.{Need}
use Rattle.vm_code.specs.declared.open_cursor.Need.TheVariants as need
use Rattle.vm_code.specs.declared.open_cursor.OpenCursor.{OpenCursor}
use Rattle.vm_code.specs.declared.program.Program.{Program}
use Rattle.vm_code.specs.declared.program.Unit.{Unit}
use Rattle.vm_code.specs.declared.program.UnitKind.{UnitKind}
use Rattle.vm_code.specs.declared.program.UnitKind.TheVariants.{Called, Main}
use Rattle.vm_code.specs.declared.way.Way.{Way}
use Rattle.vm_code.specs.declared.way.Way.TheVariants as way
use Rattle.vm_code.specs.Machine.{unit_at}
use Rattle.vm_code.specs.Track.{OpenSet, needs_of, on, room_for, spans_of, way_of}

-- ---- sets

abbrev pub is_kind : CursorKind → CursorKind → Bool
is_kind Table Table = true
is_kind Row Row = true
is_kind Sorter Sorter = true
is_kind a b = false

abbrev pub is_cursor : OpenCursor → OpenCursor → Bool
is_cursor x y = nat_eq x.cursor y.cursor && is_kind x.kind y.kind

-- the same cursors, in the same order
abbrev pub is_set : OpenSet → OpenSet → Bool
is_set [] [] = true
is_set [] (y ∷ ys) = false
is_set (x ∷ xs) [] = false
is_set (x ∷ xs) (y ∷ ys) = is_cursor x y && is_set xs ys

-- the instruction is never reached, or its set passes
abbrev pub if_reached : Option OpenSet → (OpenSet → Bool) → Bool
if_reached None test = true
if_reached (Some xs) test = test xs

-- the instruction is reached, with these open
abbrev pub is_reached_with : Option OpenSet → OpenSet → Bool
is_reached_with None xs = false
is_reached_with (Some ys) xs = is_set xs ys

-- what is open in a place
abbrev pub set_at : Unit → ℕ → Option OpenSet
set_at x place = slice_index_or x.sets place None

-- ---- needs

abbrev pub holds : OpenSet → OpenCursor → Bool
holds xs x = list_any (is_cursor x) xs

abbrev pub is_met : OpenSet → Need → Bool
is_met xs (need.Open c) = holds xs (on Table c) || holds xs (on Row c) || holds xs (on Sorter c)
is_met xs (need.Table c) = holds xs (on Table c)
is_met xs (need.Rows c) = holds xs (on Table c) || holds xs (on Row c)
is_met xs (need.Sorter c) = holds xs (on Sorter c)

abbrev pub are_below : ℕ → OpenSet → Bool
are_below n xs = list_all (λ (x : OpenCursor). nat_lt x.cursor n) xs

-- ---- where an instruction leads

-- whether a cursor that is open stays open behind an instruction
abbrev pub stays : Way → OpenCursor → Bool
stays (way.Opens y) x = not (nat_eq x.cursor y.cursor)
stays (way.Closes c) x = not (nat_eq x.cursor c)
stays (way.ClosesFrom c) x = nat_lt x.cursor c
stays other x = true

-- what it opens
abbrev pub added : Way → OpenSet
added (way.Opens y) = y ∷ []
added other = []

-- what it leaves open
abbrev pub left : Way → OpenSet → OpenSet
left w xs = filter (stays w) xs ++ added w

-- the unit goes on behind it
abbrev pub goes_on : Way → Bool
goes_on (way.Jumps target) = false
goes_on way.Leaves = false
goes_on (way.Returns n) = false
goes_on other = true

-- the instruction in a place is reached with what is left open
abbrev pub leads_well : Unit → ℕ → Way → OpenSet → Bool
leads_well x place w xs = is_reached_with (set_at x place) (left w xs)

abbrev pub falls_well : Unit → ℕ → OpenSet → Way → Bool
falls_well x place xs w = not (goes_on w) || leads_well x (place + 1) w xs

abbrev pub jumps_well : Unit → OpenSet → Way → Bool
jumps_well x xs (way.Forks target) = leads_well x target (way.Forks target) xs
jumps_well x xs (way.Jumps target) = leads_well x target (way.Jumps target) xs
jumps_well x xs other = true

-- ---- units that are called

abbrev pub is_called : UnitKind → Bool
is_called Called = true
is_called Main = false

-- it is called, takes so many arguments, and its results have room in so many registers from one on
abbrev pub takes : ℕ → ℕ → ℕ → Option Unit → Bool
takes registers n to None = false
takes registers n to (Some y) = is_called y.kind && nat_eq y.arguments n && nat_le (to + y.results) registers

abbrev pub units_well : Program → Unit → Way → Bool
units_well p x (way.Calls u n to) = takes x.registers n to (unit_at p u)
units_well p x (way.Returns n) = is_called x.kind && nat_eq x.results n
units_well p x other = true

-- ---- instructions, units, programs

-- an instruction that is reached with these open
abbrev pub reached_well : Unit → ℕ → Op → OpenSet → Bool
reached_well x place o xs =
    are_below x.cursors xs && list_all (is_met xs) (needs_of o) && falls_well x place xs (way_of o) && jumps_well x xs (way_of o)

-- the same, where it is ever reached
abbrev pub is_reached_well : Unit → ℕ → Op → Bool
is_reached_well x place o = if_reached (set_at x place) (reached_well x place o)

abbrev pub is_op_well : Program → Unit → ℕ → Op → Bool
is_op_well p x place o =
    nat_le (room_for (spans_of o)) x.registers && units_well p x (way_of o) && is_reached_well x place o

-- the instructions from a place on
abbrev pub is_code_well : Program → Unit → ℕ → List Op → Bool
is_code_well p x place [] = true
is_code_well p x place (o ∷ os) = is_op_well p x place o && is_code_well p x (place + 1) os

-- the first instruction is reached with nothing open
abbrev pub starts_empty : Unit → Bool
starts_empty x = is_reached_with (set_at x 0) []

abbrev pub is_unit_well : Program → Unit → Bool
is_unit_well p x =
    nat_eq (length x.sets) (length x.code) && starts_empty x && is_code_well p x 0 x.code

-- a number that was taken and got no unit has none
abbrev pub is_called_well : Program → Option Unit → Bool
is_called_well p None = true
is_called_well p (Some x) = is_called x.kind && is_unit_well p x

abbrev pub is_well : Program → Bool
is_well p = not (is_called p.main.kind) && is_unit_well p p.main && list_all (is_called_well p) p.units
