-- What an accepted program never meets: a register, a cursor, a unit or a frame that is not there.
use Rattle.std.specs.Prelude.{◌≡◌, ⊤, ℕ, ◌+◌, ◌≤◌, ◌<◌, ◌⊎◌, ℤ, List, ◌∷◌, length, All, Option, Some, None, slice_get}
use Rattle.vm_code.specs.declared.op.Op.{Op}
use Rattle.vm_code.specs.declared.open_cursor.CursorKind.{CursorKind}
use Rattle.vm_code.specs.declared.open_cursor.CursorKind.TheVariants.{Row, Sorter, Table}
use Rattle.vm_code.specs.declared.open_cursor.Need.{Need}
use Rattle.vm_code.specs.declared.open_cursor.Need.TheVariants as need
use Rattle.vm_code.specs.declared.program.Program.{Program}
use Rattle.vm_code.specs.declared.program.Unit.{Unit}
use Rattle.vm_code.specs.declared.way.Way.{Way}
use Rattle.vm_code.specs.declared.way.Way.TheVariants as way
use Rattle.vm_code.specs.Accepted.{IsAccepted}
use Rattle.vm_code.specs.Machine.{World, Cursor, Closed, Open, Chosen, Holding, Standing, Sorted, Setting, Frame, State, On, after, code_of, cursor_at, start, unit_at}
use Rattle.vm_code.specs.Track.{needs_of, room_for, spans_of, way_of}

-- what a cursor is open on, if it is
abbrev pub stands_on : Cursor → Option CursorKind
stands_on Closed = None
stands_on (Open table place) = Some Table
stands_on (Chosen table rowid rest) = Some Table
stands_on (Holding rows) = None
stands_on (Standing row rest) = Some Row
stands_on (Sorted rows) = Some Sorter

abbrev pub StandsAs : Cursor → CursorKind → Type 0
StandsAs x kind = stands_on x ≡ Some kind

-- what an instruction needs of a cursor is so
abbrev pub IsThere : List Cursor → Need → Type 0
IsThere cursors (need.Open c) = (kind : CursorKind) × StandsAs (cursor_at cursors c) kind
IsThere cursors (need.Table c) = StandsAs (cursor_at cursors c) Table
IsThere cursors (need.Rows c) = StandsAs (cursor_at cursors c) Table ⊎ StandsAs (cursor_at cursors c) Row
IsThere cursors (need.Sorter c) = StandsAs (cursor_at cursors c) Sorter

-- a frame waits, and has room for so many results
abbrev pub SomeoneWaits : List Frame → ℕ → Type 0
SomeoneWaits stack n = (f : Frame) × ((others : List Frame) × (stack ≡ f ∷ others) × (f.to + n ≤ length f.regs))

-- the cursor that is opened, the unit that is called and the frame that results go to are there
abbrev pub WayIsThere : Program → State → Way → Type 0
WayIsThere p s (way.Opens x) = x.cursor < length s.scene.cursors
WayIsThere p s (way.Calls u n to) = (x : Unit) × (unit_at p u ≡ Some x) × (x.arguments ≡ n)
WayIsThere p s (way.Returns n) = SomeoneWaits s.stack n
WayIsThere p s other = ⊤

-- there is an instruction, and whatever it names is there
pub record MeetsNothingMissing (p : Program) (s : State) : Type 0 where
  pub o : Op
  pub instruction : slice_get (code_of p s.unit) s.pc ≡ Some o
  pub registers : room_for (spans_of o) ≤ length s.regs
  pub cursors : All (IsThere s.scene.cursors) (needs_of o)
  pub way : WayIsThere p s (way_of o)

-- whatever surrounds a run, and after any number of instructions
abbrev pub NeverMissing : Program → Type 0
NeverMissing p =
    (m : Setting) (w : World) (last_rowid : ℤ) (n : ℕ) (s : State)
    → m.prog ≡ p → after m n (start p w last_rowid) ≡ On s → MeetsNothingMissing p s

abbrev pub AcceptedNeverMisses : Type 0
AcceptedNeverMisses = (p : Program) → IsAccepted p → NeverMissing p
