-- What a stretch of a unit's code does, in every program that it becomes part of.
use Rattle.std.specs.List.{flat_map}
use Rattle.std.specs.Prelude.{◌≡◌, ◌≢◌, ⊤, All, ℕ, suc, ◌+◌, ◌≤◌, ◌<◌, List, [], ◌∷◌, ◌++◌, map, max, take, length, pos, Some, None, slice_get, slice_set, if◌then◌else◌}
use Rattle.std.specs.declared.option.Option.{Option}
use Rattle.std.specs.Option.{option_map, option_to_list}
use Rattle.eng_value.specs.Causes.{CauseSet, is_skip}
use Rattle.eng_value.specs.Environments.{Environment, ItemRow, Surroundings, environment}
use Rattle.eng_value.specs.declared.out.Out.{Out}
use Rattle.eng_value.specs.declared.out.Out.TheVariants.{Good}
use Rattle.eng_value.specs.declared.value.Value.TheVariants.{Integer}
use Rattle.vm_code.specs.declared.op.Op.{Op}
use Rattle.vm_code.specs.declared.op.Op.TheVariants.{Goto, If, IfNot, IsNull, NotNull, IsBad, Rewind, Next, Search, SorterSort, SorterNext, NotExists, NoConflict}
use Rattle.vm_code.specs.declared.operand.Operand.{Operand}
use Rattle.vm_code.specs.declared.program.Program.{Program}
use Rattle.vm_code.specs.declared.open_cursor.Need.{Need}
use Rattle.vm_code.specs.declared.program.Unit.{Unit}
use Rattle.vm_code.specs.declared.program.UnitKind.{UnitKind}
use Rattle.vm_code.specs.declared.program.UnitKind.TheVariants.{Called, Main}
use Rattle.vm_code.specs.Track.{Meets, OpenSet, operand_needs}
use Rattle.vm_code.specs.Draft.{Draft}
use Rattle.vm_code.specs.Tracked.{IsMarked, Steady}
use Rattle.vm_code.specs.Machine.{IsSound, Cursor, Closed, Setting, Inputs, Scene, Store, Shared, Frame, State, GivesUp, Reaches, Leads, leads_to, read, operand_in, outs_from, cursor_at, current, held, code_of, entered, resumed, world_of}

-- ---- drafts and programs

-- an instruction with the places of its labels
abbrev pub placed : (ℕ → ℕ) → Op → Op
placed at (Goto target) = Goto (at target)
placed at (If r target on_null) = If r (at target) on_null
placed at (IfNot r target on_null) = IfNot r (at target) on_null
placed at (IsNull r target) = IsNull r (at target)
placed at (NotNull r target) = NotNull r (at target)
placed at (IsBad r target) = IsBad r (at target)
placed at (Rewind c target) = Rewind c (at target)
placed at (Next c target) = Next c (at target)
placed at (Search c terms bounds first target) = Search c terms bounds first (at target)
placed at (SorterSort c terms target) = SorterSort c terms (at target)
placed at (SorterNext c target) = SorterNext c (at target)
placed at (NotExists c rowid target) = NotExists c rowid (at target)
placed at (NoConflict c rowid first n keys target) = NoConflict c rowid first n keys (at target)
placed at other = other

-- the place that a list of labels gives
abbrev pub place_or : Option (Option ℕ) → ℕ
place_or None = 0
place_or (Some None) = 0
place_or (Some (Some place)) = place

abbrev pub place_in : List (Option ℕ) → ℕ → ℕ
place_in labels l = place_or (slice_get labels l)

-- the called units of a program begin with these
abbrev pub Begins : List (Option Unit) → Program → Type 0
Begins units p = (k : ℕ) (x : Unit) → slice_get units k ≡ Some (Some x) → slice_get p.units k ≡ Some (Some x)

-- a unit of the program has the draft's instructions, with the labels that are known at their places, and the program begins with the draft's units
pub record Holds (d : Draft) (p : Program) (u : ℕ) (at : ℕ → ℕ) : Type 0 where
  pub ops : (k : ℕ) (op : Op) → slice_get d.code k ≡ Some op → slice_get (code_of p u) k ≡ Some (placed at op)
  pub labels : (l place : ℕ) → slice_get d.labels l ≡ Some (Some place) → at l ≡ place
  pub units : Begins d.units p

-- a program that holds one draft holds the other, and has room for it
pub record Extends (a b : Draft) : Type 0 where
  pub holds : (p : Program) (u : ℕ) (at : ℕ → ℕ) → Holds b p u at → Holds a p u at
  pub most : a.most ≤ b.most
  pub cursors : a.cursors ≤ b.cursors

-- what came to a draft: instructions at its end, and no more than that for who holds its labels, with what is open at them, its registers and numbers of units
pub record Grows (a b : Draft) : Type 0 where
  pub holds : (p : Program) (u : ℕ) (at : ℕ → ℕ) → Holds b p u at → Holds a p u at
  pub units : (p : Program) → Begins b.units p → Begins a.units p
  pub long : length a.code ≤ length b.code
  pub open_labels : (l : ℕ) → slice_get a.labels l ≡ Some None → slice_get b.labels l ≡ Some None
  pub open_numbers : (k : ℕ) → slice_get a.units k ≡ Some None → slice_get b.units k ≡ Some None
  pub marks : (l : ℕ) (xs : OpenSet) → IsMarked a l xs → IsMarked b l xs
  pub most : a.most ≤ b.most
  pub cursors : a.cursors ≤ b.cursors

-- the unit of a draft that is finished
pub record IsFinished (kind : UnitKind) (arguments results : ℕ) (d : Draft) (x : Unit) : Type 0 where
  pub kind_is : x.kind ≡ kind
  pub arguments_are : x.arguments ≡ arguments
  pub results_are : x.results ≡ results
  pub code : x.code ≡ map (placed (place_in d.labels)) d.code
  pub registers : x.registers ≡ max d.most d.reach
  pub cursors : x.cursors ≡ d.cursors
  pub sets : x.sets ≡ d.track.opens

-- the units with the finished one behind them, which takes so many arguments and gives so many results
pub record IsUnitOf (arguments results : ℕ) (d : Draft) (all : List (Option Unit)) : Type 0 where
  pub unit : Unit
  pub finished : IsFinished Called arguments results d unit
  pub units : all ≡ d.units ++ Some unit ∷ []

-- the same under a number
pub record IsUnitUnder (arguments results : ℕ) (d : Draft) (number : ℕ) (all : List (Option Unit)) : Type 0 where
  pub unit : Unit
  pub finished : IsFinished Called arguments results d unit
  pub units : all ≡ slice_set d.units number (Some unit)

-- the program whose main unit is the finished one
pub record IsProgramOf (d : Draft) (p : Program) : Type 0 where
  pub finished : IsFinished Main 0 0 d p.main
  pub units : p.units ≡ d.units

-- ---- the running frame

-- what it holds but for its place, and what all frames share
pub record Here : Type 0 where
  pub regs : List Out
  pub inputs : Inputs
  pub scene : Scene
  pub store : Store
  pub shared : Shared

abbrev pub here : State → Here
here s = record { regs = s.regs; inputs = s.inputs; scene = s.scene; store = s.store; shared = s.shared }

abbrev pub there : State → ℕ → List Out → Scene → Store → Shared → State
there s place regs scene store shared = record s { pc = place; regs = regs; scene = scene; store = store; shared = shared }

abbrev pub with_regs : Here → List Out → Here
with_regs h regs = record h { regs = regs }

-- what code needs of a state: its unit, room for registers and cursors, and sound tables
pub record Ready (b : Draft) (u : ℕ) (s : State) : Type 0 where
  pub unit : s.unit ≡ u
  pub regs : b.most ≤ length s.regs
  pub cursors : b.cursors ≤ length s.scene.cursors
  pub sound : IsSound (world_of s.shared)

-- the cursors from one on are closed
abbrev pub Shut : ℕ → List Cursor → Type 0
Shut from cursors = (c : ℕ) → from ≤ c → cursor_at cursors c ≡ Closed

-- the cursors below one are the same
abbrev pub SameBelow : ℕ → List Cursor → List Cursor → Type 0
SameBelow from xs ys = (c : ℕ) → c < from → cursor_at xs c ≡ cursor_at ys c

-- what all expressions see alike
abbrev pub surroundings_of : Setting → Shared → Surroundings
surroundings_of m x = record { params = m.params; hosts = m.hosts; world = world_of x; ask = m.ask }

-- what expressions see: the rows under the cursors, the unit's arguments, and what stands in its slots
abbrev pub environment_of : Setting → Here → Environment
environment_of m h = environment (surroundings_of m h.shared) h.inputs.args h.scene.slots (map (current (world_of h.shared)) h.scene.cursors)

-- what code goes by: what expressions see, the rows that cursors hold, and the triggers that run
pub record Sight : Type 0 where
  pub env : Environment
  pub held : List (List ItemRow)
  pub running : List ℕ

abbrev pub sight_of : Setting → Here → Sight
sight_of m h = record { env = environment_of m h; held = map held h.scene.cursors; running = h.inputs.running }

-- ---- what code takes for granted

-- what the units do that it calls by their numbers, in the program that it becomes part of
abbrev pub Calls : Type 1
Calls = Setting → Type 0

-- that, and what it needs of cursors
pub record Given : Type 1 where
  pub calls : Calls
  pub needs : List Need

-- code that calls no unit
abbrev pub needing : List Need → Given
needing needs = record { calls = λ m. ⊤; needs = needs }

-- ---- code that leaves a value

-- the machine comes to a place with a value in a register, and the other registers below the mark as they were
pub record Left (m : Setting) (most : ℕ) (s : State) (place mark to : ℕ) (v : Out) : Type 0 where
  pub regs : List Out
  pub way : Reaches m most s (record s { pc = place; regs = regs })
  pub long : length regs ≡ length s.regs
  pub has : read regs to ≡ v
  pub keeps : (k : ℕ) → k < mark → k ≢ to → read regs k ≡ read s.regs k

-- code that leaves a function of the environment in a register
pub record Leaves (given : Given) (a b : Draft) (to : ℕ) (f : Environment → Out) (cost : Environment → ℕ) : Type 0 where
  pub grows : Grows a b
  pub next : b.next ≡ a.next
  pub steady : Steady given.needs [] a b
  pub leaves : (m : Setting) → given.calls m → (u : ℕ) (at : ℕ → ℕ) → Holds b m.prog u at → (s : State) → Ready b u s → s.pc ≡ length a.code
      → Left m (cost (environment_of m (here s))) s (length b.code) a.next to (f (environment_of m (here s)))

-- the machine comes to a place with these values in registers one after another, from the mark on, and those below it as they were
pub record Filled (m : Setting) (most : ℕ) (s : State) (place mark : ℕ) (xs : List Out) : Type 0 where
  pub regs : List Out
  pub way : Reaches m most s (record s { pc = place; regs = regs })
  pub long : length regs ≡ length s.regs
  pub has : outs_from regs mark (length xs) ≡ xs
  pub keeps : (k : ℕ) → k < mark → read regs k ≡ read s.regs k

-- code that leaves so many functions of the environment in the registers that it takes
pub record Fills (given : Given) (a b : Draft) (count : ℕ) (f : Environment → List Out) (cost : Environment → ℕ) : Type 0 where
  pub grows : Grows a b
  pub next : b.next ≡ a.next + count
  pub counted : b.next ≤ b.most
  pub many : (env : Environment) → length (f env) ≡ count
  pub steady : Steady given.needs [] a b
  pub fills : (m : Setting) → given.calls m → (u : ℕ) (at : ℕ → ℕ) → Holds b m.prog u at → (s : State) → Ready b u s → s.pc ≡ length a.code
      → Filled m (cost (environment_of m (here s))) s (length b.code) a.next (f (environment_of m (here s)))

-- what operands read while the registers below a mark are kept
abbrev pub Read : Setting → State → List Out → ℕ → List Operand → List Out → Type 0
Read m s regs mark os vs =
    (q : List Out) → ((k : ℕ) → k < mark → read q k ≡ read regs k) → map (operand_in m q s.inputs s.scene s.shared) os ≡ vs

-- the machine comes to a place where operands read these values, the registers below the mark as they were
pub record Offered (m : Setting) (most : ℕ) (s : State) (place mark next : ℕ) (os : List Operand) (vs : List Out) : Type 0 where
  pub regs : List Out
  pub way : Reaches m most s (record s { pc = place; regs = regs })
  pub long : length regs ≡ length s.regs
  pub has : Read m s regs next os vs
  pub keeps : (k : ℕ) → k < mark → read regs k ≡ read s.regs k

-- code behind which operands read functions of the environment, while the registers are kept that are taken then
pub record Offers (given : Given) (a b : Draft) (os : List Operand) (f : Environment → List Out) (cost : Environment → ℕ) : Type 0 where
  pub grows : Grows a b
  pub next : a.next ≤ b.next
  pub counted : b.next ≤ b.most
  pub steady : Steady given.needs [] a b
  pub needs : (xs : OpenSet) → All (Meets xs) given.needs → All (Meets xs) (flat_map operand_needs os)
  pub offers : (m : Setting) → given.calls m → (u : ℕ) (at : ℕ → ℕ) → Holds b m.prog u at → (s : State) → Ready b u s → s.pc ≡ length a.code
      → Offered m (cost (environment_of m (here s))) s (length b.code) a.next b.next os (f (environment_of m (here s)))

-- ---- code that tests

-- the machine comes to the end with a value in a register, or to a label where there is none
abbrev pub Sifted : Setting → ℕ → State → ℕ → ℕ → ℕ → ℕ → Option Out → Type 0
Sifted m most s place out mark to (Some v) = Left m most s place mark to v
Sifted m most s place out mark to None = (v : Out) × Left m most s out mark to v

-- code that gathers causes in a register, or goes to a label
pub record Sifts (given : Given) (a b : Draft) (causes label : ℕ) (f : Environment → Out → Option Out) (cost : Environment → ℕ) : Type 0 where
  pub grows : Grows a b
  pub next : b.next ≡ a.next
  pub steady : Steady given.needs (label ∷ []) a b
  pub sifts : (m : Setting) → given.calls m → (u : ℕ) (at : ℕ → ℕ) → Holds b m.prog u at → (s : State) → Ready b u s → s.pc ≡ length a.code
      → Sifted m (cost (environment_of m (here s))) s (length b.code) (at label) a.next causes (f (environment_of m (here s)) (read s.regs causes))

-- ---- code with an effect

-- what a stretch works on: the registers that it owns, what the frame puts aside, and what all frames share
pub record Memory : Type 0 where
  pub own : List Out
  pub store : Store
  pub shared : Shared

abbrev pub memory_of : ℕ → Here → Memory
memory_of lo h = record { own = take lo h.regs; store = h.store; shared = h.shared }

-- it goes on, or leaves the loops around it, or gives up
pub data Outcome : Type 0 where
  Done : Memory → Outcome
  Quit : Memory → Outcome
  Fails : CauseSet → Memory → Outcome

abbrev pub and_then : Outcome → (Memory → Outcome) → Outcome
and_then (Done x) k = k x
and_then (Quit x) k = Quit x
and_then (Fails c x) k = Fails c x

-- what leaves the loops around it ends there
abbrev pub or_done : Outcome → Outcome
or_done (Done x) = Done x
or_done (Quit x) = Done x
or_done (Fails c x) = Fails c x

-- the machine comes to a place with this memory, the registers from lo to the mark as they were
pub record Came (m : Setting) (most : ℕ) (s : State) (place lo mark : ℕ) (x : Memory) : Type 0 where
  pub regs : List Out
  pub way : Reaches m most s (record s { pc = place; regs = regs; store = x.store; shared = x.shared })
  pub long : length regs ≡ length s.regs
  pub own : take lo regs ≡ x.own
  pub keeps : (k : ℕ) → lo ≤ k → k < mark → read regs k ≡ read s.regs k

-- the same, where the cursors from one on may be anywhere
pub record Fled (m : Setting) (most : ℕ) (s : State) (place lo mark from : ℕ) (x : Memory) : Type 0 where
  pub regs : List Out
  pub scene : Scene
  pub way : Reaches m most s (record s { pc = place; regs = regs; scene = scene; store = x.store; shared = x.shared })
  pub long : length regs ≡ length s.regs
  pub wide : length scene.cursors ≡ length s.scene.cursors
  pub below : SameBelow from scene.cursors s.scene.cursors
  pub slots : scene.slots ≡ s.scene.slots
  pub own : take lo regs ≡ x.own
  pub keeps : (k : ℕ) → lo ≤ k → k < mark → read regs k ≡ read s.regs k

-- its unit gives up, with this shared
abbrev pub Gave : Setting → ℕ → State → CauseSet → Shared → Type 0
Gave m most s c shared = Leads m most s (leads_to (GivesUp c) s.stack shared)

-- the same, if there is such a place
abbrev pub FledTo : Setting → ℕ → State → Option ℕ → ℕ → ℕ → ℕ → Memory → Type 0
FledTo m most s None lo mark from x = ⊥
FledTo m most s (Some out) lo mark from x = Fled m most s out lo mark from x

abbrev pub Did : Setting → ℕ → State → ℕ → Option ℕ → ℕ → ℕ → ℕ → Outcome → Type 0
Did m most s place out lo mark from (Done x) = Came m most s place lo mark x
Did m most s place out lo mark from (Quit x) = FledTo m most s out lo mark from x
Did m most s place out lo mark from (Fails c x) = Gave m most s c x.shared

-- what code does with what it goes by, the causes that a register holds, and memory; and in how many instructions at most, by the same
abbrev pub Effect : Type 0
Effect = Sight → Out → Memory → Outcome

abbrev pub Cost : Type 0
Cost = Sight → Out → Memory → ℕ

abbrev pub effect_at : Setting → Effect → ℕ → ℕ → Here → Outcome
effect_at m f lo causes h = f (sight_of m h) (read h.regs causes) (memory_of lo h)

abbrev pub cost_at : Setting → Cost → ℕ → ℕ → Here → ℕ
cost_at m n lo causes h = n (sight_of m h) (read h.regs causes) (memory_of lo h)

-- where a body leaves the loops around it, what stands behind them goes on
abbrev pub caught : Effect → Effect
caught f sight causes x = or_done (f sight causes x)

-- code with that effect, which may leave by a label if it has one; it finds the cursors from its own on closed, and leaves them so
pub record Does (given : Given) (a b : Draft) (lo causes : ℕ) (exit : Option ℕ) (f : Effect) (cost : Cost) : Type 0 where
  pub grows : Grows a b
  pub next : b.next ≡ a.next
  pub steady : Steady given.needs (option_to_list exit) a b
  pub does : (m : Setting) → given.calls m → (u : ℕ) (at : ℕ → ℕ) → Holds b m.prog u at → (s : State) → Ready b u s → s.pc ≡ length a.code → Shut a.cursors s.scene.cursors
      → Did m (cost_at m cost lo causes (here s)) s (length b.code) (option_map at exit) lo a.next a.cursors (effect_at m f lo causes (here s))

-- ---- units that are called

-- what a unit comes to: results, or it gives up
pub data Answer : Type 0 where
  Back : List Out → Shared → Answer
  Stops : CauseSet → Shared → Answer

abbrev pub Answered : Setting → ℕ → State → Frame → List Frame → Answer → Type 0
Answered m most s g gs (Back results shared) = Reaches m most s (resumed g gs shared results)
Answered m most s g gs (Stops c shared) = Gave m most s c shared

-- what the unit that called it hears: of one that gives up and says no more than that the row is left, it hears 1
abbrev pub heard : Answer → Answer
heard (Back results shared) = Back results shared
heard (Stops c shared) = if is_skip c then Back (Good (Integer (pos 1)) ∷ []) shared else Stops c shared

-- what a unit does by what surrounds it, what it is called with, and what is shared; and in how many instructions at most, by the same
abbrev pub Work : Type 0
Work = Surroundings → Inputs → Shared → Answer

abbrev pub WorkCost : Type 0
WorkCost = Surroundings → Inputs → Shared → ℕ

-- the unit of a number does so in this program
abbrev pub WorksIn : Setting → ℕ → Work → WorkCost → Type 0
WorksIn m k f cost =
    (x : Unit) × (slice_get m.prog.units k ≡ Some (Some x))
    × ((inputs : Inputs) (g : Frame) (gs : List Frame) (shared : Shared) → IsSound (world_of shared)
    → Answered m (cost (surroundings_of m shared) inputs shared) (entered x (suc k) inputs g gs shared) g gs (f (surroundings_of m shared) inputs shared))

-- in every program that begins with the units, where those do their part that it calls by number
abbrev pub Works : Calls → List (Option Unit) → ℕ → Work → WorkCost → Type 0
Works calls units k f cost = (m : Setting) → calls m → Begins units m.prog → WorksIn m k f cost

-- a unit that changes nothing: its results are a function of what surrounds it and of its arguments
abbrev pub answering : (Surroundings → List Out → List Out) → Work
answering f around inputs shared = Back (f around inputs.args) shared

abbrev pub Serves : Calls → List (Option Unit) → ℕ → (Surroundings → List Out → List Out) → (Surroundings → List Out → ℕ) → Type 0
Serves calls units k f cost = Works calls units k (answering f) (λ around inputs shared. cost around inputs.args)
