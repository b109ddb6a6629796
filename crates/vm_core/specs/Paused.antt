-- A machine between two instructions.
use Rattle.std.specs.Prelude.{ℕ, ℤ, List, [], replicate}
use Rattle.eng_value.specs.Written.{Written}
use Rattle.eng_value.specs.declared.out.Out.{Out}
use Rattle.eng_value.specs.declared.out.Out.TheVariants.{Good}
use Rattle.eng_value.specs.declared.value.Value.{Value}
use Rattle.eng_value.specs.declared.value.Value.TheVariants.{Null}
use Rattle.vm_code.specs.declared.program.Program.{Program}
use Rattle.vm_code.specs.Machine.{Row, World, Closed, Frame, Inputs, Scene, State, Store, no_store}

-- what a run has come to: the frame that runs, the frames that wait, the last first, how many rows were changed, and the rowid of the last row that was put
pub record Progress : Type 0 where
  pub unit : ℕ
  pub pc : ℕ
  pub regs : List Out
  pub inputs : Inputs
  pub scene : Scene
  pub store : Store
  pub stack : List Frame
  pub changes : ℕ
  pub last_rowid : ℤ

-- what was written, with these tables; the hook is told of nothing yet, and no rows are returned
abbrev pub written_of : Progress → World → Written
written_of p w = record { world = w; told = []; changes = p.changes; last_rowid = p.last_rowid; returned = [] }

-- the state of the machine over lists, with these tables and these rows given
abbrev pub state_at : Progress → World → List Row → State
state_at p w given = record {
  unit = p.unit;
  pc = p.pc;
  regs = p.regs;
  inputs = p.inputs;
  scene = p.scene;
  store = p.store;
  stack = p.stack;
  shared = record { given = given; written = written_of p w };
}

-- a program, its parameters, and what its run has come to
pub record Paused : Type 0 where
  pub prog : Program
  pub params : List Value
  pub unit : ℕ
  pub pc : ℕ
  pub regs : List Out
  pub inputs : Inputs
  pub scene : Scene
  pub store : Store
  pub stack : List Frame
  pub changes : ℕ
  pub last_rowid : ℤ

abbrev pub paused : Program → List Value → Progress → Paused
paused prog params p = record {
  prog = prog;
  params = params;
  unit = p.unit;
  pc = p.pc;
  regs = p.regs;
  inputs = p.inputs;
  scene = p.scene;
  store = p.store;
  stack = p.stack;
  changes = p.changes;
  last_rowid = p.last_rowid;
}

abbrev pub progress_of : Paused → Progress
progress_of m = record {
  unit = m.unit;
  pc = m.pc;
  regs = m.regs;
  inputs = m.inputs;
  scene = m.scene;
  store = m.store;
  stack = m.stack;
  changes = m.changes;
  last_rowid = m.last_rowid;
}

-- the state of the machine over lists, with these tables and the rows given since the last event
abbrev pub state_of : Paused → World → List Row → State
state_of m w given = state_at (progress_of m) w given

-- in front of the first instruction of a main unit of so many registers and cursors, where this rowid was put last
abbrev pub first_progress : ℕ → ℕ → ℤ → Progress
first_progress registers cursors last_rowid = record {
  unit = 0;
  pc = 0;
  regs = replicate registers (Good Null);
  inputs = record { args = []; running = [] };
  scene = record { cursors = replicate cursors Closed; slots = [] };
  store = no_store;
  stack = [];
  changes = 0;
  last_rowid = last_rowid;
}

-- a program before its first instruction, with these parameters
abbrev pub at_start : Program → List Value → ℤ → Paused
at_start p params last_rowid = paused p params (first_progress p.main.registers p.main.cursors last_rowid)
