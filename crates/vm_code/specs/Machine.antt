-- The machine over lists: what a program does with tables that are lists of rows.
use Rattle.std.specs.Prelude.{◌≡◌, ℕ, zero, suc, ◌+◌, ◌≤◌, length, Bool, true, false, not, ◌&&◌, List, [], ◌∷◌, ◌++◌, ℤ, pos, int_lt, nat_lt, map, replicate, Result, Some, None, All, refl, is_some, if◌then◌else◌, slice_get, slice_index_or, slice_set}
use Rattle.std.specs.List.{find}
use Rattle.std.specs.Ordering.{is_lt}
use Rattle.std.specs.declared.option.Option.{Option}
use Rattle.eng_index.specs.Keys.{found, has_doubles, key_cmp, row_in_way}
pub use Rattle.eng_index.specs.Stored.{put_row, row_under, rowids_of}
use Rattle.eng_index.specs.declared.key_term.KeyTerm.{KeyTerm}
use Rattle.eng_index.specs.declared.range.Bounds.{Bounds}
use Rattle.eng_index.specs.declared.range.Edge.TheVariants.{Included, Excluded}
use Rattle.eng_index.specs.declared.range.Range.{Range}
use Rattle.eng_index.specs.Searching.{bound_count, range_of}
use Rattle.eng_key.specs.Values.{value_keys}
use Rattle.eng_number.specs.Numbers.{fits_integer}
use Rattle.eng_value.specs.Applied.{unary_of, binary_of, function_by, merged}
use Rattle.eng_value.specs.Arrangements.{arranged}
use Rattle.eng_value.specs.Casts.{beside, store_as}
use Rattle.eng_value.specs.Causes.{CauseSet, is_skip, named, only}
use Rattle.eng_value.specs.Collations.{keys_of}
use Rattle.eng_value.specs.Comparisons.{like_escaped_of}
use Rattle.eng_value.specs.Environments.{ItemRow, Lists, Surroundings, column_of, no_causes, null_row, table_row}
use Rattle.eng_value.specs.HostMeanings.{HostMeanings, Oracle}
use Rattle.eng_value.specs.Operators.{made}
use Rattle.eng_value.specs.Outs.{bad, turned}
use Rattle.eng_value.specs.Truths.{truth_in, truth_of}
use Rattle.eng_value.specs.StoredRows.{StoredRow, IsAscending, next_rowid}
use Rattle.eng_value.specs.Written.{Written, unwritten}
use Rattle.eng_value.specs.declared.cause.Cause.TheVariants.{Constraint, Full, Mismatch}
use Rattle.eng_value.specs.declared.cause.ConstraintKind.TheVariants.{Unique}
use Rattle.eng_value.specs.declared.out.Out.{Out}
use Rattle.eng_value.specs.declared.out.Out.TheVariants.{Good, Bad}
use Rattle.eng_value.specs.declared.truth.Truth.{Truth}
use Rattle.eng_value.specs.declared.truth.Truth.TheVariants as truth
use Rattle.eng_value.specs.declared.value.Value.{Value}
use Rattle.eng_value.specs.declared.value.Value.TheVariants.{Null, Integer, Text, Blob}
use Rattle.vm_code.specs.declared.op.Op.{Op}
use Rattle.vm_code.specs.declared.op.Op.TheVariants as op
use Rattle.vm_code.specs.declared.operand.Operand.{Operand}
use Rattle.vm_code.specs.declared.operand.Operand.TheVariants as operand
use Rattle.vm_code.specs.declared.program.Program.{Program}
use Rattle.vm_code.specs.declared.program.Unit.{Unit}
use Rattle.vm_code.specs.declared.schema_change.SchemaChange.{SchemaChange}
use Rattle.vm_code.specs.declared.schema_change.SchemaChange.TheVariants.{AddTable, DropTable}

abbrev pub Row : Type 0
Row = List Value

-- ---- tables

-- the rows of each table; tables go by their numbers
abbrev pub World : Type 0
World = Lists

-- what is true of the tables between any two instructions: the rows of each ascend by their rowids
pub record IsSound (w : World) : Type 0 where
  pub ordered : All IsAscending w

-- a table's rows; none where there is no such table
abbrev pub rows_of : World → ℕ → List StoredRow
rows_of w table = slice_index_or w table []

-- there is none
abbrev pub is_missing : List StoredRow → ℤ → Bool
is_missing rows rowid = not (is_some (row_under rows rowid))

-- the first row of a greater rowid
abbrev pub row_behind : List StoredRow → ℤ → Option StoredRow
row_behind rows rowid = find (λ r. int_lt rowid r.rowid) rows

-- there is the table, and it has no row of this rowid
abbrev pub is_free : World → ℕ → ℤ → Bool
is_free w table rowid = nat_lt table (length w) && is_missing (rows_of w table) rowid

-- ---- cursors

-- closed; open on a table, and there on the row of a rowid or on none; on a row of a table that was chosen with others, with the rowids of those behind it; holding rows for others to walk; standing on a row that is no table's, with the rows behind it; or of a sorter, with the rows that are still to come, which no expression sees
pub data Cursor : Type 0 where
  Closed : Cursor
  Open : ℕ → Option ℤ → Cursor
  Chosen : ℕ → ℤ → List ℤ → Cursor
  Holding : List ItemRow → Cursor
  Standing : ItemRow → List ItemRow → Cursor
  Sorted : List ItemRow → Cursor

-- the row that is there, and NULL where there is none
abbrev pub row_read : Option StoredRow → ItemRow
row_read None = null_row
row_read (Some r) = table_row r

-- what a cursor reads
abbrev pub current : World → Cursor → ItemRow
current w Closed = null_row
current w (Open table None) = null_row
current w (Open table (Some rowid)) = row_read (row_under (rows_of w table) rowid)
current w (Chosen table rowid rest) = row_read (row_under (rows_of w table) rowid)
current w (Holding rows) = null_row
current w (Standing row rest) = row
current w (Sorted rows) = null_row

-- the rows of a cursor's table
abbrev pub cursor_rows : World → Cursor → List StoredRow
cursor_rows w Closed = []
cursor_rows w (Open table place) = rows_of w table
cursor_rows w (Chosen table rowid rest) = rows_of w table
cursor_rows w (Holding rows) = []
cursor_rows w (Standing row rest) = []
cursor_rows w (Sorted rows) = []

-- the rows that a cursor holds
abbrev pub held : Cursor → List ItemRow
held Closed = []
held (Open table place) = []
held (Chosen table rowid rest) = []
held (Holding rows) = rows
held (Standing row rest) = []
held (Sorted rows) = []

abbrev pub cursor_at : List Cursor → ℕ → Cursor
cursor_at cursors c = slice_index_or cursors c Closed

-- the cursors from one on are closed
abbrev pub closed_from : ℕ → List Cursor → List Cursor
closed_from c [] = []
closed_from zero (x ∷ cursors) = Closed ∷ closed_from zero cursors
closed_from (suc c) (x ∷ cursors) = x ∷ closed_from c cursors

-- ---- states

-- what a unit was called with: its arguments, and the numbers of the triggers that run, the last one first
pub record Inputs : Type 0 where
  pub args : List Out
  pub running : List ℕ

-- what the code of a frame looks at: its cursors, and what stands in its slots, as aggregates do
pub record Scene : Type 0 where
  pub cursors : List Cursor
  pub slots : List Out

-- a group: its key, and for each aggregate its state, or why that is bad
pub record Group : Type 0 where
  pub key : Row
  pub states : List (Result Row CauseSet)

-- what a frame puts aside: the rows of its sorters, of the one that was opened last first; groups by first appearance; and the rows that its unit gives to the one that waits for it
pub record Store : Type 0 where
  pub lists : List (List ItemRow)
  pub groups : List Group
  pub rows : List ItemRow

abbrev pub no_store : Store
no_store = record { lists = []; groups = []; rows = [] }

-- what all frames share: the rows given so far, and what was written so far
pub record Shared : Type 0 where
  pub given : List Row
  pub written : Written

abbrev pub world_of : Shared → World
world_of x = x.written.world

-- a unit that waits for the results of another, and the first of the registers that they go to
pub record Frame : Type 0 where
  pub unit : ℕ
  pub pc : ℕ
  pub regs : List Out
  pub inputs : Inputs
  pub scene : Scene
  pub store : Store
  pub to : ℕ

-- the frame that runs, the frames that wait, the last first, and what they share
pub record State : Type 0 where
  pub unit : ℕ
  pub pc : ℕ
  pub regs : List Out
  pub inputs : Inputs
  pub scene : Scene
  pub store : Store
  pub stack : List Frame
  pub shared : Shared

pub data Ending : Type 0 where
  Finished : Ending
  Failed : CauseSet → Ending

-- a run that fails, if it does, fails for the causes that may be named
abbrev pub ending_by : Option CauseSet → Ending
ending_by None = Finished
ending_by (Some causes) = Failed (named causes)

-- where an instruction leads
pub data Next : Type 0 where
  On : State → Next
  End : Ending → Shared → Next

-- what a run goes by: what the hosts mean, who answers what their functions ask, the parameters, and the program
pub record Setting : Type 0 where
  pub hosts : HostMeanings
  pub ask : Oracle
  pub params : List Value
  pub prog : Program

abbrev pub setting : HostMeanings → Oracle → List Value → Program → Setting
setting hosts ask params prog = record { hosts = hosts; ask = ask; params = params; prog = prog }

-- a number that was taken and got no unit has none
abbrev pub unit_in : Option (Option Unit) → Option Unit
unit_in None = None
unit_in (Some x) = x

-- the main unit is number 0, and the units that are called come behind it
abbrev pub unit_at : Program → ℕ → Option Unit
unit_at p zero = Some p.main
unit_at p (suc k) = unit_in (slice_get p.units k)

abbrev pub code_in : Option Unit → List Op
code_in None = []
code_in (Some x) = x.code

abbrev pub code_of : Program → ℕ → List Op
code_of p u = code_in (unit_at p u)

-- ---- what instructions are made of

abbrev pub read : List Out → ℕ → Out
read regs r = slice_index_or regs r (Good Null)

abbrev pub put : State → ℕ → Out → Next
put s r v = On (record s { pc = s.pc + 1; regs = slice_set s.regs r v })

abbrev pub skip : State → Next
skip s = On (record s { pc = s.pc + 1 })

abbrev pub jump : State → ℕ → Next
jump s target = On (record s { pc = target })

abbrev pub jump_if : Bool → State → ℕ → Next
jump_if true s target = jump s target
jump_if false s target = skip s

-- whether a jump on true is taken: on NULL as it says, and never on what is bad
abbrev pub is_true : Bool → Truth → Bool
is_true on_null truth.True = true
is_true on_null truth.False = false
is_true on_null truth.Unknown = on_null
is_true on_null (truth.Failed causes) = false

abbrev pub is_accepted : Bool → Out → Bool
is_accepted on_null a = is_true on_null (truth_in (truth_of a))

-- whether a jump on false is taken
abbrev pub is_false : Bool → Truth → Bool
is_false on_null truth.True = false
is_false on_null truth.False = true
is_false on_null truth.Unknown = on_null
is_false on_null (truth.Failed causes) = false

abbrev pub is_rejected : Bool → Out → Bool
is_rejected on_null a = is_false on_null (truth_in (truth_of a))

-- whether it is NULL, and whether it is another value; what is bad is neither
abbrev pub is_null : Out → Bool
is_null (Good Null) = true
is_null a = false

abbrev pub is_known : Out → Bool
is_known (Good Null) = false
is_known (Good v) = true
is_known (Bad causes) = false

abbrev pub is_bad : Out → Bool
is_bad (Good v) = false
is_bad (Bad causes) = true

-- whether it is an integer of 64 bits
abbrev pub is_integer : Out → Bool
is_integer (Good (Integer n)) = fits_integer n
is_integer a = false

-- the parameter of this number, from 1 on: NULL where there is none, and bad where it is too long
abbrev pub parameter_at : List Value → ℕ → Out
parameter_at params zero = Good Null
parameter_at params (suc k) = made (slice_index_or params k Null)

abbrev pub good_or_null : Out → Value
good_or_null (Good v) = v
good_or_null (Bad c) = Null

-- so many registers from the first on
abbrev pub outs_from : List Out → ℕ → ℕ → List Out
outs_from regs first zero = []
outs_from regs first (suc n) = read regs first ∷ outs_from regs (first + 1) n

-- their values
abbrev pub values_from : List Out → ℕ → ℕ → Row
values_from regs first zero = []
values_from regs first (suc n) = good_or_null (read regs first) ∷ values_from regs (first + 1) n

-- the integer that a register holds, 0 where it holds none
abbrev pub integer_of : Value → ℤ
integer_of Null = pos 0
integer_of (Integer n) = n
integer_of (Text text) = pos 0
integer_of (Blob bytes) = pos 0

abbrev pub integer_in : List Out → ℕ → ℤ
integer_in regs r = integer_of (good_or_null (read regs r))

-- the integer that it is, if it is one
abbrev pub some_integer : Value → Option ℤ
some_integer Null = None
some_integer (Integer n) = Some n
some_integer (Text text) = None
some_integer (Blob bytes) = None

abbrev pub some_rowid : List Out → ℕ → Option ℤ
some_rowid regs r = some_integer (good_or_null (read regs r))

-- the row that registers hold
abbrev pub row_in : List Out → ℕ → ℕ → ℕ → StoredRow
row_in regs rowid first n = record { rowid = integer_in regs rowid; values = values_from regs first n }

-- what a search looks for, by the registers from one on
abbrev pub range_in : List Out → ℕ → Bounds → Range
range_in regs first bounds = range_of bounds (outs_from regs first (bound_count bounds))

-- three registers behind the first: a value, and two limits of which the second is not known
registers_bound : (c : CauseSet) → range_in (Good Null ∷ Good (Integer (pos 4)) ∷ Good (Integer (pos 5)) ∷ Bad c ∷ Good (Integer (pos 7)) ∷ []) 1 (record { equal = 1; lower = Some Included; upper = Some Excluded }) ≡ record { equal = Integer (pos 4) ∷ []; lower = Some (record { value = Integer (pos 5); edge = Included }); upper = None }
registers_bound c = refl

abbrev pub with_cursors : State → List Cursor → State
with_cursors s cursors = record s { scene = record s.scene { cursors = cursors } }

abbrev pub with_cursor : State → ℕ → Cursor → State
with_cursor s c x = with_cursors s (slice_set s.scene.cursors c x)

-- on the first row of its table
abbrev pub rewound_to : State → ℕ → ℕ → ℕ → List StoredRow → Next
rewound_to s c target table [] = jump (with_cursor s c (Open table None)) target
rewound_to s c target table (r ∷ rs) = skip (with_cursor s c (Open table (Some r.rowid)))

abbrev pub rewound : Cursor → State → ℕ → ℕ → Next
rewound Closed s c target = jump s target
rewound (Open table place) s c target = rewound_to s c target table (rows_of (world_of s.shared) table)
rewound (Chosen table rowid rest) s c target = rewound_to s c target table (rows_of (world_of s.shared) table)
rewound (Holding rows) s c target = jump s target
rewound (Standing row rest) s c target = jump s target
rewound (Sorted rows) s c target = jump s target

-- on the first of the rows that are found, with the others behind it
abbrev pub searched_to : State → ℕ → ℕ → ℕ → List StoredRow → Next
searched_to s c target table [] = jump (with_cursor s c (Open table None)) target
searched_to s c target table (r ∷ rs) = skip (with_cursor s c (Chosen table r.rowid (rowids_of rs)))

abbrev pub searched : Cursor → State → ℕ → ℕ → List KeyTerm → Range → Next
searched Closed s c target terms range = jump s target
searched (Open table place) s c target terms range = searched_to s c target table (found terms range (rows_of (world_of s.shared) table))
searched (Chosen table rowid rest) s c target terms range = searched_to s c target table (found terms range (rows_of (world_of s.shared) table))
searched (Holding rows) s c target terms range = jump s target
searched (Standing row rest) s c target terms range = jump s target
searched (Sorted rows) s c target terms range = jump s target

-- on the row behind its own
abbrev pub advanced_to : State → ℕ → ℕ → ℕ → Option StoredRow → Next
advanced_to s c target table None = skip (with_cursor s c (Open table None))
advanced_to s c target table (Some r) = jump (with_cursor s c (Open table (Some r.rowid))) target

abbrev pub advanced : Cursor → State → ℕ → ℕ → Next
advanced Closed s c target = skip s
advanced (Open table None) s c target = skip s
advanced (Open table (Some rowid)) s c target = advanced_to s c target table (row_behind (rows_of (world_of s.shared) table) rowid)
advanced (Chosen table rowid []) s c target = skip (with_cursor s c (Open table None))
advanced (Chosen table rowid (next ∷ rest)) s c target = jump (with_cursor s c (Chosen table next rest)) target
advanced (Holding rows) s c target = skip s
advanced (Standing row []) s c target = skip (with_cursor s c Closed)
advanced (Standing row (next ∷ rest)) s c target = jump (with_cursor s c (Standing next rest)) target
advanced (Sorted rows) s c target = skip s

-- onto the row of a rowid, and off its row where there is none
abbrev pub sought_to : State → ℕ → ℕ → Option ℤ → Next
sought_to s c table None = skip (with_cursor s c (Open table None))
sought_to s c table (Some rowid) =
    skip (with_cursor s c (if is_missing (rows_of (world_of s.shared) table) rowid then Open table None else Open table (Some rowid)))

abbrev pub sought : Cursor → State → ℕ → Option ℤ → Next
sought Closed s c rowid = skip s
sought (Open table place) s c rowid = sought_to s c table rowid
sought (Chosen table place rest) s c rowid = sought_to s c table rowid
sought (Holding rows) s c rowid = skip s
sought (Standing row rest) s c rowid = skip s
sought (Sorted rows) s c rowid = skip s

-- where no row is in the way of one that is to come it jumps, and else it goes on, on the first that is
abbrev pub conflicted_to : State → ℕ → ℕ → ℕ → Option StoredRow → Next
conflicted_to s c target table None = jump s target
conflicted_to s c target table (Some r) = skip (with_cursor s c (Open table (Some r.rowid)))

abbrev pub conflicted : Cursor → State → ℕ → ℕ → List (List KeyTerm) → StoredRow → Next
conflicted Closed s c target keys row = jump s target
conflicted (Open table place) s c target keys row = conflicted_to s c target table (row_in_way keys (rows_of (world_of s.shared) table) row)
conflicted (Chosen table rowid rest) s c target keys row = conflicted_to s c target table (row_in_way keys (rows_of (world_of s.shared) table) row)
conflicted (Holding rows) s c target keys row = jump s target
conflicted (Standing row rest) s c target keys new = jump s target
conflicted (Sorted rows) s c target keys new = jump s target

-- what an operand reads
abbrev pub operand_in : Setting → List Out → Inputs → Scene → Shared → Operand → Out
operand_in m regs inputs scene shared (operand.Register r) = read regs r
operand_in m regs inputs scene shared (operand.Constant out) = out
operand_in m regs inputs scene shared (operand.Parameter k) = parameter_at m.params k
operand_in m regs inputs scene shared (operand.Argument k) = read inputs.args k
operand_in m regs inputs scene shared (operand.Column c k) = column_of (current (world_of shared) (cursor_at scene.cursors c)) k
operand_in m regs inputs scene shared (operand.Rowid c) = (current (world_of shared) (cursor_at scene.cursors c)).rowid

abbrev pub operand_of : Setting → State → Operand → Out
operand_of m s o = operand_in m s.regs s.inputs s.scene s.shared o

-- a row more in a table, where its rowid is free: it counts, and its rowid is the last one that was put
abbrev pub with_row : Written → ℕ → StoredRow → Written
with_row x table r =
    if is_free x.world table r.rowid
    then record x { world = slice_set x.world table (put_row (rows_of x.world table) r); changes = x.changes + 1; last_rowid = r.rowid }
    else x

abbrev pub inserted : Cursor → Written → StoredRow → Written
inserted Closed x r = x
inserted (Open table place) x r = with_row x table r
inserted (Chosen table rowid rest) x r = with_row x table r
inserted (Holding rows) x r = x
inserted (Standing row rest) x r = x
inserted (Sorted rows) x r = x

-- a table more, which has no row
abbrev pub with_table : Written → Written
with_table x = record x { world = x.world ++ [] ∷ [] }

-- the table of a number without its rows; the others and their numbers are as they were, and no row counts as changed
abbrev pub without_rows : Written → ℕ → Written
without_rows x table = record x { world = slice_set x.world table [] }

abbrev pub with_schema : SchemaChange → Written → Written
with_schema AddTable x = with_table x
with_schema (DropTable table) x = without_rows x table

abbrev pub with_given : Shared → Row → Shared
with_given x row = record x { given = x.given ++ row ∷ [] }

abbrev pub wrote : State → Written → Next
wrote s x = skip (record s { shared = record s.shared { written = x } })

-- ---- units that are called

-- the state at a unit's start
abbrev pub entered : Unit → ℕ → Inputs → Frame → List Frame → Shared → State
entered x u inputs f fs shared = record {
  unit = u;
  pc = 0;
  regs = replicate x.registers (Good Null);
  inputs = inputs;
  scene = record { cursors = replicate x.cursors Closed; slots = [] };
  store = no_store;
  stack = f ∷ fs;
  shared = shared;
}

-- registers one after another, from a place on
abbrev pub put_all : List Out → ℕ → List Out → List Out
put_all regs to [] = regs
put_all regs to (v ∷ vs) = put_all (slice_set regs to v) (to + 1) vs

-- the state behind a unit's end, with its results
abbrev pub resumed : Frame → List Frame → Shared → List Out → State
resumed f fs shared results = record {
  unit = f.unit;
  pc = f.pc;
  regs = put_all f.regs f.to results;
  inputs = f.inputs;
  scene = f.scene;
  store = f.store;
  stack = fs;
  shared = shared;
}

abbrev pub frame_of : State → ℕ → Frame
frame_of s to = record { unit = s.unit; pc = s.pc + 1; regs = s.regs; inputs = s.inputs; scene = s.scene; store = s.store; to = to }

-- what a unit that this one calls is called with: the triggers that run are the same
abbrev pub inputs_with : Inputs → List Out → Inputs
inputs_with inputs args = record inputs { args = args }

abbrev pub called : Option Unit → State → ℕ → List Out → ℕ → Next
called None s u args to = put s to (Good Null)
called (Some x) s u args to = On (entered x u (inputs_with s.inputs args) (frame_of s to) s.stack s.shared)

abbrev pub returned : List Frame → Shared → List Out → Next
returned [] shared results = End Finished shared
returned (f ∷ fs) shared results = On (resumed f fs shared results)

-- a unit gives up for causes. Where they say no more than that the row is left, it answers 1 to the one that waits; else the run fails, for those that may be named
abbrev pub given_up : List Frame → Shared → CauseSet → Next
given_up [] shared causes = End (Failed (named causes)) shared
given_up (f ∷ fs) shared causes =
    if is_skip causes then On (resumed f fs shared (Good (Integer (pos 1)) ∷ [])) else End (Failed (named causes)) shared

-- it goes on, or gives up for causes
abbrev pub skip_if : Bool → State → CauseSet → Next
skip_if true s causes = skip s
skip_if false s causes = given_up s.stack s.shared causes

-- how a stretch of code leaves its unit: the run is at its end, or the unit gives up
pub data Leaving : Type 0 where
  Halts : Leaving
  GivesUp : CauseSet → Leaving

abbrev pub leads_to : Leaving → List Frame → Shared → Next
leads_to Halts stack shared = End Finished shared
leads_to (GivesUp causes) stack shared = given_up stack shared causes

-- by what a register came to
abbrev pub leaving_of : Out → Leaving
leaving_of (Good v) = Halts
leaving_of (Bad causes) = GivesUp causes

-- a rowid that is free, or why there is none
abbrev pub drawn : State → ℕ → List ℕ → Option ℤ → Next
drawn s r table None = given_up s.stack s.shared (only (Full table))
drawn s r table (Some rowid) = put s r (Good (Integer rowid))

-- ---- sorters

-- a row that is no table's, of these columns
abbrev pub row_of_outs : List Out → ItemRow
row_of_outs outs = record { rowid = Good Null; columns = outs; causes = no_causes }

-- its first columns, so many
abbrev pub columns_from : ItemRow → ℕ → ℕ → List Out
columns_from row k zero = []
columns_from row k (suc n) = column_of row k ∷ columns_from row (k + 1) n

-- what terms compare of a row
abbrev pub compared : ItemRow → StoredRow
compared row = record { rowid = pos 0; values = map good_or_null row.columns }

abbrev pub comes_before : List KeyTerm → ItemRow → ItemRow → Bool
comes_before terms a b = is_lt (key_cmp terms (compared a) (compared b))

-- the rows of the sorter that was opened last
abbrev pub last_list : List (List ItemRow) → List ItemRow
last_list [] = []
last_list (rows ∷ lists) = rows

-- without it
abbrev pub other_lists : List (List ItemRow) → List (List ItemRow)
other_lists [] = []
other_lists (rows ∷ lists) = lists

-- with a row more in it
abbrev pub added : ItemRow → List (List ItemRow) → List (List ItemRow)
added row [] = []
added row (rows ∷ lists) = (rows ++ row ∷ []) ∷ lists

abbrev pub with_lists : State → List (List ItemRow) → State
with_lists s lists = record s { store = record s.store { lists = lists } }

-- with these rows to come, and elsewhere where there are none
abbrev pub sorted_to : State → ℕ → ℕ → List ItemRow → Next
sorted_to s c target [] = jump (with_cursor s c (Sorted [])) target
sorted_to s c target (row ∷ rest) = skip (with_cursor s c (Sorted (row ∷ rest)))

-- the first of the rows that are to come; NULLs where there is none
abbrev pub first_of : List ItemRow → ItemRow
first_of [] = null_row
first_of (row ∷ rest) = row

abbrev pub first_sorted : Cursor → ItemRow
first_sorted Closed = null_row
first_sorted (Open table place) = null_row
first_sorted (Chosen table rowid rest) = null_row
first_sorted (Holding rows) = null_row
first_sorted (Standing row rest) = null_row
first_sorted (Sorted rows) = first_of rows

-- without the first of them; and elsewhere where there are more
abbrev pub dropped_to : State → ℕ → ℕ → List ItemRow → Next
dropped_to s c target [] = skip s
dropped_to s c target (row ∷ []) = skip (with_cursor s c (Sorted []))
dropped_to s c target (row ∷ next ∷ rest) = jump (with_cursor s c (Sorted (next ∷ rest))) target

abbrev pub dropped : Cursor → State → ℕ → ℕ → Next
dropped Closed s c target = skip s
dropped (Open table place) s c target = skip s
dropped (Chosen table rowid rest) s c target = skip s
dropped (Holding rows) s c target = skip s
dropped (Standing row rest) s c target = skip s
dropped (Sorted rows) s c target = dropped_to s c target rows

-- whether an index may be built of rows: a unique one, for which a table is named, of rows without doubles alone
abbrev pub built : State → Option (List ℕ) → List KeyTerm → List StoredRow → Next
built s None terms rows = skip s
built s (Some table) terms rows = skip_if (not (has_doubles terms rows)) s (only (Constraint Unique table))

-- on a row that is no table's, with none behind it
abbrev pub standing_on : StoredRow → Cursor
standing_on r = Standing (table_row r) []

-- ---- the instructions

abbrev pub act : Setting → Option Op → State → Next
act m None s = End Finished s.shared
act m (Some (op.Goto target)) s = jump s target
act m (Some (op.If r target on_null)) s = jump_if (is_accepted on_null (read s.regs r)) s target
act m (Some (op.IfNot r target on_null)) s = jump_if (is_rejected on_null (read s.regs r)) s target
act m (Some (op.IsNull r target)) s = jump_if (is_null (read s.regs r)) s target
act m (Some (op.NotNull r target)) s = jump_if (is_known (read s.regs r)) s target
act m (Some (op.IsBad r target)) s = jump_if (is_bad (read s.regs r)) s target
act m (Some op.Halt) s = End Finished s.shared
act m (Some (op.HaltBad r)) s = leads_to (leaving_of (read s.regs r)) s.stack s.shared
act m (Some (op.Call u first n to)) s = called (unit_at m.prog u) s u (outs_from s.regs first n) to
act m (Some (op.Ret first n)) s = returned s.stack s.shared (outs_from s.regs first n)
act m (Some (op.Argument k to)) s = put s to (read s.inputs.args k)
act m (Some (op.ResultRow first n)) s = skip (record s { shared = with_given s.shared (values_from s.regs first n) })
act m (Some (op.Null to)) s = put s to (Good Null)
act m (Some (op.Integer n to)) s = put s to (Good (Integer n))
act m (Some (op.String8 text to)) s = put s to (Good (Text text))
act m (Some (op.Blob bytes to)) s = put s to (Good (Blob bytes))
act m (Some (op.Bad cause to)) s = put s to (bad cause)
act m (Some (op.Variable k to)) s = put s to (parameter_at m.params k)
act m (Some (op.Copy from to)) s = put s to (read s.regs from)
act m (Some (op.Affinity r affinity)) s = put s r (turned (store_as affinity) (read s.regs r))
act m (Some (op.Beside r other own)) s = put s r (turned (λ v. Good (beside other own v)) (read s.regs r))
act m (Some (op.MustBeInt r)) s = skip_if (is_integer (read s.regs r)) s (only Mismatch)
act m (Some (op.Unary o a to)) s = put s to (unary_of o (operand_of m s a))
act m (Some (op.Binary o a b to)) s = put s to (binary_of (keys_of m.hosts) o (operand_of m s a) (operand_of m s b))
act m (Some (op.LikeEscaped a b c to)) s = put s to (like_escaped_of (operand_of m s a) (operand_of m s b) (operand_of m s c))
act m (Some (op.Function f collation args to)) s = put s to (function_by (value_keys (keys_of m.hosts)) f collation (map (operand_of m s) args))
act m (Some (op.Merge from to)) s = put s to (merged (read s.regs from) (read s.regs to))
act m (Some (op.OpenRead c table)) s = skip (with_cursor s c (Open table None))
act m (Some (op.OpenWrite c table)) s = skip (with_cursor s c (Open table None))
act m (Some (op.RowOf c rowid first n)) s = skip (with_cursor s c (standing_on (row_in s.regs rowid first n)))
act m (Some (op.Close c)) s = skip (with_cursor s c Closed)
act m (Some (op.CloseFrom c)) s = skip (with_cursors s (closed_from c s.scene.cursors))
act m (Some (op.Rewind c target)) s = rewound (cursor_at s.scene.cursors c) s c target
act m (Some (op.Next c target)) s = advanced (cursor_at s.scene.cursors c) s c target
act m (Some (op.Search c terms bounds first target)) s = searched (cursor_at s.scene.cursors c) s c target terms (range_in s.regs first bounds)
act m (Some (op.SeekRowid c rowid)) s = sought (cursor_at s.scene.cursors c) s c (some_rowid s.regs rowid)
act m (Some (op.SorterOpen c)) s = skip (with_cursor (with_lists s ([] ∷ s.store.lists)) c (Sorted []))
act m (Some (op.SorterInsert first n)) s = skip (with_lists s (added (row_of_outs (outs_from s.regs first n)) s.store.lists))
act m (Some (op.SorterSort c terms target)) s = sorted_to (with_lists s (other_lists s.store.lists)) c target (arranged (comes_before terms) (last_list s.store.lists))
act m (Some (op.SorterData c first n)) s = On (record s { pc = s.pc + 1; regs = put_all s.regs first (columns_from (first_sorted (cursor_at s.scene.cursors c)) 0 n) })
act m (Some (op.SorterNext c target)) s = dropped (cursor_at s.scene.cursors c) s c target
act m (Some (op.Column c k to)) s = put s to (column_of (current (world_of s.shared) (cursor_at s.scene.cursors c)) k)
act m (Some (op.Rowid c to)) s = put s to (current (world_of s.shared) (cursor_at s.scene.cursors c)).rowid
act m (Some (op.NoConflict c rowid first n keys target)) s = conflicted (cursor_at s.scene.cursors c) s c target keys (row_in s.regs rowid first n)
act m (Some (op.NotExists c rowid target)) s = jump_if (is_missing (cursor_rows (world_of s.shared) (cursor_at s.scene.cursors c)) (integer_in s.regs rowid)) s target
act m (Some (op.NewRowid c to table)) s = drawn s to table (next_rowid (cursor_rows (world_of s.shared) (cursor_at s.scene.cursors c)))
act m (Some (op.Insert c rowid first n)) s = wrote s (inserted (cursor_at s.scene.cursors c) s.shared.written (row_in s.regs rowid first n))
act m (Some (op.BuildIndex c terms unique)) s = built s unique terms (cursor_rows (world_of s.shared) (cursor_at s.scene.cursors c))
act m (Some (op.Schema change)) s = wrote s (with_schema change s.shared.written)

-- ---- runs

abbrev pub step : Setting → State → Next
step m s = act m (slice_get (code_of m.prog s.unit) s.pc) s

abbrev pub go_on : Next → (State → Next) → Next
go_on (On s) f = f s
go_on (End e shared) f = End e shared

-- so many instructions
abbrev pub after : Setting → ℕ → State → Next
after m zero s = On s
after m (suc n) s = go_on (step m s) (after m n)

-- so many instructions at most lead from a state to where this is
pub record Leads (m : Setting) (most : ℕ) (s : State) (n : Next) : Type 0 where
  pub steps : ℕ
  pub within : steps ≤ most
  pub is : after m steps s ≡ n

-- the machine comes from one state to another
abbrev pub Reaches : Setting → ℕ → State → State → Type 0
Reaches m most s t = Leads m most s (On t)

-- a run ends
abbrev pub Ends : Setting → ℕ → State → Ending → Shared → Type 0
Ends m most s e shared = Leads m most s (End e shared)

-- the state at a program's start
abbrev pub start : Program → World → ℤ → State
start p w last_rowid = record {
  unit = 0;
  pc = 0;
  regs = replicate p.main.registers (Good Null);
  inputs = record { args = []; running = [] };
  scene = record { cursors = replicate p.main.cursors Closed; slots = [] };
  store = no_store;
  stack = [];
  shared = record { given = []; written = unwritten w last_rowid };
}

-- how a run ends, and what is shared then
pub record Run : Type 0 where
  pub ending : Ending
  pub shared : Shared

-- whatever surrounds the program, and whatever rowid was put last: its run from sound tables ends so, in at most so many instructions
abbrev pub Performs : Program → (Surroundings → ℤ → Run) → (Surroundings → ℕ) → Type 0
Performs p run most =
    (x : Surroundings) (last_rowid : ℤ) → IsSound x.world
    → Ends (setting x.hosts x.ask x.params p) (most x) (start p x.world last_rowid) (run x last_rowid).ending (run x last_rowid).shared

-- the same, where the parameters are these
abbrev pub PerformsWith : List Value → Program → (Surroundings → ℤ → Run) → (Surroundings → ℕ) → Type 0
PerformsWith params p run most =
    (x : Surroundings) (last_rowid : ℤ) → x.params ≡ params → IsSound x.world
    → Ends (setting x.hosts x.ask x.params p) (most x) (start p x.world last_rowid) (run x last_rowid).ending (run x last_rowid).shared
