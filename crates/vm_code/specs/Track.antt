-- What is open at the instructions of a unit under construction, and at its labels; and what instructions need of cursors and registers.
use Rattle.std.specs.Prelude.{ℕ, ◌+◌, max, List, [], ◌∷◌, ◌++◌, Contains, not, nat_eq, nat_lt, filter, Option, Some, None, slice_index_or, ◌⊎◌}
use Rattle.std.specs.List.{flat_map}
use Rattle.std.specs.Option.{option_map}
use Rattle.eng_index.specs.Searching.{bound_count}
use Rattle.vm_code.specs.declared.op.Op.{Op}
use Rattle.vm_code.specs.declared.op.Op.TheVariants as op
use Rattle.vm_code.specs.declared.open_cursor.CursorKind.{CursorKind}
use Rattle.vm_code.specs.declared.open_cursor.CursorKind.TheVariants.{Row, Sorter, Table}
use Rattle.vm_code.specs.declared.open_cursor.Need.{Need}
use Rattle.vm_code.specs.declared.open_cursor.Need.TheVariants as need
use Rattle.vm_code.specs.declared.open_cursor.OpenCursor.{OpenCursor}
use Rattle.vm_code.specs.declared.operand.Operand.{Operand}
use Rattle.vm_code.specs.declared.operand.Operand.TheVariants as operand
use Rattle.vm_code.specs.declared.way.Way.{Way}
use Rattle.vm_code.specs.declared.way.Way.TheVariants as way

-- the cursors that are open, in the order in which they were opened
abbrev pub OpenSet : Type 0
OpenSet = List OpenCursor

abbrev pub on : CursorKind → ℕ → OpenCursor
on kind c = record { cursor = c; kind = kind }

abbrev pub closed : ℕ → OpenSet → OpenSet
closed c xs = filter (λ (x : OpenCursor). not (nat_eq x.cursor c)) xs

-- one that is opened anew is open on what it was opened on last
abbrev pub opened : OpenCursor → OpenSet → OpenSet
opened x xs = closed x.cursor xs ++ x ∷ []

abbrev pub closed_from : ℕ → OpenSet → OpenSet
closed_from c xs = filter (λ (x : OpenCursor). nat_lt x.cursor c) xs

-- ---- what is needed of cursors

-- a cursor is open, on a table, where expressions read, or on a sorter
abbrev pub Meets : OpenSet → Need → Type 0
Meets xs (need.Open c) = (kind : CursorKind) × Contains xs (on kind c)
Meets xs (need.Table c) = Contains xs (on Table c)
Meets xs (need.Rows c) = Contains xs (on Table c) ⊎ Contains xs (on Row c)
Meets xs (need.Sorter c) = Contains xs (on Sorter c)

-- what an operand reads has to be there
abbrev pub operand_needs : Operand → List Need
operand_needs (operand.Column c k) = need.Rows c ∷ []
operand_needs (operand.Rowid c) = need.Rows c ∷ []
operand_needs other = []

-- ---- registers

-- so many registers one after another
pub record Span : Type 0 where
  pub first : ℕ
  pub count : ℕ

abbrev pub span : ℕ → ℕ → Span
span first count = record { first = first; count = count }

abbrev pub one : ℕ → List Span
one r = span r 1 ∷ []

abbrev pub operand_spans : Operand → List Span
operand_spans (operand.Register r) = one r
operand_spans other = []

-- how many registers there have to be
abbrev pub room_for : List Span → ℕ
room_for [] = 0
room_for (s ∷ spans) = max (s.first + s.count) (room_for spans)

-- ---- instructions

-- where an instruction leads, and what it makes of what is open
abbrev pub way_of : Op → Way
way_of (op.Goto target) = way.Jumps target
way_of (op.If r target on_null) = way.Forks target
way_of (op.IfNot r target on_null) = way.Forks target
way_of (op.IsNull r target) = way.Forks target
way_of (op.NotNull r target) = way.Forks target
way_of (op.IsBad r target) = way.Forks target
way_of op.Halt = way.Leaves
way_of (op.HaltBad r) = way.Leaves
way_of (op.Call u first n to) = way.Calls u n to
way_of (op.Ret first n) = way.Returns n
way_of (op.OpenRead c table) = way.Opens (on Table c)
way_of (op.OpenWrite c table) = way.Opens (on Table c)
way_of (op.RowOf c rowid first n) = way.Opens (on Row c)
way_of (op.Close c) = way.Closes c
way_of (op.CloseFrom c) = way.ClosesFrom c
way_of (op.Rewind c target) = way.Forks target
way_of (op.Next c target) = way.Forks target
way_of (op.Search c terms bounds first target) = way.Forks target
way_of (op.NotExists c rowid target) = way.Forks target
way_of (op.SorterOpen c) = way.Opens (on Sorter c)
way_of (op.SorterSort c terms target) = way.Forks target
way_of (op.SorterNext c target) = way.Forks target
way_of (op.NoConflict c rowid first n keys target) = way.Forks target
way_of other = way.Continues

-- what an instruction needs of the cursors that it moves, closes, reads or writes by, or whose table it looks at
abbrev pub needs_of : Op → List Need
needs_of (op.Unary o a to) = operand_needs a
needs_of (op.Binary o a b to) = operand_needs a ++ operand_needs b
needs_of (op.LikeEscaped a b c to) = operand_needs a ++ operand_needs b ++ operand_needs c
needs_of (op.Function f collation args to) = flat_map operand_needs args
needs_of (op.Close c) = need.Open c ∷ []
needs_of (op.Rewind c target) = need.Table c ∷ []
needs_of (op.Next c target) = need.Table c ∷ []
needs_of (op.Search c terms bounds first target) = need.Table c ∷ []
needs_of (op.SeekRowid c rowid) = need.Table c ∷ []
needs_of (op.SorterSort c terms target) = need.Sorter c ∷ []
needs_of (op.SorterData c first n) = need.Sorter c ∷ []
needs_of (op.SorterNext c target) = need.Sorter c ∷ []
needs_of (op.Column c k to) = need.Rows c ∷ []
needs_of (op.Rowid c to) = need.Rows c ∷ []
needs_of (op.NotExists c rowid target) = need.Table c ∷ []
needs_of (op.NoConflict c rowid first n keys target) = need.Table c ∷ []
needs_of (op.NewRowid c to table) = need.Table c ∷ []
needs_of (op.Insert c rowid first n) = need.Table c ∷ []
needs_of (op.BuildIndex c terms unique) = need.Table c ∷ []
needs_of other = []

-- the registers that it names
abbrev pub spans_of : Op → List Span
spans_of (op.If r target on_null) = one r
spans_of (op.IfNot r target on_null) = one r
spans_of (op.IsNull r target) = one r
spans_of (op.NotNull r target) = one r
spans_of (op.IsBad r target) = one r
spans_of (op.HaltBad r) = one r
spans_of (op.Call u first n to) = span first n ∷ one to
spans_of (op.Ret first n) = span first n ∷ []
spans_of (op.Argument k to) = one to
spans_of (op.ResultRow first n) = span first n ∷ []
spans_of (op.Null to) = one to
spans_of (op.Integer n to) = one to
spans_of (op.String8 text to) = one to
spans_of (op.Blob bytes to) = one to
spans_of (op.Bad cause to) = one to
spans_of (op.Variable k to) = one to
spans_of (op.Copy from to) = span from 1 ∷ one to
spans_of (op.Affinity r affinity) = one r
spans_of (op.Beside r other own) = one r
spans_of (op.MustBeInt r) = one r
spans_of (op.Unary o a to) = operand_spans a ++ one to
spans_of (op.Binary o a b to) = operand_spans a ++ operand_spans b ++ one to
spans_of (op.LikeEscaped a b c to) = operand_spans a ++ operand_spans b ++ operand_spans c ++ one to
spans_of (op.Function f collation args to) = flat_map operand_spans args ++ one to
spans_of (op.Merge from to) = span from 1 ∷ one to
spans_of (op.RowOf c rowid first n) = span rowid 1 ∷ span first n ∷ []
spans_of (op.Search c terms bounds first target) = span first (bound_count bounds) ∷ []
spans_of (op.SeekRowid c rowid) = one rowid
spans_of (op.SorterInsert first n) = span first n ∷ []
spans_of (op.SorterData c first n) = span first n ∷ []
spans_of (op.Column c k to) = one to
spans_of (op.Rowid c to) = one to
spans_of (op.NotExists c rowid target) = one rowid
spans_of (op.NoConflict c rowid first n keys target) = span rowid 1 ∷ span first n ∷ []
spans_of (op.NewRowid c to table) = one to
spans_of (op.Insert c rowid first n) = span rowid 1 ∷ span first n ∷ []
spans_of other = []

-- what is open behind an instruction, if it goes on there
abbrev pub behind : Way → Option OpenSet → Option OpenSet
behind way.Continues now = now
behind (way.Opens c) now = option_map (opened c) now
behind (way.Closes c) now = option_map (closed c) now
behind (way.ClosesFrom c) now = option_map (closed_from c) now
behind (way.Forks l) now = now
behind (way.Calls u n to) now = now
behind (way.Jumps l) now = None
behind way.Leaves now = None
behind (way.Returns n) now = None

-- the label that it may jump to
abbrev pub target_of : Way → Option ℕ
target_of (way.Forks l) = Some l
target_of (way.Jumps l) = Some l
target_of other = None

-- ---- units under construction

-- what is open in front of each instruction, where it is ever reached; behind the last one; and at each label
pub record Track : Type 0 where
  pub opens : List (Option OpenSet)
  pub now : Option OpenSet
  pub marks : List (Option OpenSet)

-- a unit begins with nothing open
abbrev pub at_start : Track
at_start = record { opens = []; now = Some []; marks = [] }

-- one more instruction
abbrev pub passed : Way → Track → Track
passed w t = record { opens = t.opens ++ t.now ∷ []; now = behind w t.now; marks = t.marks }

-- one more label: where its place will be, the same is open as here
abbrev pub with_mark : Track → Track
with_mark t = record t { marks = t.marks ++ t.now ∷ [] }

-- a label's place
abbrev pub arrived : Track → ℕ → Track
arrived t l = record t { now = slice_index_or t.marks l None }

-- what is open in front of a place: of an instruction, or behind the last one
abbrev pub open_at : Track → ℕ → Option OpenSet
open_at t place = slice_index_or (t.opens ++ t.now ∷ []) place None
