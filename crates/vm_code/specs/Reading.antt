-- What a run looks at of the tables.
use Rattle.std.specs.Prelude.{◌≡◌, ⊤, ℕ, ◌+◌, List, [], ◌∷◌, ◌++◌, All, Contains, Some, slice_get}
use Rattle.eng_value.specs.StoredRows.{StoredRow}
use Rattle.vm_code.specs.declared.op.Op.{Op}
use Rattle.vm_code.specs.declared.op.Op.TheVariants as op
use Rattle.vm_code.specs.declared.program.Program.{Program}
use Rattle.vm_code.specs.Machine.{Row, World, Cursor, Closed, Open, Chosen, Holding, Standing, Sorted, Setting, Shared, Frame, State, Ending, Next, On, End, after, code_of, cursor_at, world_of}

-- ---- tables that are opened

abbrev pub opened_by : Op → List ℕ
opened_by (op.OpenRead c table) = table ∷ []
opened_by (op.OpenWrite c table) = table ∷ []
opened_by other = []

-- no instruction of the program opens another table
abbrev pub OpensOnly : List ℕ → Program → Type 0
OpensOnly tables p =
    (u place : ℕ) (o : Op) → slice_get (code_of p u) place ≡ Some o → All (Contains tables) (opened_by o)

-- no cursor is open on another table
abbrev pub IsIn : List ℕ → Cursor → Type 0
IsIn tables Closed = ⊤
IsIn tables (Open table place) = Contains tables table
IsIn tables (Chosen table rowid rest) = Contains tables table
IsIn tables (Holding rows) = ⊤
IsIn tables (Standing row rest) = ⊤
IsIn tables (Sorted rows) = ⊤

abbrev pub AreIn : List ℕ → List Cursor → Type 0
AreIn tables cursors = (c : ℕ) → IsIn tables (cursor_at cursors c)

-- of the frame that runs, and of those that wait
pub record StaysIn (tables : List ℕ) (s : State) : Type 0 where
  pub cursors : AreIn tables s.scene.cursors
  pub stack : All (λ (f : Frame). AreIn tables f.scene.cursors) s.stack

-- ---- worlds that agree on tables

-- each of these is there, with the same rows
abbrev pub Agree : List ℕ → World → World → Type 0
Agree tables w v =
    (t : ℕ) → Contains tables t → (rows : List StoredRow) × (slice_get w t ≡ Some rows) × (slice_get v t ≡ Some rows)

abbrev pub shared_over : World → Shared → Shared
shared_over w x = record x { written = record x.written { world = w } }

-- the same over other tables
abbrev pub over : World → State → State
over w s = record s { shared = shared_over w s.shared }

-- two runs came to the same, each over its own tables, which still agree
abbrev pub Alike : List ℕ → Next → Next → Type 0
Alike tables (On s) (On t) = (v : World) × (t ≡ over v s) × Agree tables (world_of s.shared) v × StaysIn tables s
Alike tables (End e x) (End f y) = (v : World) × (e ≡ f) × (y ≡ shared_over v x) × Agree tables (world_of x) v
Alike tables _ _ = ⊥

-- a program reads a world only by the tables that it opens
abbrev pub ReadsOnlyOpened : Type 0
ReadsOnlyOpened =
    (m : Setting) (tables : List ℕ) → OpensOnly tables m.prog → (n : ℕ) (s : State) (v : World) → StaysIn tables s
    → Agree tables (world_of s.shared) v → Alike tables (after m n s) (after m n (over v s))

-- ---- runs by themselves

-- behind other rows
abbrev pub below : List Row → Shared → Shared
below rows x = record x { given = rows ++ x.given }

abbrev pub under : List Row → State → State
under rows s = record s { shared = below rows s.shared }

abbrev pub prepend : List Row → Next → Next
prepend rows (On s) = On (under rows s)
prepend rows (End e x) = End e (below rows x)

-- so many instructions, and so many more
abbrev pub RunsAddUp : Type 0
RunsAddUp = (m : Setting) (i n : ℕ) (s t : State) (x : Next) → after m i s ≡ On t → after m n t ≡ x → after m (i + n) s ≡ x

-- rows that were given before change nothing of a run
abbrev pub GivenBeforeHasNoInfluence : Type 0
GivenBeforeHasNoInfluence = (rows : List Row) (m : Setting) (n : ℕ) (s : State) → after m n (under rows s) ≡ prepend rows (after m n s)

-- two ends of a run are one
abbrev pub HasOneEnd : Type 0
HasOneEnd = (m : Setting) (n k : ℕ) (s : State) (e f : Ending) (x y : Shared) → after m n s ≡ End e x → after m k s ≡ End f y → End e x ≡ End f y
