-- How changes are taken back, and what the tables were at each mark.
use Rattle.std.specs.Prelude.{ℕ, ◌-◌, ◌≤◌, ⊤, List, [], ◌∷◌, All, drop, length, map, reverse, take, slice_set}
pub use Rattle.eng_index.specs.Stored.{drop_row}
use Rattle.eng_value.specs.StoredRows.{IsAscending}
use Rattle.vm_code.specs.Machine.{IsSound, World, rows_of}
use Rattle.vm_tables.specs.declared.change.Change.{Change}
use Rattle.vm_tables.specs.declared.change.Change.TheVariants.{RowPut, TableAdded, RowsDropped}

abbrev pub undone : Change → World → World
undone (RowPut table rowid) w = slice_set w table (drop_row (rows_of w table) rowid)
undone TableAdded w = take (length w - 1) w
undone (RowsDropped table rows) w = slice_set w table rows

-- the world in front of these changes, of which the last is taken back first
abbrev pub before : List Change → World → World
before [] w = w
before (c ∷ cs) w = undone c (before cs w)

-- ---- marks: each is the length that the log of changes had then

-- the world at a mark
abbrev pub at_mark : List Change → World → ℕ → World
at_mark log w mark = before (drop mark log) w

-- the worlds at the marks, the last first
abbrev pub at_marks : List ℕ → List Change → World → List World
at_marks marks log w = map (at_mark log w) (reverse marks)

-- from the last on they never rise, from this length down
abbrev pub Descend : ℕ → List ℕ → Type 0
Descend length [] = ⊤
Descend length (mark ∷ marks) = (mark ≤ length) × Descend mark marks

-- the rows that a change holds ascend
abbrev pub HoldsAscending : Change → Type 0
HoldsAscending (RowPut table rowid) = ⊤
HoldsAscending TableAdded = ⊤
HoldsAscending (RowsDropped table rows) = IsAscending rows

-- what holds of tables and their log: the tables are sound, so are the rows that the log holds, and the marks lie in the log
pub record IsJournal (w : World) (log : List Change) (places : List ℕ) : Type 0 where
  pub sound : IsSound w
  pub held : All HoldsAscending log
  pub marks : Descend (length log) (reverse places)
