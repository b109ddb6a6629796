-- What a connection holds, as the state of the definitions.
use Rattle.std.specs.Prelude.{◌≡◌, ℕ, List, [], ℤ}
use Rattle.eng_entry.specs.Entries.{Entries}
use Rattle.vm_code.specs.Machine.{World as Lists}
use Rattle.sql_meaning.specs.Valid.{IsValid}
use Rattle.sql_meaning.specs.World.{State, World, new_state}

abbrev pub world_in : Entries → Lists → World
world_in entries lists = record { catalog = entries; tables = lists }

-- the state of a connection; all else is as at its opening
abbrev pub state_of : Entries → Lists → ℕ → ℤ → State
state_of entries lists changes last_rowid = record new_state { world = world_in entries lists; changes = changes; last_rowid = last_rowid }

-- what is always so of what a connection holds: no mark of a statement, and a valid state
pub record IsConsistent (entries : Entries) (lists : Lists) (marks : List Lists) (changes : ℕ) (last_rowid : ℤ) : Type 0 where
  pub unmarked : marks ≡ []
  pub valid : IsValid (state_of entries lists changes last_rowid)
