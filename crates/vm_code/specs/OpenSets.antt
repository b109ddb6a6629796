-- Sets of open cursors by their numbers.
use Rattle.std.specs.Prelude.{ℕ, zero, suc, ◌≤◌, List, [], Option, Some, None, All, map, length, slice_index_or}
use Rattle.vm_code.specs.Track.{OpenSet}

-- number 0 is the set of none; the others are those of a list, in their order
abbrev pub set_of : List (Option OpenSet) → ℕ → Option OpenSet
set_of sets zero = Some []
set_of sets (suc k) = slice_index_or sets k None

abbrev pub sets_of : List (Option OpenSet) → List ℕ → List (Option OpenSet)
sets_of sets numbers = map (set_of sets) numbers

-- they are numbers of sets
abbrev pub AreNumbers : List (Option OpenSet) → List ℕ → Type 0
AreNumbers sets numbers = All (λ n. n ≤ length sets) numbers
