-- What a cursor is to the machine over lists.
use Rattle.std.specs.Prelude.{ℕ, ℤ, Bool, true, false, List, [], ◌∷◌, None, drop, is_some, slice_get}
use Rattle.std.specs.Option.{option_map}
use Rattle.vm_code.specs.Machine.{Cursor, Closed, Open, Chosen, Holding, Standing, Sorted, standing_on}
use Rattle.vm_store.specs.declared.cursor.Spot.{Spot}
use Rattle.vm_store.specs.declared.cursor.Spot.TheVariants as spot
use Rattle.vm_store.specs.declared.cursor.Place.{Place}

-- where a cursor stands, without the index that helps to find its row
abbrev pub cursor_of : Spot → Cursor
cursor_of spot.Closed = Closed
cursor_of (spot.Open table place) = Open table (option_map (λ (p : Place). p.rowid) place)
cursor_of (spot.Chosen table place rest) = Chosen table place.rowid rest
cursor_of (spot.Standing row) = standing_on row
cursor_of (spot.Sorted rows) = Sorted rows

-- on the first of these rows, with the others behind it, or on none
abbrev pub on_chosen : ℕ → List ℤ → Cursor
on_chosen table [] = Open table None
on_chosen table (rowid ∷ rest) = Chosen table rowid rest

-- on the next of the rows that were chosen, or on none
abbrev pub on_next_chosen : Cursor → Cursor
on_next_chosen Closed = Closed
on_next_chosen (Open table place) = Open table place
on_next_chosen (Chosen table rowid rest) = on_chosen table rest
on_next_chosen (Holding rows) = Holding rows
on_next_chosen (Standing row rest) = Standing row rest
on_next_chosen (Sorted rows) = Sorted rows

-- there is one
abbrev pub has_chosen : Cursor → Bool
has_chosen Closed = false
has_chosen (Open table place) = false
has_chosen (Chosen table rowid []) = false
has_chosen (Chosen table rowid (next ∷ rest)) = true
has_chosen (Holding rows) = false
has_chosen (Standing row rest) = false
has_chosen (Sorted rows) = false

-- without the first of a sorter's rows
abbrev pub on_next_sorted : Cursor → Cursor
on_next_sorted Closed = Closed
on_next_sorted (Open table place) = Open table place
on_next_sorted (Chosen table rowid rest) = Chosen table rowid rest
on_next_sorted (Holding rows) = Holding rows
on_next_sorted (Standing row rest) = Standing row rest
on_next_sorted (Sorted rows) = Sorted (drop 1 rows)

-- there is one behind it
abbrev pub has_next_sorted : Cursor → Bool
has_next_sorted Closed = false
has_next_sorted (Open table place) = false
has_next_sorted (Chosen table rowid rest) = false
has_next_sorted (Holding rows) = false
has_next_sorted (Standing row rest) = false
has_next_sorted (Sorted rows) = is_some (slice_get rows 1)
