-- What an item is marked with.
use Rattle.std.proofs.Common.{◌≡◌, ℕ, zero, suc, List, [], ◌∷◌, Option, Some, None, slice_get, refl}
use Rattle.bound_tree.specs.declared.units.BoundItem.{BoundItem}
use Rattle.bound_ignored.specs.Erased.{ItemMarks, marks_at, marks_of, no_marks}

abbrev pub marks_in : Option BoundItem → ItemMarks
marks_in None = no_marks
marks_in (Some i) = record { ignored = i.ignored; rowid = i.rowid }

pub marks_of_at : (items : List BoundItem) (k : ℕ) → marks_at (marks_of items) k ≡ marks_in (slice_get items k)
marks_of_at [] k = refl
marks_of_at (i ∷ items) zero = refl
marks_of_at (i ∷ items) (suc k) = marks_of_at items k
