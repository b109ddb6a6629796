-- Entries of doubles, which stand beside one another in the tree of an index.
use Rattle.std.specs.Prelude.{ℕ, ◌+◌, ◌-◌, ◌==◌, Bool, false, ◌&&◌, ◌||◌, List, [], ◌∷◌, length, take, slice_get, Option, Some, None}
use Rattle.std.specs.Ordering.{is_eq}
use Rattle.eng_tree.specs.Map.{Bytes, Pair, order}

-- what stands in a key in front of the rowid, which takes nine bytes
abbrev pub terms_of : Bytes → Bytes
terms_of key = take (length key - 9) key

-- the first has no mark of a NULL, and the keys are alike but for the rowid
abbrev pub are_doubles : Pair → Pair → Bool
are_doubles p q = (length p.1 == 0) && is_eq (order (terms_of p.0) (terms_of q.0))

abbrev pub are_both : Option Pair → Option Pair → Bool
are_both None q = false
are_both (Some p) None = false
are_both (Some p) (Some q) = are_doubles p q

-- those at a place and at the next one
abbrev pub doubles_at : List Pair → ℕ → Bool
doubles_at pairs place = are_both (slice_get pairs place) (slice_get pairs (place + 1))

-- some pair is the double of the next one
abbrev pub has_neighbours : List Pair → Bool
has_neighbours [] = false
has_neighbours (p ∷ pairs) = are_both (Some p) (slice_get pairs 0) || has_neighbours pairs
