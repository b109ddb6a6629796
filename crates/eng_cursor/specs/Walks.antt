-- What walks from the ends visit.
use Rattle.std.specs.Prelude.{◌≡◌, ℕ, zero, suc, List, Some, slice_get}
use Rattle.eng_tree.specs.Map.{Bytes, Pair, least_from}
use Rattle.eng_cursor.specs.declared.cursor.End.TheVariants.{First}
use Rattle.eng_cursor.specs.declared.cursor.How.TheVariants.{Ge}
use Rattle.eng_cursor.specs.Places.{Place, next_of, prev_of, rewound, row_at, sought, within}

-- so many times one on, from the first pair
abbrev pub nexts : ℕ → List Pair → Place
nexts zero pairs = rewound First pairs
nexts (suc n) pairs = next_of pairs (nexts n pairs)

-- the n-th step stands on the n-th pair, and behind the last pair there is none
abbrev pub WalksInOrder : Type 0
WalksInOrder = (n : ℕ) (pairs : List Pair) → row_at pairs (nexts n pairs) ≡ slice_get pairs n

-- one on and one back
abbrev pub PrevUndoesNext : Type 0
PrevUndoesNext = (at : ℕ) (pairs : List Pair) → within pairs (Some (suc at)) ≡ Some (suc at) → prev_of pairs (next_of pairs (Some at)) ≡ Some at

-- the first pair whose key is not below is the one that the map seeks
abbrev pub SeeksAsTheMap : Type 0
SeeksAsTheMap = (key : Bytes) (pairs : List Pair) → row_at pairs (sought Ge key pairs) ≡ least_from key pairs
