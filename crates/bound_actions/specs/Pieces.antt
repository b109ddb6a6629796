-- Pieces of lists of actions: what an argument reads stands where the argument is named, and is told once it is handed over.
use Rattle.std.specs.Prelude.{ℕ, nat_eq, Bool, false, List, [], ◌∷◌, Option, Some, None, slice_get, if◌then◌else◌}
use Rattle.std.specs.List.{flat_map, list_any}
use Rattle.eng_value.specs.declared.authorizing.Action.{Action}
use Rattle.eng_value.specs.declared.authorizing.ActionKind.{ActionKind}
use Rattle.bound_actions.specs.declared.pieces.Piece.TheVariants.{Does, Brings, Reads, Stands}
use Rattle.bound_actions.specs.declared.pieces.Piece.{Piece}

abbrev pub action : Option (List ℕ) → ActionKind → List ℕ → List ℕ → Action
action within kind first second = record { kind = kind; first = first; second = second; within = within }

-- ---- what a unit does where it is asked: a unit that is not there does nothing, and what is not handed over reads nothing

abbrev pub or_nothing : Option (List Piece) → List Piece
or_nothing None = []
or_nothing (Some pieces) = pieces

-- the list of this number
abbrev pub unit_named : List (List Piece) → ℕ → List Piece
unit_named units unit = or_nothing (slice_get units unit)

abbrev pub filled_one : List (List Piece) → Piece → List Piece
filled_one handed (Brings n) = unit_named handed n
filled_one handed (Does a) = Does a ∷ []
filled_one handed (Reads item a) = Reads item a ∷ []
filled_one handed (Stands item a) = Stands item a ∷ []

abbrev pub filled : List (List Piece) → List Piece → List Piece
filled handed pieces = flat_map (filled_one handed) pieces

abbrev pub asked : List (List Piece) → ℕ → List (List Piece) → List Piece
asked units unit handed = filled handed (unit_named units unit)

-- ---- a SELECT as a whole: a table of which no column is read is read itself, where it stands in FROM

abbrev pub reads_item : ℕ → Piece → Bool
reads_item item (Reads i a) = nat_eq i item
reads_item item other = false

abbrev pub standing : ℕ → Action → List Piece → List Piece
standing item a all = if list_any (reads_item item) all then [] else Does a ∷ []

abbrev pub settled_one : List Piece → Piece → List Piece
settled_one all (Does a) = Does a ∷ []
settled_one all (Brings n) = Brings n ∷ []
settled_one all (Reads item a) = Does a ∷ []
settled_one all (Stands item a) = standing item a all

abbrev pub settled : List Piece → List Piece
settled pieces = flat_map (settled_one pieces) pieces

-- ---- a list that is handed nothing more

abbrev pub action_of : Piece → List Action
action_of (Does a) = a ∷ []
action_of (Brings n) = []
action_of (Reads item a) = a ∷ []
action_of (Stands item a) = []

abbrev pub actions_in : List Piece → List Action
actions_in pieces = flat_map action_of pieces
