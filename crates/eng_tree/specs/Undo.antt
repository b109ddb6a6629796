-- What a change of a map and its undoing leave: the map before.
use Rattle.std.specs.Prelude.{◌≡◌, List, Some, None}
use Rattle.eng_tree.specs.Map.{Bytes, Pair, find, put, without, IsAscending}

-- a key that was not there, put in and taken out again
abbrev pub NewKeyUndone : Type 0
NewKeyUndone = (key value : Bytes) (pairs : List Pair) → find key pairs ≡ None → without key (put key value pairs) ≡ pairs

-- a value replaced, and put back
abbrev pub ReplacedValueUndone : Type 0
ReplacedValueUndone = (key value was : Bytes) (pairs : List Pair) → find key pairs ≡ Some was → put key was (put key value pairs) ≡ pairs

-- a key taken out, and put back with its value
abbrev pub RemovedKeyUndone : Type 0
RemovedKeyUndone = (key was : Bytes) (pairs : List Pair) → IsAscending pairs → find key pairs ≡ Some was → put key was (without key pairs) ≡ pairs
