-- The places of a cursor among pairs in the order of their keys.
use Rattle.std.specs.Prelude.{◌≡◌, ℕ, zero, suc, ◌+◌, Bool, true, false, List, [], ◌∷◌, length, nat_lt, slice_get, if◌then◌else◌, Option, Some, None, refl}
use Rattle.std.specs.List.{position}
use Rattle.std.specs.Ordering.{is_ge, is_gt, is_le, is_lt}
use Rattle.eng_tree.specs.Map.{Bytes, Pair, order}
use Rattle.eng_cursor.specs.declared.cursor.End.{End}
use Rattle.eng_cursor.specs.declared.cursor.End.TheVariants.{First, Last}
use Rattle.eng_cursor.specs.declared.cursor.How.{How}
use Rattle.eng_cursor.specs.declared.cursor.How.TheVariants.{Ge, Gt, Le, Lt}

-- the place of a pair, or none: on no row
abbrev pub Place : Type 0
Place = Option ℕ

-- the pair in the place
abbrev pub row_at : List Pair → Place → Option Pair
row_at pairs None = None
row_at pairs (Some at) = slice_get pairs at

-- the place, where there is a pair in it
abbrev pub within : List Pair → Place → Place
within pairs None = None
within pairs (Some at) = if nat_lt at (length pairs) then Some at else None

-- the place in front of one
abbrev pub in_front : ℕ → Place
in_front zero = None
in_front (suc at) = Some at

-- ---- the four moves

-- to an end
abbrev pub rewound : End → List Pair → Place
rewound First pairs = within pairs (Some 0)
rewound Last pairs = within pairs (in_front (length pairs))

-- one on; from no row to no row
abbrev pub next_of : List Pair → Place → Place
next_of pairs None = None
next_of pairs (Some at) = within pairs (Some (at + 1))

-- one back; from no row to no row
abbrev pub prev_of : List Pair → Place → Place
prev_of pairs None = None
prev_of pairs (Some at) = within pairs (in_front at)

-- the last place where it holds
abbrev pub or_here : Bool → Place → Place
or_here here (Some at) = Some (suc at)
or_here true None = Some 0
or_here false None = None

abbrev pub last_position : (Pair → Bool) → List Pair → Place
last_position holds [] = None
last_position holds (p ∷ pairs) = or_here (holds p) (last_position holds pairs)

-- to the first pair whose key is not below, or is above; to the last one whose key is not above, or is below
abbrev pub sought : How → Bytes → List Pair → Place
sought Ge key pairs = position (λ p. is_ge (order p.0 key)) pairs
sought Gt key pairs = position (λ p. is_gt (order p.0 key)) pairs
sought Le key pairs = last_position (λ p. is_le (order p.0 key)) pairs
sought Lt key pairs = last_position (λ p. is_lt (order p.0 key)) pairs

-- from the place of the key itself, and from that at which it would stand
abbrev pub from_key : How → ℕ → Place
from_key Ge at = Some at
from_key Gt at = Some (at + 1)
from_key Le at = Some at
from_key Lt at = in_front at

abbrev pub from_gap : How → ℕ → Place
from_gap Ge at = Some at
from_gap Gt at = Some at
from_gap Le at = in_front at
from_gap Lt at = in_front at

-- ---- examples

abbrev keys : List Pair
keys = (1 ∷ [], []) ∷ (1 ∷ 0 ∷ [], []) ∷ (3 ∷ [], []) ∷ []

seeks : (sought Ge (1 ∷ []) keys ≡ Some 0) × (sought Gt (1 ∷ []) keys ≡ Some 1) × (sought Le (2 ∷ []) keys ≡ Some 1) × (sought Lt (3 ∷ []) keys ≡ Some 1) × (sought Lt (1 ∷ []) keys ≡ None) × (sought Gt (3 ∷ []) keys ≡ None)
seeks = (refl, refl, refl, refl, refl, refl)

moves : (rewound First keys ≡ Some 0) × (rewound Last keys ≡ Some 2) × (next_of keys (Some 2) ≡ None) × (prev_of keys (Some 0) ≡ None) × (next_of keys None ≡ None) × (rewound Last [] ≡ None)
moves = (refl, refl, refl, refl, refl, refl)
