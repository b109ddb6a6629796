-- A finite map as its pairs, by strictly ascending keys.
use Rattle.std.specs.Prelude.{◌≡◌, ℕ, ◌+◌, ◌<◌, ◌≤◌, List, [], ◌∷◌, length, slice_get, slice_index_or, ⊤, Some, None}
use Rattle.std.specs.declared.option.Option.{Option}
use Rattle.std.specs.declared.cmp.Ordering.{Ordering}
use Rattle.std.specs.declared.cmp.Ordering.TheVariants.{Less, Equal, Greater}
use Rattle.std.specs.Ordering.{nat_cmp}
use Rattle.std.specs.Cmp.Lexicographic.{slice_cmp}

abbrev pub Bytes : Type 0
Bytes = List ℕ

abbrev pub Pair : Type 0
Pair = Bytes × Bytes

abbrev pub order : Bytes → Bytes → Ordering
order x y = slice_cmp nat_cmp x y

-- the three cases of a place beside a key
abbrev pub by_order : {X : Type 0} → Ordering → X → X → X → X
by_order Less below same above = below
by_order Equal below same above = same
by_order Greater below same above = above

-- the value of a key
abbrev pub find : Bytes → List Pair → Option Bytes
find k [] = None
find k (p ∷ ps) = by_order (order p.0 k) (find k ps) (Some p.1) None

-- the first pair whose key is not below
abbrev pub least_from : Bytes → List Pair → Option Pair
least_from k [] = None
least_from k (p ∷ ps) = by_order (order p.0 k) (least_from k ps) (Some p) (Some p)

-- the pair of the greatest key, which is the last one
abbrev pub greatest : List Pair → Option Pair
greatest [] = None
greatest (p ∷ []) = Some p
greatest (p ∷ (q ∷ qs)) = greatest (q ∷ qs)

-- the map with this value at the key
abbrev pub put : Bytes → Bytes → List Pair → List Pair
put k v [] = (k, v) ∷ []
put k v (p ∷ ps) = by_order (order p.0 k) (p ∷ put k v ps) ((k, v) ∷ ps) ((k, v) ∷ (p ∷ ps))

-- the map without the key
abbrev pub without : Bytes → List Pair → List Pair
without k [] = []
without k (p ∷ ps) = by_order (order p.0 k) (p ∷ without k ps) ps (p ∷ ps)

-- how many keys are below
abbrev pub place : Bytes → List Pair → ℕ
place k [] = 0
place k (p ∷ ps) = by_order (order p.0 k) (place k ps + 1) 0 0

-- the key is below the first of them
abbrev pub IsBelow : Bytes → List Pair → Type 0
IsBelow k [] = ⊤
IsBelow k (p ∷ ps) = order k p.0 ≡ Less

abbrev pub IsAscending : List Pair → Type 0
IsAscending [] = ⊤
IsAscending (p ∷ ps) = IsBelow p.0 ps × IsAscending ps

-- what a contract sees of a tree: its pairs, and how many fit in its memory
pub record Map : Type 0 where
  pub pairs : List Pair
  pub room : ℕ

-- the key stands in this place
pub record IsThere (k : Bytes) (ps : List Pair) (i : ℕ) : Type 0 where
  pub within : i < length ps
  pub at : i ≡ place k ps
  pub key : (d : Pair) → (slice_index_or ps i d).0 ≡ k
  pub value : (d : Pair) → find k ps ≡ Some (slice_index_or ps i d).1

-- the key isn't there, and would stand in this place
pub record IsFree (k : Bytes) (ps : List Pair) (i : ℕ) : Type 0 where
  pub within : i ≤ length ps
  pub at : i ≡ place k ps
  pub none : find k ps ≡ None

-- the pair in this place has a key below
pub record IsLower (k : Bytes) (ps : List Pair) (i : ℕ) : Type 0 where
  pub pair : Pair
  pub at : slice_get ps i ≡ Some pair
  pub lower : order pair.0 k ≡ Less
