-- Where the pairs that are sought stand to the place of a key.
use Rattle.std.proofs.Common.{◌≡◌, ℕ, zero, suc, ◌+◌, ◌-◌, ◌<◌, ◌≤◌, Bool, true, false, not, cond, List, [], ◌∷◌, length, Some, None, refl, sym, ap, ap₂, ◌∙◌, arith, add-one}
use Rattle.std.specs.List.{position_or_len, prefix_len}
use Rattle.std.specs.Ordering.{is_ge, is_gt, is_le, is_lt, ordering_reverse}
use Rattle.std.specs.declared.cmp.Ordering.{Ordering}
use Rattle.std.specs.declared.cmp.Ordering.TheVariants.{Less, Equal, Greater}
use Rattle.std.proofs.lemmas.Bool.Decides.{nat_tests}
use Rattle.std.proofs.lemmas.Cmp.{nat_list_cmp_total}
use Rattle.eng_tree.specs.Map.{Bytes, Pair, IsAscending, IsBelow, IsFree, IsThere, by_order, find, order, place}
use Rattle.eng_cursor.specs.Places.{from_gap, from_key, in_front, last_position, or_here, sought, within}
use Rattle.eng_cursor.specs.declared.cursor.How.{How}
use Rattle.eng_cursor.specs.declared.cursor.How.TheVariants.{Ge, Gt, Le, Lt}

-- ---- places

pub in_front_above : (at : ℕ) → 0 < at → in_front at ≡ Some (at - 1)
in_front_above zero lt = absurd (omega arith)
in_front_above (suc at) lt = let e : suc at - 1 ≡ at = omega arith in ap Some (sym e)

pub in_front_none : (at : ℕ) → at ≤ 0 → in_front at ≡ None
in_front_none zero le = refl
in_front_none (suc at) le = absurd (omega arith)

pub within_pair : (pairs : List Pair) (at : ℕ) → at < length pairs → within pairs (Some at) ≡ Some at
within_pair pairs at lt = grind (arith, nat_tests)

within-in_front : (pairs : List Pair) (at : ℕ) → at ≤ length pairs → within pairs (in_front at) ≡ in_front at
within-in_front pairs zero le = refl
within-in_front pairs (suc at) le = within_pair pairs at (omega arith)

or_here-in_front : (at : ℕ) → or_here true (in_front at) ≡ in_front (at + 1)
or_here-in_front zero = refl
or_here-in_front (suc at) = rw add-one refl

-- ---- keys above

above : (x y : Bytes) → order x y ≡ Less → order y x ≡ Greater
above x y is = nat_list_cmp_total.antisymm y x ∙ ap ordering_reverse is

below : (x y : Bytes) → order x y ≡ Greater → order y x ≡ Less
below x y is = nat_list_cmp_total.antisymm y x ∙ ap ordering_reverse is

-- a key below one that is below the pairs
IsBelow-further : (k : Bytes) (p : Pair) (ps : List Pair) → order k p.0 ≡ Less → IsBelow p.0 ps → IsBelow k ps
IsBelow-further k p [] low b = tt
IsBelow-further k p (q ∷ qs) low b = nat_list_cmp_total.trans k p.0 q.0 low b

IsBelow-same : (k : Bytes) (p : Pair) (ps : List Pair) → order p.0 k ≡ Equal → IsBelow p.0 ps → IsBelow k ps
IsBelow-same k p [] same b = tt
IsBelow-same k p (q ∷ qs) same b = sym (nat_list_cmp_total.congr p.0 k q.0 same) ∙ b

-- where a test fails above a key, it holds of no pair above it
last_position-above : (holds : Pair → Bool) (k : Bytes) → ((p : Pair) → order p.0 k ≡ Greater → holds p ≡ false) → (ps : List Pair) → IsBelow k ps → IsAscending ps → last_position holds ps ≡ None
last_position-above holds k fails [] low up = refl
last_position-above holds k fails (p ∷ ps) low up =
    ap₂ or_here (fails p (above k p.0 low)) (last_position-above holds k fails ps (IsBelow-further k p ps low up.0) up.1)

-- ---- how many keys are not above

up_to : Bytes → List Pair → ℕ
up_to k [] = 0
up_to k (p ∷ ps) = by_order (order p.0 k) (up_to k ps + 1) 1 0

up_to-there : (k w : Bytes) (ps : List Pair) → find k ps ≡ Some w → up_to k ps ≡ place k ps + 1
unfolding up_to
up_to-there k w [] e = absurd (cc)
up_to-there k w (p ∷ ps) e = by (order p.0 k) e (up_to-there k w ps)
  where
    by : (o : Ordering) → by_order o (find k ps) (Some p.1) None ≡ Some w → (find k ps ≡ Some w → up_to k ps ≡ place k ps + 1) → by_order o (up_to k ps + 1) 1 0 ≡ by_order o (place k ps + 1) 0 0 + 1
    by Less e rest = ap (λ n. n + 1) (rest e)
    by Equal e rest = refl
    by Greater e rest = absurd (cc)

up_to-free : (k : Bytes) (ps : List Pair) → find k ps ≡ None → up_to k ps ≡ place k ps
unfolding up_to
up_to-free k [] e = refl
up_to-free k (p ∷ ps) e = by (order p.0 k) e (up_to-free k ps)
  where
    by : (o : Ordering) → by_order o (find k ps) (Some p.1) None ≡ None → (find k ps ≡ None → up_to k ps ≡ place k ps) → by_order o (up_to k ps + 1) 1 0 ≡ by_order o (place k ps + 1) 0 0
    by Less e rest = ap (λ n. n + 1) (rest e)
    by Equal e rest = absurd (cc)
    by Greater e rest = refl

-- ---- the first and the last pair beside a key

first_ge : (k : Bytes) (ps : List Pair) → position_or_len (λ (p : Pair). is_ge (order p.0 k)) ps ≡ place k ps
first_ge k [] = refl
first_ge k (p ∷ ps) = by (order p.0 k) (first_ge k ps)
  where
    by : (o : Ordering) → prefix_len (λ (q : Pair). not (is_ge (order q.0 k))) ps ≡ place k ps → cond (not (is_ge o)) (1 + prefix_len (λ (q : Pair). not (is_ge (order q.0 k))) ps) 0 ≡ by_order o (place k ps + 1) 0 0
    by Less rest = omega arith
    by Equal rest = refl
    by Greater rest = refl

no_prefix : (k : Bytes) (ps : List Pair) → IsBelow k ps → prefix_len (λ (q : Pair). not (is_gt (order q.0 k))) ps ≡ 0
no_prefix k [] low = refl
no_prefix k (p ∷ ps) low =
    ap (λ o. cond (not (is_gt o)) (1 + prefix_len (λ (q : Pair). not (is_gt (order q.0 k))) ps) 0) (above k p.0 low)

first_gt : (k : Bytes) (ps : List Pair) → IsAscending ps → position_or_len (λ (p : Pair). is_gt (order p.0 k)) ps ≡ up_to k ps
unfolding up_to
first_gt k [] up = refl
first_gt k (p ∷ ps) up = by (order p.0 k) refl (first_gt k ps up.1)
  where
    by : (o : Ordering) → order p.0 k ≡ o → prefix_len (λ (q : Pair). not (is_gt (order q.0 k))) ps ≡ up_to k ps → cond (not (is_gt o)) (1 + prefix_len (λ (q : Pair). not (is_gt (order q.0 k))) ps) 0 ≡ by_order o (up_to k ps + 1) 1 0
    by Less is rest = omega arith
    by Equal is rest = ap (λ n. 1 + n) (no_prefix k ps (IsBelow-same k p ps is up.0))
    by Greater is rest = refl

last_lt : (k : Bytes) (ps : List Pair) → IsAscending ps → last_position (λ (p : Pair). is_lt (order p.0 k)) ps ≡ in_front (place k ps)
last_lt k [] up = refl
last_lt k (p ∷ ps) up = by (order p.0 k) refl (last_lt k ps up.1)
  where
    none : IsBelow k ps → last_position (λ (q : Pair). is_lt (order q.0 k)) ps ≡ None
    none low = last_position-above (λ (q : Pair). is_lt (order q.0 k)) k (λ q is. ap is_lt is) ps low up.1

    by : (o : Ordering) → order p.0 k ≡ o → last_position (λ (q : Pair). is_lt (order q.0 k)) ps ≡ in_front (place k ps) → or_here (is_lt o) (last_position (λ (q : Pair). is_lt (order q.0 k)) ps) ≡ in_front (by_order o (place k ps + 1) 0 0)
    by Less is rest = ap (or_here true) rest ∙ or_here-in_front (place k ps)
    by Equal is rest = ap (or_here false) (none (IsBelow-same k p ps is up.0))
    by Greater is rest = ap (or_here false) (none (IsBelow-further k p ps (below p.0 k is) up.0))

last_le : (k : Bytes) (ps : List Pair) → IsAscending ps → last_position (λ (p : Pair). is_le (order p.0 k)) ps ≡ in_front (up_to k ps)
unfolding up_to
last_le k [] up = refl
last_le k (p ∷ ps) up = by (order p.0 k) refl (last_le k ps up.1)
  where
    none : IsBelow k ps → last_position (λ (q : Pair). is_le (order q.0 k)) ps ≡ None
    none low = last_position-above (λ (q : Pair). is_le (order q.0 k)) k (λ q is. ap is_le is) ps low up.1

    by : (o : Ordering) → order p.0 k ≡ o → last_position (λ (q : Pair). is_le (order q.0 k)) ps ≡ in_front (up_to k ps) → or_here (is_le o) (last_position (λ (q : Pair). is_le (order q.0 k)) ps) ≡ in_front (by_order o (up_to k ps + 1) 1 0)
    by Less is rest = ap (or_here true) rest ∙ or_here-in_front (up_to k ps)
    by Equal is rest = ap (or_here true) (none (IsBelow-same k p ps is up.0))
    by Greater is rest = ap (or_here false) (none (IsBelow-further k p ps (below p.0 k is) up.0))

-- ---- what a search for the key tells

pub sought_from_key : (how : How) (k : Bytes) (ps : List Pair) (at : ℕ) → IsAscending ps → IsThere k ps at → sought how k ps ≡ within ps (from_key how at)
sought_from_key Ge k ps at up there = ap (λ n. within ps (Some n)) (first_ge k ps ∙ sym there.at)
sought_from_key Gt k ps at up there =
    ap (λ n. within ps (Some n)) (first_gt k ps up ∙ up_to-there k _ ps (there.value ([], [])) ∙ ap (λ n. n + 1) (sym there.at))
sought_from_key Le k ps at up there =
    let front : in_front (at + 1) ≡ Some at = rw add-one refl in
    last_le k ps up
    ∙ ap in_front (up_to-there k _ ps (there.value ([], [])) ∙ ap (λ n. n + 1) (sym there.at))
    ∙ front
    ∙ sym (within_pair ps at there.within)
sought_from_key Lt k ps at up there =
    let lt : at < length ps = there.within in
    last_lt k ps up ∙ ap in_front (sym there.at) ∙ sym (within-in_front ps at (omega arith))

pub sought_from_gap : (how : How) (k : Bytes) (ps : List Pair) (at : ℕ) → IsAscending ps → IsFree k ps at → sought how k ps ≡ within ps (from_gap how at)
sought_from_gap Ge k ps at up free = ap (λ n. within ps (Some n)) (first_ge k ps ∙ sym free.at)
sought_from_gap Gt k ps at up free =
    ap (λ n. within ps (Some n)) (first_gt k ps up ∙ up_to-free k ps free.none ∙ sym free.at)
sought_from_gap Le k ps at up free =
    last_le k ps up ∙ ap in_front (up_to-free k ps free.none ∙ sym free.at) ∙ sym (within-in_front ps at free.within)
sought_from_gap Lt k ps at up free = last_lt k ps up ∙ ap in_front (sym free.at) ∙ sym (within-in_front ps at free.within)

pub sought_ge : (k : Bytes) (ps : List Pair) → sought Ge k ps ≡ within ps (Some (place k ps))
sought_ge k ps = ap (λ n. within ps (Some n)) (first_ge k ps)
