-- Where a key stands.
use Rattle.std.proofs.Common.{◌≡◌, ℕ, zero, suc, ◌-◌, ◌<◌, ◌≤◌, List, [], ◌∷◌, false, length, get_or, set, Some, None, Ok, Err, Result, MatchResult, refl, sym, ap, ◌∙◌, subst, inl, inr, arith, add-one}
use Rattle.std.specs.Prelude.{slice_get, MatchOption, ⊤}
use Rattle.std.specs.List.{insert, remove}
use Rattle.std.specs.List.Sorted.{IsPartitionPoint, IsSearchInRange, IsBinarySearchResult, IsSortedByKey}
use Rattle.std.specs.Ordering.{is_lt}
use Rattle.std.specs.declared.cmp.Ordering.TheVariants.{Less, Equal, Greater}
use Rattle.std.proofs.lemmas.Cmp.{nat_list_cmp_total}
use Rattle.std.proofs.lemmas.List.Sorted.{searchable_from_sorted}
use Rattle.std.proofs.lemmas.Option.{slice_get_cases}
use native.Mathlib.Numerals.{unary_clauses}
use Rattle.eng_tree.specs.Map.{Bytes, Pair, order, find, greatest, least_from, put, without, place, IsAscending, IsBelow, IsFree, IsLower, IsThere}
use Rattle.eng_tree.proofs.Laws.{above_from_below, by_cases, same_key}

pub put_new : (k v : Bytes) (ps : List Pair) → find k ps ≡ None → put k v ps ≡ insert ps (place k ps) (k, v)
put_new k v [] none = refl
put_new k v (p ∷ ps) none = by_cases (order p.0 k)
    (λ b. let rest : find k ps ≡ None = rw b at none in rw (b, add-one) (ap (λ t. p ∷ t) (put_new k v ps rest)))
    (λ s. absurd (let e : Some p.1 ≡ None = rw s at none in cc))
    (λ a. rw a refl)

pub put_there : (k v w : Bytes) (ps : List Pair) → find k ps ≡ Some w → put k v ps ≡ set ps (place k ps) (k, v)
put_there k v w [] there = absurd (let e : None ≡ Some w = there in cc)
put_there k v w (p ∷ ps) there = by_cases (order p.0 k)
    (λ b. let rest : find k ps ≡ Some w = rw b at there in rw (b, add-one) (ap (λ t. p ∷ t) (put_there k v w ps rest)))
    (λ s. rw s refl)
    (λ a. absurd (let e : None ≡ Some w = rw a at there in cc))

pub without_there : (k w : Bytes) (ps : List Pair) → find k ps ≡ Some w → without k ps ≡ remove ps (place k ps)
without_there k w [] there = absurd (let e : None ≡ Some w = there in cc)
without_there k w (p ∷ ps) there = by_cases (order p.0 k)
    (λ b. let rest : find k ps ≡ Some w = rw b at there in rw (b, add-one) (ap (λ t. p ∷ t) (without_there k w ps rest)))
    (λ s. rw s refl)
    (λ a. absurd (let e : None ≡ Some w = rw a at there in cc))

pub without_none : (k : Bytes) (ps : List Pair) → find k ps ≡ None → without k ps ≡ ps
without_none k [] none = refl
without_none k (p ∷ ps) none = by_cases (order p.0 k)
    (λ b. let rest : find k ps ≡ None = rw b at none in rw b (ap (λ t. p ∷ t) (without_none k ps rest)))
    (λ s. absurd (let e : Some p.1 ≡ None = rw s at none in cc))
    (λ a. rw a refl)

pub least_at_place : (k : Bytes) (ps : List Pair) → least_from k ps ≡ slice_get ps (place k ps)
least_at_place k [] = refl
least_at_place k (p ∷ ps) = by_cases (order p.0 k)
    (λ b. rw (b, add-one) (least_at_place k ps)) (λ s. rw s refl) (λ a. rw a refl)

-- the last pair
pub greatest_at_end : (ps : List Pair) → greatest ps ≡ slice_get ps (length ps - 1)
greatest_at_end [] = refl
greatest_at_end (p ∷ []) = refl
greatest_at_end (p ∷ (q ∷ qs)) = simp unary_clauses (simp unary_clauses at (greatest_at_end (q ∷ qs)))

-- a key is below those of all pairs behind it
below_all : (x : Bytes) (ps : List Pair) (i : ℕ) (p : Pair) → IsBelow x ps → IsAscending ps → slice_get ps i ≡ Some p → order x p.0 ≡ Less
below_all x [] i p low up e = absurd (cc)
below_all x (q ∷ qs) zero p low up e = let same : q ≡ p = cc in subst (λ (r : Pair). order x r.0 ≡ Less) same low
below_all x (q ∷ qs) (suc i) p low up e = nat_list_cmp_total.trans x q.0 p.0 low (below_all q.0 qs i p up.0 up.1 e)

-- ---- what a search finds

-- a pair with the key
pub is_there : (k : Bytes) (ps : List Pair) (i : ℕ) (p : Pair) → IsAscending ps → slice_get ps i ≡ Some p → order p.0 k ≡ Equal → IsThere k ps i
is_there k [] i p up e s = absurd (cc)
is_there k (q ∷ qs) zero p up e s =
    let first : q ≡ p = cc in
    let z : order q.0 k ≡ Equal = subst (λ (r : Pair). order r.0 k ≡ Equal) (sym first) s in
    record { within = omega arith; at = rw z refl; key = λ d. same_key q.0 k z; value = λ d. rw z refl }
is_there k (q ∷ qs) (suc i) p up e s =
    let rest = is_there k qs i p up.1 e s in
    let b : order q.0 k ≡ Less = subst (λ x. order q.0 x ≡ Less) (same_key p.0 k s) (below_all q.0 qs i p up.0 up.1 e) in
    let lt : i < length qs = rest.within in
    let at : i ≡ place k qs = rest.at in
    record { within = omega arith; at = rw b (omega arith); key = rest.key; value = λ d. rw b (rest.value d) }

-- a place between lower and higher keys
pub is_free : (k : Bytes) (ps : List Pair) (i : ℕ) → i ≤ length ps → IsPartitionPoint (λ (p : Pair). order p.0 k ≡ Less) (λ (p : Pair). order p.0 k ≡ Greater) ps i → IsFree k ps i
is_free k [] i le h = record { within = le; at = omega arith; none = refl }
is_free k (p ∷ ps) zero le h =
    let a : order p.0 k ≡ Greater = h.1 0 p (omega arith) (omega arith) in
    record { within = le; at = rw a refl; none = rw a refl }
is_free k (p ∷ ps) (suc i) le h =
    let b : order p.0 k ≡ Less = h.0 0 p (omega arith) (omega arith) in
    let rest = is_free k ps i (omega arith) (λ j d x y. h.0 (suc j) d (omega arith) (omega arith), λ j d x y. h.1 (suc j) d (omega arith) (omega arith)) in
    let at : i ≡ place k ps = rest.at in
    record { within = le; at = rw b (omega arith); none = rw b rest.none }

-- the place behind a lower pair, with none or a higher one in it
pub is_free_behind : (k : Bytes) (ps : List Pair) (i : ℕ) → IsAscending ps → IsLower k ps i → MatchOption (slice_get ps (suc i)) ⊤ (λ q. order q.0 k ≡ Greater) → IsFree k ps (suc i)
is_free_behind k [] i up low next = absurd (let e = low.at in cc)
is_free_behind k (p ∷ []) zero up low next =
    let e = low.at in
    let first : p ≡ low.pair = cc in
    let b : order p.0 k ≡ Less = subst (λ (r : Pair). order r.0 k ≡ Less) (sym first) low.lower in
    record { within = omega arith; at = rw b refl; none = rw b refl }
is_free_behind k (p ∷ (q ∷ qs)) zero up low next =
    let e = low.at in
    let first : p ≡ low.pair = cc in
    let b : order p.0 k ≡ Less = subst (λ (r : Pair). order r.0 k ≡ Less) (sym first) low.lower in
    let a : order q.0 k ≡ Greater = next in
    record { within = omega arith; at = rw (b, a) refl; none = rw (b, a) refl }
is_free_behind k (p ∷ ps) (suc i) up low next =
    let rest = is_free_behind k ps i up.1 (record { pair = low.pair; at = low.at; lower = low.lower }) next in
    let b : order p.0 k ≡ Less = nat_list_cmp_total.trans p.0 low.pair.0 k (below_all p.0 ps i low.pair up.0 up.1 low.at) low.lower in
    let le : suc i ≤ length ps = rest.within in
    let at : suc i ≡ place k ps = rest.at in
    record { within = omega arith; at = rw b (omega arith); none = rw b rest.none }

-- a binary search
sorted : (ps : List Pair) → IsAscending ps → IsSortedByKey (λ (p : Pair). p.0) order ps
sorted ps up i d low lt = rw add-one (rising ps i d up (omega arith))
  where
    rising : (ps : List Pair) (i : ℕ) (d : Pair) → IsAscending ps → suc i < length ps → is_lt (order (get_or ps (suc i) d).0 (get_or ps i d).0) ≡ false
    rising [] i d up lt = absurd (omega arith)
    rising (p ∷ []) i d up lt = absurd (omega arith)
    rising (p ∷ (q ∷ qs)) zero d up lt = ap is_lt (above_from_below p.0 q.0 up.0)
    rising (p ∷ (q ∷ qs)) (suc i) d up lt = rising (q ∷ qs) i d up.1 (omega arith)

pub found : (k : Bytes) (ps : List Pair) (r : Result ℕ ℕ) → IsAscending ps → IsSearchInRange r (length ps) → IsBinarySearchResult (λ (p : Pair). order p.0 k) ps r → MatchResult r (IsThere k ps) (IsFree k ps)
found k ps (Ok i) up lt h =
    elim (slice_get_cases ps i).1 [
      | inl c ↦ is_there k ps i c.0 up c.2 (subst (λ (p : Pair). order p.0 k ≡ Equal) c.3 (h c.0))
      | inr c ↦ absurd (omega (arith, lt, c.0))
    ]
found k ps (Err i) up le h =
    is_free k ps i le (h (searchable_from_sorted nat_list_cmp_total (λ (p : Pair). p.0) ps k (sorted ps up)))

-- the place that a search answers, and the pair that stands there
pub sought : (k : Bytes) (ps : List Pair) (r : Result ℕ ℕ) (i : ℕ) → MatchResult r (IsThere k ps) (IsFree k ps) → MatchResult r (λ at. i ≡ at) (λ at. i ≡ at) → i ≡ place k ps
sought k ps (Ok at) i h e = e ∙ h.at
sought k ps (Err at) i h e = e ∙ h.at

pub get_at_place : (k : Bytes) (ps : List Pair) (i : ℕ) → i ≡ place k ps → slice_get ps i ≡ least_from k ps
get_at_place k ps i at = ap (slice_get ps) at ∙ sym (least_at_place k ps)

-- ---- what a change of the vector leaves
pub replaced : (k v : Bytes) (ps : List Pair) (i : ℕ) (p : Pair) → IsThere k ps i → p ≡ get_or ps i p → set ps i (p.0, v) ≡ put k v ps
replaced k v ps i p there e =
    let w : Bytes = (get_or ps i p).1 in
    let key : p.0 ≡ k = ap (λ q. q.0) e ∙ there.key p in
    ap (λ x. set ps i (x, v)) key ∙ (ap (λ j. set ps j (k, v)) there.at ∙ sym (put_there k v w ps (there.value p)))

pub inserted : (k v : Bytes) (ps : List Pair) (i : ℕ) → IsFree k ps i → insert ps i (k, v) ≡ put k v ps
inserted k v ps i free = ap (λ j. insert ps j (k, v)) free.at ∙ sym (put_new k v ps free.none)

pub removed : (k : Bytes) (ps : List Pair) (i : ℕ) (p : Pair) → IsThere k ps i → remove ps i ≡ without k ps
removed k ps i p there = ap (λ j. remove ps j) there.at ∙ sym (without_there k (get_or ps i p).1 ps (there.value p))
